-- A version was pinned, and with the last one the sources begin.
use Rattle.std.proofs.Common.{◌≡◌, ◌⊎◌, ℕ, List, [], length, filter, map, take, Option, Some, None, refl, sym, ap, subst, ◌∙◌, arith, inl, inr}
use Rattle.std.specs.Prelude.{Err, Ok, is_none, nat_lt, option_map, slice_get, slice_set}
use Rattle.std.specs.List.{sum_by}
use Rattle.std.specs.declared.alloc.Global.{Global}
use Rattle.std.specs.declared.sync.Arc.{Arc}
use Rattle.std.proofs.lemmas.Bool.{cond-false, cond-true, le-ltb, lt-ltb}
use Rattle.std.proofs.lemmas.List.{length-map, length-set, map-set}
use Rattle.std.proofs.lemmas.List.Sums.{sum-map}
use Rattle.std.proofs.lemmas.Option.{get_or_from_slice_get, none-some, same_Some, slice_get-map, slice_get_within}
use Rattle.hamming_model.specs.History.{JournalEntry, rows_of}
use Rattle.hamming_model.specs.Recoded.{AreStoredEntries, cut_history}
use Rattle.hamming_model.proofs.ShardLemmas.{numbers_add_up}
use Rattle.part_layout.specs.Laid.{Laid}
use Rattle.threshold_model.specs.Bounds.{IsUnitsOf}
use Rattle.shard_version.specs.Contents.{Contents}
use Rattle.shard_version.specs.Tables.{Tabled}
use Rattle.hit_source.specs.Sources.{Asked, Standing}
use Rattle.commit_journal.specs.Fronts.{FrontState}
use Rattle.commit_journal.specs.Journals.{JournalState, KeepsFronts}
use Rattle.versioned_shard.specs.Shards.{contents_at}
use Rattle.scatter_gather.specs.Gathering.{Gathered, Source, source_of, sources_of}
use Rattle.scatter_gather.proofs.KeepLemmas.{map_seen}
use Rattle.world_model.specs.declared.refused.Refused.TheVariants.{NoMemory}
use Rattle.world_model.specs.declared.told.Told.TheVariants as told
use Rattle.world_model.specs.Asking.{AsksOf, BeginsSource, IsGatheringOf, SourceAsks, most_given}
use Rattle.world_model.specs.Events.{Pin, Setting}
use Rattle.world_model.specs.QuerySteps.{AreSourcesBegun, Completes, with_pin}
use Rattle.world_model.specs.Sound.{IsQuery, IsSound}
use Rattle.world_model.specs.WorldState.{WorldQuery, WorldState, pinned_version, unpinned, with_query}
use Rattle.world_model.specs.WorldStep.{WorldStep}
use Rattle.world_model.proofs.Lookups.{get_set}
use Rattle.world_model.proofs.StepLemmas.{step_sound}
use Rattle.world_bridge.specs.Held.{HoldsLive}
use Rattle.world_bridge.proofs.HeldLemmas.{held_closed}
use Rattle.world_parts.specs.Asks.{ask_seen}
use Rattle.world_parts.specs.Cancels.{without_held}
use Rattle.gph_world.specs.Kept.{IsGatheringHeld, IsQueryHeld, KeepsWorld, front_at}
use Rattle.world_parts.specs.Pinned.{IsOpened, PinsLast, PinsOneMore, missing, pinned_with, rows_pinned}
use Rattle.world_parts.specs.Pinned as pinned
use Rattle.world_parts.specs.Seen.{given_by, layout_pinned, place_seen, query_seen}
use Rattle.gph_world.specs.Seen.{setting_seen, state_seen}
use Rattle.world_parts.specs.Sources.{QuerySource, gathering_seen, question_asked, standing_told}
use Rattle.gph_world.specs.Worlds.{setting_of}
use Rattle.world_parts.specs.Gathers.{with_gather}
use Rattle.world_parts.specs.Whole.{IsWhole}
use Rattle.world_parts.specs.declared.held.Held.{Held}
use Rattle.world_parts.specs.declared.place.Place.{Place}
use Rattle.gph_world.proofs.CancelLemmas.{same_history, same_limit}
use Rattle.world_parts.proofs.ListLemmas.{put_again}
use Rattle.gph_world.proofs.GatherLemmas.{all_pinned, query_is, query_keeps}
use Rattle.gph_world.proofs.HeldLemmas.{front_other, front_set, front_there, seen_there}
use Rattle.gph_world.proofs.PinLemmas.{HasCome, may_pin, missing_seen, not_pinned, pins_are, some_left}
use Rattle.gph_world.proofs.PlaceLemmas.{setting_stays}
use Rattle.world_parts.proofs.SourceLemmas.{pin_there}

module _ {W : ℕ} (bits room : ℕ) (journal : JournalState) (places : List (Place W)) (queries : List (Held W))
    (keeps : KeepsWorld bits room journal places queries) (number : ℕ) (held : Held W) (there : slice_get queries number ≡ Some held)
    (shard : ℕ) (new : Place W) (version : Arc Tabled Global) (come : HasCome bits room journal places queries number shard held new version)
    (mid_keeps : KeepsWorld bits room journal (slice_set places shard new) queries) (to : JournalState) (after : Held W) where
  abbrev z : Setting
  z = setting_seen bits room journal places

  abbrev s : WorldState
  s = state_seen bits journal places queries

  abbrev mid : WorldState
  mid = state_seen bits journal (slice_set places shard new) queries

  abbrev t : WorldState
  t = state_seen bits to (slice_set places shard new) (slice_set queries number after)

  abbrev query : WorldQuery
  query = query_seen bits held

  abbrev layout : Laid
  layout = (contents_at version).layout

  abbrev pins : pinned.VersionPins
  pins = pinned_with held.pinned.value.items shard version

  abbrev pinned_query : WorldQuery
  pinned_query = with_pin query shard layout

  own : IsQuery z s.history query
  own = query_is bits room journal places queries keeps number held there

  no_gather : held.gathered.value ≡ None
  no_gather = go held.gathered.value refl
    where
      go : (gather : Option (Gathered (QuerySource W))) → held.gathered.value ≡ gather → held.gathered.value ≡ None
      go None e = e
      go (Some g) e = absurd (omega (
        arith,
        all_pinned bits room journal places queries keeps number held there g e,
        some_left bits room journal places queries keeps number held there shard come.low come.goes_on come.free,
      ))

  -- the pins as they are seen
  pins_seen : map layout_pinned pins ≡ slice_set query.pinned shard (Some layout)
  pins_seen = map-set layout_pinned held.pinned.value.items shard (Some version)

  module _ (pinned_is : after.pinned.value.items ≡ pins) where
    layouts_are : map layout_pinned after.pinned.value.items ≡ slice_set query.pinned shard (Some layout)
    layouts_are = ap (map layout_pinned) pinned_is ∙ pins_seen

    left_is : missing after.pinned.value.items ≡ unpinned pinned_query
    left_is = sym (missing_seen after.pinned.value.items) ∙ ap (λ (all : List (Option Laid)). length (filter is_none all)) layouts_are

    pins_held : (k : ℕ) (pin : Arc Tabled Global) → slice_get after.pinned.value.items k ≡ Some (Some pin)
        → contents_at pin ≡ pinned_version z s.history query k (contents_at pin).layout
    pins_held k pin at = come.each_pinned k pin (subst (λ (all : pinned.VersionPins). slice_get all k ≡ Some (Some pin)) pinned_is at)

    -- what the pin does, where the query after it is known
    pinned_step : Completes z s.history pinned_query (query_seen bits after) → t ≡ with_query mid number (query_seen bits after)
        → (left : ℕ) → left ≡ missing after.pinned.value.items → WorldStep z s (Pin number shard) (Ok (told.Pinned left)) t
    pinned_step completes state_is left count = (
      may_pin bits room journal places queries keeps number held there shard come.low come.goes_on,
      record {
        query = query;
        after = query_seen bits after;
        is_query = seen_there bits room journal places queries keeps number held there;
        pins = inr (record {
          not_pinned = not_pinned bits room journal places queries keeps number held there shard come.low come.goes_on come.free;
          place = place_seen new;
          mid = mid;
          advances = come.advances;
          version = contents_at version;
          is_there = come.one;
          completes = completes;
          pinned = state_is;
        });
        said_is = ap told.Pinned (count ∙ sym (missing_seen after.pinned.value.items));
      },
    )

  -- ---- some shard isn't pinned
  module _ (more : PinsOneMore journal to held after shard version) where
    query_more : query_seen bits after ≡ pinned_query
    query_more = ap (query_seen bits) more.rest
        ∙ ap (λ (all : List (Option Laid)). let q : WorldQuery = record query { pinned = all } in q) (layouts_are more.pins)

    completes_more : Completes z s.history pinned_query (query_seen bits after)
    completes_more = record {
      sources = [];
      after_is = query_more ∙ sym (cond-true (nat_lt 0 (unpinned pinned_query)) pinned_query _
          (lt-ltb 0 (unpinned pinned_query) (omega (arith, more.some, left_is more.pins))));
      are_begun = λ all. absurd (omega (arith, all, more.some, left_is more.pins));
    }

    state_more : t ≡ with_query mid number (query_seen bits after)
    state_more = ap (λ (j : JournalState). state_seen bits j (slice_set places shard new) (slice_set queries number after)) more.journal
        ∙ ap (λ (all : List WorldQuery). let u : WorldState = record mid { queries = all } in u) (map-set (query_seen bits) queries number after)

    pub more_setting : setting_seen bits room to (slice_set places shard new) ≡ z
    more_setting = ap (λ (j : JournalState). setting_seen bits room j (slice_set places shard new)) more.journal
        ∙ setting_stays bits room journal places queries shard new

    pub more_step : (left : ℕ) → left ≡ missing after.pinned.value.items → WorldStep z s (Pin number shard) (Ok (told.Pinned left)) t
    more_step left count = pinned_step more.pins completes_more state_more left count

    held_more : IsQueryHeld z s.history after
    held_more = subst (IsQueryHeld z s.history) (sym more.rest) (let kept = keeps.held number held there in record {
      stored = kept.stored;
      front = kept.front;
      pins = pins_held more.pins;
      gathered = λ g is. absurd (none-some g (sym no_gather ∙ is));
      whole = λ _. subst IsWhole more.rest more.whole;
    })

    sound_more : IsSound z (state_seen bits journal (slice_set places shard new) (slice_set queries number after))
    sound_more = subst (λ (j : JournalState). IsSound z (state_seen bits j (slice_set places shard new) (slice_set queries number after))) more.journal
        (step_sound z s keeps.sound (Pin number shard) (Ok (told.Pinned (missing after.pinned.value.items))) t tt (more_step (missing after.pinned.value.items) refl))

    pub more_keeps : KeepsWorld bits room to (slice_set places shard new) (slice_set queries number after)
    more_keeps =
        subst (λ (j : JournalState). KeepsWorld bits room j (slice_set places shard new) (slice_set queries number after)) (sym more.journal)
        (query_keeps bits room journal (slice_set places shard new) queries mid_keeps number held there after (ap (λ (one : Held W). one.front) more.rest)
        (subst (λ (y : Setting). IsQueryHeld y s.history after) (sym (setting_stays bits room journal places queries shard new)) held_more)
        (subst (λ (y : Setting). IsSound y (state_seen bits journal (slice_set places shard new) (slice_set queries number after)))
        (sym (setting_stays bits room journal places queries shard new)) sound_more))

  -- ---- every shard is pinned
  module _ (last : PinsLast room journal to held after shard (sum_by rows_pinned pins) version) where
    abbrev g : Gathered (QuerySource W)
    g = last.gather

    all : missing pins ≡ 0
    all = ap missing (sym last.pins) ∙ last.all

    abbrev ended : Held W
    ended = with_gather (record held { pins = after.pins; pinned = after.pinned; front = None; limit = after.limit }) (Some last.gather)

    abbrev ended_query : WorldQuery
    ended_query = record (with_pin query shard layout) { front = None; sources = map standing_told last.gather.sources }

    pins_long : length pins ≡ length places
    pins_long = length-set held.pinned.value.items shard (Some version)
        ∙ pins_are bits room journal places queries keeps number held there shard come.low come.goes_on

    none_given : g.given ≡ query.given
    none_given = ap (λ (gather : Gathered (QuerySource W)). gather.given) last.begins.gather_is ∙ sym (ap given_by no_gather)

    query_ended : query_seen bits ended ≡ ended_query
    query_ended = ap (λ (pinned_now : List (Option Laid)). let q : WorldQuery = record query {
      front = None;
      pinned = pinned_now;
      sources = map standing_told g.sources;
      given = g.given;
    } in q) (layouts_are last.pins)
        ∙ ap (λ (n : ℕ). let q : WorldQuery = record ended_query { given = n } in q) none_given

    query_last : query_seen bits after ≡ ended_query
    query_last = ap (query_seen bits) last.rest ∙ query_ended

    -- each source asks the question of the version that is pinned on its shard
    opened : (k : ℕ) (source : QuerySource W) → slice_get g.sources k ≡ Some source
        → (pin : Arc Tabled Global) × (slice_get pins k ≡ Some (Some pin)) × IsOpened room held.ask (contents_at pin) source
    opened k source at =
        let here : slice_get last.begins.sources k ≡ Some source =
        sym (ap (λ (gather : Gathered (QuerySource W)). slice_get gather.sources k) last.begins.gather_is) ∙ at in
        let pin = pin_there pins k all (omega (arith, slice_get_within last.begins.sources k source here, last.begins.opened.number_is)) in
        (pin.0, pin.1, last.begins.opened.each k source pin.0 here pin.1)

    asks_pinned : (k : ℕ) (source : QuerySource W) → slice_get g.sources k ≡ Some source → SourceAsks z s.history pinned_query k (question_asked source)
    asks_pinned k source at =
        let one = opened k source at in
        let laid = come.each_laid k one.0 one.1 in
        record {
          layout = (contents_at one.0).layout;
          is_pinned = ap (λ (now : List (Option Laid)). slice_get now k) (sym pins_seen) ∙ slice_get-map layout_pinned pins k
              ∙ ap (option_map layout_pinned) one.1;
          asks = subst (λ (contents : Contents). AsksOf room contents query.ask (question_asked source)) (come.each_pinned k one.0 one.1)
              (subst (λ (n : ℕ). AsksOf room (contents_at one.0) (ask_seen n held.ask) (question_asked source)) laid.bits_are one.2.asks);
        }

    asks_ended : (k : ℕ) (a : Asked) → SourceAsks z s.history pinned_query k a → SourceAsks z s.history ended_query k a
    asks_ended k a asks = record { layout = asks.layout; is_pinned = asks.is_pinned; asks = asks.asks }

    begins_at : (k : ℕ) (source : QuerySource W) → slice_get g.sources k ≡ Some source → BeginsSource z s.history pinned_query k (standing_told source)
    unfolding asks_pinned opened
    begins_at k source at =
        let one = opened k source at in
        let laid = come.each_laid k one.0 one.1 in
        record {
          asked = question_asked source;
          asks = asks_pinned k source at;
          lawful = last.begins.lawful source;
          fresh = one.2.fresh;
          most = one.2.most;
          units_of = subst (λ (contents : Contents). IsUnitsOf bits query.ask contents.rows (contents_at one.0).layout.parts one.2.most)
              (come.each_pinned k one.0 one.1)
              (subst (λ (n : ℕ). IsUnitsOf n (ask_seen n held.ask) (contents_at one.0).rows (contents_at one.0).layout.parts one.2.most) laid.bits_are
              one.2.units_of);
          units = one.2.units;
        }

    are_begun : AreSourcesBegun z s.history pinned_query (map standing_told g.sources)
    are_begun = record {
      number = length-map g.sources standing_told
          ∙ ap (λ (gather : Gathered (QuerySource W)). length gather.sources) last.begins.gather_is
          ∙ last.begins.opened.number_is ∙ pins_long;
      each = λ k standing at. go k standing (slice_get g.sources k) refl (sym (slice_get-map standing_told g.sources k) ∙ at);
    }
      where
        go : (k : ℕ) (standing : Standing) (found : Option (QuerySource W)) → slice_get g.sources k ≡ found
            → option_map standing_told (slice_get g.sources k) ≡ Some standing → BeginsSource z s.history pinned_query k standing
        go k standing None e is = absurd (none-some standing (sym (ap (option_map standing_told) e) ∙ is))
        go k standing (Some source) e is =
            subst (BeginsSource z s.history pinned_query k)
            (same_Some (standing_told source) standing (sym (ap (option_map standing_told) e) ∙ is)) (begins_at k source e)

    completes_last : Completes z s.history pinned_query (query_seen bits after)
    completes_last = record {
      sources = map standing_told g.sources;
      after_is = query_last ∙ sym (cond-false (nat_lt 0 (unpinned pinned_query)) pinned_query ended_query
          (le-ltb 0 (unpinned pinned_query) (omega (arith, last.all, left_is last.pins))));
      are_begun = λ none. are_begun;
    }

    history_same : to.history ≡ journal.history
    history_same = ap (λ (j : JournalState). j.history) last.journal ∙ same_history journal held.front

    limit_same : to.limit ≡ journal.limit
    limit_same = ap (λ (j : JournalState). j.limit) last.journal ∙ same_limit journal held.front

    state_last : t ≡ with_query mid number (query_seen bits after)
    state_last = ap (λ (history : List JournalEntry). let u : WorldState = record mid {
      history = cut_history bits history;
      queries = map (query_seen bits) (slice_set queries number after);
    } in u) history_same
        ∙ ap (λ (now : List WorldQuery). let u : WorldState = record mid { queries = now } in u) (map-set (query_seen bits) queries number after)

    pub last_step : (left : ℕ) → left ≡ missing after.pinned.value.items → WorldStep z s (Pin number shard) (Ok (told.Pinned left)) t
    last_step left count = pinned_step last.pins completes_last state_last left count

    -- ---- what is kept
    asks_each : (k : ℕ) (source : Source) → slice_get (sources_of question_asked standing_told g.sources) k ≡ Some source
        → SourceAsks z s.history ended_query k source.asked
    asks_each k source at = go (slice_get g.sources k) refl (sym (slice_get-map (source_of question_asked standing_told) g.sources k) ∙ at)
      where
        go : (found : Option (QuerySource W)) → slice_get g.sources k ≡ found
            → option_map (source_of question_asked standing_told) (slice_get g.sources k) ≡ Some source → SourceAsks z s.history ended_query k source.asked
        go None e is = absurd (none-some source (sym (ap (option_map (source_of question_asked standing_told)) e) ∙ is))
        go (Some one) e is =
            subst (λ (each : Source). SourceAsks z s.history ended_query k each.asked)
            (same_Some (source_of question_asked standing_told one) source (sym (ap (option_map (source_of question_asked standing_told)) e) ∙ is))
            (asks_ended k (question_asked one) (asks_pinned k one e))

    rows_are : sum_by rows_pinned pins ≡ length (rows_of (take query.position s.history))
    rows_are = sym (sum-map rows_pinned pins) ∙ numbers_add_up (length places) (rows_of (take query.position s.history)) (map rows_pinned pins) (record {
      some = omega (arith, keeps.some_shards);
      number = length-map pins rows_pinned ∙ pins_long;
      each = λ k other below. (let pin = pin_there pins k all (omega (arith, below, pins_long)) in
          get_or_from_slice_get (map rows_pinned pins) k (length (contents_at pin.0).rows) other
          (slice_get-map rows_pinned pins k ∙ ap (option_map rows_pinned) pin.1)
          ∙ ap (λ (contents : Contents). length contents.rows) (come.each_pinned k pin.0 pin.1));
    })

    gathers : IsGatheringOf z s.history ended_query (gathering_seen g)
    gathers = record {
      asked = asks_each;
      standings = map_seen question_asked standing_told (λ (one : Source). one.standing) standing_told (λ x. refl) g.sources;
      limit = ap (λ (gather : Gathered (QuerySource W)). gather.limit) last.begins.gather_is ∙ last.begins.limit_is bits
          ∙ ap (λ (n : ℕ). most_given n query.ask) rows_are;
      given = none_given;
    }

    gathering_ended : IsGatheringHeld z s.history ended g
    gathering_ended = record {
      gathers = subst (λ (q : WorldQuery). IsGatheringOf z s.history q (gathering_seen g)) (sym query_ended) gathers;
      holds = last.begins.holds;
      limit = sym (ap (λ (gather : Gathered (QuerySource W)). gather.limit) last.begins.gather_is);
    }

    held_last : IsQueryHeld z s.history after
    held_last = subst (IsQueryHeld z s.history) (sym last.rest) (let kept = keeps.held number held there in record {
      stored = kept.stored;
      front = λ front is_open. absurd (none-some front is_open);
      pins = pins_held last.pins;
      gathered = λ other is. subst (IsGatheringHeld z s.history ended) (same_Some g other is) gathering_ended;
      whole = λ _. subst IsWhole last.rest last.whole;
    })

    live_last : HoldsLive to (front_at (slice_set queries number after))
    live_last = subst (λ (j : JournalState). HoldsLive j (front_at (slice_set queries number after))) (sym last.journal) (go held.front refl)
      where
        closed : front_at (slice_set queries number after) number ≡ None
        closed = front_set queries number held after there ∙ ap (λ (one : Held W). one.front) last.rest

        go : (front : Option FrontState) → held.front ≡ front
            → HoldsLive (without_held journal held.front) (front_at (slice_set queries number after))
        go None e = absurd (let none = own.fronted come.goes_on (ap (option_map (λ one. one.older)) e) in omega (
          arith,
          none,
          some_left bits room journal places queries keeps number held there shard come.low come.goes_on come.free,
        ))
        go (Some front) e = subst (λ (f : Option FrontState). HoldsLive (without_held journal f) (front_at (slice_set queries number after))) (sym e)
            (held_closed journal (front_at queries) (front_at (slice_set queries number after)) number front keeps.live
            (front_there queries number held there ∙ e)
            (subst (KeepsFronts journal) (last.journal ∙ ap (without_held journal) e) last.fronts) closed
            (λ other apart. front_other queries number other after apart))

    pub setting_last : setting_seen bits room to (slice_set places shard new) ≡ z
    setting_last = ap (λ (n : ℕ). setting_of bits n room to.limit) (length-set places shard new)
        ∙ ap (setting_of bits (length places) room) limit_same

    still_held : (other : Held W) → IsQueryHeld z s.history other
        → IsQueryHeld (setting_seen bits room to (slice_set places shard new)) (cut_history bits to.history) other
    still_held other was =
        subst (λ (y : Setting). IsQueryHeld y (cut_history bits to.history) other) (sym setting_last)
        (subst (λ (history : List JournalEntry). IsQueryHeld z (cut_history bits history) other) (sym history_same) was)

    pub last_keeps : KeepsWorld bits room to (slice_set places shard new) (slice_set queries number after)
    last_keeps = record {
      few_words = keeps.few_words;
      words = keeps.words;
      some_shards = mid_keeps.some_shards;
      few_shards = mid_keeps.few_shards;
      some_room = keeps.some_room;
      small_room = keeps.small_room;
      stored = subst (AreStoredEntries W bits) (sym history_same) keeps.stored;
      sound = subst (λ (y : Setting). IsSound y t) (sym setting_last)
          (step_sound z s keeps.sound (Pin number shard) (Ok (told.Pinned (missing after.pinned.value.items))) t tt (last_step (missing after.pinned.value.items) refl));
      live = live_last;
      held = λ n other found. elim (get_set queries number n after other found) [
        | inl both ↦ still_held other (subst (IsQueryHeld z s.history) (sym both.1) held_last)
        | inr before ↦ still_held other (keeps.held n other before)
      ];
    }

  -- ---- either way
  abbrev Pinned : Type 0
  Pinned = PinsOneMore journal to held after shard version ⊎ PinsLast room journal to held after shard (sum_by rows_pinned pins) version

  pub pin_setting : Pinned → setting_seen bits room to (slice_set places shard new) ≡ z
  pin_setting how = elim how [ inl more ↦ more_setting more | inr last ↦ setting_last last ]

  pub pin_step : Pinned → (left : ℕ) → left ≡ missing after.pinned.value.items → WorldStep z s (Pin number shard) (Ok (told.Pinned left)) t
  pin_step how left count = elim how [ inl more ↦ more_step more left count | inr last ↦ last_step last left count ]

  pub pin_keeps : Pinned → KeepsWorld bits room to (slice_set places shard new) (slice_set queries number after)
  pin_keeps how = elim how [ inl more ↦ more_keeps more | inr last ↦ last_keeps last ]

  -- where there was no memory the query is as before
  pub lacks_step : to ≡ journal → after ≡ held → WorldStep z s (Pin number shard) (Err NoMemory) mid → WorldStep z s (Pin number shard) (Err NoMemory) t
  lacks_step same_journal same step = subst (WorldStep z s (Pin number shard) (Err NoMemory))
      (ap (λ (now : List (Held W)). state_seen bits journal (slice_set places shard new) now)
      (sym (ap (slice_set queries number) same ∙ put_again queries number held there))
      ∙ ap (λ (j : JournalState). state_seen bits j (slice_set places shard new) (slice_set queries number after)) (sym same_journal)) step

  pub same_keeps : to ≡ journal → after ≡ held → KeepsWorld bits room to (slice_set places shard new) (slice_set queries number after)
  same_keeps same_journal same = subst (λ (j : JournalState). KeepsWorld bits room j (slice_set places shard new) (slice_set queries number after))
      (sym same_journal)
      (subst (KeepsWorld bits room journal (slice_set places shard new)) (sym (ap (slice_set queries number) same ∙ put_again queries number held there))
      mid_keeps)
