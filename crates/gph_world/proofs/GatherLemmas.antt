-- Queries that have a gathering, as one of their sources changes.
use Rattle.std.proofs.Common.{◌≡◌, ℕ, zero, suc, ◌%◌, ◌==◌, ◌<◌, ◌≤◌, Bool, true, false, cond, List, [], ◌∷◌, length, filter, map, take, drop, Option, Some, None, refl, sym, ap, subst, ◌∙◌, arith, inl, inr}
use Rattle.std.specs.Prelude.{is_none, nat_le, option_map, slice_get, slice_set}
use Rattle.std.specs.List.{list_any}
use Rattle.std.proofs.lemmas.List.{length-map, length-take-le, map-set}
use Rattle.std.proofs.lemmas.Option.{none-some, same_Some, slice_get-map}
use Rattle.hamming_model.specs.History.{JournalEntry, rows_of, shard_rows}
use Rattle.hamming_model.specs.Recoded.{cut_entry}
use Rattle.hamming_model.specs.Scan.{Ask, Range, Near, answer, hit_of, hits_within, scan}
use Rattle.hamming_model.specs.declared.hit.Hit.{Hit}
use Rattle.hit_source.specs.Moves.{first_of}
use Rattle.hit_source.specs.Sources.{Asked, Standing}
use Rattle.commit_journal.specs.Journals.{IsJournal, JournalState}
use Rattle.scatter_gather.specs.Gathering.{Gathered, Source, answer_of, gathered, source_of, sources_of}
use Rattle.scatter_gather.specs.Kept.{IsGathering}
use Rattle.scatter_gather.proofs.KeepLemmas.{map_seen}
use Rattle.scatter_gather.proofs.MoreLemmas.{length_in_order}
use Rattle.world_model.specs.Answering.{HasGathering, with_source}
use Rattle.world_model.specs.Asking.{IsGatheringOf, SourceAsks, hits_most}
use Rattle.world_model.specs.Events.{Setting}
use Rattle.world_model.specs.Sound.{IsQuery, IsSound}
use Rattle.world_model.specs.WorldState.{WorldQuery, WorldState, answer_on, unpinned, with_query}
use Rattle.world_model.proofs.GatherLemmas.{sources_answer}
use Rattle.world_model.proofs.Lookups.{get_set}
use Rattle.world_bridge.proofs.HeldLemmas.{held_same}
use Rattle.world_parts.specs.Gathers.{HasSources, with_gather}
use Rattle.world_parts.proofs.ListLemmas.{put_again}
use Rattle.gph_world.specs.Kept.{IsGatheringHeld, IsQueryHeld, KeepsWorld, front_at}
use Rattle.world_parts.specs.Seen.{given_by, query_seen, standings_held}
use Rattle.gph_world.specs.Seen.{setting_seen, state_seen}
use Rattle.world_parts.specs.Sources.{QuerySource, gathering_seen, question_asked, standing_told}
use Rattle.world_parts.specs.declared.held.Held.{Held}
use Rattle.world_parts.specs.declared.place.Place.{Place}
use Rattle.gph_world.proofs.HeldLemmas.{front_other, front_set, front_there, seen_there}

-- ---- lists

-- the first behind so many stands at that place
pub first_dropped : (n : ℕ) (hits : List Hit) → first_of (drop n hits) ≡ slice_get hits n
first_dropped zero [] = refl
first_dropped zero (hit ∷ hits) = refl
first_dropped (suc n) [] = refl
first_dropped (suc n) (hit ∷ hits) = first_dropped n hits

-- where none stands there, there are no more than so many
pub none_dropped : (n : ℕ) (hits : List Hit) → first_of (drop n hits) ≡ None → length hits ≤ n
none_dropped zero [] none = omega arith
none_dropped zero (hit ∷ hits) none = absurd (none-some hit (sym none))
none_dropped (suc n) [] none = omega arith
none_dropped (suc n) (hit ∷ hits) none = omega (arith, none_dropped n hits none)

-- one is missing exactly where not none is
pub any_missing : {A : Type 0} (xs : List (Option A)) → 0 < length (filter is_none xs) → list_any is_none xs ≡ true
any_missing [] some = absurd (omega (arith, some))
any_missing (None ∷ xs) some = refl
any_missing (Some x ∷ xs) some = any_missing xs some

pub none_missing : {A : Type 0} (xs : List (Option A)) → length (filter is_none xs) ≡ 0 → list_any is_none xs ≡ false
none_missing [] all = refl
none_missing (None ∷ xs) all = absurd (omega (arith, all))
none_missing (Some x ∷ xs) all = none_missing xs all

-- ---- answers are no longer than histories
one_shard : (rows : List (ℕ × List ℕ)) → shard_rows 0 1 rows ≡ rows
one_shard [] = refl
one_shard (row ∷ rows) =
    let own : (row.0 % 1 == 0) ≡ true = ap (λ (n : ℕ). n == 0) (let e : row.0 % 1 ≡ 0 = omega arith in e) in
    ap (λ (keep : Bool). cond keep (row ∷ shard_rows 0 1 rows) (shard_rows 0 1 rows)) own ∙ ap (λ rest. row ∷ rest) (one_shard rows)

kept_by : (hit : Hit) (kept hits : List Hit) (near : Bool) → length kept ≤ length hits → length (cond near (hit ∷ kept) kept) ≤ length (hit ∷ hits)
kept_by hit kept hits true fewer = omega (arith, fewer)
kept_by hit kept hits false fewer = omega (arith, fewer)

kept_few : (radius : ℕ) (hits : List Hit) → length (filter (λ hit. nat_le hit.dist radius) hits) ≤ length hits
kept_few radius [] = omega arith
kept_few radius (hit ∷ hits) = kept_by hit (filter (λ hit. nat_le hit.dist radius) hits) hits (nat_le hit.dist radius) (kept_few radius hits)

scan_few : (rows : List (ℕ × List ℕ)) (query : List ℕ) (radius : ℕ) → length (scan rows query radius) ≤ length rows
scan_few rows query radius = omega (
  arith,
  length_in_order (hits_within rows query radius),
  kept_few radius (map (hit_of query) rows),
  length-map rows (hit_of query),
)

taken_few : (n : ℕ) (hits : List Hit) → length (take n hits) ≤ length hits
taken_few zero hits = omega arith
taken_few (suc n) [] = omega arith
taken_few (suc n) (hit ∷ hits) = omega (arith, taken_few n hits)

answer_few : (bits : ℕ) (rows : List (ℕ × List ℕ)) (ask : Ask) → length (answer bits rows ask) ≤ length rows
answer_few bits rows (Range tau code) = scan_few rows code tau
answer_few bits rows (Near count code) = omega (arith, scan_few rows code bits, taken_few count (scan rows code bits))

-- each shard has at most one row for each entry
abbrev pub HaveFewRows : Type 0
HaveFewRows = (shard shards : ℕ) (history : List JournalEntry) → length (shard_rows shard shards (rows_of history)) ≤ length history

-- ---- gatherings
module _ {W : ℕ} (bits room : ℕ) (journal : JournalState) (places : List (Place W)) (queries : List (Held W))
    (keeps : KeepsWorld bits room journal places queries) (number : ℕ) (held : Held W) (there : slice_get queries number ≡ Some held) where
  abbrev z : Setting
  z = setting_seen bits room journal places

  abbrev s : WorldState
  s = state_seen bits journal places queries

  abbrev query : WorldQuery
  query = query_seen bits held

  is_there : slice_get s.queries number ≡ Some query
  is_there = seen_there bits room journal places queries keeps number held there

  pub query_is : IsQuery z s.history query
  query_is = keeps.sound.queries number query is_there

  -- a query without a gathering hasn't pinned every shard
  pub none_gathered : held.cancelled ≡ false → held.gather ≡ None → 0 < unpinned query
  none_gathered goes_on none = go (unpinned query) refl
    where
      known : held.gathered.value ≡ None
      known = sym ((keeps.held number held there).whole goes_on).gather ∙ none

      go : (left : ℕ) → unpinned query ≡ left → 0 < unpinned query
      go zero e = absurd (omega (
        arith,
        query_is.sourced e,
        ap (λ gather. length (standings_held gather)) known,
        keeps.some_shards,
      ))
      go (suc n) e = omega (arith, e)

  -- the answer is short enough to be counted
  few_answered : IsJournal journal → HaveFewRows → length (answer_on z s.history query) ≤ hits_most
  few_answered is few = omega (
    arith,
    answer_few bits (rows_of (take held.position s.history)) query.ask,
    ap length (one_shard (rows_of (take held.position s.history))),
    few 0 1 (take held.position s.history),
    length-take-le held.position s.history query_is.within,
    query_is.within,
    length-map journal.history (cut_entry bits),
    is.few,
    is.limited,
  )

  -- another query in its place that holds the same front
  pub query_keeps : (new : Held W) → new.front ≡ held.front → IsQueryHeld z s.history new
      → IsSound z (state_seen bits journal places (slice_set queries number new))
      → KeepsWorld bits room journal places (slice_set queries number new)
  query_keeps new same new_is sound = record {
    few_words = keeps.few_words;
    words = keeps.words;
    some_shards = keeps.some_shards;
    few_shards = keeps.few_shards;
    some_room = keeps.some_room;
    small_room = keeps.small_room;
    stored = keeps.stored;
    sound = sound;
    live = held_same journal (front_at queries) (front_at (slice_set queries number new)) number keeps.live
        (front_set queries number held new there ∙ same ∙ sym (front_there queries number held there))
        (λ other apart. front_other queries number other new apart);
    held = λ n other found. elim (get_set queries number n new other found) [
      | inl both ↦ subst (IsQueryHeld z s.history) (sym both.1) new_is
      | inr before ↦ keeps.held n other before
    ];
  }

  -- the query as it was leaves the state
  pub state_again : (new : Held W) → new ≡ held → state_seen bits journal places (slice_set queries number new) ≡ s
  state_again new same = ap (λ (all : List (Held W)). state_seen bits journal places all)
      (ap (slice_set queries number) same ∙ put_again queries number held there)

  pub keeps_again : (new : Held W) → new ≡ held → KeepsWorld bits room journal places (slice_set queries number new)
  keeps_again new same = subst (KeepsWorld bits room journal places) (sym (ap (slice_set queries number) same ∙ put_again queries number held there)) keeps

  module _ (g : Gathered (QuerySource W)) (is : held.gathered.value ≡ Some g) where
    had : IsGatheringHeld z s.history held g
    had = (keeps.held number held there).gathered g is

    sources_are : length query.sources ≡ length g.sources
    sources_are = ap (λ gather. length (standings_held gather)) is ∙ length-map g.sources standing_told

    pub all_pinned : unpinned query ≡ 0
    all_pinned = go (unpinned query) refl
      where
        go : (left : ℕ) → unpinned query ≡ left → unpinned query ≡ 0
        go zero e = e
        go (suc n) e = absurd (omega (
          arith,
          had.holds.some,
          length-map g.sources (source_of question_asked standing_told),
          sources_are,
          ap length (query_is.waits (omega (arith, e))),
        ))

    pub number_is : length g.sources ≡ length places
    number_is = sym sources_are ∙ query_is.sourced all_pinned

    pub has_sources : held.cancelled ≡ false → HasSources held (length places)
    has_sources goes_on = record {
      gather = g;
      is_there = ((keeps.held number held there).whole goes_on).gather ∙ is;
      is_known = is;
      holds = had.holds;
      number_is = number_is;
      limit = had.limit;
    }

    pub has_gathering : HasGathering z s number query (gathering_seen g)
    has_gathering = record { is_query = is_there; gathers = had.gathers }

    pub answered : IsJournal journal → HaveFewRows → answer_of (gathering_seen g) ≡ answer_on z s.history query
    answered whole few = sources_answer z s number query (gathering_seen g) keeps.sound has_gathering (omega (arith, keeps.some_shards)) all_pinned
        (few_answered whole few)

    pub given_is : query.given ≡ g.given
    given_is = ap given_by is

    -- a source that was seen at a place
    pub seen_at : (shard : ℕ) (source : QuerySource W) → slice_get g.sources shard ≡ Some source
        → slice_get (sources_of question_asked standing_told g.sources) shard ≡ Some (source_of question_asked standing_told source)
    seen_at shard source at = slice_get-map (source_of question_asked standing_told) g.sources shard
        ∙ ap (option_map (source_of question_asked standing_told)) at

    -- ---- one of the sources changes
    module _ (shard : ℕ) (was new : QuerySource W) (at : slice_get g.sources shard ≡ Some was) (asked : question_asked new ≡ question_asked was)
        (given : ℕ) (last : Option ℕ) where
      abbrev pub changed_gather : Gathered (QuerySource W)
      changed_gather = gathered (slice_set g.sources shard new) g.limit given last

      abbrev pub changed_held : Held W
      changed_held = with_gather held (Some changed_gather)

      sources_changed : map standing_told (slice_set g.sources shard new) ≡ slice_set query.sources shard (standing_told new)
      sources_changed = map-set standing_told g.sources shard new
          ∙ ap (λ gather. slice_set (standings_held gather) shard (standing_told new)) (sym is)

      query_changed : query_seen bits changed_held ≡ with_source query given shard (standing_told new)
      query_changed = ap (λ (sources : List Standing). let q : WorldQuery = record query { given = given; sources = sources } in q) sources_changed

      pub state_changed : state_seen bits journal places (slice_set queries number changed_held)
          ≡ with_query s number (with_source query given shard (standing_told new))
      state_changed = ap (λ (all : List WorldQuery). let t : WorldState = record s { queries = all } in t)
          (map-set (query_seen bits) queries number changed_held ∙ ap (slice_set (map (query_seen bits) queries) number) query_changed)

      asks_still : (place : ℕ) (a : Asked) → SourceAsks z s.history query place a → SourceAsks z s.history (query_seen bits changed_held) place a
      asks_still place a asks = record { layout = asks.layout; is_pinned = asks.is_pinned; asks = asks.asks }

      asks_each : (place : ℕ) (source : Source)
          → slice_get (sources_of question_asked standing_told (slice_set g.sources shard new)) place ≡ Some source
          → SourceAsks z s.history (query_seen bits changed_held) place source.asked
      asks_each place source found =
          elim (get_set (sources_of question_asked standing_told g.sources) shard place (source_of question_asked standing_told new) source
          (sym (ap (λ sources. slice_get sources place) (map-set (source_of question_asked standing_told) g.sources shard new)) ∙ found)) [
            | inl both ↦ subst (λ (k : ℕ). SourceAsks z s.history (query_seen bits changed_held) k source.asked) (sym both.0)
                (subst (SourceAsks z s.history (query_seen bits changed_held) shard) (sym (ap (λ (one : Source). one.asked) both.1 ∙ asked))
                (asks_still shard (question_asked was) (had.gathers.asked shard (source_of question_asked standing_told was) (seen_at shard was at))))
            | inr before ↦ asks_still place source.asked (had.gathers.asked place source before)
          ]

      still_gathers : IsGatheringOf z s.history (query_seen bits changed_held) (gathering_seen changed_gather)
      still_gathers = record {
        asked = asks_each;
        standings = map_seen question_asked standing_told (λ (one : Source). one.standing) standing_told (λ x. refl) (slice_set g.sources shard new);
        limit = had.gathers.limit;
        given = refl;
      }

      pub changed_is_held : held.cancelled ≡ false → IsGathering (gathering_seen changed_gather) → IsQueryHeld z s.history changed_held
      changed_is_held goes_on holds = (let kept = keeps.held number held there in record {
        stored = kept.stored;
        front = kept.front;
        pins = kept.pins;
        gathered = λ other is_other. subst (IsGatheringHeld z s.history changed_held) (same_Some changed_gather other is_other)
            (record { gathers = still_gathers; holds = holds; limit = had.limit });
        whole = λ _. record { pins = (kept.whole goes_on).pins; gather = refl };
      })
