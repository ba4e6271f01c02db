-- Each step keeps what holds between two events.
use Rattle.std.proofs.Common.{◌≡◌, ℕ, ◌+◌, ◌<◌, List, [], ◌∷◌, length, take, refl, sym, ap, ◌∙◌, subst, arith, true, inl, inr}
use Rattle.std.specs.Prelude.{◌⊎◌, ◌==◌, nat_lt, Some, None, Result, Ok, Err, slice_get}
use Rattle.std.specs.List.{AllByRecursion}
use Rattle.std.proofs.lemmas.Bool.{cases_Bool, cond_both, eq-eqb, or_left, or_right}
use Rattle.std.proofs.lemmas.List.{length-take-le}
use Rattle.std.proofs.lemmas.Option.{same_Some, slice_get_within, MatchOption-at_some}
use Rattle.hamming_model.specs.History.{JournalEntry}
use Rattle.hamming_model.specs.Scan.{Ask}
use Rattle.hamming_model.proofs.LegalLemmas.{legal_first}
use Rattle.threshold_model.specs.Bounds.{last_distance}
use Rattle.part_layout.specs.Laid.{Laid}
use Rattle.hit_source.specs.declared.polled.Polled.{Polled}
use Rattle.entry_log.specs.Decisions.{decision_of}
use Rattle.commit_journal.specs.Fronts.{has_position}
use Rattle.scatter_gather.specs.Due.{is_due}
use Rattle.scatter_gather.specs.Gathering.{Gathering, Source}
use Rattle.scatter_gather.specs.Kept.{IsUpTo}
use Rattle.world_model.specs.declared.told.Told.{Told}
use Rattle.world_model.specs.declared.refused.Refused.{Refused}
use Rattle.world_model.specs.Answering.{PollsAt, PollsSource, GivesNext, GivesHit, with_source}
use Rattle.world_model.specs.Asking.{IsGatheringOf}
use Rattle.world_model.specs.Events.{Setting, Event, Commit, Open, Advance, Pin, Poll, Give, Cancel, BuildStart, BuildStep, Follow, Swap, IsFormed, IsLayoutFor}
use Rattle.world_model.specs.QuerySteps.{OpensAtEnd, Pins, PinsAtFront, CancelsQuery, with_pin}
use Rattle.world_model.specs.ShardSteps.{Advances, StartsBuild, PlacesRows, FollowsHistory, SwapsLayout, HasBuild}
use Rattle.world_model.specs.Sound.{IsBuild, KeepsShard, KeepsOlder, IsSound}
use Rattle.world_model.specs.WorldState.{WorldState, ShardWithBuild, WorldQuery, Rebuild, answer_on, unpinned, with_place, with_query, fresh_query}
use Rattle.world_model.specs.WorldStep.{Does, OnlyAdvances, WorldStep}
use Rattle.world_model.proofs.Lookups.{get_mapped, one_there}
use Rattle.world_model.proofs.LiveLemmas.{Keeps}
use Rattle.world_model.proofs.PlaceLemmas.{place_advances, place_with_build, place_relaid, build_begins, build_placed, build_followed, one_is_laid}
use Rattle.world_model.proofs.QueryLemmas.{with_sources, new_is_query, cancelled_is_query, moved_is_query, pinned_is_query, next_is_within}
use Rattle.world_model.proofs.SoundLemmas.{sound_with_place, sound_with_query, sound_with_new, sound_committed}

-- where a source of a gathering stands in its query
pub stands_there : (z : Setting) (history : List JournalEntry) (query : WorldQuery) (g : Gathering) (shard : ℕ) (source : Source)
    → IsGatheringOf z history query g
    → slice_get g.sources shard ≡ Some source → slice_get query.sources shard ≡ Some source.standing
stands_there z history query g shard source gathers there =
    ap (λ sources. slice_get sources shard) (sym gathers.standings) ∙ get_mapped (λ each. each.standing) g.sources shard source there

module _ (z : Setting) (s : WorldState) (is : IsSound z s) where
  -- ---- shards
  place_of_advance : (number shard : ℕ) (after : ShardWithBuild) (t : WorldState) → Advances s number shard after t
      → KeepsShard z s.history s.queries shard after
  place_of_advance number shard after t a =
      subst (KeepsShard z s.history s.queries shard) (sym a.after_is)
      (place_advances z s.history s.queries shard a.before (is.places shard a.before a.is_place) a.query a.older
      (is.fronts number a.query a.older a.fronted.is_query a.fronted.is_open))

  advance_sound : (number shard : ℕ) (after : ShardWithBuild) (t : WorldState) → Advances s number shard after t → IsSound z t
  advance_sound number shard after t a = subst (IsSound z) (sym a.advanced_is)
      (sound_with_place z s is shard after (place_of_advance number shard after t a))

  -- a shard with another build
  built_sound : (shard : ℕ) (place : ShardWithBuild) (build : Rebuild) → slice_get s.places shard ≡ Some place → IsBuild z s.history shard build
      → IsSound z (with_place s shard (record place { build = Some build }))
  built_sound shard place build there built = sound_with_place z s is shard (record place { build = Some build })
      (place_with_build z s.history s.queries shard place (is.places shard place there) build built)

  build_of : (shard : ℕ) (place : ShardWithBuild) (build : Rebuild) → HasBuild s shard place build → IsBuild z s.history shard build
  build_of shard place build has = MatchOption-at_some (Unit {0}) (IsBuild z s.history shard) build has.is_build
      (is.places shard place has.is_place).build

  start_sound : (shard : ℕ) (layout : Laid) (said : Told) (t : WorldState) → IsLayoutFor z.bits layout → StartsBuild s shard layout said t
      → IsSound z t
  start_sound shard layout said t laid a =
      subst (IsSound z) (sym a.after) (built_sound shard a.place
      (record { version = record a.place.shard.current { layout = layout }; left = length a.place.shard.current.rows }) a.is_place
      (build_begins z s.history s.queries shard a.place (is.places shard a.place a.is_place) layout laid))

  rows_sound : (shard rows : ℕ) (said : Told) (t : WorldState) → PlacesRows s shard rows said t → IsSound z t
  rows_sound shard rows said t a =
      subst (IsSound z) (sym a.after) (built_sound shard a.place _ a.has.is_place
      (build_placed z s.history shard a.build (build_of shard a.place a.build a.has) rows))

  follow_sound : (shard : ℕ) (said : Told) (t : WorldState) → FollowsHistory s shard said t → IsSound z t
  follow_sound shard said t a =
      subst (IsSound z) (sym a.after) (built_sound shard a.place _ a.has.is_place
      (build_followed z s.history shard a.build (build_of shard a.place a.build a.has)))

  swap_sound : (shard : ℕ) (said : Told) (t : WorldState) → SwapsLayout s shard said t → IsSound z t
  swap_sound shard said t a =
      subst (IsSound z) (sym a.after) (sound_with_place z s is shard _
      (place_relaid z s.history s.queries shard a.place (is.places shard a.place a.has.is_place) a.build.version.layout
      (build_of shard a.place a.build a.has).of_shard.layout))

  -- ---- queries
  open_sound : (who : ℕ) (ask : Ask) (said : Told) (t : WorldState) → IsFormed z (Open who ask) → OpensAtEnd z s ask said t → IsSound z t
  open_sound who ask said t formed a =
      subst (IsSound z) (sym a.after)
      (sound_with_new z s is (fresh_query z ask (length s.history) a.older) refl (new_is_query z s.history ask a.older formed)
      (λ older is_open. subst (KeepsOlder s.history s.queries (fresh_query z ask (length s.history) a.older))
      (same_Some a.older older is_open) opened))
    where
      whole : length (take (length s.history) s.history) ≡ length s.history
      whole = length-take-le (length s.history) s.history (omega arith)

      below_all : (older : List ℕ) → ((at : ℕ) → has_position older at ≡ true → at < length s.history)
          → AllByRecursion (λ at. at < length s.history) older
      below_all [] each = tt
      below_all (p ∷ older) each = (
        each p (or_left (p == p) (has_position older p) (eq-eqb p p refl)),
        below_all older (λ at listed. each at (or_right (p == at) (has_position older at) listed)),
      )

      opened : KeepsOlder s.history s.queries (fresh_query z ask (length s.history) a.older) a.older
      opened = record {
        front = record {
          ascending = a.lists.ascending;
          below = subst (λ end. AllByRecursion (λ at. at < end) a.older) (sym whole)
              (below_all a.older (λ at listed. ((a.lists.lists at).0 listed).0));
          legal = legal_first (length s.history) s.history is.legal;
        };
        known = record {
          begins = ap (λ n. take n s.history) (sym whole);
          within = omega (arith, whole);
          older = λ at stands below. (a.lists.lists at).1 (omega (arith, below, whole), stands);
        };
      }

  pin_sound : (number shard : ℕ) (said : Told) (t : WorldState) → Pins z s number shard said t → IsSound z t
  pin_sound number shard said t a = elim a.pins [
    | inl pinned ↦ subst (IsSound z) (sym pinned.same) is
    | inr anew ↦ pinned_anew anew
  ]
    where
      keeps : PinsAtFront z s number shard a.query a.after t → Keeps a.query a.after
      keeps p = subst (Keeps a.query) (sym p.completes.after_is)
          (cond_both (nat_lt 0 (unpinned (with_pin a.query shard p.version.layout))) (with_pin a.query shard p.version.layout)
          (with_sources (with_pin a.query shard p.version.layout) p.completes.sources) (Keeps a.query)
          (λ more. record { stands = refl; fronted = inl refl })
          (λ all. record { stands = refl; fronted = inr refl }))

      pinned_anew : PinsAtFront z s number shard a.query a.after t → IsSound z t
      pinned_anew p =
          let place_is = place_of_advance number shard p.place p.mid p.advances in
          let mid_sound = sound_with_place z s is shard p.place place_is in
          let query_is = is.queries number a.query a.is_query in
          let same : p.advances.query ≡ a.query = one_there
          (slice_get s.queries number) p.advances.query a.query p.advances.fronted.is_query a.is_query in
          let is_open : a.query.front ≡ Some p.advances.older = ap (λ q. q.front) (sym same) ∙ p.advances.fronted.is_open in
          let laid = (one_is_laid z s.history s.queries shard p.place place_is a.query.position p.version p.is_there).layout in
          let after_is = pinned_is_query z s.history a.query query_is shard p.version.layout a.after laid p.not_pinned p.advances.older is_open p.completes in
          subst (IsSound z) (sym (p.pinned ∙ ap (λ mid. with_query mid number a.after) p.advances.advanced_is))
          (sound_with_query z (with_place s shard p.place) mid_sound number a.query a.after a.is_query (keeps p) after_is)

  poll_sound : (number shard budget : ℕ) (said : Told) (t : WorldState) → PollsAt z s number shard budget said t → IsSound z t
  poll_sound number shard budget said t a = elim (cases_Bool (is_due a.g a.source)) [
    | inr held ↦ subst (IsSound z) (sym (a.held held).1) is
    | inl due ↦ (let p = (a.polled due).2 in polled p)
  ]
    where
      polled : {result : Polled} → PollsSource z s number shard budget a.query a.source result t → IsSound z t
      polled p =
          let query_is = is.queries number a.query a.has.is_query in
          let source_is = query_is.sources shard a.source.standing (stands_there z s.history a.query a.g shard a.source a.has.gathers a.is_source) in
          subst (IsSound z) (sym p.after) (sound_with_query z s is number a.query (with_source a.query a.query.given shard p.new) a.has.is_query
          (record { stands = refl; fronted = inl refl })
          (moved_is_query z s.history a.query query_is a.query.given shard a.source.asked p.new query_is.given
          (a.has.gathers.asked shard a.source a.is_source) p.lawful
          (elim p.begun [
            | inl same ↦ subst (λ radius. IsUpTo radius (last_distance (answer_on z s.history a.query))) (sym same) source_is.begun
            | inr near ↦ next_is_within z s.history a.query query_is p.new.begun near
          ])))

  give_sound : (number : ℕ) (said : Told) (t : WorldState) → GivesNext z s number said t → IsSound z t
  give_sound number said t a = elim a.gives [
    | inr other ↦ elim other [ inl ends ↦ subst (IsSound z) (sym ends.same) is | inr waits ↦ subst (IsSound z) (sym waits.same) is ]
    | inl gives ↦ gave gives
  ]
    where
      gave : GivesHit z s number a.query a.g said t → IsSound z t
      gave gives =
          let query_is = is.queries number a.query a.has.is_query in
          let source_is = query_is.sources gives.shard gives.source.standing
          (stands_there z s.history a.query a.g gives.shard gives.source a.has.gathers gives.is_source) in
          subst (IsSound z) (sym gives.after) (sound_with_query z s is number a.query
          (with_source a.query (a.query.given + 1) gives.shard gives.new) a.has.is_query
          (record { stands = refl; fronted = inl refl })
          (moved_is_query z s.history a.query query_is (a.query.given + 1) gives.shard gives.source.asked gives.new
          (omega (arith, slice_get_within (answer_on z s.history a.query) a.query.given gives.hit gives.next))
          (a.has.gathers.asked gives.shard gives.source gives.is_source) gives.lawful
          (subst (λ radius. IsUpTo radius (last_distance (answer_on z s.history a.query))) (sym gives.pops.begun) source_is.begun)))

  cancel_sound : (number : ℕ) (said : Told) (t : WorldState) → CancelsQuery s number said t → IsSound z t
  cancel_sound number said t a =
      subst (IsSound z) (sym a.after) (sound_with_query z s is number a.query (record a.query { front = None; cancelled = true }) a.is_query
      (record { stands = refl; fronted = inr refl })
      (cancelled_is_query z s.history a.query (is.queries number a.query a.is_query)))

  -- ---- every event
  does_sound : (event : Event) (said : Told) (t : WorldState) → IsFormed z event → Does z s event said t → IsSound z t
  does_sound (Commit who operation) said t formed a =
      subst (IsSound z) (sym a.after) (sound_committed z s is who operation (decision_of a.decided.decision) formed a.decision)
  does_sound (Open who ask) said t formed a = open_sound who ask said t formed a
  does_sound (Advance number shard) said t formed a = advance_sound number shard a.after t a.advances
  does_sound (Pin number shard) said t formed a = pin_sound number shard said t a
  does_sound (Poll number shard budget) said t formed a = poll_sound number shard budget said t a
  does_sound (Give number) said t formed a = give_sound number said t a
  does_sound (Cancel number) said t formed a = cancel_sound number said t a
  does_sound (BuildStart shard layout) said t formed a = start_sound shard layout said t formed a
  does_sound (BuildStep shard rows) said t formed a = rows_sound shard rows said t a
  does_sound (Follow shard) said t formed a = follow_sound shard said t a
  does_sound (Swap shard) said t formed a = swap_sound shard said t a

  leaves_sound : (event : Event) (t : WorldState) → (t ≡ s) ⊎ OnlyAdvances s event t → IsSound z t
  leaves_sound event t left = elim left [
    | inl same ↦ subst (IsSound z) (sym same) is
    | inr moved ↦ advance_sound moved.query moved.shard moved.after t moved.advances
  ]

  -- each event keeps the rules
  pub step_sound : (event : Event) (answer : Result Told Refused) (t : WorldState) → IsFormed z event → WorldStep z s event answer t → IsSound z t
  step_sound event (Ok said) t formed step = does_sound event said t formed step.1
  step_sound event (Err why) t formed step = elim step [
    | inl refused ↦ subst (IsSound z) (sym refused.1) is
    | inr nomem ↦ leaves_sound event t nomem.leaves
  ]
