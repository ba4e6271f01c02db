-- The ledgers: only a poll reads, on its own shard, and each shard's reads are within the sum of the bounds.
use Rattle.std.proofs.Common.{◌≡◌, ℕ, zero, suc, ◌+◌, ◌≤◌, List, [], ◌∷◌, length, refl, sym, ap, ◌∙◌, subst, arith, true, false, inl, inr}
use Rattle.std.specs.Prelude.{◌⊎◌, ◌==◌, nat_lt, sum_by, Option, Some, None, Ok, Err, slice_get, slice_set}
use Rattle.std.proofs.lemmas.Bool.{both_ways, cases_Bool, cond_both, eqb-true, eq-eqb, ltb-false}
use Rattle.std.proofs.lemmas.List.Sums.{sum_by-cons, sum_by-append}
use Rattle.std.proofs.lemmas.Option.{same_Some}
use Rattle.hamming_model.specs.History.{JournalEntry}
use Rattle.hit_source.specs.Sources.{Standing}
use Rattle.world_model.specs.declared.told.Told.{Told}
use Rattle.world_model.specs.Events.{Setting, Event, Commit, Open, Advance, Pin, Poll, Give, Cancel, BuildStart, BuildStep, Follow, Swap}
use Rattle.world_model.specs.WorldState.{WorldState, WorldQuery, unpinned, with_query, fresh_query}
use Rattle.scatter_gather.specs.Due.{is_due}
use Rattle.world_model.specs.Answering.{PollsAt, GivesNext, with_source}
use Rattle.world_model.specs.QuerySteps.{Pins, PinsAtFront, with_pin}
use Rattle.world_model.specs.WorldStep.{Does, OnlyAdvances, WorldStep}
use Rattle.world_model.specs.Sound.{IsQuery, IsSound}
use Rattle.world_model.specs.Ledgers.{reads_at, reads_on, reads_there, IsShare, IsSumOfBounds}
use Rattle.world_model.specs.Runs.{Answer}
use Rattle.world_model.proofs.Lookups.{get_same, get_other, some_missing}
use Rattle.world_model.proofs.QueryLemmas.{with_sources}
use Rattle.world_model.proofs.StepLemmas.{stands_there}
use Rattle.world_model.proofs.ReadLemmas.{reads_within}

sum_set : (f : WorldQuery → ℕ) (queries : List WorldQuery) (number : ℕ) (old new : WorldQuery) → slice_get queries number ≡ Some old → f new ≡ f old
    → sum_by f (slice_set queries number new) ≡ sum_by f queries
sum_set f [] number old new there same = refl
sum_set f (q ∷ queries) zero old new there same = omega
    (arith, sum_by-cons f new queries, sum_by-cons f q queries, same, ap f (same_Some q old there))
sum_set f (q ∷ queries) (suc number) old new there same = omega
    (arith, sum_by-cons f q (slice_set queries number new), sum_by-cons f q queries, sum_set f queries number old new there same)

abbrev reads_of : Option Standing → ℕ
reads_of None = 0
reads_of (Some source) = source.reads

-- a source that reads as much in another's place
source_set : (query : WorldQuery) (given shard place : ℕ) (old new : Standing) → slice_get query.sources place ≡ Some old
    → (place ≡ shard → new.reads ≡ old.reads) → reads_at shard (with_source query given place new) ≡ reads_at shard query
source_set query given shard place old new there same = elim (cases_Bool (shard == place)) [
  | inl this ↦
      (let e : shard ≡ place = eqb-true shard place this in
      ap (λ k. reads_of (slice_get (slice_set query.sources place new) k)) e ∙ ap reads_of (get_same query.sources place old new there)
      ∙ same (sym e) ∙ sym (ap reads_of there) ∙ ap (λ k. reads_of (slice_get query.sources k)) (sym e))
  | inr other ↦ ap reads_of (get_other query.sources place shard new (λ e. both_ways (shard == place) other (eq-eqb shard place e)))
]

module _ (z : Setting) (s : WorldState) (is : IsSound z s) (shard : ℕ) where
  pin_reads : (number place : ℕ) (said : Told) (t : WorldState) → Pins z s number place said t → reads_on shard t.queries ≡ reads_on shard s.queries
  pin_reads number place said t a = elim a.pins [
    | inl pinned ↦ ap (λ u. reads_on shard u.queries) pinned.same
    | inr anew ↦ ap (λ u. reads_on shard u.queries) (anew.pinned ∙ ap (λ mid. with_query mid number a.after) anew.advances.advanced_is)
        ∙ sum_set (reads_at shard) s.queries number a.query a.after a.is_query (after_reads anew)
  ]
    where
      after_reads : PinsAtFront z s number place a.query a.after t → reads_at shard a.after ≡ reads_at shard a.query
      after_reads p =
          let none : a.query.sources ≡ [] = (is.queries number a.query a.is_query).waits (some_missing a.query.pinned place p.not_pinned) in
          let before : reads_at shard a.query ≡ 0 = ap (λ sources. reads_of (slice_get sources shard)) none in
          ap (reads_at shard) p.completes.after_is
          ∙ cond_both (nat_lt 0 (unpinned (with_pin a.query place p.version.layout))) (with_pin a.query place p.version.layout)
          (with_sources (with_pin a.query place p.version.layout) p.completes.sources) (λ q. reads_at shard q ≡ reads_at shard a.query)
          (λ more. refl)
          (λ all. begun (slice_get p.completes.sources shard) refl
          (omega (arith, ltb-false 0 (unpinned (with_pin a.query place p.version.layout)) all))
          ∙ sym before)
        where
          begun : (o : Option Standing) → slice_get p.completes.sources shard ≡ o → unpinned (with_pin a.query place p.version.layout) ≡ 0
              → reads_of (slice_get p.completes.sources shard) ≡ 0
          begun None e all = ap reads_of e
          begun (Some source) e all = ap reads_of e ∙ ((p.completes.are_begun all).each shard source e).fresh.reads

  poll_reads : (number place budget : ℕ) (said : Told) (t : WorldState) → (place == shard) ≡ false → PollsAt z s number place budget said t
      → reads_on shard t.queries ≡ reads_on shard s.queries
  poll_reads number place budget said t other a = elim (cases_Bool (is_due a.g a.source)) [
    | inr held ↦ ap (λ u. reads_on shard u.queries) (a.held held).1
    | inl due ↦ (let p = (a.polled due).2 in
        ap (λ u. reads_on shard u.queries) p.after
        ∙ sum_set (reads_at shard) s.queries number a.query (with_source a.query a.query.given place p.new) a.has.is_query
        (source_set a.query a.query.given shard place a.source.standing p.new
        (stands_there z s.history a.query a.g place a.source a.has.gathers a.is_source)
        (λ e. absurd (both_ways (place == shard) other (eq-eqb place shard e)))))
  ]

  give_reads : (number : ℕ) (said : Told) (t : WorldState) → GivesNext z s number said t → reads_on shard t.queries ≡ reads_on shard s.queries
  give_reads number said t a = elim a.gives [
    | inr other ↦ elim other [ inl ends ↦ ap (λ u. reads_on shard u.queries) ends.same | inr waits ↦ ap (λ u. reads_on shard u.queries) waits.same ]
    | inl g ↦ ap (λ u. reads_on shard u.queries) g.after
        ∙ sum_set (reads_at shard) s.queries number a.query (with_source a.query (a.query.given + 1) g.shard g.new) a.has.is_query
        (source_set a.query (a.query.given + 1) shard g.shard g.source.standing g.new
        (stands_there z s.history a.query a.g g.shard g.source a.has.gathers g.is_source) (λ e. g.pops.reads))
  ]

  does_reads : (event : Event) (said : Told) (t : WorldState) → reads_there shard event ≡ false → Does z s event said t
      → reads_on shard t.queries ≡ reads_on shard s.queries
  does_reads (Commit who operation) said t other a = ap (λ u. reads_on shard u.queries) a.after
  does_reads (Open who ask) said t other a = ap (λ u. reads_on shard u.queries) a.after
      ∙ sum_by-append (reads_at shard) s.queries (fresh_query z ask (length s.history) a.older ∷ [])
      ∙ (let e : reads_on shard s.queries + 0 ≡ reads_on shard s.queries = omega arith in e)
  does_reads (Advance number place) said t other a = ap (λ u. reads_on shard u.queries) a.advances.advanced_is
  does_reads (Pin number place) said t other a = pin_reads number place said t a
  does_reads (Poll number place budget) said t other a = poll_reads number place budget said t other a
  does_reads (Give number) said t other a = give_reads number said t a
  does_reads (Cancel number) said t other a = ap (λ u. reads_on shard u.queries) a.after
      ∙ sum_set (reads_at shard) s.queries number a.query (record a.query { front = None; cancelled = true }) a.is_query refl
  does_reads (BuildStart place layout) said t other a = ap (λ u. reads_on shard u.queries) a.after
  does_reads (BuildStep place rows) said t other a = ap (λ u. reads_on shard u.queries) a.after
  does_reads (Follow place) said t other a = ap (λ u. reads_on shard u.queries) a.after
  does_reads (Swap place) said t other a = ap (λ u. reads_on shard u.queries) a.after

  leaves_reads : (event : Event) (t : WorldState) → (t ≡ s) ⊎ OnlyAdvances s event t → reads_on shard t.queries ≡ reads_on shard s.queries
  leaves_reads event t left = elim left [
    | inl same ↦ ap (λ u. reads_on shard u.queries) same
    | inr moved ↦ ap
        (λ u. reads_on shard u.queries) moved.advances.advanced_is
  ]

  -- only a poll of a shard reads there
  pub step_reads : (event : Event) (answer : Answer) (t : WorldState) → reads_there shard event ≡ false → WorldStep z s event answer t
      → reads_on shard t.queries ≡ reads_on shard s.queries
  step_reads event (Ok said) t other step = does_reads event said t other step.1
  step_reads event (Err why) t other step = elim step [
    | inl refused ↦ ap (λ u. reads_on shard u.queries) refused.1
    | inr nomem ↦ leaves_reads event t nomem.leaves
  ]

-- each shard's reads are within the sum of the bounds there
share : (z : Setting) (history : List JournalEntry) (shard : ℕ) (query : WorldQuery) → IsQuery z history query → (bound : ℕ)
    × IsShare z history shard query (slice_get query.sources shard) bound × (reads_at shard query ≤ bound)
share z history shard query is = by_source (slice_get query.sources shard) refl
  where
    by_source : (o : Option Standing) → slice_get query.sources shard ≡ o → (bound : ℕ)
        × IsShare z history shard query (slice_get query.sources shard) bound × (reads_at shard query ≤ bound)
    by_source None none = (0, subst (λ o. IsShare z history shard query o 0) (sym none) refl, omega (arith, ap reads_of none))
    by_source (Some source) there =
        let r = reads_within z history query shard source is (is.sources shard source there) in
        (r.bound, subst (λ o. IsShare z history shard query o r.bound) (sym there) r.is_bound, omega (arith, ap reads_of there, r.within))

pub sum_within : (z : Setting) (history : List JournalEntry) (shard : ℕ) (queries : List WorldQuery)
    → ((number : ℕ) (query : WorldQuery) → slice_get queries number ≡ Some query → IsQuery z history query)
    → (sum : ℕ) × IsSumOfBounds z history shard queries sum × (reads_on shard queries ≤ sum)
sum_within z history shard [] each = (0, refl, omega arith)
sum_within z history shard (query ∷ queries) each =
    let first = share z history shard query (each 0 query refl) in
    let rest = sum_within z history shard queries (λ number q there. each (suc number) q there) in (
      rest.0 + first.0,
      record { earlier = rest.0; one = first.0; is_earlier = rest.1; is_one = first.1; all = refl },
      omega (arith, first.2, rest.2, sum_by-cons (reads_at shard) query queries),
    )
