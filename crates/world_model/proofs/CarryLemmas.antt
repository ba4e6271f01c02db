-- What each step adds to the history, to the questions, and to the hits of each query.
use Rattle.std.proofs.Common.{◌≡◌, ℕ, zero, suc, ◌+◌, ◌-◌, ◌≤◌, List, [], ◌∷◌, ◌++◌, length, map, take, drop, refl, sym, ap, ◌∙◌, subst, arith, true, false, Bool, cond, inl, inr}
use Rattle.std.specs.Prelude.{◌⊎◌, ◌==◌, nat_lt, Some, None, Ok, Err, slice_get, slice_set}
use Rattle.std.proofs.lemmas.Bool.{both_ways, cases_Bool, cond_both, eqb-true, eq-eqb, ne_eqb}
use Rattle.std.proofs.lemmas.List.{append-nil}
use Rattle.std.proofs.lemmas.Option.{none-some, same_Some}
use Rattle.hamming_model.specs.History.{JournalEntry, Operation, is_accepted}
use Rattle.hamming_model.specs.Scan.{Ask}
use Rattle.hamming_model.specs.declared.hit.Hit.{Hit}
use Rattle.entry_log.specs.Decisions.{decision_of}
use Rattle.world_model.specs.declared.told.Told.{Told}
use Rattle.world_model.specs.declared.told.Told.TheVariants as told
use Rattle.world_model.specs.declared.refused.Refused.{Refused}
use Rattle.world_model.specs.Answering.{PollsAt, GivesNext, with_source}
use Rattle.world_model.specs.Events.{Setting, Event, Commit, Open, Advance, Pin, Poll, Give, Cancel, BuildStart, BuildStep, Follow, Swap}
use Rattle.world_model.specs.WorldState.{WorldState, ShardWithBuild, WorldQuery, answer_on, unpinned, with_place, with_query, fresh_query}
use Rattle.scatter_gather.specs.Due.{is_due}
use Rattle.world_model.specs.ShardSteps.{CommitsEntry, Advances}
use Rattle.world_model.specs.QuerySteps.{OpensAtEnd, Pins, PinsAtFront, CancelsQuery, with_pin}
use Rattle.world_model.specs.WorldStep.{Does, OnlyAdvances, WorldStep}
use Rattle.world_model.specs.Answers.{question}
use Rattle.world_model.specs.Runs.{Answer, committed_entry, question_of, hit_given, tells_end}
use Rattle.world_model.proofs.Lookups.{get_other, get_same, get_snoc, get_before, one_there}
use Rattle.world_model.proofs.QueryLemmas.{with_sources}

-- a query of before the step, and what it was given in it
pub record Continues (z : Setting) (s : WorldState) (number : ℕ) (query : WorldQuery) (event : Event) (answer : Answer)
    (t : WorldState) : Type 0 where
  pub after : WorldQuery
  pub is_there : slice_get t.queries number ≡ Some after
  pub same : question after ≡ question query
  pub more : query.given ≤ after.given
  pub hits : hit_given number event answer ≡ take (after.given - query.given) (drop query.given (answer_on z s.history query))
  pub ended : tells_end number event answer ≡ true → after.given ≡ length (answer_on z s.history query)

-- a number that had no query
pub record Starts (number : ℕ) (event : Event) (answer : Answer) (t : WorldState) : Type 0 where
  pub none : hit_given number event answer ≡ []
  pub goes_on : tells_end number event answer ≡ false
  pub fresh : (query : WorldQuery) → slice_get t.queries number ≡ Some query → query.given ≡ 0

pub record Carries (z : Setting) (s : WorldState) (event : Event) (answer : Answer) (t : WorldState) : Type 0 where
  pub entries : t.history ≡ s.history ++ committed_entry event answer
  pub asked : map question t.queries ≡ map question s.queries ++ question_of (length s.history) event answer
  pub old : (number : ℕ) (query : WorldQuery) → slice_get s.queries number ≡ Some query → Continues z s number query event answer t
  pub new : (number : ℕ) → slice_get s.queries number ≡ None → Starts number event answer t

-- an event and an answer that add nothing
record IsQuiet (event : Event) (answer : Answer) : Type 0 where
  entry : committed_entry event answer ≡ []
  question_none : (position : ℕ) → question_of position event answer ≡ []
  hit : (number : ℕ) → hit_given number event answer ≡ []

-- queries that keep their questions and what they were given
record Keep (old new : List WorldQuery) : Type 0 where
  questions : map question new ≡ map question old
  there : (number : ℕ) (query : WorldQuery) → slice_get old number ≡ Some query → (after : WorldQuery) × (slice_get new number ≡ Some after)
      × (question after ≡ question query) × (after.given ≡ query.given)
  none_there : (number : ℕ) → slice_get old number ≡ None → slice_get new number ≡ None

keep_same : (queries : List WorldQuery) → Keep queries queries
keep_same queries = record { questions = refl; there = λ number query has. (query, has, refl, refl); none_there = λ number none. none }

questions_set : (queries : List WorldQuery) (number : ℕ) (old new : WorldQuery) → slice_get queries number ≡ Some old → question new ≡ question old
    → map question (slice_set queries number new) ≡ map question queries
questions_set [] number old new has same = refl
questions_set (q ∷ queries) zero old new has same = ap (λ x. x ∷ map question queries) (same ∙ ap question (sym (same_Some q old has)))
questions_set (q ∷ queries) (suc number) old new has same = ap (λ xs. question q ∷ xs) (questions_set queries number old new has same)

set_none : (queries : List WorldQuery) (number other : ℕ) (new : WorldQuery) → slice_get queries other ≡ None
    → slice_get (slice_set queries number new) other ≡ None
set_none [] number other new none = none
set_none (q ∷ queries) zero zero new none = absurd (none-some q (sym none))
set_none (q ∷ queries) zero (suc other) new none = none
set_none (q ∷ queries) (suc number) zero new none = none
set_none (q ∷ queries) (suc number) (suc other) new none = set_none queries number other new none

keep_set : (queries : List WorldQuery) (number : ℕ) (old new : WorldQuery) → slice_get queries number ≡ Some old → question new ≡ question old
    → new.given ≡ old.given
    → Keep queries (slice_set queries number new)
keep_set queries number old new has same given = record {
  questions = questions_set queries number old new has same;
  there = λ other query there. elim (cases_Bool (other == number)) [
    | inl this ↦
        (let e : other ≡ number = eqb-true other number this in
        let q : query ≡ old = one_there (slice_get queries number) query old (subst (λ k. slice_get queries k ≡ Some query) e there) has in (
          new,
          subst (λ k. slice_get (slice_set queries number new) k ≡ Some new) (sym e) (get_same queries number old new has),
          same
              ∙ ap question (sym q),
          given ∙ ap (λ x. x.given) (sym q),
        ))
    | inr elsewhere ↦ (
      query,
      get_other queries number other new (λ e. both_ways (other == number) elsewhere (eq-eqb other number e))
          ∙ there,
      refl,
      refl,
    )
  ];
  none_there = λ other none. set_none queries number other new none;
}

module _ (z : Setting) (s : WorldState) where
  -- a step that adds nothing
  quiet : (event : Event) (answer : Answer) (t : WorldState) → IsQuiet event answer
      → ((number : ℕ) (query : WorldQuery) → slice_get s.queries number ≡ Some query → tells_end number event answer ≡ true
      → query.given ≡ length (answer_on z s.history query))
      → ((number : ℕ) → slice_get s.queries number ≡ None → tells_end number event answer ≡ false)
      → t.history ≡ s.history → Keep s.queries t.queries → Carries z s event answer t
  quiet event answer t is ended no_end history keep = record {
    entries = history ∙ sym (append-nil s.history) ∙ ap (λ more. s.history ++ more) (sym is.entry);
    asked = keep.questions ∙ sym (append-nil (map question s.queries))
        ∙ ap (λ more. map question s.queries ++ more) (sym (is.question_none (length s.history)));
    old = λ number query there.
        (let kept = keep.there number query there in
        let nothing : kept.0.given - query.given ≡ 0 = omega (arith, kept.3) in
        record {
          after = kept.0;
          is_there = kept.1;
          same = kept.2;
          more = omega (arith, kept.3);
          hits = is.hit number ∙ sym (ap (λ n. take n (drop query.given (answer_on z s.history query))) nothing);
          ended = λ end. kept.3 ∙ ended number query there end;
        });
    new = λ number none. record {
      none = is.hit number;
      goes_on = no_end number none;
      fresh = λ query there. absurd (none-some query (sym (keep.none_there number none) ∙ there));
    };
  }

  refused : (event : Event) (why : Refused) (t : WorldState) → t.history ≡ s.history → Keep s.queries t.queries → Carries z s event (Err why) t
  refused event why t h k = quiet event (Err why) t (record { entry = refl; question_none = λ n. refl; hit = λ n. refl }) (λ n q there end. cc)
      (λ n none. refl) h k

  unmoved : (t : WorldState) → t ≡ s → Keep s.queries t.queries
  unmoved t same = subst (λ u. Keep s.queries u.queries) (sym same) (keep_same s.queries)

  same_history : (t u : WorldState) → t ≡ u → u.history ≡ s.history → t.history ≡ s.history
  same_history t u same h = ap (λ v. v.history) same ∙ h

  -- a step that leaves the queries
  moves_place : (event : Event) (said : Told) (t u : WorldState) → IsQuiet event (Ok said) → ((number : ℕ) → tells_end number event (Ok said) ≡ false)
      → t ≡ u
      → u.history ≡ s.history → Keep s.queries u.queries → Carries z s event (Ok said) t
  moves_place event said t u is no_end same h k = quiet event (Ok said) t is
      (λ number query there end. absurd (both_ways (tells_end number event (Ok said)) (no_end number) end)) (λ number none. no_end number)
      (same_history t u same h) (subst (λ v. Keep s.queries v.queries) (sym same) k)

  -- ---- the events
  commit_carries : (who : ℕ) (operation : Operation) (said : Told) (t : WorldState) → CommitsEntry z s who operation said t
      → Carries z s (Commit who operation) (Ok said) t
  commit_carries who operation said t a = subst (λ told_now. Carries z s (Commit who operation) (Ok told_now) t) (sym a.said_is) (record {
    entries = ap (λ u. u.history) a.after ∙ behind (is_accepted (decision_of a.decided.decision));
    asked = ap (λ u. map question u.queries) a.after ∙ sym (append-nil (map question s.queries));
    old = λ number query there. record {
      after = query;
      is_there = ap (λ u. slice_get u.queries number) a.after ∙ there;
      same = refl;
      more = omega arith;
      hits = sym (ap (λ n. take n (drop query.given (answer_on z s.history query))) (let e : query.given - query.given ≡ 0 = omega arith in e));
      ended = λ end. cc;
    };
    new = λ number none. record {
      none = refl;
      goes_on = refl;
      fresh = λ query there. absurd (none-some query (sym (ap (λ u. slice_get u.queries number) a.after ∙ none) ∙ there));
    };
  })
    where
      entry : JournalEntry
      entry = record { who = who; operation = operation }

      behind : (accepted : Bool) → cond accepted (s.history ++ record { who = who; operation = operation } ∷ []) s.history
          ≡ s.history ++ cond accepted (record { who = who; operation = operation } ∷ []) []
      behind true = refl
      behind false = sym (append-nil s.history)

  open_carries : (who : ℕ) (ask : Ask) (said : Told) (t : WorldState) → OpensAtEnd z s ask said t → Carries z s (Open who ask) (Ok said) t
  open_carries who ask said t a = record {
    entries = ap (λ u. u.history) a.after ∙ sym (append-nil s.history);
    asked = ap (λ u. map question u.queries) a.after ∙ mapped s.queries;
    old = λ number query there. record {
      after = query;
      is_there = ap (λ u. slice_get u.queries number) a.after
          ∙ get_before s.queries number (fresh_query z ask (length s.history) a.older) query there;
      same = refl;
      more = omega arith;
      hits = sym (ap (λ n. take n (drop query.given (answer_on z s.history query))) (let e : query.given - query.given ≡ 0 = omega arith in e));
      ended = λ end. cc;
    };
    new = λ number none. record {
      none = refl;
      goes_on = refl;
      fresh = λ query there. elim (get_snoc s.queries number (fresh_query z ask (length s.history) a.older) query
          (sym (ap (λ u. slice_get u.queries number) a.after) ∙ there)) [
            | inl both ↦ ap (λ q. q.given) both.1
            | inr before ↦ absurd (none-some query (sym none ∙ before))
          ];
    };
  }
    where
      mapped : (queries : List WorldQuery) → map question (queries ++ fresh_query z ask (length s.history) a.older ∷ []) ≡ map question queries ++
          (ask, length s.history) ∷ []
      mapped [] = refl
      mapped (q ∷ queries) = ap (λ xs. question q ∷ xs) (mapped queries)

  keep_advance : (number shard : ℕ) (place : ShardWithBuild) (t : WorldState) → Advances s number shard place t → (t.history ≡ s.history)
      × Keep s.queries t.queries
  keep_advance number shard place t a =
      (ap (λ u. u.history) a.advanced_is, subst (λ u. Keep s.queries u.queries) (sym a.advanced_is) (keep_same s.queries))

  pin_carries : (number shard : ℕ) (said : Told) (t : WorldState) → Pins z s number shard said t → Carries z s (Pin number shard) (Ok said) t
  pin_carries number shard said t a = elim a.pins [
    | inl pinned ↦ moves_place (Pin number shard) said t s (record { entry = refl; question_none = λ n. refl; hit = λ n. refl })
        (λ n. refl) pinned.same refl (keep_same s.queries)
    | inr anew ↦ moves_place (Pin number shard) said t (with_query (with_place s shard anew.place) number a.after)
        (record { entry = refl; question_none = λ n. refl; hit = λ n. refl }) (λ n. refl)
        (anew.pinned ∙ ap (λ mid. with_query mid number a.after) anew.advances.advanced_is) refl
        (keep_set s.queries number a.query a.after a.is_query (after_asks anew) (after_given anew))
  ]
    where
      after_asks : PinsAtFront z s number shard a.query a.after t → question a.after ≡ question a.query
      after_asks p = ap question p.completes.after_is
          ∙ cond_both (nat_lt 0 (unpinned (with_pin a.query shard p.version.layout))) (with_pin a.query shard p.version.layout)
          (with_sources (with_pin a.query shard p.version.layout) p.completes.sources) (λ q. question q ≡ question a.query) (λ m. refl) (λ m. refl)

      after_given : PinsAtFront z s number shard a.query a.after t → a.after.given ≡ a.query.given
      after_given p = ap (λ q. q.given) p.completes.after_is
          ∙ cond_both (nat_lt 0 (unpinned (with_pin a.query shard p.version.layout))) (with_pin a.query shard p.version.layout)
          (with_sources (with_pin a.query shard p.version.layout) p.completes.sources) (λ q. q.given ≡ a.query.given) (λ m. refl) (λ m. refl)

  poll_carries : (number shard budget : ℕ) (said : Told) (t : WorldState) → PollsAt z s number shard budget said t
      → Carries z s (Poll number shard budget) (Ok said) t
  poll_carries number shard budget said t a = elim (cases_Bool (is_due a.g a.source)) [
    | inr held ↦ moves_place (Poll number shard budget) said t s (record { entry = refl; question_none = λ n. refl; hit = λ n. refl }) (λ n. refl)
        (a.held held).1 refl (keep_same s.queries)
    | inl due ↦ (let p = (a.polled due).2 in
        moves_place (Poll number shard budget) said t (with_query s number (with_source a.query a.query.given shard p.new))
        (record { entry = refl; question_none = λ n. refl; hit = λ n. refl }) (λ n. refl) p.after refl
        (keep_set s.queries number a.query (with_source a.query a.query.given shard p.new) a.has.is_query refl refl))
  ]

  cancel_carries : (number : ℕ) (said : Told) (t : WorldState) → CancelsQuery s number said t → Carries z s (Cancel number) (Ok said) t
  cancel_carries number said t a = moves_place (Cancel number) said t (with_query s number (record a.query { front = None; cancelled = true }))
      (record { entry = refl; question_none = λ n. refl; hit = λ n. refl }) (λ n. refl) a.after refl
      (keep_set s.queries number a.query (record a.query { front = None; cancelled = true }) a.is_query refl refl)

  next_taken : (hits : List Hit) (given : ℕ) (hit : Hit) → slice_get hits given ≡ Some hit → hit ∷ [] ≡ take 1 (drop given hits)
  next_taken [] given hit h = absurd (none-some hit h)
  next_taken (first ∷ hits) zero hit h = ap (λ x. x ∷ []) (sym (same_Some first hit h))
  next_taken (first ∷ hits) (suc given) hit h = next_taken hits given hit h

  give_carries : (number : ℕ) (said : Told) (t : WorldState) → GivesNext z s number said t → Carries z s (Give number) (Ok said) t
  give_carries number said t a = elim a.gives [
    | inr other ↦ elim other [
      | inl ends ↦ subst (λ told_now. Carries z s (Give number) (Ok told_now) t) (sym ends.said_is)
          (quiet (Give number) (Ok (told.Ended a.query.given)) t (record { entry = refl; question_none = λ n. refl; hit = λ n. refl })
          (λ n q there end. (let e : number ≡ n = eqb-true number n end in
          let same : q ≡ a.query = one_there (slice_get s.queries number) q a.query
          (subst (λ k. slice_get s.queries k ≡ Some q) (sym e) there) a.has.is_query in
          subst (λ x. x.given ≡ length (answer_on z s.history x)) (sym same) ends.whole))
          (λ n none. ne_eqb number n (λ e. none-some a.query (sym none ∙ subst (λ k. slice_get s.queries k ≡ Some a.query) e a.has.is_query)))
          (ap (λ u. u.history) ends.same) (unmoved t ends.same))
      | inr waits ↦ subst (λ told_now. Carries z s (Give number) (Ok told_now) t) (sym waits.said_is)
          (moves_place (Give number) told.NotYet t s (record { entry = refl; question_none = λ n. refl; hit = λ n. refl }) (λ n. refl) waits.same refl
          (keep_same s.queries))
    ]
    | inl gives ↦ subst (λ told_now. Carries z s (Give number) (Ok told_now) t) (sym gives.said_is) (record {
      entries = ap (λ u. u.history) gives.after ∙ sym (append-nil s.history);
      asked = ap (λ u. map question u.queries) gives.after
          ∙ questions_set s.queries number a.query (with_source a.query (a.query.given + 1) gives.shard gives.new) a.has.is_query refl
          ∙ sym (append-nil (map question s.queries));
      old = λ n q there. elim (cases_Bool (number == n)) [
        | inl this ↦
            (let e : number ≡ n = eqb-true number n this in
            let same : q ≡ a.query = one_there (slice_get s.queries number) q a.query
            (subst (λ k. slice_get s.queries k ≡ Some q) (sym e) there) a.has.is_query in
            let one : (a.query.given + 1) - q.given ≡ 1 = omega (arith, ap (λ x. x.given) same) in
            record {
              after = with_source a.query (a.query.given + 1) gives.shard gives.new;
              is_there = ap (λ u. slice_get u.queries n) gives.after
                  ∙ subst (λ k. slice_get (slice_set s.queries number (with_source a.query (a.query.given + 1) gives.shard gives.new)) k ≡ Some
                  (with_source a.query (a.query.given + 1) gives.shard gives.new)) e
                  (get_same s.queries number a.query (with_source a.query (a.query.given + 1) gives.shard gives.new) a.has.is_query);
              same = ap question (sym same);
              more = omega (arith, ap (λ x. x.given) same);
              hits = ap (λ b. cond b (gives.hit ∷ []) []) this
                  ∙ next_taken (answer_on z s.history a.query) a.query.given gives.hit gives.next
                  ∙ ap (λ x. take 1 (drop x.given (answer_on z s.history x))) (sym same)
                  ∙ ap (λ k. take k (drop q.given (answer_on z s.history q))) (sym one);
              ended = λ end. cc;
            })
        | inr elsewhere ↦ record {
          after = q;
          is_there = ap (λ u. slice_get u.queries n) gives.after
              ∙ get_other s.queries number n (with_source a.query (a.query.given + 1) gives.shard gives.new)
              (λ e. both_ways (number == n) elsewhere (eq-eqb number n (sym e))) ∙ there;
          same = refl;
          more = omega arith;
          hits = ap (λ b. cond b (gives.hit ∷ []) []) elsewhere
              ∙ sym (ap (λ k. take k (drop q.given (answer_on z s.history q))) (let e : q.given - q.given ≡ 0 = omega arith in e));
          ended = λ end. cc;
        }
      ];
      new = λ n none. record {
        none = ap (λ b. cond b (gives.hit ∷ []) [])
            (ne_eqb number n (λ e. none-some a.query (sym none ∙ subst (λ k. slice_get s.queries k ≡ Some a.query) e a.has.is_query)));
        goes_on = refl;
        fresh = λ q there. absurd (none-some q (sym
            (ap (λ u. slice_get u.queries n) gives.after
            ∙ set_none s.queries number n (with_source a.query (a.query.given + 1) gives.shard gives.new) none)
            ∙ there));
      };
    })
  ]

  does_carries : (event : Event) (said : Told) (t : WorldState) → Does z s event said t → Carries z s event (Ok said) t
  does_carries (Commit who operation) said t a = commit_carries who operation said t a
  does_carries (Open who ask) said t a = open_carries who ask said t a
  does_carries (Advance number shard) said t a = moves_place (Advance number shard) said t t
      (record { entry = refl; question_none = λ n. refl; hit = λ n. refl }) (λ n. refl) refl (keep_advance number shard a.after t a.advances).0
      (keep_advance number shard a.after t a.advances).1
  does_carries (Pin number shard) said t a = pin_carries number shard said t a
  does_carries (Poll number shard budget) said t a = poll_carries number shard budget said t a
  does_carries (Give number) said t a = give_carries number said t a
  does_carries (Cancel number) said t a = cancel_carries number said t a
  does_carries (BuildStart shard layout) said t a = moves_place (BuildStart shard layout) said t _
      (record { entry = refl; question_none = λ n. refl; hit = λ n. refl }) (λ n. refl) a.after refl (keep_same s.queries)
  does_carries (BuildStep shard rows) said t a = moves_place (BuildStep shard rows) said t _
      (record { entry = refl; question_none = λ n. refl; hit = λ n. refl }) (λ n. refl) a.after refl (keep_same s.queries)
  does_carries (Follow shard) said t a = moves_place (Follow shard) said t _ (record { entry = refl; question_none = λ n. refl; hit = λ n. refl })
      (λ n. refl) a.after refl (keep_same s.queries)
  does_carries (Swap shard) said t a = moves_place (Swap shard) said t _ (record { entry = refl; question_none = λ n. refl; hit = λ n. refl })
      (λ n. refl) a.after refl (keep_same s.queries)

  leaves_keep : (event : Event) (t : WorldState) → (t ≡ s) ⊎ OnlyAdvances s event t → (t.history ≡ s.history) × Keep s.queries t.queries
  leaves_keep event t left = elim left [
    | inl same ↦
        (ap (λ u. u.history) same, unmoved t same)
    | inr moved ↦ keep_advance moved.query moved.shard moved.after t moved.advances
  ]

  pub step_carries : (event : Event) (answer : Answer) (t : WorldState) → WorldStep z s event answer t → Carries z s event answer t
  step_carries event (Ok said) t step = does_carries event said t step.1
  step_carries event (Err why) t step = elim step [
    | inl no_step ↦ refused event why t (ap (λ u. u.history) no_step.1) (unmoved t no_step.1)
    | inr nomem ↦ (let left = leaves_keep event t nomem.leaves in refused event why t left.0 left.1)
  ]
