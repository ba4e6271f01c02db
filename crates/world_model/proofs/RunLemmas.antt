-- Runs of events: they stay sound, and each query answers its own prefix within its bound.
use Rattle.std.proofs.Common.{◌≡◌, ℕ, zero, suc, ◌+◌, ◌-◌, ◌≤◌, List, [], ◌∷◌, ◌++◌, length, map, take, drop, refl, sym, ap, ◌∙◌, subst, arith, true, inl, inr}
use Rattle.std.specs.Prelude.{Option, Some, None, Ok, Err, slice_get}
use Rattle.std.specs.List.{AllByRecursion}
use Rattle.std.proofs.lemmas.Bool.{both_ways, or_cases}
use Rattle.std.proofs.Math.Seq.{take-length}
use Rattle.std.proofs.lemmas.List.{append-nil, append_assoc, length-append, length-map, drop-drop}
use Rattle.hamming_model.specs.History.{JournalEntry, rows_of}
use Rattle.hamming_model.specs.Scan.{Ask, answer}
use Rattle.hamming_model.specs.declared.hit.Hit.{Hit}
use Rattle.world_model.specs.Answers.{question, given_before, AnswersAll}
use Rattle.world_model.specs.Events.{Setting, Event, Open, IsFormed}
use Rattle.world_model.specs.Runs.{Answer, IsRun, IsSoundRun, TellOpenings, TellsOpening, committed_entries, committed_entry, has_ended, hits_given, questions_from, question_of, tells_end}
use Rattle.world_model.specs.Sound.{IsSound}
use Rattle.world_model.specs.WorldState.{WorldState, WorldQuery, answer_on}
use Rattle.world_model.specs.WorldStep.{WorldStep}
use Rattle.world_model.proofs.Lookups.{one_there}
use Rattle.world_model.proofs.GrowthLemmas.{answer_grows}
use Rattle.world_model.proofs.ReadLemmas.{reads_within}
use Rattle.world_model.proofs.StepLemmas.{step_sound}
use Rattle.world_model.proofs.CarryLemmas.{Continues, Starts, step_carries}

-- ---- runs
pub run_sound : (z : Setting) (s : WorldState) (events : List Event) (answers : List Answer) (t : WorldState) → AllByRecursion (IsFormed z) events
    → IsSound z s
    → IsRun z s events answers t → IsSoundRun z s events answers t
run_sound z s [] [] t formed is run = run
run_sound z s [] (answer ∷ answers) t formed is run = run
run_sound z s (event ∷ events) [] t formed is run = run
run_sound z s (event ∷ events) (answer ∷ answers) t formed is run =
    let mid_is = step_sound z s is event answer run.0 formed.0 run.1 in
    (run.0, run.1, mid_is, run_sound z run.0 events answers t formed.1 mid_is run.2)

-- a run and one step more
pub run_on : (z : Setting) (s : WorldState) (events : List Event) (answers : List Answer) (mid : WorldState) (event : Event) (answer : Answer)
    (t : WorldState)
    → IsRun z s events answers mid → WorldStep z mid event answer t → IsRun z s (events ++ event ∷ []) (answers ++ answer ∷ []) t
run_on z s [] [] mid event answer t run step = (t, subst (λ u. WorldStep z u event answer t) run step, refl)
run_on z s [] (a ∷ answers) mid event answer t run step = absurd run
run_on z s (e ∷ events) [] mid event answer t run step = absurd run
run_on z s (e ∷ events) (a ∷ answers) mid event answer t run step = (run.0, run.1, run_on z run.0 events answers mid event answer t run.2 step)

pub last_sound : (z : Setting) (s : WorldState) (events : List Event) (answers : List Answer) (t : WorldState) → AllByRecursion (IsFormed z) events
    → IsSound z s
    → IsRun z s events answers t → IsSound z t
last_sound z s [] [] t formed is run = subst (IsSound z) (sym run) is
last_sound z s [] (answer ∷ answers) t formed is run = absurd run
last_sound z s (event ∷ events) [] t formed is run = absurd run
last_sound z s (event ∷ events) (answer ∷ answers) t formed is run = last_sound z run.0 events answers t formed.1
    (step_sound z s is event answer run.0 formed.0 run.1) run.2

run_history : (z : Setting) (s : WorldState) (events : List Event) (answers : List Answer) (t : WorldState) → IsRun z s events answers t
    → t.history ≡ s.history ++ committed_entries events answers
run_history z s [] [] t run = ap (λ u. u.history) run ∙ sym (append-nil s.history)
run_history z s [] (answer ∷ answers) t run = absurd run
run_history z s (event ∷ events) [] t run = absurd run
run_history z s (event ∷ events) (answer ∷ answers) t run =
    run_history z run.0 events answers t run.2
    ∙ ap (λ h. h ++ committed_entries events answers) (step_carries z s event answer run.0 run.1).entries
    ∙ append_assoc s.history (committed_entry event answer) (committed_entries events answers)

run_questions : (z : Setting) (s : WorldState) (events : List Event) (answers : List Answer) (t : WorldState) → IsRun z s events answers t
    → map question t.queries ≡ map question s.queries ++ questions_from (length s.history) events answers
run_questions z s [] [] t run = ap (λ u. map question u.queries) run ∙ sym (append-nil (map question s.queries))
run_questions z s [] (answer ∷ answers) t run = absurd run
run_questions z s (event ∷ events) [] t run = absurd run
run_questions z s (event ∷ events) (answer ∷ answers) t run =
    let c = step_carries z s event answer run.0 run.1 in
    let longer : length run.0.history ≡ length s.history + length (committed_entry event answer) = ap length c.entries
    ∙ length-append s.history (committed_entry event answer) in
    run_questions z run.0 events answers t run.2
    ∙ ap (λ qs. qs ++ questions_from (length run.0.history) events answers) c.asked
    ∙ append_assoc (map question s.queries) (question_of (length s.history) event answer) (questions_from (length run.0.history) events answers)
    ∙ ap (λ n. map question s.queries ++ (question_of (length s.history) event answer ++ questions_from n events answers)) longer

-- a query that stands stays, with its question
run_keeps : (z : Setting) (s : WorldState) (events : List Event) (answers : List Answer) (t : WorldState) → IsRun z s events answers t
    → (number : ℕ) (query after : WorldQuery) → slice_get s.queries number ≡ Some query → slice_get t.queries number ≡ Some after
    → question after ≡ question query
run_keeps z s [] [] t run number query after there later = ap question
    (one_there (slice_get t.queries number) after query later (ap (λ u. slice_get u.queries number) run ∙ there))
run_keeps z s [] (answer ∷ answers) t run number query after there later = absurd run
run_keeps z s (event ∷ events) [] t run number query after there later = absurd run
run_keeps z s (event ∷ events) (answer ∷ answers) t run number query after there later =
    let c = (step_carries z s event answer run.0 run.1).old number query there in
    run_keeps z run.0 events answers t run.2 number c.after after c.is_there later ∙ c.same

-- ---- hits
abbrev answer_at : ℕ → ℕ → List JournalEntry → Ask → List Hit
answer_at bits position history ask = answer bits (rows_of (take position history)) ask

-- the hits of an answer from one number to another
abbrev between : ℕ → ℕ → List Hit → List Hit
between from to hits = take (to - from) (drop from hits)

taken_of_none : (n : ℕ) → take n (let hits : List Hit = [] in hits) ≡ []
taken_of_none zero = refl
taken_of_none (suc n) = refl

taken_on : (n m : ℕ) (hits : List Hit) → take n hits ++ take m (drop n hits) ≡ take (n + m) hits
taken_on zero m hits = ap (λ k. take k hits) (let e : m ≡ 0 + m = omega arith in e)
taken_on (suc n) m [] = taken_of_none m ∙ sym (taken_of_none (suc n + m))
taken_on (suc n) m (hit ∷ hits) = ap (λ xs. hit ∷ xs) (taken_on n m hits)
    ∙ ap (λ k. take k (hit ∷ hits)) (let e : suc (n + m) ≡ suc n + m = omega arith in e)

between_on : (from mid to : ℕ) (hits : List Hit) → from ≤ mid → mid ≤ to → between from mid hits ++ between mid to hits ≡ between from to hits
between_on from mid to hits first second =
    let there : from + (mid - from) ≡ mid = omega (arith, first) in
    let sum : (mid - from) + (to - mid) ≡ to - from = omega (arith, first, second) in
    ap (λ k. between from mid hits ++ take (to - mid) (drop k hits)) (sym there)
    ∙ ap (λ xs. between from mid hits ++ take (to - mid) xs) (sym (drop-drop (mid - from) from hits))
    ∙ taken_on (mid - from) (to - mid) (drop from hits)
    ∙ ap (λ k. take k (drop from hits)) sum

-- what a query is given from a state on, up to a last one
record GivesOn (z : Setting) (number from : ℕ) (events : List Event) (answers : List Answer) (history : List JournalEntry)
    (query : WorldQuery) : Type 0 where
  hits : hits_given number events answers ≡ between from query.given (answer_on z history query)
  rises : from ≤ query.given
  ended : has_ended number events answers ≡ true → query.given ≡ length (answer_on z history query)

run_gives : (z : Setting) (s : WorldState) (events : List Event) (answers : List Answer) (t : WorldState) → AllByRecursion (IsFormed z) events
    → IsSound z s
    → IsRun z s events answers t → (number : ℕ) (query : WorldQuery) → slice_get t.queries number ≡ Some query
    → GivesOn z number (given_before (slice_get s.queries number)) events answers t.history query
run_gives z s [] [] t formed is run number query there =
    let same : given_before (slice_get s.queries number) ≡ query.given = ap given_before (sym (ap (λ u. slice_get u.queries number) run) ∙ there) in
    record {
      hits = sym (ap (λ k. take k (drop (given_before (slice_get s.queries number)) (answer_on z t.history query)))
          (let e : query.given - given_before (slice_get s.queries number) ≡ 0 = omega (arith, same) in e));
      rises = omega (arith, same);
      ended = λ end. cc;
    }
run_gives z s [] (answer ∷ answers) t formed is run number query there = absurd run
run_gives z s (event ∷ events) [] t formed is run number query there = absurd run
run_gives z s (event ∷ events) (answer ∷ answers) t formed is run number query there =
    by_before (run_gives z run.0 events answers t formed.1 (step_sound z s is event answer run.0 formed.0 run.1) run.2 number query there)
    (slice_get s.queries number) refl
  where
    mid_is : IsSound z run.0
    mid_is = step_sound z s is event answer run.0 formed.0 run.1

    few : query.given ≤ length (answer_on z t.history query)
    few = ((last_sound z run.0 events answers t formed.1 mid_is run.2).queries number query there).given

    -- the answer is the one of before
    same_answer : (before : WorldQuery) → slice_get s.queries number ≡ Some before → answer_on z s.history before ≡ answer_on z t.history query
    same_answer before was =
        let asked : question query ≡ question before = run_keeps z s (event ∷ events) (answer ∷ answers) t run number before query was there in
        sym (answer_grows z s.history (committed_entries (event ∷ events) (answer ∷ answers)) before (is.queries number before was).within)
        ∙ ap (λ h. answer_on z h before) (sym (run_history z s (event ∷ events) (answer ∷ answers) t run))
        ∙ ap (λ (q : Ask × ℕ). answer_at z.bits q.1 t.history q.0) (sym asked)

    of_old : GivesOn z number (given_before (slice_get run.0.queries number)) events answers t.history query → (before : WorldQuery)
        → slice_get s.queries number ≡ Some before → Continues z s number before event answer run.0
        → GivesOn z number before.given (event ∷ events) (answer ∷ answers) t.history query
    of_old rest before was c =
        let at_mid : given_before (slice_get run.0.queries number) ≡ c.after.given = ap given_before c.is_there in
        let on : c.after.given ≤ query.given = omega (arith, at_mid, rest.rises) in
        let same = same_answer before was in
        record {
          hits = ap (λ hit. hit ++ hits_given number events answers) (c.hits ∙ ap (λ hits. between before.given c.after.given hits) same)
              ∙ ap (λ hits. between before.given c.after.given (answer_on z t.history query) ++ hits)
              (rest.hits ∙ ap (λ k. between k query.given (answer_on z t.history query)) at_mid)
              ∙ between_on before.given c.after.given query.given (answer_on z t.history query) c.more on;
          rises = omega (arith, c.more, on);
          ended = λ end. elim (or_cases (tells_end number event answer) (has_ended number events answers) end) [
            | inl now ↦ omega (arith, c.ended now, on, few, ap length same)
            | inr later ↦ rest.ended later
          ];
        }

    fresh_mid : Starts number event answer run.0 → (o : Option WorldQuery) → slice_get run.0.queries number ≡ o → given_before o ≡ 0
    fresh_mid st None e = refl
    fresh_mid st (Some q) e = st.fresh q e

    of_new : GivesOn z number (given_before (slice_get run.0.queries number)) events answers t.history query → Starts number event answer run.0
        → GivesOn z number 0 (event ∷ events) (answer ∷ answers) t.history query
    of_new rest st =
        let at_mid : given_before (slice_get run.0.queries number) ≡ 0 = fresh_mid st (slice_get run.0.queries number) refl in
        record {
          hits = ap (λ hit. hit ++ hits_given number events answers) st.none ∙ rest.hits
              ∙ ap (λ k. between k query.given (answer_on z t.history query)) at_mid;
          rises = omega arith;
          ended = λ end. elim (or_cases (tells_end number event answer) (has_ended number events answers) end) [
            | inl now ↦ absurd (both_ways (tells_end number event answer) st.goes_on now)
            | inr later ↦ rest.ended later
          ];
        }

    by_before : GivesOn z number (given_before (slice_get run.0.queries number)) events answers t.history query → (o : Option WorldQuery)
        → slice_get s.queries number ≡ o → GivesOn z number (given_before o) (event ∷ events) (answer ∷ answers) t.history query
    by_before rest None none = of_new rest ((step_carries z s event answer run.0 run.1).new number none)
    by_before rest (Some before) was = of_old rest before was ((step_carries z s event answer run.0 run.1).old number before was)

-- ---- openings
tells_opening : (z : Setting) (s : WorldState) (event : Event) (answer : Answer) (t : WorldState) → WorldStep z s event answer t
    → TellsOpening (length s.queries) (length s.history) event answer
tells_opening z s event (Err why) t step = tt
tells_opening z s (Open who ask) (Ok said) t step = step.1.said_is
tells_opening z s event (Ok said) t step = tt

run_openings : (z : Setting) (s : WorldState) (events : List Event) (answers : List Answer) (t : WorldState) → IsRun z s events answers t
    → TellOpenings (length s.queries) (length s.history) events answers
run_openings z s [] answers t run = tt
run_openings z s (event ∷ events) [] t run = tt
run_openings z s (event ∷ events) (answer ∷ answers) t run =
    let c = step_carries z s event answer run.0 run.1 in
    let longer : length run.0.history ≡ length s.history + length (committed_entry event answer) = ap length c.entries
    ∙ length-append s.history (committed_entry event answer) in
    let more : length run.0.queries ≡ length s.queries + length (question_of (length s.history) event answer) =
    sym (length-map run.0.queries question) ∙ ap length c.asked ∙ length-append (map question s.queries) (question_of (length s.history) event answer)
    ∙ ap (λ n. n + length (question_of (length s.history) event answer)) (length-map s.queries question) in (
      tells_opening z s event answer run.0 run.1,
      subst (λ n. TellOpenings n (length s.history + length (committed_entry event answer)) events answers) more
          (subst (λ n. TellOpenings (length run.0.queries) n events answers) longer (run_openings z run.0 events answers t run.2)),
    )

-- ---- any list of events
pub every_run : (z : Setting) (s : WorldState) (events : List Event) (answers : List Answer) (t : WorldState) → AllByRecursion (IsFormed z) events
    → IsSound z s
    → IsRun z s events answers t → AnswersAll z s events answers t
every_run z s events answers t formed is run =
    let last = last_sound z s events answers t formed is run in
    record {
      run = run_sound z s events answers t formed is run;
      history = run_history z s events answers t run;
      questions = run_questions z s events answers t run;
      openings = run_openings z s events answers t run;
      each = λ number query there.
          (let gives = run_gives z s events answers t formed is run number query there in
          let query_is = last.queries number query there in
          let before : ℕ = given_before (slice_get s.queries number) in
          record {
            next = ap (λ k. take k (answer_on z t.history query))
                (let e : query.given ≡ before + (query.given - before) = omega (arith, gives.rises) in e)
                ∙ sym (taken_on before (query.given - before) (answer_on z t.history query))
                ∙ ap (λ hits. take before (answer_on z t.history query) ++ hits) (sym gives.hits);
            within = query_is.given;
            whole = gives.ended;
            reads = λ shard source has. reads_within z t.history query shard source query_is (query_is.sources shard source has);
          });
    }

-- a query that was opened among the events and has ended was given its whole answer
pub ended_is_whole : (z : Setting) (s : WorldState) (events : List Event) (answers : List Answer) (t : WorldState) (number : ℕ) (query : WorldQuery)
    → AnswersAll z s events answers t → slice_get s.queries number ≡ None → slice_get t.queries number ≡ Some query
    → has_ended number events answers ≡ true → hits_given number events answers ≡ answer_on z t.history query
ended_is_whole z s events answers t number query is none there ended =
    let own = is.each number query there in
    sym (own.next ∙ ap (λ before. take (given_before before) (answer_on z t.history query) ++ hits_given number events answers) none)
    ∙ ap (λ n. take n (answer_on z t.history query)) (own.whole ended)
    ∙ take-length (answer_on z t.history query)
