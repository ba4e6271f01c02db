-- Lemmas on traces: one line more.
use Rattle.std.proofs.Common.{◌≡◌, ℕ, List, [], ◌∷◌, ◌++◌, map, refl, sym, ap, ◌∙◌, subst}
use Rattle.std.specs.List.{AllByRecursion}
use Rattle.world_model.specs.Answers.{AnswersAll}
use Rattle.world_model.specs.Events.{Event, Setting, IsFormed}
use Rattle.world_model.specs.Runs.{Answer, IsRun, IsSoundRun}
use Rattle.world_model.specs.Sound.{IsSound}
use Rattle.world_model.specs.WorldState.{WorldState}
use Rattle.world_model.specs.WorldStep.{WorldStep}
use Rattle.trace_lines.specs.Traces.{Becomes, BecomeInOrder, IsNoEvent, IsTrace, LineMet, Skipped, Faulty, Unread, Met}
use Rattle.trace_lines.specs.Traces.{answers_met, events_met, met_text}

-- a run, and one event more
run_more : (z : Setting) (s : WorldState) (events : List Event) (answers : List Answer) (t : WorldState)
    (event : Event) (answer : Answer) (after : WorldState) → IsSoundRun z s events answers t
    → WorldStep z t event answer after → IsRun z s (events ++ event ∷ []) (answers ++ answer ∷ []) after
run_more z s [] [] t event answer after run step =
    (after, subst (λ m. WorldStep z m event answer after) run step, refl)
run_more z s [] (a ∷ as') t event answer after run step = absurd run
run_more z s (e ∷ events) [] t event answer after run step = absurd run
run_more z s (e ∷ events) (a ∷ answers) t event answer after run step =
    (run.0, run.1, run_more z run.0 events answers t event answer after run.3 step)

-- all events, and one more
formed_more : (z : Setting) (events : List Event) (event : Event) → AllByRecursion (IsFormed z) events
    → IsFormed z event → AllByRecursion (IsFormed z) (events ++ event ∷ [])
formed_more z [] event all one = (one, tt)
formed_more z (e ∷ events) event all one = (all.0, formed_more z events event all.1 one)

-- the lines, and one more
become_more : (bits : ℕ) (lines : List (List ℕ)) (all : List LineMet) (line : List ℕ) (met : LineMet)
    → BecomeInOrder bits lines all → Becomes bits line met
    → BecomeInOrder bits (lines ++ line ∷ []) (all ++ met ∷ [])
become_more bits [] [] line met become one = (one, tt)
become_more bits [] (m ∷ all) line met become one = absurd become
become_more bits (l ∷ lines) [] line met become one = absurd become
become_more bits (l ∷ lines) (m ∷ all) line met become one =
    (become.0, become_more bits lines all line met become.1 one)

-- the texts, and one more
texts_more : (all : List LineMet) (met : LineMet)
    → map met_text all ++ met_text met ∷ [] ≡ map met_text (all ++ met ∷ [])
texts_more [] met = refl
texts_more (m ∷ all) met = ap (λ l. met_text m ∷ l) (texts_more all met)

-- the events, and one more
events_more : (all : List LineMet) (event : Event) (answer : Answer)
    → events_met (all ++ Met event answer ∷ []) ≡ events_met all ++ event ∷ []
events_more [] event answer = refl
events_more (Skipped ∷ all) event answer = events_more all event answer
events_more (Faulty fault ∷ all) event answer = events_more all event answer
events_more (Unread ∷ all) event answer = events_more all event answer
events_more (Met e a ∷ all) event answer = ap (λ l. e ∷ l) (events_more all event answer)

answers_more : (all : List LineMet) (event : Event) (answer : Answer)
    → answers_met (all ++ Met event answer ∷ []) ≡ answers_met all ++ answer ∷ []
answers_more [] event answer = refl
answers_more (Skipped ∷ all) event answer = answers_more all event answer
answers_more (Faulty fault ∷ all) event answer = answers_more all event answer
answers_more (Unread ∷ all) event answer = answers_more all event answer
answers_more (Met e a ∷ all) event answer = ap (λ l. a ∷ l) (answers_more all event answer)

-- the events, and a line that is none
events_alone : (met : LineMet) → IsNoEvent met → events_met (met ∷ []) ≡ []
events_alone Skipped is = refl
events_alone (Faulty fault) is = refl
events_alone Unread is = refl
events_alone (Met event answer) is = absurd is

answers_alone : (met : LineMet) → IsNoEvent met → answers_met (met ∷ []) ≡ []
answers_alone Skipped is = refl
answers_alone (Faulty fault) is = refl
answers_alone Unread is = refl
answers_alone (Met event answer) is = absurd is

events_same : (all : List LineMet) (met : LineMet) → IsNoEvent met → events_met (all ++ met ∷ []) ≡ events_met all
events_same [] met is = events_alone met is
events_same (Skipped ∷ all) met is = events_same all met is
events_same (Faulty fault ∷ all) met is = events_same all met is
events_same (Unread ∷ all) met is = events_same all met is
events_same (Met e a ∷ all) met is = ap (λ l. e ∷ l) (events_same all met is)

answers_same : (all : List LineMet) (met : LineMet) → IsNoEvent met → answers_met (all ++ met ∷ []) ≡ answers_met all
answers_same [] met is = answers_alone met is
answers_same (Skipped ∷ all) met is = answers_same all met is
answers_same (Faulty fault ∷ all) met is = answers_same all met is
answers_same (Unread ∷ all) met is = answers_same all met is
answers_same (Met e a ∷ all) met is = ap (λ l. a ∷ l) (answers_same all met is)

-- a trace, and a line more that is no event
pub told_more : (z : Setting) (s : WorldState) (lines texts : List (List ℕ)) (t : WorldState)
    (line : List ℕ) (met : LineMet) → IsTrace z s lines texts t → Becomes z.bits line met → IsNoEvent met
    → IsTrace z s (lines ++ line ∷ []) (texts ++ met_text met ∷ []) t
told_more z s lines texts t line met trace become is =
    let all = trace.met ++ met ∷ [] in
    let events = sym (events_same trace.met met is) in
    let answers = sym (answers_same trace.met met is) in
    record {
      met = all;
      become = become_more z.bits lines trace.met line met trace.become become;
      texts_are = ap (λ l. l ++ met_text met ∷ []) trace.texts_are ∙ texts_more trace.met met;
      formed = subst (λ l. AllByRecursion (IsFormed z) l) events trace.formed;
      answers = subst (λ l. AnswersAll z s (events_met all) l t) answers
          (subst (λ l. AnswersAll z s l (answers_met trace.met) t) events trace.answers);
    }

-- every run from a sound state answers all
abbrev EachRunAnswers : Type 0
EachRunAnswers = (z : Setting) (s : WorldState) (events : List Event) (answers : List Answer) (t : WorldState)
    → AllByRecursion (IsFormed z) events → IsSound z s → IsRun z s events answers t
    → AnswersAll z s events answers t

-- a trace, and an event more
pub met_more : EachRunAnswers → (z : Setting) (s : WorldState) (lines texts : List (List ℕ)) (t : WorldState)
    (line : List ℕ) (event : Event) (answer : Answer) (after : WorldState) → IsSound z s
    → IsTrace z s lines texts t → Becomes z.bits line (Met event answer) → IsFormed z event
    → WorldStep z t event answer after
    → IsTrace z s (lines ++ line ∷ []) (texts ++ met_text (Met event answer) ∷ []) after
met_more all_runs z s lines texts t line event answer after sound trace become formed step =
    let met = Met event answer in
    let all = trace.met ++ met ∷ [] in
    let events = sym (events_more trace.met event answer) in
    let answers = sym (answers_more trace.met event answer) in
    let each = formed_more z (events_met trace.met) event trace.formed formed in
    let run = run_more z s (events_met trace.met) (answers_met trace.met) t event answer after trace.answers.run step in
    let whole = all_runs z s (events_met trace.met ++ event ∷ []) (answers_met trace.met ++ answer ∷ []) after each sound run in
    record {
      met = all;
      become = become_more z.bits lines trace.met line met trace.become become;
      texts_are = ap (λ l. l ++ met_text met ∷ []) trace.texts_are ∙ texts_more trace.met met;
      formed = subst (λ l. AllByRecursion (IsFormed z) l) events each;
      answers = subst (λ l. AnswersAll z s (events_met all) l after) answers
          (subst (λ l. AnswersAll z s l (answers_met trace.met ++ answer ∷ []) after) events whole);
    }

-- before the first line
pub begins : EachRunAnswers → (z : Setting) (s : WorldState) → IsSound z s → IsTrace z s [] [] s
begins all_runs z s sound = record {
  met = [];
  become = tt;
  texts_are = refl;
  formed = tt;
  answers = all_runs z s [] [] s tt sound refl;
}

-- the state after a run is sound
sound_after : (z : Setting) (s : WorldState) (events : List Event) (answers : List Answer) (t : WorldState)
    → IsSound z s → IsSoundRun z s events answers t → IsSound z t
sound_after z s [] [] t sound run = subst (IsSound z) (sym run) sound
sound_after z s [] (a ∷ answers) t sound run = absurd run
sound_after z s (e ∷ events) [] t sound run = absurd run
sound_after z s (e ∷ events) (a ∷ answers) t sound run = sound_after z run.0 events answers t run.2 run.3

-- so is that after a trace
pub stays_sound : (z : Setting) (s : WorldState) (lines texts : List (List ℕ)) (t : WorldState)
    → IsSound z s → IsTrace z s lines texts t → IsSound z t
stays_sound z s lines texts t sound trace =
    sound_after z s (events_met trace.met) (answers_met trace.met) t sound trace.answers.run
