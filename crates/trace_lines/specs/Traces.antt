-- A trace: the lines that a world reads, and what it answers to each.
use Rattle.std.specs.Prelude.{◌≡◌, ℕ, List, [], ◌∷◌, map, Some, None, Ok, Err}
use Rattle.std.specs.List.{AllByRecursion}
use Rattle.query_protocol.specs.Replies.{reply_line}
use Rattle.query_protocol.specs.Replies as reply
use Rattle.query_protocol.specs.declared.bad.Bad.{Bad}
use Rattle.world_model.specs.Answers.{AnswersAll}
use Rattle.world_model.specs.Events.{Event, Setting, IsFormed}
use Rattle.world_model.specs.Runs.{Answer}
use Rattle.world_model.specs.WorldState.{WorldState}
use Rattle.trace_lines.specs.AnswerTexts.{answer_line, subject}
use Rattle.trace_lines.specs.EventLines.{EventReading, event_reading}
use Rattle.trace_lines.specs.EventRequests.{AsksLayout}

-- what becomes of a line: nothing, where it asks nothing; its fault is told, or that there was no
-- memory to read its layout; or its event is answered
pub data LineMet : Type 0 where
  Skipped : LineMet
  Faulty : Bad → LineMet
  Unread : LineMet
  Met : Event → Answer → LineMet

-- a line asks for a build
abbrev pub ReadsLayout : EventReading → Type 0
ReadsLayout (Ok (Some event)) = AsksLayout (Ok event)
ReadsLayout reading = ⊥

-- this may become of a line
abbrev pub Becomes : ℕ → List ℕ → LineMet → Type 0
Becomes bits line Skipped = event_reading bits line ≡ Ok None
Becomes bits line (Faulty fault) = event_reading bits line ≡ Err fault
Becomes bits line Unread = ReadsLayout (event_reading bits line)
Becomes bits line (Met event answer) = event_reading bits line ≡ Ok (Some event)

-- what is written then
abbrev pub met_text : LineMet → List ℕ
met_text Skipped = []
met_text (Faulty fault) = reply_line (reply.Bad fault)
met_text Unread = reply_line reply.NoMemory
met_text (Met event answer) = answer_line (subject event) answer

-- the line is no event
abbrev pub IsNoEvent : LineMet → Type 0
IsNoEvent (Met event answer) = ⊥
IsNoEvent other = Unit {0}

-- the events among the lines, in their order
abbrev pub events_met : List LineMet → List Event
events_met [] = []
events_met (Met event answer ∷ others) = event ∷ events_met others
events_met (other ∷ others) = events_met others

-- and their answers
abbrev pub answers_met : List LineMet → List Answer
answers_met [] = []
answers_met (Met event answer ∷ others) = answer ∷ answers_met others
answers_met (other ∷ others) = answers_met others

-- each line becomes what stands at its place
abbrev pub BecomeInOrder : ℕ → List (List ℕ) → List LineMet → Type 0
BecomeInOrder bits [] [] = Unit {0}
BecomeInOrder bits [] (met ∷ others) = ⊥
BecomeInOrder bits (line ∷ lines) [] = ⊥
BecomeInOrder bits (line ∷ lines) (met ∷ others) =
    Becomes bits line met × BecomeInOrder bits lines others

-- a world, from one state to another, answers these lines by these texts: its events and their
-- answers are any that may follow one another, so that each query answers its own prefix
pub record IsTrace (z : Setting) (s : WorldState) (lines texts : List (List ℕ)) (t : WorldState)
    : Type 0 where
  pub met : List LineMet
  pub become : BecomeInOrder z.bits lines met
  pub texts_are : texts ≡ map met_text met
  pub formed : AllByRecursion (IsFormed z) (events_met met)
  pub answers : AnswersAll z s (events_met met) (answers_met met) t
