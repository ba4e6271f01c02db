-- Lists of events with their answers, and what these tell: entries, questions, hits, ends.
use Rattle.std.specs.Prelude.{◌≡◌, ℕ, ◌+◌, ◌==◌, ◌||◌, if◌then◌else◌, false, Bool, List, [], ◌∷◌, ◌++◌, length, Result, Ok, Err}
use Rattle.hamming_model.specs.History.{JournalEntry, after_decision}
use Rattle.hamming_model.specs.Scan.{Ask}
use Rattle.hamming_model.specs.declared.hit.Hit.{Hit}
use Rattle.entry_log.specs.Decisions.{decision_of}
use Rattle.world_model.specs.declared.refused.Refused.{Refused}
use Rattle.world_model.specs.declared.told.Told.{Told}
use Rattle.world_model.specs.declared.told.Told.TheVariants as told
use Rattle.world_model.specs.Events.{Setting, Event, Commit, Open, Give}
use Rattle.world_model.specs.WorldState.{WorldState}
use Rattle.world_model.specs.Sound.{IsSound}
use Rattle.world_model.specs.WorldStep.{WorldStep}

-- an answer: what was told, or why the event was refused
abbrev pub Answer : Type 0
Answer = Result Told Refused

-- the answers are those of the events, one step after another
abbrev pub IsRun : Setting → WorldState → List Event → List Answer → WorldState → Type 0
IsRun z s [] [] t = t ≡ s
IsRun z s [] (answer ∷ answers) t = ⊥
IsRun z s (event ∷ events) [] t = ⊥
IsRun z s (event ∷ events) (answer ∷ answers) t =
    (mid : WorldState) × WorldStep z s event answer mid × IsRun z mid events answers t

-- the same, and the state between any two events is sound
abbrev pub IsSoundRun : Setting → WorldState → List Event → List Answer → WorldState → Type 0
IsSoundRun z s [] [] t = t ≡ s
IsSoundRun z s [] (answer ∷ answers) t = ⊥
IsSoundRun z s (event ∷ events) [] t = ⊥
IsSoundRun z s (event ∷ events) (answer ∷ answers) t = (mid : WorldState)
    × WorldStep z s event answer mid × IsSound z mid × IsSoundRun z mid events answers t

-- the hit that an answer gives for a query
abbrev pub hit_given : ℕ → Event → Answer → List Hit
hit_given number event (Err why) = []
hit_given number (Give query) (Ok (told.Gave hit)) = if query == number then hit ∷ [] else []
hit_given number event (Ok said) = []

-- the hits that a query was given, in order
abbrev pub hits_given : ℕ → List Event → List Answer → List Hit
hits_given number [] answers = []
hits_given number (event ∷ events) [] = []
hits_given number (event ∷ events) (answer ∷ answers) =
    hit_given number event answer ++ hits_given number events answers

-- whether an answer tells that a query has ended
abbrev pub tells_end : ℕ → Event → Answer → Bool
tells_end number event (Err why) = false
tells_end number (Give query) (Ok (told.Ended count)) = query == number
tells_end number event (Ok said) = false

-- whether some answer tells it
abbrev pub has_ended : ℕ → List Event → List Answer → Bool
has_ended number [] answers = false
has_ended number (event ∷ events) [] = false
has_ended number (event ∷ events) (answer ∷ answers) =
    tells_end number event answer || has_ended number events answers

-- the entry that an event commits, by its answer
abbrev pub committed_entry : Event → Answer → List JournalEntry
committed_entry event (Err why) = []
committed_entry (Commit who operation) (Ok (told.Decided decided)) =
    after_decision [] (record { who = who; operation = operation }) (decision_of decided.decision)
committed_entry event (Ok said) = []

-- all entries that the events commit
abbrev pub committed_entries : List Event → List Answer → List JournalEntry
committed_entries [] answers = []
committed_entries (event ∷ events) [] = []
committed_entries (event ∷ events) (answer ∷ answers) =
    committed_entry event answer ++ committed_entries events answers

-- the question that an event opens, by its answer, on so many entries
abbrev pub question_of : ℕ → Event → Answer → List (Ask × ℕ)
question_of position event (Err why) = []
question_of position (Open who ask) (Ok said) = (ask, position) ∷ []
question_of position event (Ok said) = []

-- the questions that the events open, each on all entries committed before it, of which so many
-- stood at first
abbrev pub questions_from : ℕ → List Event → List Answer → List (Ask × ℕ)
questions_from position [] answers = []
questions_from position (event ∷ events) [] = []
questions_from position (event ∷ events) (answer ∷ answers) = question_of position event answer
    ++ questions_from (position + length (committed_entry event answer)) events answers

-- an opening tells the query's number and how many entries it stands on
abbrev pub TellsOpening : ℕ → ℕ → Event → Answer → Type 0
TellsOpening number position event (Err why) = Unit {0}
TellsOpening number position (Open who ask) (Ok said) = said ≡ told.Opened number position
TellsOpening number position event (Ok said) = Unit {0}

-- each opening tells the next number, and all entries committed before it
abbrev pub TellOpenings : ℕ → ℕ → List Event → List Answer → Type 0
TellOpenings number position [] answers = Unit {0}
TellOpenings number position (event ∷ events) [] = Unit {0}
TellOpenings number position (event ∷ events) (answer ∷ answers) =
    TellsOpening number position event answer
    × TellOpenings (number + length (question_of position event answer))
    (position + length (committed_entry event answer)) events answers
