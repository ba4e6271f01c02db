-- What the words after `commit` and `open` ask, or their first fault. The number of words is judged
-- first, by the form that the third word names.
use Rattle.std.specs.Prelude.{ℕ, List, [], ◌∷◌, Option, Some, None, Result, Ok, Err}
use Rattle.hamming_model.specs.History.{Add, Delete}
use Rattle.hamming_model.specs.Scan.{Ask, Range, Near}
use Rattle.line_forms.specs.Forms.{key_form, radius_of, code_form}
use Rattle.query_protocol.specs.Asked.{nearest_of}
use Rattle.query_protocol.specs.Requests.{bad, bad_word}
use Rattle.query_protocol.specs.declared.bad.Bad.{Bad}
use Rattle.world_model.specs.Events.{Commit, Open}
use Rattle.trace_lines.specs.EventAsked.{EventAsked}
use Rattle.trace_lines.specs.EventForms.{who_form, commit_form, open_form, one_word, two_words}
use Rattle.trace_lines.specs.declared.event_word.CommitForm.{CommitForm}
use Rattle.trace_lines.specs.declared.event_word.CommitForm.TheVariants.{AddForm, DelForm}
use Rattle.trace_lines.specs.declared.event_word.OpenForm.{OpenForm}
use Rattle.trace_lines.specs.declared.event_word.OpenForm.TheVariants.{RangeForm, NearForm}

-- a third word that names no form, after a session
abbrev pub formless : Option ℕ → EventAsked
formless None = Err (bad_word 2)
formless (Some who) = Err (bad_word 3)

-- a session, a key and a code
abbrev pub adding_of : Option ℕ → Option ℕ → Option (List ℕ) → EventAsked
adding_of None key code = Err (bad_word 2)
adding_of (Some who) None code = Err (bad_word 4)
adding_of (Some who) (Some key) None = Err (bad_word 5)
adding_of (Some who) (Some key) (Some code) = Ok (Commit who (Add key code))

-- a session and a key
abbrev pub deleting_of : Option ℕ → Option ℕ → EventAsked
deleting_of None key = Err (bad_word 2)
deleting_of (Some who) None = Err (bad_word 4)
deleting_of (Some who) (Some key) = Ok (Commit who (Delete key))

-- a session, a number and a code
abbrev pub asking_of : (ℕ → List ℕ → Ask) → Option ℕ → Option ℕ → Option (List ℕ) → EventAsked
asking_of ask None number code = Err (bad_word 2)
asking_of ask (Some who) None code = Err (bad_word 4)
asking_of ask (Some who) (Some number) None = Err (bad_word 5)
asking_of ask (Some who) (Some number) (Some code) = Ok (Open who (ask number code))

-- a session's commit that adds, by the words after its form
abbrev pub adding_asked : ℕ → Option ℕ → Result (List ℕ × List ℕ) Bad → EventAsked
adding_asked bits who (Ok words) = adding_of who (key_form words.0) (code_form bits words.1)
adding_asked bits who (Err fault) = Err fault

-- a session's commit that deletes, by the words after its form
abbrev pub deleting_asked : Option ℕ → Result (List ℕ) Bad → EventAsked
deleting_asked who (Ok word) = deleting_of who (key_form word)
deleting_asked who (Err fault) = Err fault

-- a session's commit, by the form that it names and the words after that
abbrev pub event_commit_of : ℕ → Option ℕ → Option CommitForm → List (List ℕ) → EventAsked
event_commit_of bits who (Some AddForm) after = adding_asked bits who (two_words after)
event_commit_of bits who (Some DelForm) after = deleting_asked who (one_word after)
event_commit_of bits who None (key ∷ []) = formless who
event_commit_of bits who None (key ∷ code ∷ []) = formless who
event_commit_of bits who None after = Err (bad 4)

-- the words after `commit`
abbrev pub commit_asked : ℕ → List (List ℕ) → EventAsked
commit_asked bits (who ∷ form ∷ after) =
    event_commit_of bits (who_form who) (commit_form form) after
commit_asked bits after = Err (bad 4)

-- a session's question, by the words after its form, of which the first has a form of its own
abbrev pub asking : (ℕ → List ℕ → Ask) → (List ℕ → Option ℕ) → ℕ → Option ℕ
    → Result (List ℕ × List ℕ) Bad → EventAsked
asking ask form bits who (Ok words) =
    asking_of ask who (form words.0) (code_form bits words.1)
asking ask form bits who (Err fault) = Err fault

-- a session's opening, by the form that it names and the words after that
abbrev pub open_of : ℕ → Option ℕ → Option OpenForm → List (List ℕ) → EventAsked
open_of bits who (Some RangeForm) after =
    asking (λ tau code. Range tau code) (λ word. radius_of bits word) bits who (two_words after)
open_of bits who (Some NearForm) after =
    asking (λ k code. Near k code) (λ word. nearest_of word) bits who (two_words after)
open_of bits who None (number ∷ code ∷ []) = formless who
open_of bits who None after = Err (bad 4)

-- the words after `open`
abbrev pub open_asked : ℕ → List (List ℕ) → EventAsked
open_asked bits (who ∷ form ∷ after) = open_of bits (who_form who) (open_form form) after
open_asked bits after = Err (bad 4)
