-- The forms that only the words of an event have, and the words that name events and their forms.
use Rattle.std.specs.Prelude.{ℕ, ◌^◌, ◌-◌, if◌then◌else◌, List, [], ◌∷◌, codes}
use Rattle.std.specs.Prelude.{Option, Some, None, Result, Ok, Err}
use Rattle.std.specs.Str.{bytes_eq}
use Rattle.line_forms.specs.Forms.{number_of}
use Rattle.query_protocol.specs.Requests.{bad}
use Rattle.query_protocol.specs.declared.bad.Bad.{Bad}
use Rattle.trace_lines.specs.declared.event_word.CommitForm.{CommitForm}
use Rattle.trace_lines.specs.declared.event_word.CommitForm.TheVariants.{AddForm, DelForm}
use Rattle.trace_lines.specs.declared.event_word.EventWord.{EventWord}
use Rattle.trace_lines.specs.declared.event_word.EventWord.TheVariants.{CommitWord, OpenWord}
use Rattle.trace_lines.specs.declared.event_word.EventWord.TheVariants.{AdvanceWord, PinWord}
use Rattle.trace_lines.specs.declared.event_word.EventWord.TheVariants.{PollWord, GiveWord}
use Rattle.trace_lines.specs.declared.event_word.EventWord.TheVariants.{CancelWord, RepartWord}
use Rattle.trace_lines.specs.declared.event_word.EventWord.TheVariants.{BuildWord, FollowWord}
use Rattle.trace_lines.specs.declared.event_word.EventWord.TheVariants.{SwapWord}
use Rattle.trace_lines.specs.declared.event_word.OpenForm.{OpenForm}
use Rattle.trace_lines.specs.declared.event_word.OpenForm.TheVariants.{RangeForm, NearForm}

-- a session's number
abbrev pub who_form : List ℕ → Option ℕ
who_form word = number_of 10 0 (2 ^ 32 - 1) word

-- the number of a query
abbrev pub query_form : List ℕ → Option ℕ
query_form word = number_of 5 0 99999 word

-- the event that the first word names
abbrev pub event_word : List ℕ → Option EventWord
event_word word =
    if bytes_eq word (codes "commit") then Some CommitWord else
    if bytes_eq word (codes "open") then Some OpenWord else
    if bytes_eq word (codes "advance") then Some AdvanceWord else
    if bytes_eq word (codes "pin") then Some PinWord else
    if bytes_eq word (codes "poll") then Some PollWord else
    if bytes_eq word (codes "give") then Some GiveWord else
    if bytes_eq word (codes "cancel") then Some CancelWord else
    if bytes_eq word (codes "repart") then Some RepartWord else
    if bytes_eq word (codes "build") then Some BuildWord else
    if bytes_eq word (codes "follow") then Some FollowWord else
    if bytes_eq word (codes "swap") then Some SwapWord else None

-- the form of a commit that its third word names
abbrev pub commit_form : List ℕ → Option CommitForm
commit_form word =
    if bytes_eq word (codes "add") then Some AddForm else
    if bytes_eq word (codes "del") then Some DelForm else None

-- the form of an opening that its third word names
abbrev pub open_form : List ℕ → Option OpenForm
open_form word =
    if bytes_eq word (codes "range") then Some RangeForm else
    if bytes_eq word (codes "near") then Some NearForm else None

-- the one word that is left
abbrev pub one_word : List (List ℕ) → Result (List ℕ) Bad
one_word (first ∷ []) = Ok first
one_word words = Err (bad 4)

-- the two words that are left
abbrev pub two_words : List (List ℕ) → Result (List ℕ × List ℕ) Bad
two_words (first ∷ second ∷ []) = Ok (first, second)
two_words words = Err (bad 4)

-- the three words that are left
abbrev pub three_words : List (List ℕ) → Result (List ℕ × List ℕ × List ℕ) Bad
three_words (first ∷ second ∷ third ∷ []) = Ok (first, second, third)
three_words words = Err (bad 4)
