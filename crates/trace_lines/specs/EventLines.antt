-- What a line of a trace asks: an event, nothing, or its first fault.
use Rattle.std.specs.Prelude.{ℕ, not, nat_lt, if◌then◌else◌, List, [], ◌∷◌, length}
use Rattle.std.specs.Prelude.{Option, Some, None, Result, Ok, Err}
use Rattle.byte_lines.specs.declared.cutter.TheConstants.{LINE_MOST}
use Rattle.line_forms.specs.Words.{words, is_printable}
use Rattle.query_protocol.specs.Requests.{bad}
use Rattle.query_protocol.specs.declared.bad.Bad.{Bad}
use Rattle.world_model.specs.Events.{Event, Advance, Pin, Give, Cancel, BuildStep, Follow, Swap}
use Rattle.trace_lines.specs.EventAsked.{EventAsked, event_naming, query_alone, query_and_shard}
use Rattle.trace_lines.specs.EventAsked.{poll_asked, shard_alone, shard_and_rows, event_repart_asked}
use Rattle.trace_lines.specs.SessionsAsked.{commit_asked, open_asked}
use Rattle.trace_lines.specs.EventForms.{event_word, two_words, three_words}
use Rattle.trace_lines.specs.declared.event_word.EventWord.{EventWord}
use Rattle.trace_lines.specs.declared.event_word.EventWord.TheVariants.{CommitWord, OpenWord}
use Rattle.trace_lines.specs.declared.event_word.EventWord.TheVariants.{AdvanceWord, PinWord}
use Rattle.trace_lines.specs.declared.event_word.EventWord.TheVariants.{PollWord, GiveWord}
use Rattle.trace_lines.specs.declared.event_word.EventWord.TheVariants.{CancelWord, RepartWord}
use Rattle.trace_lines.specs.declared.event_word.EventWord.TheVariants.{BuildWord, FollowWord}
use Rattle.trace_lines.specs.declared.event_word.EventWord.TheVariants.{SwapWord}

-- what a line is read as: an event, nothing, or its first fault
abbrev pub EventReading : Type 0
EventReading = Result (Option Event) Bad

-- a line that has words
abbrev pub something : EventAsked → EventReading
something (Ok event) = Ok (Some event)
something (Err fault) = Err fault

-- an event's word with the words after it
abbrev pub event_asked : ℕ → Option EventWord → List (List ℕ) → EventAsked
event_asked bits None after = Err (bad 3)
event_asked bits (Some CommitWord) after = commit_asked bits after
event_asked bits (Some OpenWord) after = open_asked bits after
event_asked bits (Some AdvanceWord) after =
    event_naming (λ both. Advance both.0 both.1) (query_and_shard after)
event_asked bits (Some PinWord) after =
    event_naming (λ both. Pin both.0 both.1) (query_and_shard after)
event_asked bits (Some PollWord) after = poll_asked (three_words after)
event_asked bits (Some GiveWord) after = event_naming (λ query. Give query) (query_alone after)
event_asked bits (Some CancelWord) after =
    event_naming (λ query. Cancel query) (query_alone after)
event_asked bits (Some RepartWord) after = event_repart_asked bits (two_words after)
event_asked bits (Some BuildWord) after =
    event_naming (λ both. BuildStep both.0 both.1) (shard_and_rows after)
event_asked bits (Some FollowWord) after =
    event_naming (λ shard. Follow shard) (shard_alone after)
event_asked bits (Some SwapWord) after = event_naming (λ shard. Swap shard) (shard_alone after)

-- the words of a line: a line with no word asks nothing
abbrev pub event_of_words : ℕ → List (List ℕ) → EventReading
event_of_words bits [] = Ok None
event_of_words bits (word ∷ after) = something (event_asked bits (event_word word) after)

-- a line of a trace over codes of so many bits
abbrev pub event_reading : ℕ → List ℕ → EventReading
event_reading bits line =
    if nat_lt LINE_MOST (length line) then Err (bad 1) else
    if not (is_printable line) then Err (bad 2) else event_of_words bits (words line)
