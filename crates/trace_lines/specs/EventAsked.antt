-- What the words after an event's word ask, or their first fault: queries and builds.
use Rattle.std.specs.Prelude.{ℕ, List, Option, Some, None, Result, Ok, Err, ok_or}
use Rattle.line_forms.specs.Forms.{count_of, shard_form}
use Rattle.query_protocol.specs.Requests.{bad_word}
use Rattle.query_protocol.specs.ShardsAsked.{layout_form}
use Rattle.query_protocol.specs.declared.bad.Bad.{Bad}
use Rattle.world_model.specs.Events.{Event, Poll, BuildStart}
use Rattle.trace_lines.specs.EventForms.{query_form, one_word, two_words}

-- an event, or the first fault
abbrev pub EventAsked : Type 0
EventAsked = Result Event Bad

-- the event of what its words name, or their fault
abbrev pub event_naming : {A : Type 0} → (A → Event) → Result A Bad → EventAsked
event_naming ask (Ok named) = Ok (ask named)
event_naming ask (Err fault) = Err fault

-- what the one word after an event's word stands for
abbrev pub number_alone : (List ℕ → Option ℕ) → Result (List ℕ) Bad → Result ℕ Bad
number_alone form (Ok word) = ok_or (form word) (bad_word 2)
number_alone form (Err fault) = Err fault

-- two numbers, that of the first word after an event's word and that of the second
abbrev pub two_of : Option ℕ → Option ℕ → Result (ℕ × ℕ) Bad
two_of None second = Err (bad_word 2)
two_of (Some first) None = Err (bad_word 3)
two_of (Some first) (Some second) = Ok (first, second)

-- what the two words after an event's word stand for
abbrev pub two_numbers : (List ℕ → Option ℕ) → (List ℕ → Option ℕ)
    → Result (List ℕ × List ℕ) Bad → Result (ℕ × ℕ) Bad
two_numbers first second (Ok words) = two_of (first words.0) (second words.1)
two_numbers first second (Err fault) = Err fault

-- the query of an event that names nothing else
abbrev pub query_alone : List (List ℕ) → Result ℕ Bad
query_alone after = number_alone (λ word. query_form word) (one_word after)

-- the shard of an event that names nothing else
abbrev pub shard_alone : List (List ℕ) → Result ℕ Bad
shard_alone after = number_alone (λ word. shard_form word) (one_word after)

-- the query and the shard of an event that names nothing else
abbrev pub query_and_shard : List (List ℕ) → Result (ℕ × ℕ) Bad
query_and_shard after =
    two_numbers (λ word. query_form word) (λ word. shard_form word) (two_words after)

-- the words after `build`: a shard and how many rows
abbrev pub shard_and_rows : List (List ℕ) → Result (ℕ × ℕ) Bad
shard_and_rows after =
    two_numbers (λ word. shard_form word) (λ word. count_of word) (two_words after)

-- a query, a shard and how much it may read
abbrev pub poll_of : Option ℕ → Option ℕ → Option ℕ → EventAsked
poll_of None shard budget = Err (bad_word 2)
poll_of (Some query) None budget = Err (bad_word 3)
poll_of (Some query) (Some shard) None = Err (bad_word 4)
poll_of (Some query) (Some shard) (Some budget) = Ok (Poll query shard budget)

-- the words after `poll`
abbrev pub poll_asked : Result (List ℕ × List ℕ × List ℕ) Bad → EventAsked
poll_asked (Ok words) = poll_of (query_form words.0) (shard_form words.1) (count_of words.2)
poll_asked (Err fault) = Err fault

-- a shard and a layout of so many bits
abbrev pub event_repart_of : ℕ → Option ℕ → Option (List (List ℕ)) → EventAsked
event_repart_of bits None parts = Err (bad_word 2)
event_repart_of bits (Some shard) None = Err (bad_word 3)
event_repart_of bits (Some shard) (Some parts) =
    Ok (BuildStart shard (record { bits = bits; parts = parts }))

-- the words after `repart`
abbrev pub event_repart_asked : ℕ → Result (List ℕ × List ℕ) Bad → EventAsked
event_repart_asked bits (Ok words) =
    event_repart_of bits (shard_form words.0) (layout_form bits words.1)
event_repart_asked bits (Err fault) = Err fault
