-- The line of an event, and which events have one.
use Rattle.std.specs.Prelude.{ℕ, ◌^◌, ◌<◌, ◌≤◌, List, [], ◌∷◌, codes, decimal}
use Rattle.hamming_model.specs.Codes.{IsCode}
use Rattle.hamming_model.specs.History.{Add, Delete}
use Rattle.hamming_model.specs.Scan.{Range, Near}
use Rattle.hamming_model.specs.declared.limits.TheConstants.{ENTRIES_MOST}
use Rattle.line_forms.specs.Words.{joined}
use Rattle.part_layout.specs.Text.{layout_text}
use Rattle.query_protocol.specs.Replies.{hex_text}
use Rattle.world_model.specs.Events.{Event, Commit, Open, Advance, Pin, Poll, Give, Cancel}
use Rattle.world_model.specs.Events.{BuildStart, BuildStep, Follow, Swap, IsLayoutFor}

-- the words that spell an event
abbrev pub event_words : Event → List (List ℕ)
event_words (Commit who (Add key code)) =
    codes "commit" ∷ decimal who ∷ codes "add" ∷ decimal key ∷ hex_text code ∷ []
event_words (Commit who (Delete key)) =
    codes "commit" ∷ decimal who ∷ codes "del" ∷ decimal key ∷ []
event_words (Open who (Range tau code)) =
    codes "open" ∷ decimal who ∷ codes "range" ∷ decimal tau ∷ hex_text code ∷ []
event_words (Open who (Near k code)) =
    codes "open" ∷ decimal who ∷ codes "near" ∷ decimal k ∷ hex_text code ∷ []
event_words (Advance query shard) = codes "advance" ∷ decimal query ∷ decimal shard ∷ []
event_words (Pin query shard) = codes "pin" ∷ decimal query ∷ decimal shard ∷ []
event_words (Poll query shard budget) =
    codes "poll" ∷ decimal query ∷ decimal shard ∷ decimal budget ∷ []
event_words (Give query) = codes "give" ∷ decimal query ∷ []
event_words (Cancel query) = codes "cancel" ∷ decimal query ∷ []
event_words (BuildStart shard layout) =
    codes "repart" ∷ decimal shard ∷ layout_text layout.parts ∷ []
event_words (BuildStep shard rows) = codes "build" ∷ decimal shard ∷ decimal rows ∷ []
event_words (Follow shard) = codes "follow" ∷ decimal shard ∷ []
event_words (Swap shard) = codes "swap" ∷ decimal shard ∷ []

-- the line that spells an event
abbrev pub event_line : Event → List ℕ
event_line event = joined (event_words event)

-- the event is one of a world of codes of so many bits, and its numbers are such as a line may
-- give: a session of 32 bits, a query of five digits, a shard of two, 1 to 65,536 steps or rows
abbrev pub IsSpelledEvent : ℕ → Event → Type 0
IsSpelledEvent bits (Commit who (Add key code)) =
    (who < 2 ^ 32) × (key < 2 ^ 64) × IsCode bits code
IsSpelledEvent bits (Commit who (Delete key)) = (who < 2 ^ 32) × (key < 2 ^ 64)
IsSpelledEvent bits (Open who (Range tau code)) =
    (who < 2 ^ 32) × (tau ≤ bits) × IsCode bits code
IsSpelledEvent bits (Open who (Near k code)) =
    (who < 2 ^ 32) × (1 ≤ k) × (k ≤ ENTRIES_MOST) × IsCode bits code
IsSpelledEvent bits (Advance query shard) = (query ≤ 99999) × (shard ≤ 99)
IsSpelledEvent bits (Pin query shard) = (query ≤ 99999) × (shard ≤ 99)
IsSpelledEvent bits (Poll query shard budget) =
    (query ≤ 99999) × (shard ≤ 99) × (1 ≤ budget) × (budget ≤ 65536)
IsSpelledEvent bits (Give query) = query ≤ 99999
IsSpelledEvent bits (Cancel query) = query ≤ 99999
IsSpelledEvent bits (BuildStart shard layout) =
    (shard ≤ 99) × IsLayoutFor bits layout
IsSpelledEvent bits (BuildStep shard rows) = (shard ≤ 99) × (1 ≤ rows) × (rows ≤ 65536)
IsSpelledEvent bits (Follow shard) = shard ≤ 99
IsSpelledEvent bits (Swap shard) = shard ≤ 99
