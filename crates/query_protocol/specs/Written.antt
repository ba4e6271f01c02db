-- What a reply may hold, and that no line feed stands in its text.
use Rattle.std.specs.Prelude.{◌≡◌, ℕ, suc, ◌<◌, ◌^◌, ◌==◌, not, Bool, true, List, All, ℤ, pos, negsuc}
use Rattle.std.specs.List.{list_all}
use Rattle.line_forms.specs.Forms.{is_tag}
use Rattle.part_layout.specs.Text.{IsTextOfLayout}
use Rattle.query_protocol.specs.Replies.{LineReply, Added, Deleted, Taken, Absent, Full, Code, Open}
use Rattle.query_protocol.specs.Replies.{Hit, More, Done, Cost, Plan, Cancelled, Closed, Layout}
use Rattle.query_protocol.specs.Replies.{Building, Built, Swapped, Moved, Searched, Bad, NoMemory}

-- no byte is a line feed
abbrev pub has_no_feed : List ℕ → Bool
has_no_feed bytes = list_all (λ byte. not (byte == 10)) bytes

-- a number of at most 64 bits
abbrev pub IsWord64 : ℕ → Type 0
IsWord64 number = number < 2 ^ 64

-- a signed number whose digits are those of a number of at most 64 bits
abbrev pub IsSigned64 : ℤ → Type 0
IsSigned64 (pos number) = IsWord64 number
IsSigned64 (negsuc number) = IsWord64 (suc number)

-- what a reply may hold: numbers of at most 64 bits, bits, tags of their form, and texts of layouts
abbrev pub IsWritten : LineReply → Type 0
IsWritten (Added key at) = IsWord64 key × IsWord64 at
IsWritten (Deleted key at) = IsWord64 key × IsWord64 at
IsWritten (Taken key at) = IsWord64 key × IsWord64 at
IsWritten (Absent key at) = IsWord64 key × IsWord64 at
IsWritten (Full at) = IsWord64 at
IsWritten (Code key code at) = IsWord64 key × All (λ bit. bit < 2) code × IsWord64 at
IsWritten (Open tag at) = (is_tag tag ≡ true) × IsWord64 at
IsWritten (Hit tag dist key) = (is_tag tag ≡ true) × IsWord64 dist × IsWord64 key
IsWritten (More tag) = is_tag tag ≡ true
IsWritten (Done tag count) = (is_tag tag ≡ true) × IsWord64 count
IsWritten (Cost tag reads bound) = (is_tag tag ≡ true) × IsWord64 reads × IsWord64 bound
IsWritten (Plan tag shard cost thresholds) =
    (is_tag tag ≡ true) × IsWord64 shard × IsWord64 cost × All IsSigned64 thresholds
IsWritten (Cancelled tag count) = (is_tag tag ≡ true) × IsWord64 count
IsWritten (Closed tag count) = (is_tag tag ≡ true) × IsWord64 count
IsWritten (Layout shard text) = IsWord64 shard × IsTextOfLayout text
IsWritten (Building shard left at) = IsWord64 shard × IsWord64 left × IsWord64 at
IsWritten (Built shard left) = IsWord64 shard × IsWord64 left
IsWritten (Swapped shard at) = IsWord64 shard × IsWord64 at
IsWritten (Moved shard front at) = IsWord64 shard × IsWord64 front × IsWord64 at
IsWritten (Searched shard before after swaps at text) =
    IsWord64 shard × IsWord64 before × IsWord64 after × IsWord64 swaps × IsWord64 at
    × IsTextOfLayout text
IsWritten (Bad fault) = IsWord64 fault.number × IsWord64 fault.word
IsWritten NoMemory = Unit {0}
