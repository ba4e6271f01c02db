-- The text of replies: a line each.
use Rattle.std.specs.Prelude.{ℕ, ◌+◌, ◌*◌, ◌==◌, if◌then◌else◌}
use Rattle.std.specs.Prelude.{List, [], ◌∷◌, ◌++◌, ℤ, codes, decimal}
use Rattle.std.specs.Char.{digit_char}
use Rattle.std.specs.Fmt.{signed_decimal}
use Rattle.std.specs.List.{flat_map}
use Rattle.query_protocol.specs.declared.bad.Bad as fault
use Rattle.query_protocol.specs.declared.reply.Reply.{Reply}
use Rattle.query_protocol.specs.declared.reply.Reply.TheVariants as reply

-- a line of output
pub data LineReply : Type 0 where
  Added : ℕ → ℕ → LineReply
  Deleted : ℕ → ℕ → LineReply
  Taken : ℕ → ℕ → LineReply
  Absent : ℕ → ℕ → LineReply
  Full : ℕ → LineReply
  Code : ℕ → List ℕ → ℕ → LineReply
  Open : List ℕ → ℕ → LineReply
  Hit : List ℕ → ℕ → ℕ → LineReply
  More : List ℕ → LineReply
  Done : List ℕ → ℕ → LineReply
  Cost : List ℕ → ℕ → ℕ → LineReply
  Plan : List ℕ → ℕ → ℕ → List ℤ → LineReply
  Cancelled : List ℕ → ℕ → LineReply
  Closed : List ℕ → ℕ → LineReply
  Layout : ℕ → List ℕ → LineReply
  Building : ℕ → ℕ → ℕ → LineReply
  Built : ℕ → ℕ → LineReply
  Swapped : ℕ → ℕ → LineReply
  Moved : ℕ → ℕ → ℕ → LineReply
  Searched : ℕ → ℕ → ℕ → ℕ → ℕ → List ℕ → LineReply
  Bad : fault.Bad → LineReply
  NoMemory : LineReply

-- the line that a reply is
abbrev pub line_of : Reply → LineReply
line_of (reply.Added key at) = Added key at
line_of (reply.Deleted key at) = Deleted key at
line_of (reply.Taken key at) = Taken key at
line_of (reply.Absent key at) = Absent key at
line_of (reply.Full at) = Full at
line_of (reply.Open tag at) = Open tag at
line_of (reply.More tag) = More tag
line_of (reply.Done tag count) = Done tag count
line_of (reply.Cost tag reads bound) = Cost tag reads bound
line_of (reply.Cancelled tag count) = Cancelled tag count
line_of (reply.Closed tag count) = Closed tag count
line_of (reply.Building shard left at) = Building shard left at
line_of (reply.Built shard left) = Built shard left
line_of (reply.Swapped shard at) = Swapped shard at
line_of (reply.Moved shard front at) = Moved shard front at
line_of (reply.Bad fault) = Bad fault
line_of reply.NoMemory = NoMemory

-- the hexadecimal digits of a code in lower case, four bits a digit
unfoldable pub hex_text : List ℕ → List ℕ
hex_text (a ∷ b ∷ c ∷ d ∷ code) = digit_char (8 * a + 4 * b + 2 * c + d) ∷ hex_text code
hex_text rest = []

-- the text of a fault
abbrev pub fault_text : fault.Bad → List ℕ
fault_text fault =
    codes "bad " ++ decimal fault.number
    ++ (if fault.number == 5 then codes " " ++ decimal fault.word else [])

-- the text of a threshold, with the space before it
abbrev pub threshold_text : ℤ → List ℕ
threshold_text threshold = codes " " ++ signed_decimal threshold

-- the text of thresholds
abbrev pub thresholds_text : List ℤ → List ℕ
thresholds_text thresholds = flat_map threshold_text thresholds

-- a reply without its line feed
abbrev pub reply_text : LineReply → List ℕ
reply_text (Added key at) = codes "added " ++ decimal key ++ codes " at " ++ decimal at
reply_text (Deleted key at) = codes "deleted " ++ decimal key ++ codes " at " ++ decimal at
reply_text (Taken key at) = codes "taken " ++ decimal key ++ codes " at " ++ decimal at
reply_text (Absent key at) = codes "absent " ++ decimal key ++ codes " at " ++ decimal at
reply_text (Full at) = codes "full at " ++ decimal at
reply_text (Code key code at) =
    codes "code " ++ decimal key ++ codes " " ++ hex_text code ++ codes " at " ++ decimal at
reply_text (Open tag at) = codes "open " ++ tag ++ codes " at " ++ decimal at
reply_text (Hit tag dist key) =
    codes "hit " ++ tag ++ codes " " ++ decimal dist ++ codes " " ++ decimal key
reply_text (More tag) = codes "more " ++ tag
reply_text (Done tag count) = codes "done " ++ tag ++ codes " " ++ decimal count
reply_text (Cost tag reads bound) =
    codes "cost " ++ tag ++ codes " reads " ++ decimal reads ++ codes " bound " ++ decimal bound
reply_text (Plan tag shard cost thresholds) =
    codes "plan " ++ tag ++ codes " " ++ decimal shard ++ codes " cost " ++ decimal cost
    ++ thresholds_text thresholds
reply_text (Cancelled tag count) = codes "cancelled " ++ tag ++ codes " " ++ decimal count
reply_text (Closed tag count) = codes "closed " ++ tag ++ codes " " ++ decimal count
reply_text (Layout shard text) = codes "layout " ++ decimal shard ++ codes " " ++ text
reply_text (Building shard left at) =
    codes "building " ++ decimal shard ++ codes " left " ++ decimal left
    ++ codes " at " ++ decimal at
reply_text (Built shard left) = codes "built " ++ decimal shard ++ codes " left " ++ decimal left
reply_text (Swapped shard at) = codes "swapped " ++ decimal shard ++ codes " at " ++ decimal at
reply_text (Moved shard front at) =
    codes "moved " ++ decimal shard ++ codes " front " ++ decimal front
    ++ codes " shard " ++ decimal at
reply_text (Searched shard before after swaps at text) =
    codes "searched " ++ decimal shard ++ codes " before " ++ decimal before
    ++ codes " after " ++ decimal after ++ codes " swaps " ++ decimal swaps
    ++ codes " at " ++ decimal at ++ codes " " ++ text
reply_text (Bad fault) = fault_text fault
reply_text NoMemory = codes "nomem"

-- the line of a reply
abbrev pub reply_line : LineReply → List ℕ
reply_line reply = reply_text reply ++ 10 ∷ []

-- the text of replies
abbrev pub text : List LineReply → List ℕ
text replies = flat_map reply_line replies
