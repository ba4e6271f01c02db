-- The commands and their options: their names, and the numbers that an option may be given.
use Rattle.std.specs.Prelude.{ℕ, ◌-◌, ◌^◌, ◌%◌, ◌==◌, Bool, true, false, if◌then◌else◌, List, codes}
use Rattle.std.specs.Prelude.{Option, Some, None, is_some}
use Rattle.std.specs.Option.{option_and_then}
use Rattle.std.specs.Str.{bytes_eq}
use Rattle.hamming_model.specs.declared.limits.TheConstants.{BITS_MOST, PARTS_MOST, SHARDS_MOST}
use Rattle.hamming_model.specs.declared.limits.TheConstants.{ROOM_MOST, ENTRIES_MOST}
use Rattle.part_layout.specs.declared.config.TheConstants.{INPUT_MOST}
use Rattle.command_line.specs.declared.command_option.TheConstants.{PORT_MOST, SESSIONS_MOST}
use Rattle.line_forms.specs.Forms.{is_decimal, number_of}
use Rattle.command_line.specs.declared.command_option.CommandOption.{CommandOption}
use Rattle.command_line.specs.declared.command_option.CommandOption.TheVariants.{Bits, Parts}
use Rattle.command_line.specs.declared.command_option.CommandOption.TheVariants.{Shards, Room}
use Rattle.command_line.specs.declared.command_option.CommandOption.TheVariants.{Entries, Input}
use Rattle.command_line.specs.declared.command_option.CommandOption.TheVariants.{Number, Codes, Port, Sessions}
use Rattle.command_line.specs.declared.command.CommandWord.{CommandWord}
use Rattle.command_line.specs.declared.command.CommandWord.TheVariants.{Run, Load, Listen}

-- the name of an option
abbrev pub name_of : CommandOption → List ℕ
name_of Bits = codes "--bits"
name_of Parts = codes "--parts"
name_of Shards = codes "--shards"
name_of Room = codes "--room"
name_of Entries = codes "--entries"
name_of Input = codes "--input"
name_of Number = codes "--number"
name_of Codes = codes "--codes"
name_of Port = codes "--port"
name_of Sessions = codes "--sessions"

-- the least number that an option may be given
abbrev pub least : CommandOption → ℕ
least Bits = 8
least Parts = 1
least Shards = 1
least Room = 1
least Entries = 1
least Input = 1
least Number = 0
least Codes = 0
least Port = 1
least Sessions = 1

-- the greatest number that an option may be given
abbrev pub greatest : CommandOption → ℕ
greatest Bits = BITS_MOST
greatest Parts = PARTS_MOST
greatest Shards = SHARDS_MOST
greatest Room = ROOM_MOST
greatest Entries = ENTRIES_MOST
greatest Input = INPUT_MOST
greatest Number = 2 ^ 64 - 1
greatest Codes = ENTRIES_MOST
greatest Port = PORT_MOST
greatest Sessions = SESSIONS_MOST

-- the option that a name names
abbrev pub option_named : List ℕ → Option CommandOption
option_named name =
    if bytes_eq name (name_of Bits) then Some Bits else
    if bytes_eq name (name_of Parts) then Some Parts else
    if bytes_eq name (name_of Shards) then Some Shards else
    if bytes_eq name (name_of Room) then Some Room else
    if bytes_eq name (name_of Entries) then Some Entries else
    if bytes_eq name (name_of Input) then Some Input else
    if bytes_eq name (name_of Number) then Some Number else
    if bytes_eq name (name_of Codes) then Some Codes else
    if bytes_eq name (name_of Port) then Some Port else
    if bytes_eq name (name_of Sessions) then Some Sessions else None

-- the command that a word names, of those that have no call of their own
abbrev pub command_named : List ℕ → Option CommandWord
command_named word =
    if bytes_eq word (codes "run") then Some Run else
    if bytes_eq word (codes "load") then Some Load else None

-- whether an option may stand after a command
abbrev pub has_option : CommandWord → CommandOption → Bool
has_option Run Number = false
has_option Run Codes = false
has_option Run Port = false
has_option Run Sessions = false
has_option Load Entries = false
has_option Load Input = false
has_option Load Port = false
has_option Load Sessions = false
has_option Listen Number = false
has_option Listen Codes = false
has_option command option = true

-- an option, where it may stand after a command
abbrev pub if_allowed : CommandWord → CommandOption → Option CommandOption
if_allowed command option = if has_option command option then Some option else None

-- the option of a command that a name names
abbrev pub option_of : CommandWord → List ℕ → Option CommandOption
option_of command name = option_and_then (if_allowed command) (option_named name)

-- a multiple of eight
abbrev pub multiple_of_8 : ℕ → Option ℕ
multiple_of_8 number = if number % 8 == 0 then Some number else None

-- the number that a value gives an option, where it may be given that number
abbrev pub number : CommandOption → List ℕ → Option ℕ
number Bits value = option_and_then multiple_of_8 (number_of 20 (least Bits) (greatest Bits) value)
number option value = number_of 20 (least option) (greatest option) value

-- whether a value may stand after an option: that of the parts is judged for its digits alone
abbrev pub is_value : CommandOption → List ℕ → Bool
is_value Parts value = is_decimal 20 value
is_value option value = is_some (number option value)
