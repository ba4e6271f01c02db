-- What the words of the command line ask for, or the place of the first one at fault, from 1 on.
use Rattle.std.specs.Prelude.{ℕ, ◌+◌, ◌/◌, if◌then◌else◌, List, [], ◌∷◌, length}
use Rattle.std.specs.Prelude.{Option, Some, None, unwrap_or, Result, Ok, Err, ok_or}
use Rattle.std.specs.Option.{option_and_then}
use Rattle.hamming_model.specs.declared.limits.TheConstants.{ENTRIES_MOST}
use Rattle.part_layout.specs.Contiguous.{can_be_cut}
use Rattle.part_layout.specs.declared.config.Config.{Config}
use Rattle.part_layout.specs.declared.config.TheConstants.{INPUT_MOST}
use Rattle.command_line.specs.CommandOptions.{number, command_named}
use Rattle.command_line.specs.WrittenOptions.{Written, written_options, given, fault_of_option}
use Rattle.command_line.specs.declared.command_option.TheConstants.{BITS, SHARDS, ROOM}
use Rattle.command_line.specs.declared.command_option.CommandOption.{CommandOption}
use Rattle.command_line.specs.declared.command_option.CommandOption.TheVariants.{Bits, Parts}
use Rattle.command_line.specs.declared.command_option.CommandOption.TheVariants.{Shards, Room}
use Rattle.command_line.specs.declared.command_option.CommandOption.TheVariants.{Entries, Input}
use Rattle.command_line.specs.declared.command_option.CommandOption.TheVariants.{Number, Codes}
use Rattle.command_line.specs.declared.command.Command.{Command}
use Rattle.command_line.specs.declared.command.Command.TheVariants as ask
use Rattle.command_line.specs.declared.command.CommandWord.{CommandWord}
use Rattle.command_line.specs.declared.command.CommandWord.TheVariants.{Run, Load, Listen}

-- the number that an option was given
abbrev pub number_given : CommandOption → Written → Option ℕ
number_given option one = option_and_then (number option) one.value

-- the number that an option was given among those written, or else its default
abbrev pub number_or : CommandOption → ℕ → List Written → ℕ
number_or option default settings =
    unwrap_or (option_and_then (number_given option) (given option settings)) default

-- a session of so many bits and parts, with the other numbers that were given
abbrev pub config : ℕ → ℕ → List Written → Config
config bits parts settings = record {
  bits = bits;
  parts = parts;
  shards = number_or Shards SHARDS settings;
  room = number_or Room ROOM settings;
  entries = number_or Entries ENTRIES_MOST settings;
  input = number_or Input INPUT_MOST settings;
}

-- the parts that were given, judged against the bits
abbrev pub parts_for : ℕ → Written → Result ℕ ℕ
parts_for bits one =
    elim (number_given Parts one) [
      | None ↦ Err one.value_place
      | Some parts ↦ if can_be_cut bits parts then Ok parts else Err one.value_place
    ]

-- the parts, eight bits each where none were given
abbrev pub parts_or : ℕ → List Written → Result ℕ ℕ
parts_or bits settings =
    elim (given Parts settings) [ None ↦ Ok (bits / 8) | Some one ↦ parts_for bits one ]

-- what options ask for, of which none has a fault of its own
abbrev pub config_of : List Written → Result Config ℕ
config_of settings =
    let bits = number_or Bits BITS settings in
    elim (parts_or bits settings) [
      | Err place ↦ Err place
      | Ok parts ↦ Ok (config bits parts settings)
    ]

-- a fault, or where there is none a result
abbrev pub or_fault : {A : Type 0} → Option ℕ → Result A ℕ → Result A ℕ
or_fault (Some place) result = Err place
or_fault None result = result

-- the number that a required option was given, or the place of its word after all others
abbrev pub required : CommandOption → ℕ → List Written → Result ℕ ℕ
required option end settings =
    ok_or (option_and_then (number_given option) (given option settings)) end

-- the session of a load, whose entries and input are the most that there may be
abbrev pub config_of_load : Config → Config
config_of_load config = record config { entries = ENTRIES_MOST; input = INPUT_MOST }

-- a workload of a number and so many codes, or the first that is missing
abbrev pub load_of : Config → Result ℕ ℕ → Result ℕ ℕ → Result Command ℕ
load_of config (Err place) codes = Err place
load_of config (Ok number) (Err place) = Err place
load_of config (Ok number) (Ok codes) = Ok (ask.Load config number codes)

-- what a command asks for with its options, where the words end before a place; `listen` is asked
-- of a call of its own, and is an unknown command to this one
abbrev pub with_config : CommandWord → ℕ → List Written → Config → Result Command ℕ
with_config Run end settings config = Ok (ask.Run config)
with_config Load end settings config =
    load_of (config_of_load config) (required Number end settings) (required Codes end settings)
with_config Listen end settings config = Err 1

-- the same, where the numbers of a session are judged first
abbrev pub command_of : CommandWord → ℕ → List Written → Result Command ℕ
command_of command end settings =
    elim (config_of settings) [
      | Err place ↦ Err place
      | Ok config ↦ with_config command end settings config
    ]

-- what a command's options ask for that are written after others, or the first fault
abbrev pub asked_after : CommandWord → ℕ → List Written → List Written → Result Command ℕ
asked_after command end before [] = command_of command end before
asked_after command end before (one ∷ others) =
    or_fault (fault_of_option command before one) (asked_after command end (one ∷ before) others)

-- what the words after a command ask for
abbrev pub options_asked : CommandWord → List (List ℕ) → Result Command ℕ
options_asked command words = asked_after command (length words + 2) [] (written_options 2 words)

-- what the words ask for, or the place of the first one at fault
abbrev pub asked : List (List ℕ) → Result Command ℕ
asked [] = Err 1
asked (word ∷ words) =
    elim (command_named word) [ None ↦ Err 1 | Some command ↦ options_asked command words ]
