-- How the reader keeps what the options were given. No public clause cites this module.
use Rattle.std.specs.Prelude.{◌≡◌, ℕ, ◌+◌, ◌/◌, ◌%◌, ◌≤◌, if◌then◌else◌, List, [], ◌∷◌}
use Rattle.std.specs.Prelude.{Option, Some, None, IfSome, unwrap_or, Result, Ok, Err, ok_or}
use Rattle.std.specs.Option.{option_map, option_and_then}
use Rattle.hamming_model.specs.declared.limits.TheConstants.{BITS_MOST}
use Rattle.part_layout.specs.Contiguous.{can_be_cut}
use Rattle.command_line.specs.CommandOptions.{least, greatest}
use Rattle.command_line.specs.CommandWords.{number_given, or_fault}
use Rattle.command_line.specs.WrittenOptions.{Written, given, fault_of_option}
use Rattle.command_line.specs.declared.command_option.CommandOption.{CommandOption}
use Rattle.command_line.specs.declared.command_option.CommandOption.TheVariants.{Bits, Parts}
use Rattle.command_line.specs.declared.command_option.CommandOption.TheVariants.{Shards, Room}
use Rattle.command_line.specs.declared.command_option.CommandOption.TheVariants.{Entries, Input}
use Rattle.command_line.specs.declared.command_option.CommandOption.TheVariants.{Number, Codes, Port, Sessions}
use Rattle.command_line.specs.declared.command.CommandWord.{CommandWord}
use Rattle.command_line.specs.declared.given.GivenNumber.{GivenNumber}
use Rattle.command_line.specs.declared.given.Given.{Given}

-- what is kept of one option
abbrev pub given_option : CommandOption → Written → GivenNumber
given_option option one = record { number = number_given option one; place = one.value_place }

-- what is kept of an option, if it was given
abbrev pub entry_in : CommandOption → List Written → Option GivenNumber
entry_in option settings = option_map (given_option option) (given option settings)

-- what is kept of an option
abbrev pub entry_at : CommandOption → Given → Option GivenNumber
entry_at Bits given = given.bits
entry_at Parts given = given.parts
entry_at Shards given = given.shards
entry_at Room given = given.room
entry_at Entries given = given.entries
entry_at Input given = given.input
entry_at Number given = given.number
entry_at Codes given = given.codes
entry_at Port given = given.port
entry_at Sessions given = given.sessions

-- what is kept once an option is given
abbrev pub put : CommandOption → GivenNumber → Given → Given
put Bits entry given = record given { bits = Some entry }
put Parts entry given = record given { parts = Some entry }
put Shards entry given = record given { shards = Some entry }
put Room entry given = record given { room = Some entry }
put Entries entry given = record given { entries = Some entry }
put Input entry given = record given { input = Some entry }
put Number entry given = record given { number = Some entry }
put Codes entry given = record given { codes = Some entry }
put Port entry given = record given { port = Some entry }
put Sessions entry given = record given { sessions = Some entry }

-- the number of an entry, or else a default
abbrev pub entry_number_or : ℕ → Option GivenNumber → ℕ
entry_number_or default entry =
    unwrap_or (option_and_then (λ options_kept. options_kept.number) entry) default

-- the parts of an entry, judged against the bits, and eight bits each where there is none
abbrev pub entry_parts_or : ℕ → Option GivenNumber → Result ℕ ℕ
entry_parts_or bits None = Ok (bits / 8)
entry_parts_or bits (Some entry) =
    elim entry.number [
      | None ↦ Err entry.place
      | Some parts ↦ if can_be_cut bits parts then Ok parts else Err entry.place
    ]

-- one for an option that was given
abbrev pub present : Option GivenNumber → ℕ
present None = 0
present (Some entry) = 1

-- how many options were given
abbrev pub size : Given → ℕ
size given =
    present given.bits + present given.parts + present given.shards + present given.room
    + present given.entries + present given.input + present given.number + present given.codes
    + present given.port + present given.sessions

-- what is kept of the options
abbrev pub options_kept : List Written → Given
options_kept settings = record {
  bits = entry_in Bits settings;
  parts = entry_in Parts settings;
  shards = entry_in Shards settings;
  room = entry_in Room settings;
  entries = entry_in Entries settings;
  input = entry_in Input settings;
  number = entry_in Number settings;
  codes = entry_in Codes settings;
  port = entry_in Port settings;
  sessions = entry_in Sessions settings;
}

-- what is kept after one more option, or its fault
abbrev pub kept_after : CommandWord → List Written → Written → Result Given ℕ
kept_after command before one =
    or_fault (fault_of_option command before one) (Ok (options_kept (one ∷ before)))

-- the number of an entry, or else a place
abbrev pub entry_number_at : ℕ → Option GivenNumber → Result ℕ ℕ
entry_number_at place entry =
    ok_or (option_and_then (λ options_kept. options_kept.number) entry) place

-- a number that an option may be given
abbrev pub IsNumberOf : CommandOption → ℕ → Type 0
IsNumberOf Bits number = (8 ≤ number) × (number ≤ BITS_MOST) × (number % 8 ≡ 0)
IsNumberOf option number = (least option ≤ number) × (number ≤ greatest option)

-- the number of an entry, if there is one, is such a number
abbrev pub IsEntryOf : CommandOption → Option GivenNumber → Type 0
IsEntryOf option entry =
    IfSome entry (λ options_kept. IfSome options_kept.number (IsNumberOf option))

-- each entry is one of its option
pub record AreEntries (given : Given) : Type 0 where
  pub each : (option : CommandOption) → IsEntryOf option (entry_at option given)
