-- What the words of a `listen` ask for: sessions of a Config that come in by a port, and how many.
use Rattle.std.specs.Prelude.{ℕ, ◌+◌, ◌≤◌, if◌then◌else◌, List, [], ◌∷◌, length, codes}
use Rattle.std.specs.Prelude.{Result, Ok, Err}
use Rattle.std.specs.Str.{bytes_eq}
use Rattle.part_layout.specs.Ranges.{IsConfig}
use Rattle.part_layout.specs.declared.config.Config.{Config}
use Rattle.command_line.specs.CommandWords.{config_of, or_fault, required}
use Rattle.command_line.specs.WrittenOptions.{Written, written_options, fault_of_option}
use Rattle.command_line.specs.declared.command_option.CommandOption.TheVariants.{Port, Sessions}
use Rattle.command_line.specs.declared.command_option.TheConstants.{PORT_MOST, SESSIONS_MOST}
use Rattle.command_line.specs.declared.command.CommandWord.{CommandWord}
use Rattle.command_line.specs.declared.command.CommandWord.TheVariants.{Listen}

-- the options of a command that are written after others, the last one first, or the first fault
abbrev pub settings_after : CommandWord → List Written → List Written → Result (List Written) ℕ
settings_after command before [] = Ok before
settings_after command before (one ∷ others) =
    or_fault (fault_of_option command before one) (settings_after command (one ∷ before) others)

-- those that the words after a command write
abbrev pub settings_asked : CommandWord → List (List ℕ) → Result (List Written) ℕ
settings_asked command words = settings_after command [] (written_options 2 words)

-- sessions of a Config, with their port and how many, or the first that is missing
abbrev pub listen_by : Config → Result ℕ ℕ → Result ℕ ℕ → Result (Config × ℕ × ℕ) ℕ
listen_by config (Err place) sessions = Err place
listen_by config (Ok port) (Err place) = Err place
listen_by config (Ok port) (Ok sessions) = Ok (config, port, sessions)

-- what options ask for, of which none has a fault of its own, where the words end before a place:
-- the parts are judged against the bits, and after that the options that have to be given
abbrev pub listen_of : ℕ → List Written → Result (Config × ℕ × ℕ) ℕ
listen_of end settings =
    elim (config_of settings) [
      | Err place ↦ Err place
      | Ok config ↦ listen_by config (required Port end settings) (required Sessions end settings)
    ]

-- what the words after `listen` ask for
abbrev pub listen_options : List (List ℕ) → Result (Config × ℕ × ℕ) ℕ
listen_options words =
    elim (settings_asked Listen words) [
      | Err place ↦ Err place
      | Ok settings ↦ listen_of (length words + 2) settings
    ]

-- what the words ask for, or the place of the first one at fault
abbrev pub listen_asked : List (List ℕ) → Result (Config × ℕ × ℕ) ℕ
listen_asked [] = Err 1
listen_asked (word ∷ words) =
    if bytes_eq word (codes "listen") then listen_options words else Err 1

-- each number is in its range
pub record IsListen (config : Config) (port sessions : ℕ) : Type 0 where
  pub of_session : IsConfig config
  pub some_port : 1 ≤ port
  pub small_port : port ≤ PORT_MOST
  pub some_sessions : 1 ≤ sessions
  pub few_sessions : sessions ≤ SESSIONS_MOST
