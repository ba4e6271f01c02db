-- What the words of the command line may ask for.
use Rattle.std.specs.Prelude.{◌≡◌, ℕ, ◌^◌, ◌<◌, ◌≤◌}
use Rattle.hamming_model.specs.declared.limits.TheConstants.{ENTRIES_MOST}
use Rattle.part_layout.specs.Ranges.{IsConfig}
use Rattle.part_layout.specs.declared.config.Config.{Config}
use Rattle.part_layout.specs.declared.config.TheConstants.{INPUT_MOST}
use Rattle.command_line.specs.declared.command.Command.{Command}
use Rattle.command_line.specs.declared.command.Command.TheVariants as ask

-- a load's numbers are in their ranges, and its session may have the most entries and input
pub record IsLoad (config : Config) (number codes : ℕ) : Type 0 where
  pub of_session : IsConfig config
  pub entries : config.entries ≡ ENTRIES_MOST
  pub input : config.input ≡ INPUT_MOST
  pub few : number < 2 ^ 64
  pub few_codes : codes ≤ ENTRIES_MOST

-- a session or a load whose numbers are in their ranges
abbrev pub IsCommand : Command → Type 0
IsCommand (ask.Run config) = IsConfig config
IsCommand (ask.Load config number codes) = IsLoad config number codes
