-- What the words of a trace ask for: the command is `trace`, and its options are those of `run`.
use Rattle.std.specs.Prelude.{ℕ, if◌then◌else◌, List, [], ◌∷◌, codes, Result, Ok, Err}
use Rattle.std.specs.Str.{bytes_eq}
use Rattle.part_layout.specs.declared.config.Config.{Config}
use Rattle.command_line.specs.CommandWords.{options_asked}
use Rattle.command_line.specs.declared.command.Command.{Command}
use Rattle.command_line.specs.declared.command.Command.TheVariants as ask
use Rattle.command_line.specs.declared.command.CommandWord.TheVariants.{Run}

-- the numbers of a command, but those of a load
abbrev pub config_asked : Result Command ℕ → Result Config ℕ
config_asked (Ok (ask.Run config)) = Ok config
config_asked (Ok (ask.Load config number codes)) = Ok config
config_asked (Err place) = Err place

-- what the words ask for, or the place of the first one at fault
abbrev pub trace_asked : List (List ℕ) → Result Config ℕ
trace_asked [] = Err 1
trace_asked (word ∷ words) =
    if bytes_eq word (codes "trace") then config_asked (options_asked Run words) else Err 1
