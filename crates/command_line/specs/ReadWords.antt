-- How the reader goes through the words after a command. No public clause cites this module.
use Rattle.std.specs.Prelude.{ℕ, List, [], ◌∷◌, Option, Some, None, Result, Ok, Err}
use Rattle.command_line.specs.Kept.{options_kept}
use Rattle.command_line.specs.ListenWords.{settings_asked}
use Rattle.command_line.specs.WrittenOptions.{Written}
use Rattle.command_line.specs.declared.command.CommandWord.{CommandWord}
use Rattle.command_line.specs.declared.given.Given.{Given}

-- what is kept of options that have no fault
abbrev pub settings_kept : Result (List Written) ℕ → Result Given ℕ
settings_kept (Err place) = Err place
settings_kept (Ok settings) = Ok (options_kept settings)

-- what is kept of the options that the words after a command write, or the first fault
abbrev pub given_asked : CommandWord → List (List ℕ) → Result Given ℕ
given_asked command words = settings_kept (settings_asked command words)

-- the next word, if there is one
abbrev pub next_in : List (List ℕ) → Option (List ℕ)
next_in [] = None
next_in (word ∷ words) = Some word

-- the words after the next one
abbrev pub after_next : List (List ℕ) → List (List ℕ)
after_next [] = []
after_next (word ∷ words) = words
