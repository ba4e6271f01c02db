-- The options that words write, each with its place, and where one of them is at fault.
use Rattle.std.specs.Prelude.{◌≡◌, ℕ, ◌+◌, ◌==◌, not, if◌then◌else◌, Bool, List, [], ◌∷◌}
use Rattle.std.specs.Prelude.{take, drop, position, Option, Some, None, is_some}
use Rattle.std.specs.List.{list_all}
use Rattle.std.specs.Option.{option_map}
use Rattle.std.specs.Str.{bytes_eq}
use Rattle.command_line.specs.CommandOptions.{name_of, option_of, is_value}
use Rattle.command_line.specs.declared.command_option.CommandOption.{CommandOption}
use Rattle.command_line.specs.declared.command.CommandWord.{CommandWord}

-- an option as it is written: its name with its place, and its value with its own, if there is one
pub record Written : Type 0 where
  pub name : List ℕ
  pub place : ℕ
  pub value : Option (List ℕ)
  pub value_place : ℕ

-- an option so written
abbrev pub setting : List ℕ → ℕ → Option (List ℕ) → ℕ → Written
setting name place value value_place =
    record { name = name; place = place; value = value; value_place = value_place }

-- the name and the value that a word has before and after its first `=`
abbrev pub parted : List ℕ → Option (List ℕ × List ℕ)
parted word =
    option_map (λ equals. (take equals word, drop (equals + 1) word))
    (position (λ byte. byte == 61) word)

-- no byte is a `=`
abbrev pub has_no_equals : List ℕ → Bool
has_no_equals word = list_all (λ byte. not (byte == 61)) word

-- an option whose name is a word of its own, and the next word, if there is one, its value
abbrev pub in_two_words : ℕ → List ℕ → Option (List ℕ) → Written
in_two_words place name value = setting name place value (place + 1)

-- an option with its value in one word
abbrev pub in_one_word : ℕ → List ℕ × List ℕ → Written
in_one_word place parts = setting parts.0 place (Some parts.1) place

-- the first option that words write, by the parts of the first word and the next one
abbrev pub first_written : ℕ → List ℕ → Option (List ℕ) → Option (List ℕ × List ℕ) → Written
first_written place word next None = in_two_words place word next
first_written place word next (Some parts) = in_one_word place parts

-- the options after it, which begin a word later where its value is a word of its own
abbrev pub others_written : Option (List ℕ × List ℕ) → List Written → List Written → List Written
others_written None next later = later
others_written (Some parts) next later = next

-- the options that words write, the first of them at a place
abbrev pub written_options : ℕ → List (List ℕ) → List Written
written_options place [] = []
written_options place (word ∷ []) = first_written place word None (parted word) ∷ []
written_options place (word ∷ next ∷ words) =
    first_written place word (Some next) (parted word)
    ∷ others_written (parted word) (written_options (place + 1) (next ∷ words))
    (written_options (place + 2) words)

-- where an option is among those written
abbrev pub given : CommandOption → List Written → Option Written
given option [] = None
given option (one ∷ others) =
    if bytes_eq one.name (name_of option) then Some one else given option others

-- the fault of a value at a place
abbrev pub value_fault : CommandOption → ℕ → Option (List ℕ) → Option ℕ
value_fault option place None = Some place
value_fault option place (Some value) = if is_value option value then None else Some place

-- the fault of what may be an option, after others
abbrev pub option_fault : List Written → Written → Option CommandOption → Option ℕ
option_fault before one None = Some one.place
option_fault before one (Some option) =
    if is_some (given option before) then Some one.place
    else value_fault option one.value_place one.value

-- the fault of an option of a command after others: the command has no such option, or it was given
-- before, or its value is bad or missing
abbrev pub fault_of_option : CommandWord → List Written → Written → Option ℕ
fault_of_option command before one = option_fault before one (option_of command one.name)

-- a fault, or where there is none another one
abbrev pub fault_or : Option ℕ → Option ℕ → Option ℕ
fault_or (Some place) later = Some place
fault_or None later = later

-- the place of the first option at fault, of those written after others
abbrev pub first_fault : CommandWord → List Written → List Written → Option ℕ
first_fault command before [] = None
first_fault command before (one ∷ others) =
    fault_or (fault_of_option command before one) (first_fault command (one ∷ before) others)

-- the place at which words after a command, read from left to right, are first at fault
abbrev pub fault_in : CommandWord → List (List ℕ) → Option ℕ
fault_in command words = first_fault command [] (written_options 2 words)

-- no fault, or just the one at this place
abbrev pub IsNoneBut : ℕ → Option ℕ → Type 0
IsNoneBut place None = Unit {0}
IsNoneBut place (Some other) = other ≡ place
