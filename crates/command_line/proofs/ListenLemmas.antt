-- What options ask for, from what is kept of them.
use Rattle.std.proofs.Common.{◌≡◌, ℕ, ◌+◌, List, [], ◌∷◌, length, Option, Some, None, Result, Ok, Err, refl, ap, sym, ◌∙◌}
use Rattle.command_line.specs.CommandWords.{or_fault, command_of, asked_after, options_asked}
use Rattle.command_line.specs.ListenWords.{settings_after, settings_asked, listen_of, listen_options}
use Rattle.command_line.specs.WrittenOptions.{Written, written_options, fault_of_option}
use Rattle.command_line.specs.Kept.{options_kept}
use Rattle.command_line.specs.ReadWords.{settings_kept, given_asked}
use Rattle.part_layout.specs.declared.config.Config.{Config}
use Rattle.command_line.specs.declared.command.Command.{Command}
use Rattle.command_line.specs.declared.command.CommandWord.{CommandWord}
use Rattle.command_line.specs.declared.command.CommandWord.TheVariants.{Listen}
use Rattle.command_line.specs.declared.given.Given.{Given}

-- what options ask for that have no fault of their own
abbrev asked_by : {A : Type 0} → (List Written → Result A ℕ) → Result (List Written) ℕ → Result A ℕ
asked_by asks (Err place) = Err place
asked_by asks (Ok settings) = asks settings

-- a fault comes before what is asked for
fault_by : {A : Type 0} (asks : List Written → Result A ℕ) (fault : Option ℕ) (found : Result (List Written) ℕ)
    → or_fault fault (asked_by asks found) ≡ asked_by asks (or_fault fault found)
fault_by asks None found = refl
fault_by asks (Some place) found = refl

-- what a command's options ask for, by those without a fault
asked_settings : (command : CommandWord) (end : ℕ) (before settings : List Written)
    → asked_after command end before settings ≡ asked_by (command_of command end) (settings_after command before settings)
asked_settings command end before [] = refl
asked_settings command end before (one ∷ others) =
    let rest = asked_settings command end (one ∷ before) others in
    let fault = fault_of_option command before one in
    rw rest (fault_by (command_of command end) fault (settings_after command (one ∷ before) others))

-- what is asked for, by what is kept
by_kept : {A : Type 0} (asks : List Written → Result A ℕ) (found : Result (List Written) ℕ) (given : Given) (asked : Result A ℕ)
    → Ok given ≡ settings_kept found → ((settings : List Written) → given ≡ options_kept settings → asked ≡ asks settings)
    → asked ≡ asked_by asks found
by_kept asks (Err place) given asked kept meets = cc
by_kept asks (Ok settings) given asked kept meets = meets settings (cc)

-- a fault that is kept is told
by_fault : {A : Type 0} (asks : List Written → Result A ℕ) (found : Result (List Written) ℕ) (place : ℕ)
    → ◌≡◌ {A = Result Given ℕ} (Err place) (settings_kept found) → ◌≡◌ {A = Result A ℕ} (Err place) (asked_by asks found)
by_fault asks (Err other) place kept = cc
by_fault asks (Ok settings) place kept = cc

-- what a command asks for, where the words end before a place
pub command_kept : (command : CommandWord) (words : List (List ℕ)) (end : ℕ) (given : Given) (asked : Result Command ℕ) → end ≡ length words + 2
    → Ok given ≡ given_asked command words → ((settings : List Written) → given ≡ options_kept settings → asked ≡ command_of command end settings)
    → asked ≡ options_asked command words
command_kept command words end given asked last kept meets =
    by_kept (command_of command (length words + 2)) (settings_asked command words) given asked kept
    (λ settings same. meets settings same ∙ ap (λ (end : ℕ). command_of command end settings) last)
    ∙ sym (asked_settings command (length words + 2) [] (written_options 2 words))

pub command_fault : (command : CommandWord) (words : List (List ℕ)) (place : ℕ)
    → ◌≡◌ {A = Result Given ℕ} (Err place) (given_asked command words) → Err place ≡ options_asked command words
command_fault command words place kept =
    by_fault (command_of command (length words + 2)) (settings_asked command words) place kept
    ∙ sym (asked_settings command (length words + 2) [] (written_options 2 words))

-- what a `listen` asks for
pub listen_kept : (words : List (List ℕ)) (end : ℕ) (given : Given) (asked : Result (Config × ℕ × ℕ) ℕ) → end ≡ length words + 2
    → Ok given ≡ given_asked Listen words → ((settings : List Written) → given ≡ options_kept settings → asked ≡ listen_of end settings)
    → asked ≡ listen_options words
listen_kept words end given asked last kept meets =
    by_kept (listen_of (length words + 2)) (settings_asked Listen words) given asked kept
    (λ settings same. meets settings same ∙ ap (λ (end : ℕ). listen_of end settings) last)
