-- The first word at fault: the words before it alone have no fault, or just that a value is wanting at its place.
use Rattle.std.proofs.Common.{◌≡◌, ℕ, zero, suc, ◌+◌, ◌-◌, ◌≤◌, ◌⊎◌, inl, inr, Bool, true, false, cond, List, [], ◌∷◌, length, take, Option, Some, None, is_some, Err, refl, sym, ap, ◌∙◌, subst, arith}
use Rattle.command_line.specs.CommandOptions.{option_of, is_value}
use Rattle.command_line.specs.CommandWords.{asked_after, options_asked, or_fault}
use Rattle.command_line.specs.WrittenOptions.{Written, parted, in_one_word, in_two_words, written_options, given, value_fault, option_fault, fault_of_option, fault_or, first_fault, IsNoneBut}
use Rattle.command_line.specs.ReadWords.{next_in, after_next}
use Rattle.command_line.specs.declared.command_option.CommandOption.{CommandOption}
use Rattle.command_line.proofs.GivenLemmas.{written_one, written_two}
use Rattle.command_line.specs.declared.command.CommandWord.{CommandWord}

-- a fault is the first one, or there is none and a later one is
first_is : (fault later : Option ℕ) (place : ℕ) → fault_or fault later ≡ Some place
    → (fault ≡ Some place) ⊎ ((fault ≡ None) × (later ≡ Some place))
first_is (Some here) later place is = inl is
first_is None later place is = inr (refl, is)

-- where there is no first fault the later one stands
after_none : (fault later : Option ℕ) → fault ≡ None → fault_or fault later ≡ later
after_none (Some here) later none = cc
after_none None later none = refl

-- the fault of a value stands at its place
chosen_at : (stands : Bool) (at place : ℕ) → ◌≡◌ {A = Option ℕ} (cond stands None (Some at)) (Some place) → at ≡ place
chosen_at true at place is = cc
chosen_at false at place is = cc

value_at : (option : CommandOption) (at place : ℕ) (value : Option (List ℕ)) → value_fault option at value ≡ Some place → at ≡ place
value_at option at place None is = cc
value_at option at place (Some value) is = chosen_at (is_value option value) at place is

-- an option at fault is at fault by its name, or by its value
by_name : (repeated : Bool) (here place : ℕ) (of_value : Option ℕ) → ◌≡◌ {A = Option ℕ} (cond repeated (Some here) of_value) (Some place)
    → (here ≡ place) ⊎ ((repeated ≡ false) × (of_value ≡ Some place))
by_name true here place of_value is = inl (cc)
by_name false here place of_value is = inr (refl, is)

-- without its value an option that is at fault by that is at fault at the same place
cut_option : (before : List Written) (place at : ℕ) (name : List ℕ) (value : Option (List ℕ)) (found : Option CommandOption)
    → option_fault before (in_two_words place name value) found ≡ Some at
    → (place ≡ at) ⊎ ((place + 1 ≡ at) × (option_fault before (in_two_words place name None) found ≡ Some at))
cut_option before place at name value None is = inl (cc)
cut_option before place at name value (Some option) is =
    elim (by_name (is_some (given option before)) place at (value_fault option (place + 1) value) is) [
      | inl same ↦ inl same
      | inr both ↦
          let here = value_at option (place + 1) at value both.1 in
          let fresh : is_some (given option before) ≡ false = both.0 in
          inr (here, rw fresh (ap (λ n. Some n) here))
    ]

-- an option in one word is at fault at that word
one_option : (before : List Written) (place at : ℕ) (parts : List ℕ × List ℕ) (found : Option CommandOption)
    → option_fault before (in_one_word place parts) found ≡ Some at → place ≡ at
one_option before place at parts None is = cc
one_option before place at parts (Some option) is =
    elim (by_name (is_some (given option before)) place at (value_fault option place (Some parts.1)) is) [
      | inl same ↦ same
      | inr both ↦ value_at option place at (Some parts.1) both.1
    ]

-- what is told command end is the first fault
pub told : (command : CommandWord) (end : ℕ) (before settings : List Written) (place : ℕ) → first_fault command before settings ≡ Some place
    → asked_after command end before settings ≡ Err place
told command end before [] place is = cc
told command end before (one ∷ others) place is =
    elim (first_is (fault_of_option command before one) (first_fault command (one ∷ before) others) place is) [
      | inl here ↦ ap (λ (fault : Option ℕ). or_fault fault (asked_after command end (one ∷ before) others)) here
      | inr both ↦
          ap (λ (fault : Option ℕ). or_fault fault (asked_after command end (one ∷ before) others)) both.0
          ∙ told command end (one ∷ before) others place both.1
    ]

-- the words before a place, the first of them at another, have no fault, or just one at that place
abbrev CutsAt : CommandWord → List Written → ℕ → List (List ℕ) → ℕ → Type 0
CutsAt command before first words place =
    (first ≤ place) × IsNoneBut place (first_fault command before (written_options first (take (place - first) words)))

-- no words stand before the first
at_first : (command : CommandWord) (before : List Written) (first place : ℕ) (words : List (List ℕ)) → first ≡ place → CutsAt command before first words place
at_first command before first place words same =
    let none : place - first ≡ 0 = omega (arith, same) in
    let whole : first_fault command before (written_options first (take (place - first) words)) ≡ None =
    ap (λ n. first_fault command before (written_options first (take n words))) none in
    (omega (arith, same), subst (IsNoneBut place) (sym whole) tt)

-- the words after an option in one word
after_one : (command : CommandWord) (before : List Written) (first place : ℕ) (word : List ℕ) (texts : List (List ℕ)) (parts : List ℕ × List ℕ)
    → parted word ≡ Some parts → fault_of_option command before (in_one_word first parts) ≡ None
    → CutsAt command (in_one_word first parts ∷ before) (first + 1) texts place → CutsAt command before first (word ∷ texts) place
after_one command before first place word texts parts has none cut =
    let one = in_one_word first parts in
    let left = place - (first + 1) in
    let more : place - first ≡ suc left = omega (arith, cut.0) in
    let same : first_fault command before (written_options first (take (place - first) (word ∷ texts)))
    ≡ first_fault command (one ∷ before) (written_options (first + 1) (take left texts)) =
    ap (λ n. first_fault command before (written_options first (take n (word ∷ texts)))) more
    ∙ ap (first_fault command before) (written_one first word (take left texts) parts has)
    ∙ after_none (fault_of_option command before one) (first_fault command (one ∷ before) (written_options (first + 1) (take left texts))) none in
    (omega (arith, cut.0), subst (IsNoneBut place) (sym same) cut.1)

-- the next of some first words, and those after it
next_taken : (k : ℕ) (texts : List (List ℕ)) → next_in (take (suc k) texts) ≡ next_in texts
next_taken k [] = refl
next_taken k (text ∷ texts) = refl

rest_taken : (k : ℕ) (texts : List (List ℕ)) → after_next (take (suc k) texts) ≡ take k (after_next texts)
rest_taken zero [] = refl
rest_taken (suc k) [] = refl
rest_taken k (text ∷ texts) = refl

rest_fits : (texts : List (List ℕ)) → length (after_next texts) ≤ length texts
rest_fits [] = omega arith
rest_fits (text ∷ texts) = omega arith

-- the words after an option in two words
after_two : (command : CommandWord) (before : List Written) (first place : ℕ) (word : List ℕ) (texts : List (List ℕ)) → parted word ≡ None
    → fault_of_option command before (in_two_words first word (next_in texts)) ≡ None
    → CutsAt command (in_two_words first word (next_in texts) ∷ before) (first + 2) (after_next texts) place
    → CutsAt command before first (word ∷ texts) place
after_two command before first place word texts has none cut =
    let one = in_two_words first word (next_in texts) in
    let left = place - (first + 2) in
    let more : place - first ≡ suc (suc left) = omega (arith, cut.0) in
    let front = take (suc left) texts in
    let next : in_two_words first word (next_in front) ≡ one = ap (in_two_words first word) (next_taken left texts) in
    let rest : written_options (first + 2) (after_next front) ≡ written_options (first + 2) (take left (after_next texts)) =
    ap (written_options (first + 2)) (rest_taken left texts) in
    let same : first_fault command before (written_options first (take (place - first) (word ∷ texts)))
    ≡ first_fault command (one ∷ before) (written_options (first + 2) (take left (after_next texts))) =
    ap (λ n. first_fault command before (written_options first (take n (word ∷ texts)))) more
    ∙ ap (first_fault command before) (written_two first word front has)
    ∙ ap (λ (w : Written). first_fault command before (w ∷ written_options (first + 2) (after_next front))) next
    ∙ ap (λ (others : List Written). first_fault command before (one ∷ others)) rest
    ∙ after_none (fault_of_option command before one) (first_fault command (one ∷ before) (written_options (first + 2) (take left (after_next texts)))) none in
    (omega (arith, cut.0), subst (IsNoneBut place) (sym same) cut.1)

-- an option in two words that is at fault by its value
at_value : (command : CommandWord) (before : List Written) (first place : ℕ) (word : List ℕ) (texts : List (List ℕ)) → parted word ≡ None → first + 1 ≡ place
    → fault_of_option command before (in_two_words first word None) ≡ Some place → CutsAt command before first (word ∷ texts) place
at_value command before first place word texts has here is =
    let more : place - first ≡ 1 = omega (arith, here) in
    let same : first_fault command before (written_options first (take (place - first) (word ∷ texts))) ≡ Some place =
    ap (λ n. first_fault command before (written_options first (take n (word ∷ texts)))) more
    ∙ ap (first_fault command before) (written_two first word [] has)
    ∙ ap (λ (fault : Option ℕ). fault_or fault None) is in
    (omega (arith, here), subst (IsNoneBut place) (sym same) refl)

-- the words from a word on, where it is cut or not
word_cut : (command : CommandWord) (size place : ℕ) → ((words : List (List ℕ)) (before : List Written) (first : ℕ) → length words ≤ size
    → first_fault command before (written_options first words) ≡ Some place → CutsAt command before first words place)
    → (word : List ℕ) (texts : List (List ℕ)) (before : List Written) (first : ℕ) → length texts ≤ size
    → first_fault command before (written_options first (word ∷ texts)) ≡ Some place → (found : Option (List ℕ × List ℕ)) → parted word ≡ found
    → CutsAt command before first (word ∷ texts) place
word_cut command size place rest word texts before first fits is (Some parts) has =
    let one = in_one_word first parts in
    let split = ap (first_fault command before) (written_one first word texts parts has) in
    elim (first_is (fault_of_option command before one) (first_fault command (one ∷ before) (written_options (first + 1) texts)) place (sym split ∙ is)) [
      | inl here ↦ at_first command before first place (word ∷ texts) (one_option before first place parts (option_of command one.name) here)
      | inr both ↦
          after_one command before first place word texts parts has both.0 (rest texts (one ∷ before) (first + 1) fits both.1)
    ]
word_cut command size place rest word texts before first fits is None has =
    let one = in_two_words first word (next_in texts) in
    let split = ap (first_fault command before) (written_two first word texts has) in
    let later = first_fault command (one ∷ before) (written_options (first + 2) (after_next texts)) in
    elim (first_is (fault_of_option command before one) later place (sym split ∙ is)) [
      | inl here ↦
          elim (cut_option before first place word (next_in texts) (option_of command word) here) [
            | inl same ↦ at_first command before first place (word ∷ texts) same
            | inr both ↦ at_value command before first place word texts has both.0 both.1
          ]
      | inr both ↦
          after_two command before first place word texts has both.0
          (rest (after_next texts) (one ∷ before) (first + 2) (omega (arith, fits, rest_fits texts)) both.1)
    ]

-- all words
pub cuts : (command : CommandWord) (size place : ℕ) (words : List (List ℕ)) (before : List Written) (first : ℕ) → length words ≤ size
    → first_fault command before (written_options first words) ≡ Some place → CutsAt command before first words place
cuts command size place [] before first fits is = cc
cuts command zero place (word ∷ texts) before first fits is = absurd (omega (arith, fits))
cuts command (suc size) place (word ∷ texts) before first fits is =
    word_cut command size place (cuts command size place) word texts before first (omega (arith, fits)) is (parted word) refl

-- the first fault is told, and the words before it alone have none but that a value is wanting there
pub first_told : (command : CommandWord) (options : List (List ℕ)) (place : ℕ) → first_fault command [] (written_options 2 options) ≡ Some place
    → (options_asked command options ≡ Err place) × IsNoneBut place (first_fault command [] (written_options 2 (take (place - 2) options)))
first_told command options place is = (
  told command (length options + 2) [] (written_options 2 options) place is,
  (cuts command (length options) place options [] 2 (omega arith) is).1,
)
