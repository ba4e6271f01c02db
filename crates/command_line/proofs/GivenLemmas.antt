-- What is kept of the options, and what one more option makes of it.
use Rattle.std.proofs.Common.{◌≡◌, ℕ, ◌+◌, Bool, true, false, cond, List, [], ◌∷◌, Option, Some, None, is_some, IfSome, Result, Ok, Err, refl, ap, sym, ◌∙◌, subst, arith, ◌≤◌}
use Rattle.std.proofs.lemmas.Bool.{cond-true, cond-false}
use Rattle.std.specs.Option.{option_map, option_and_then}
use Rattle.std.specs.Str.{bytes_eq}
use Rattle.command_line.specs.CommandOptions.{name_of, option_named, option_of, has_option, if_allowed, number, is_value}
use Rattle.command_line.specs.CommandWords.{or_fault}
use Rattle.command_line.specs.ListenWords.{settings_after}
use Rattle.command_line.specs.WrittenOptions.{Written, parted, in_one_word, in_two_words, written_options, given, value_fault, option_fault, fault_of_option, first_written, others_written}
use Rattle.command_line.specs.Kept.{given_option, entry_at, put, options_kept, kept_after, present, size, IsNumberOf, IsEntryOf, AreEntries}
use Rattle.command_line.specs.ReadWords.{next_in, after_next}
use Rattle.command_line.proofs.WordLemmas.{from_first}
use Rattle.command_line.proofs.OptionLemmas.{named_name, number_range}
use Rattle.command_line.specs.declared.command_option.CommandOption.{CommandOption}
use Rattle.command_line.specs.declared.command_option.CommandOption.TheVariants.{Bits, Parts, Shards, Room, Entries, Input, Number, Codes, Port, Sessions}
use Rattle.command_line.specs.declared.given.GivenNumber.{GivenNumber}
use Rattle.command_line.specs.declared.given.Given.{Given}
use Rattle.command_line.specs.declared.command.CommandWord.{CommandWord}

-- what is kept with one more option of a name
put_named : (before : List Written) (one : Written) (option : CommandOption)
    → ((other : CommandOption) → bytes_eq one.name (name_of other) ≡ bytes_eq (name_of option) (name_of other))
    → put option (given_option option one) (options_kept before) ≡ options_kept (one ∷ before)
put_named before one Bits same =
    rw (same Bits, same Parts, same Shards, same Room, same Entries, same Input, same Number, same Codes, same Port, same Sessions)
put_named before one Parts same =
    rw (same Bits, same Parts, same Shards, same Room, same Entries, same Input, same Number, same Codes, same Port, same Sessions)
put_named before one Shards same =
    rw (same Bits, same Parts, same Shards, same Room, same Entries, same Input, same Number, same Codes, same Port, same Sessions)
put_named before one Room same =
    rw (same Bits, same Parts, same Shards, same Room, same Entries, same Input, same Number, same Codes, same Port, same Sessions)
put_named before one Entries same =
    rw (same Bits, same Parts, same Shards, same Room, same Entries, same Input, same Number, same Codes, same Port, same Sessions)
put_named before one Number same =
    rw (same Bits, same Parts, same Shards, same Room, same Entries, same Input, same Number, same Codes, same Port, same Sessions)
put_named before one Codes same =
    rw (same Bits, same Parts, same Shards, same Room, same Entries, same Input, same Number, same Codes, same Port, same Sessions)
put_named before one Port same =
    rw (same Bits, same Parts, same Shards, same Room, same Entries, same Input, same Number, same Codes, same Port, same Sessions)
put_named before one Sessions same =
    rw (same Bits, same Parts, same Shards, same Room, same Entries, same Input, same Number, same Codes, same Port, same Sessions)
put_named before one Input same =
    rw (same Bits, same Parts, same Shards, same Room, same Entries, same Input, same Number, same Codes, same Port, same Sessions)

-- an option that may stand after a command is the one that was named
allowed_is : (allowed : Bool) (found option : CommandOption) → ◌≡◌ {A = Option CommandOption} (cond allowed (Some found) None) (Some option) → found ≡ option
allowed_is true found option is = cc
allowed_is false found option is = cc

allowed_named : (command : CommandWord) (named : Option CommandOption) (option : CommandOption)
    → option_and_then (if_allowed command) named ≡ Some option → named ≡ Some option
allowed_named command None option is = cc
allowed_named command (Some found) option is = ap (λ (one : CommandOption). Some one) (allowed_is (has_option command found) found option is)

-- what is kept with one more option
pub put_one : (before : List Written) (one : Written) (option : CommandOption) → option_named one.name ≡ Some option
    → put option (given_option option one) (options_kept before) ≡ options_kept (one ∷ before)
put_one before one option named =
    let same : one.name ≡ name_of option = named_name one.name option named in
    put_named before one option (λ other. ap (λ (name : List ℕ). bytes_eq name (name_of other)) same)

-- an option is kept where it was given
kept_some : (option : CommandOption) (found : Option Written) → is_some (option_map (given_option option) found) ≡ is_some found
kept_some option None = refl
kept_some option (Some one) = refl

-- an option is kept where it was given, by its place in what is kept
pub at_some : (before : List Written) (option : CommandOption) → is_some (entry_at option (options_kept before)) ≡ is_some (given option before)
at_some before Bits = kept_some Bits (given Bits before)
at_some before Parts = kept_some Parts (given Parts before)
at_some before Shards = kept_some Shards (given Shards before)
at_some before Room = kept_some Room (given Room before)
at_some before Entries = kept_some Entries (given Entries before)
at_some before Input = kept_some Input (given Input before)
at_some before Number = kept_some Number (given Number before)
at_some before Codes = kept_some Codes (given Codes before)
at_some before Port = kept_some Port (given Port before)
at_some before Sessions = kept_some Sessions (given Sessions before)

-- an option of a command has the name
pub of_named : (command : CommandWord) (name : List ℕ) (option : CommandOption) → option_of command name ≡ Some option → option_named name ≡ Some option
of_named command name option is = allowed_named command (option_named name) option is

-- a new option with a value that may stand has no fault
pub no_fault : (command : CommandWord) (before : List Written) (one : Written) (option : CommandOption) (value : List ℕ)
    → option_of command one.name ≡ Some option
    → is_some (given option before) ≡ false → one.value ≡ Some value → is_value option value ≡ true → fault_of_option command before one ≡ None
no_fault command before one option value named new stands good =
    let found : fault_of_option command before one ≡ option_fault before one (Some option) = ap (option_fault before one) named in
    let fresh : option_fault before one (Some option) ≡ value_fault option one.value_place one.value =
    cond-false (is_some (given option before)) (Some one.place) (value_fault option one.value_place one.value) new in
    let here : value_fault option one.value_place one.value ≡ value_fault option one.value_place (Some value) =
    ap (value_fault option one.value_place) stands in
    found ∙ fresh ∙ here ∙ cond-true (is_value option value) None (Some one.value_place) good

-- so it is kept
pub kept_one : (command : CommandWord) (before : List Written) (one : Written) (option : CommandOption) (value : List ℕ)
    → option_of command one.name ≡ Some option
    → is_some (entry_at option (options_kept before)) ≡ false → one.value ≡ Some value → is_value option value ≡ true
    → Ok (put option (given_option option one) (options_kept before)) ≡ kept_after command before one
kept_one command before one option value named new stands good =
    let none : fault_of_option command before one ≡ None = no_fault command before one option value named (sym (at_some before option) ∙ new) stands good in
    rw none (ap (λ (given : Given). Ok given) (put_one before one option (of_named command one.name option named)))

-- an option at fault, as the reader judges it
at_fault : (command : CommandWord) (before : List Written) (one : Written) (option : CommandOption) (place : ℕ)
    → option_of command one.name ≡ Some option → option_fault before one (Some option) ≡ Some place → Err place ≡ kept_after command before one
at_fault command before one option place named is =
    let found : fault_of_option command before one ≡ Some place = ap (option_fault before one) named ∙ is in
    sym (ap (λ (fault : Option ℕ). or_fault fault (Ok (options_kept (one ∷ before)))) found)

-- an option that was given before, as the reader finds it
pub repeated : (command : CommandWord) (before : List Written) (one : Written) (option : CommandOption) (old : Given)
    → option_of command one.name ≡ Some option → old ≡ options_kept before → is_some (entry_at option old) ≡ true
    → Err one.place ≡ kept_after command before one
repeated command before one option old named same found =
    let was : is_some (given option before) ≡ true =
    sym (at_some before option) ∙ ap (λ (values : Given). is_some (entry_at option values)) (sym same) ∙ found in
    at_fault command before one option one.place named
    (cond-true (is_some (given option before)) (Some one.place) (value_fault option one.value_place one.value) was)

-- an option whose value is missing or bad, as the reader finds it
pub value_at_fault : (command : CommandWord) (before : List Written) (one : Written) (option : CommandOption) (old : Given)
    → option_of command one.name ≡ Some option → old ≡ options_kept before → is_some (entry_at option old) ≡ false
    → value_fault option one.value_place one.value ≡ Some one.value_place → Err one.value_place ≡ kept_after command before one
value_at_fault command before one option old named same absent is =
    let new : is_some (given option before) ≡ false =
    sym (at_some before option) ∙ ap (λ (values : Given). is_some (entry_at option values)) (sym same) ∙ absent in
    at_fault command before one option one.value_place named
    (cond-false (is_some (given option before)) (Some one.place) (value_fault option one.value_place one.value) new ∙ is)

-- a value that is missing or bad is at fault
pub missing_value : (option : CommandOption) (place : ℕ) (value : Option (List ℕ)) → value ≡ None → value_fault option place value ≡ Some place
missing_value option place value none = ap (value_fault option place) none

pub bad_value : (option : CommandOption) (place : ℕ) (value : Option (List ℕ)) (found : List ℕ) → value ≡ Some found
    → is_value option found ≡ false → value_fault option place value ≡ Some place
bad_value option place value found is bad =
    ap (value_fault option place) is ∙ cond-false (is_value option found) None (Some place) bad

-- so it is kept, as the reader does
pub kept_with : (command : CommandWord) (before : List Written) (one : Written) (option : CommandOption) (value : List ℕ) (old new : Given)
    (entry : GivenNumber)
    → option_of command one.name ≡ Some option → old ≡ options_kept before → is_some (entry_at option old) ≡ false → one.value ≡ Some value
    → is_value option value ≡ true → entry ≡ record { number = number option value; place = one.value_place } → new ≡ put option entry old
    → Ok new ≡ kept_after command before one
kept_with command before one option value old new entry named same absent stands good is made =
    let IsAbsent : Given → Type 0 = λ (values : Given). is_some (entry_at option values) ≡ false in
    let Done : Given → Result Given ℕ = λ (values : Given). Ok values in
    let number_of : Option (List ℕ) → GivenNumber =
    λ (value : Option (List ℕ)). record { number = option_and_then (number option) value; place = one.value_place } in
    let entry_is : entry ≡ given_option option one = is ∙ sym (ap number_of stands) in
    let put_is : put option entry old ≡ put option (given_option option one) (options_kept before) =
    ap (λ (e : GivenNumber). put option e old) entry_is ∙ ap (λ (values : Given). put option (given_option option one) values) same in
    ap Done (made ∙ put_is) ∙ kept_one command before one option value named (subst IsAbsent same absent) stands good

-- a fault is the first one
fault_first : {A B : Type 0} (fault : Option ℕ) (place : ℕ) (value : B) (other : Result A ℕ)
    → ◌≡◌ {A = Result B ℕ} (Err place) (or_fault fault (Ok value)) → ◌≡◌ {A = Result A ℕ} (or_fault fault other) (Err place)
fault_first (Some found) place value other is = cc
fault_first None place value other is = cc

-- where there is no fault the result stands
stands_alone : {A B : Type 0} (fault : Option ℕ) (given value : B) (other : Result A ℕ)
    → ◌≡◌ {A = Result B ℕ} (Ok given) (or_fault fault (Ok value)) → (given ≡ value) × (or_fault fault other ≡ other)
stands_alone (Some found) given value other is = (cc, cc)
stands_alone None given value other is = (cc, refl)

-- the first option that words write, where it has its value in one word
pub written_one : (place : ℕ) (word : List ℕ) (texts : List (List ℕ)) (parts : List ℕ × List ℕ) → parted word ≡ Some parts
    → written_options place (word ∷ texts) ≡ in_one_word place parts ∷ written_options (place + 1) texts
written_one place word [] parts has =
    ap (λ (found : Option (List ℕ × List ℕ)). first_written place word None found ∷ []) has
written_one place word (next ∷ texts) parts has =
    ap (λ (found : Option (List ℕ × List ℕ)). first_written place word (Some next) found
    ∷ others_written found (written_options (place + 1) (next ∷ texts)) (written_options (place + 2) texts)) has

-- the first option that words write, where its name is a word
pub written_two : (place : ℕ) (word : List ℕ) (texts : List (List ℕ)) → parted word ≡ None
    → written_options place (word ∷ texts) ≡ in_two_words place word (next_in texts) ∷ written_options (place + 2) (after_next texts)
written_two place word [] has =
    ap (λ (found : Option (List ℕ × List ℕ)). first_written place word None found ∷ []) has
written_two place word (next ∷ texts) has =
    ap (λ (found : Option (List ℕ × List ℕ)). first_written place word (Some next) found
    ∷ others_written found (written_options (place + 1) (next ∷ texts)) (written_options (place + 2) texts)) has

-- the fault of the next option is the first one
pub step_fault : (command : CommandWord) (before : List Written) (one : Written) (others : List Written) (place : ℕ)
    → Err place ≡ kept_after command before one
    → settings_after command before (one ∷ others) ≡ Err place
step_fault command before one others place is = fault_first (fault_of_option command before one) place (options_kept (one ∷ before))
    (settings_after command (one ∷ before) others) is

-- the next option without a fault
pub step_on : (command : CommandWord) (before : List Written) (one : Written) (others : List Written) (given : Given)
    → Ok given ≡ kept_after command before one
    → (given ≡ options_kept (one ∷ before)) × (settings_after command before (one ∷ others) ≡ settings_after command (one ∷ before) others)
step_on command before one others given is = stands_alone (fault_of_option command before one) given (options_kept (one ∷ before))
    (settings_after command (one ∷ before) others) is

-- the number of a value is one of its option
value_has : (option : CommandOption) (value : Option (List ℕ)) → IfSome (option_and_then (number option) value) (IsNumberOf option)
value_has option None = tt
value_has option (Some value) = number_range option value

-- what is kept of an option is an entry of it
kept_has : (option : CommandOption) (found : Option Written) → IsEntryOf option (option_map (given_option option) found)
kept_has option None = tt
kept_has option (Some one) = value_has option one.value

-- what is kept of an option is an entry of it, by its place in what is kept
entry_has : (before : List Written) (option : CommandOption) → IsEntryOf option (entry_at option (options_kept before))
entry_has before Bits = kept_has Bits (given Bits before)
entry_has before Parts = kept_has Parts (given Parts before)
entry_has before Shards = kept_has Shards (given Shards before)
entry_has before Room = kept_has Room (given Room before)
entry_has before Entries = kept_has Entries (given Entries before)
entry_has before Input = kept_has Input (given Input before)
entry_has before Number = kept_has Number (given Number before)
entry_has before Codes = kept_has Codes (given Codes before)
entry_has before Port = kept_has Port (given Port before)
entry_has before Sessions = kept_has Sessions (given Sessions before)

-- what is kept are entries of their options
kept_entries : (before : List Written) → AreEntries (options_kept before)
kept_entries before = record { each = entry_has before }

-- the same of what equals it
pub are_entries : (before : List Written) (given : Given) → given ≡ options_kept before → AreEntries given
are_entries before given same = subst (λ (given : Given). AreEntries given) (sym same) (kept_entries before)

-- an option counts for one at most
present_few : (entry : Option GivenNumber) → present entry ≤ 1
present_few None = omega arith
present_few (Some entry) = omega arith

-- an option that was not given does not count
absent_none : (entry : Option GivenNumber) → is_some entry ≡ false → present entry ≡ 0
absent_none None absent = refl
absent_none (Some entry) absent = cc

-- no more options are given than there are
pub size_few : (given : Given) → size given ≤ 10
size_few given =
    omega (
      arith,
      present_few given.bits,
      present_few given.parts,
      present_few given.shards,
      present_few given.room,
      present_few given.entries,
      present_few given.input,
      present_few given.number,
      present_few given.codes,
      present_few given.port,
      present_few given.sessions,
    )

-- a new option counts for one
pub size_more : (option : CommandOption) (entry : GivenNumber) (given : Given) → is_some (entry_at option given) ≡ false
    → size (put option entry given) ≡ size given + 1
size_more Bits entry given absent = omega (arith, absent_none given.bits absent)
size_more Parts entry given absent = omega (arith, absent_none given.parts absent)
size_more Shards entry given absent = omega (arith, absent_none given.shards absent)
size_more Room entry given absent = omega (arith, absent_none given.room absent)
size_more Entries entry given absent = omega (arith, absent_none given.entries absent)
size_more Input entry given absent = omega (arith, absent_none given.input absent)
size_more Number entry given absent = omega (arith, absent_none given.number absent)
size_more Codes entry given absent = omega (arith, absent_none given.codes absent)
size_more Port entry given absent = omega (arith, absent_none given.port absent)
size_more Sessions entry given absent = omega (arith, absent_none given.sessions absent)

-- the words from the first one on write the same
opened : (command : CommandWord) (before : List Written) (place : ℕ) (word : List ℕ) (texts : List (List ℕ)) (whole : Result (List Written) ℕ)
    → Some word ≡ next_in texts
    → settings_after command before (written_options place texts) ≡ whole
    → settings_after command before (written_options place (word ∷ after_next texts)) ≡ whole
opened command before place word texts whole first same =
    subst (λ (words : List (List ℕ)). settings_after command before (written_options place words) ≡ whole) (from_first texts word first) same

-- where the words stand after an option in one word
pub after_one : (command : CommandWord) (before : List Written) (given : Given) (place : ℕ) (word : List ℕ) (texts rest : List (List ℕ))
    (parts : List ℕ × List ℕ)
    (whole : Result (List Written) ℕ) → Some word ≡ next_in texts → rest ≡ after_next texts → parted word ≡ Some parts
    → Ok given ≡ kept_after command before (in_one_word place parts) → settings_after command before (written_options place texts) ≡ whole
    → (given ≡ options_kept (in_one_word place parts ∷ before)) ×
    (settings_after command (in_one_word place parts ∷ before) (written_options (place + 1) rest) ≡ whole)
after_one command before values place word texts rest parts whole first left has is same =
    let one = in_one_word place parts in
    let on = step_on command before one (written_options (place + 1) (after_next texts)) values is in
    let known = opened command before place word texts whole first same in
    let split = ap (λ (settings : List Written). settings_after command before settings) (written_one place word (after_next texts) parts has) in (
      on.0,
      subst (λ (words : List (List ℕ)). settings_after command (one ∷ before) (written_options (place + 1) words) ≡ whole) (sym left)
          (sym on.1 ∙ sym split ∙ known),
    )

-- the fault of an option in one word
pub fault_one : (command : CommandWord) (before : List Written) (fault place : ℕ) (word : List ℕ) (texts : List (List ℕ)) (parts : List ℕ × List ℕ)
    (whole : Result (List Written) ℕ) → Some word ≡ next_in texts → parted word ≡ Some parts
    → Err fault ≡ kept_after command before (in_one_word place parts) → settings_after command before (written_options place texts) ≡ whole → Err fault ≡ whole
fault_one command before fault place word texts parts whole first has is same =
    let known = opened command before place word texts whole first same in
    let split = ap (λ (settings : List Written). settings_after command before settings) (written_one place word (after_next texts) parts has) in
    sym (step_fault command before (in_one_word place parts) (written_options (place + 1) (after_next texts)) fault is) ∙ sym split ∙ known

-- an option in two words before the others
two_split : (command : CommandWord) (before : List Written) (place : ℕ) (word : List ℕ) (texts rest later : List (List ℕ)) (value : Option (List ℕ))
    → rest ≡ after_next texts → value ≡ next_in rest → later ≡ after_next rest → parted word ≡ None
    → settings_after command before (written_options place (word ∷ after_next texts))
    ≡ settings_after command before (in_two_words place word value ∷ written_options (place + 2) later)
two_split command before place word texts rest later value left next last has =
    let Others : List (List ℕ) → List Written =
    λ (rest : List (List ℕ)). in_two_words place word (next_in rest) ∷ written_options (place + 2) (after_next rest) in
    let split : written_options place (word ∷ after_next texts) ≡ Others rest = written_two place word (after_next texts) has ∙ sym (ap Others left) in
    let named : Others rest ≡ in_two_words place word value ∷ written_options (place + 2) later =
    ap (λ (found : Option (List ℕ)). in_two_words place word found ∷ written_options (place + 2) (after_next rest)) (sym next)
    ∙ ap (λ (words : List (List ℕ)). in_two_words place word value ∷ written_options (place + 2) words) (sym last) in
    ap (λ (settings : List Written). settings_after command before settings) (split ∙ named)

-- where the words stand after an option in two words
pub after_two : (command : CommandWord) (before : List Written) (given : Given) (place : ℕ) (word : List ℕ)
    (texts rest later : List (List ℕ)) (value : Option (List ℕ))
    (whole : Result (List Written) ℕ) → Some word ≡ next_in texts → rest ≡ after_next texts → value ≡ next_in rest → later ≡ after_next rest
    → parted word ≡ None → Ok given ≡ kept_after command before (in_two_words place word value)
    → settings_after command before (written_options place texts) ≡ whole
    → (given ≡ options_kept (in_two_words place word value ∷ before))
    × (settings_after command (in_two_words place word value ∷ before) (written_options (place + 2) later) ≡ whole)
after_two command before values place word texts rest later value whole first left next last has is same =
    let one = in_two_words place word value in
    let on = step_on command before one (written_options (place + 2) later) values is in
    let known = opened command before place word texts whole first same in
    (on.0, sym on.1 ∙ sym (two_split command before place word texts rest later value left next last has) ∙ known)

-- the fault of an option in two words
pub fault_two : (command : CommandWord) (before : List Written) (fault place : ℕ) (word : List ℕ) (texts rest : List (List ℕ))
    (value : Option (List ℕ))
    (whole : Result (List Written) ℕ) → Some word ≡ next_in texts → rest ≡ after_next texts → value ≡ next_in rest
    → parted word ≡ None → Err fault ≡ kept_after command before (in_two_words place word value)
    → settings_after command before (written_options place texts) ≡ whole → Err fault ≡ whole
fault_two command before fault place word texts rest value whole first left next has is same =
    let known = opened command before place word texts whole first same in
    sym (step_fault command before (in_two_words place word value) (written_options (place + 2) (after_next rest)) fault is)
    ∙ sym (two_split command before place word texts rest (after_next rest) value left next refl has) ∙ known
