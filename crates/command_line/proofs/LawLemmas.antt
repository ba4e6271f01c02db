-- What options ask for depends on their names and values alone, and not on their places or their order.
use Rattle.std.proofs.Common.{◌≡◌, ◌≢◌, ℕ, ◌+◌, ◌/◌, ◌<◌, ◌==◌, Bool, true, false, not, cond, nat_lt, List, [], ◌∷◌, ◌++◌, map, length, take, drop, Option, Some, None, is_some, is_none, unwrap_or, Result, Ok, Err, ok_or, refl, ap, sym, ◌∙◌, arith, add-one, length-append}
use Rattle.std.specs.List.{prefix_len}
use Rattle.std.specs.Option.{option_map, option_and_then}
use Rattle.std.specs.Result.{result_ok}
use Rattle.std.specs.Str.{bytes_eq}
use Rattle.std.proofs.lemmas.Bool.{and_parts, lt-ltb, le-ltb, false_from_ne_true}
use Rattle.std.proofs.lemmas.Slice.Eq.{bytes_eq-Decides}
use Rattle.part_layout.specs.declared.config.Config.{Config}
use Rattle.command_line.specs.CommandOptions.{name_of, option_of, number, is_value}
use Rattle.part_layout.specs.Contiguous.{can_be_cut}
use Rattle.command_line.specs.CommandWords.{number_given, number_or, config, config_of, parts_for, required, load_of, with_config, config_of_load, or_fault, asked_after, options_asked}
use Rattle.command_line.specs.WrittenOptions.{Written, parted, has_no_equals, in_one_word, in_two_words, written_options, first_written, others_written, given, value_fault, option_fault, fault_of_option}
use Rattle.command_line.proofs.OptionLemmas.{named_name}
use Rattle.command_line.proofs.GivenLemmas.{of_named, written_one, written_two}
use Rattle.command_line.specs.declared.command_option.CommandOption.{CommandOption}
use Rattle.command_line.specs.declared.command_option.CommandOption.TheVariants.{Bits, Parts, Shards, Room, Entries, Input, Number, Codes}
use Rattle.command_line.specs.declared.command.Command.{Command}
use Rattle.command_line.specs.declared.command.Command.TheVariants as ask
use Rattle.command_line.specs.declared.command.CommandWord.{CommandWord}
use Rattle.command_line.specs.declared.command.CommandWord.TheVariants.{Run, Load, Listen}

-- an option without its places
abbrev Bare : Type 0
Bare = List ℕ × Option (List ℕ)

abbrev bare : Written → Bare
bare one = (one.name, one.value)

-- the value of an option, if it was given
abbrev bare_given : CommandOption → List Bare → Option (Option (List ℕ))
bare_given option [] = None
bare_given option (one ∷ others) = cond (bytes_eq one.0 (name_of option)) (Some one.1) (bare_given option others)

-- whether a value may stand
abbrev stands : CommandOption → Option (List ℕ) → Bool
stands option None = false
stands option (Some value) = is_value option value

-- whether what may be an option has no fault after others
abbrev option_passes : List Bare → Bare → Option CommandOption → Bool
option_passes before one None = false
option_passes before one (Some option) = cond (is_some (bare_given option before)) false (stands option one.1)

-- whether an option has no fault after others
abbrev passes : CommandWord → List Bare → Bare → Bool
passes command before one = option_passes before one (option_of command one.0)

-- the number of a value that may be missing
abbrev number_in : CommandOption → Option (List ℕ) → Option ℕ
number_in option value = option_and_then (number option) value

-- the number that an option was given, or its default
abbrev bare_number : CommandOption → ℕ → Option (Option (List ℕ)) → ℕ
bare_number option default found = unwrap_or (option_and_then (number_in option) found) default

-- the parts for so many bits
abbrev laid_parts : ℕ → Option ℕ → Option ℕ
laid_parts bits None = None
laid_parts bits (Some parts) = cond (can_be_cut bits parts) (Some parts) None

-- the parts, or their default
abbrev bare_parts : ℕ → Option (Option (List ℕ)) → Option ℕ
bare_parts bits None = Some (bits / 8)
bare_parts bits (Some value) = laid_parts bits (number_in Parts value)

-- a session of so many bits and parts
abbrev bare_session : ℕ → List Bare → ℕ → Config
bare_session bits before parts = record {
  bits = bits;
  parts = parts;
  shards = bare_number Shards 4 (bare_given Shards before);
  room = bare_number Room 64 (bare_given Room before);
  entries = bare_number Entries 1048576 (bare_given Entries before);
  input = bare_number Input 4294967296 (bare_given Input before);
}

-- what is asked for, where the parts can be had
abbrev bare_config : ℕ → List Bare → Option (Option (List ℕ)) → Option Config
bare_config bits before found = option_map (bare_session bits before) (bare_parts bits found)

-- a number that an option has to be given, if it was
abbrev bare_required : CommandOption → Option (Option (List ℕ)) → Option ℕ
bare_required option found = option_and_then (number_in option) found

-- a workload of a number and so many codes, if both were given
abbrev bare_load : Config → Option ℕ → Option ℕ → Option Command
bare_load config None codes = None
bare_load config (Some number) None = None
bare_load config (Some number) (Some codes) = Some (ask.Load config number codes)

-- what a command asks for
abbrev bare_with : CommandWord → List Bare → Config → Option Command
bare_with Run before config = Some (ask.Run config)
bare_with Load before config =
    bare_load (config_of_load config) (bare_required Number (bare_given Number before)) (bare_required Codes (bare_given Codes before))
bare_with Listen before config = None

-- what a command asks for, where the numbers of a session can be had
abbrev bare_command : CommandWord → List Bare → Option Config → Option Command
bare_command command before found = option_and_then (bare_with command before) found

-- what options ask for that are written after others, without their places
abbrev bare_asked : CommandWord → List Bare → List Bare → Option Command
bare_asked command before [] =
    bare_command command before (bare_config (bare_number Bits 64 (bare_given Bits before)) before (bare_given Parts before))
bare_asked command before (one ∷ others) = cond (passes command before one) (bare_asked command (one ∷ before) others) None

-- the value of an option that is found
abbrev value_of : Option Written → Option (Option (List ℕ))
value_of found = option_map (λ one. one.value) found

-- one more option, found or not
one_more : (test : Bool) (one : Written) (found : Option Written) (bared : Option (Option (List ℕ))) → value_of found ≡ bared
    → value_of (cond test (Some one) found) ≡ cond test (Some one.value) bared
one_more true one found bared same = refl
one_more false one found bared same = same

-- an option is found where it is without places
given_bare : (option : CommandOption) (settings : List Written) → value_of (given option settings) ≡ bare_given option (map bare settings)
given_bare option [] = refl
given_bare option (one ∷ others) =
    one_more (bytes_eq one.name (name_of option)) one (given option others) (bare_given option (map bare others)) (given_bare option others)

-- an option that is found has a value or misses one
value_some : (found : Option Written) → is_some (value_of found) ≡ is_some found
value_some None = refl
value_some (Some one) = refl

-- a value has no fault where it may stand
no_fault_passes : (passed : Bool) (place : ℕ) → is_none {T = ℕ} (cond passed None (Some place)) ≡ passed
no_fault_passes true place = refl
no_fault_passes false place = refl

-- a value that may be missing has no fault where it may stand
value_passes : (option : CommandOption) (place : ℕ) (value : Option (List ℕ)) → is_none (value_fault option place value) ≡ stands option value
value_passes option place None = refl
value_passes option place (Some value) = no_fault_passes (is_value option value) place

-- an option that is new
new_passes : (old : Bool) (place : ℕ) (fault : Option ℕ) → is_none (cond old (Some place) fault) ≡ cond old false (is_none fault)
new_passes true place fault = refl
new_passes false place fault = refl

-- what may be an option has no fault where it passes
named_passes : (before : List Written) (one : Written) (named : Option CommandOption)
    → is_none (option_fault before one named) ≡ option_passes (map bare before) (bare one) named
named_passes before one None = refl
named_passes before one (Some option) =
    let old : is_some (given option before) ≡ is_some (bare_given option (map bare before)) =
    sym (value_some (given option before)) ∙ ap (λ (found : Option (Option (List ℕ))). is_some found) (given_bare option before) in
    new_passes (is_some (given option before)) one.place (value_fault option one.value_place one.value)
    ∙ ap (λ (passed : Bool). cond (is_some (given option before)) false passed) (value_passes option one.value_place one.value)
    ∙ ap (λ (old : Bool). cond old false (stands option one.value)) old

-- a result stands where there is no fault
stood : (fault : Option ℕ) (result : Result Command ℕ) → result_ok (or_fault fault result) ≡ cond (is_none fault) (result_ok result) None
stood None result = refl
stood (Some place) result = refl

-- the number of what is found
number_bare : (option : CommandOption) (found : Option Written)
    → option_and_then (number_given option) found ≡ option_and_then (number_in option) (value_of found)
number_bare option None = refl
number_bare option (Some one) = refl

-- the number that an option was given
number_or_bare : (option : CommandOption) (default : ℕ) (settings : List Written)
    → number_or option default settings ≡ bare_number option default (bare_given option (map bare settings))
number_or_bare option default settings =
    ap (λ (found : Option ℕ). unwrap_or found default) (number_bare option (given option settings))
    ∙ ap (bare_number option default) (given_bare option settings)

-- the parts that were found, by their number
abbrev parts_by : ℕ → ℕ → Option ℕ → Result ℕ ℕ
parts_by bits place number = elim number [ None ↦ Err place | Some parts ↦ cond (can_be_cut bits parts) (Ok parts) (Err place) ]

-- the parts that were found
abbrev parts_found : ℕ → Option Written → Result ℕ ℕ
parts_found bits found = elim found [ None ↦ Ok (bits / 8) | Some one ↦ parts_for bits one ]

-- a session of the parts
abbrev with_parts : ℕ → List Written → Result ℕ ℕ → Result Config ℕ
with_parts bits before parts = elim parts [ Err place ↦ Err place | Ok parts ↦ Ok (config bits parts before) ]

-- a session, without the places of its numbers
session_bare : (bits : ℕ) (before : List Written) (parts : ℕ) → config bits parts before ≡ bare_session bits (map bare before) parts
session_bare bits before parts =
    rw (
      number_or_bare Shards 4 before,
      number_or_bare Room 64 before,
      number_or_bare Entries 1048576 before,
      number_or_bare Input 4294967296 before,
    ) refl

-- parts that were judged
judged_bare : (bits : ℕ) (before : List Written) (place parts : ℕ) (passed : Bool)
    → result_ok (with_parts bits before (cond passed (Ok parts) (Err place)))
    ≡ option_map (bare_session bits (map bare before)) (cond passed (Some parts) None)
judged_bare bits before place parts true = ap (λ (one : Config). Some one) (session_bare bits before parts)
judged_bare bits before place parts false = refl

-- parts by their number
parts_by_bare : (bits : ℕ) (before : List Written) (place : ℕ) (number : Option ℕ)
    → result_ok (with_parts bits before (parts_by bits place number)) ≡ option_map (bare_session bits (map bare before)) (laid_parts bits number)
parts_by_bare bits before place None = refl
parts_by_bare bits before place (Some parts) = judged_bare bits before place parts (can_be_cut bits parts)

-- what is asked for, by what was found of the parts
config_bare : (bits : ℕ) (before : List Written) (found : Option Written)
    → result_ok (with_parts bits before (parts_found bits found)) ≡ bare_config bits (map bare before) (value_of found)
config_bare bits before None = ap (λ (one : Config). Some one) (session_bare bits before (bits / 8))
config_bare bits before (Some one) = parts_by_bare bits before one.value_place (number_given Parts one)

-- the numbers of a session
session_found : (before : List Written) → result_ok (config_of before)
    ≡ bare_config (bare_number Bits 64 (bare_given Bits (map bare before))) (map bare before) (bare_given Parts (map bare before))
session_found before =
    config_bare (number_or Bits 64 before) before (given Parts before)
    ∙ ap (bare_config (number_or Bits 64 before) (map bare before)) (given_bare Parts before)
    ∙ ap (λ (bits : ℕ). bare_config bits (map bare before) (bare_given Parts (map bare before))) (number_or_bare Bits 64 before)

-- a number that has to be given
ok_bare : (number : Option ℕ) (end : ℕ) → result_ok (ok_or number end) ≡ number
ok_bare None end = refl
ok_bare (Some number) end = refl

required_bare : (option : CommandOption) (end : ℕ) (before : List Written)
    → result_ok (required option end before) ≡ bare_required option (bare_given option (map bare before))
required_bare option end before =
    ok_bare (option_and_then (number_given option) (given option before)) end
    ∙ number_bare option (given option before) ∙ ap (bare_required option) (given_bare option before)

-- a workload
load_bare : (config : Config) (number codes : Result ℕ ℕ) → result_ok (load_of config number codes) ≡ bare_load config (result_ok number) (result_ok codes)
load_bare config (Err place) codes = refl
load_bare config (Ok number) (Err place) = refl
load_bare config (Ok number) (Ok codes) = refl

with_bare : (command : CommandWord) (end : ℕ) (before : List Written) (config : Config)
    → result_ok (with_config command end before config) ≡ bare_with command (map bare before) config
with_bare Run end before config = refl
with_bare Listen end before config = refl
with_bare Load end before config =
    load_bare (config_of_load config) (required Number end before) (required Codes end before)
    ∙ ap (λ (number : Option ℕ). bare_load (config_of_load config) number (result_ok (required Codes end before))) (required_bare Number end before)
    ∙ ap (bare_load (config_of_load config) (bare_required Number (bare_given Number (map bare before)))) (required_bare Codes end before)

-- what a command asks for once the numbers of a session were judged
abbrev judged : CommandWord → ℕ → List Written → Result Config ℕ → Result Command ℕ
judged command end before found =
    elim found [ Err place ↦ Err place | Ok config ↦ with_config command end before config ]

command_bare : (command : CommandWord) (end : ℕ) (before : List Written) (found : Result Config ℕ)
    → result_ok (judged command end before found) ≡ bare_command command (map bare before) (result_ok found)
command_bare command end before (Err place) = refl
command_bare command end before (Ok config) = with_bare command end before config

-- what options ask for, without their places
pub asked_bare : (command : CommandWord) (end : ℕ) (before settings : List Written)
    → result_ok (asked_after command end before settings) ≡ bare_asked command (map bare before) (map bare settings)
asked_bare command end before [] =
    command_bare command end before (config_of before)
    ∙ ap (bare_command command (map bare before)) (session_found before)
asked_bare command end before (one ∷ others) =
    stood (fault_of_option command before one) (asked_after command end (one ∷ before) others)
    ∙ ap (λ (passed : Bool). cond passed (result_ok (asked_after command end (one ∷ before) others)) None)
    (named_passes before one (option_of command one.name))
    ∙ ap (λ (asked : Option Command). cond (passes command (map bare before) (bare one)) asked None) (asked_bare command end (one ∷ before) others)

-- options before which give each option the same
abbrev GivesSame : List Bare → List Bare → Type 0
GivesSame before other = (option : CommandOption) → bare_given option before ≡ bare_given option other

-- what may be an option passes by what was given
passes_same : (before other : List Bare) (one : Bare) (named : Option CommandOption) → GivesSame before other
    → option_passes before one named ≡ option_passes other one named
passes_same before other one None same = refl
passes_same before other one (Some option) same =
    ap (λ (found : Option (Option (List ℕ))). cond (is_some found) false (stands option one.1)) (same option)

-- a session by what was given
session_same : (bits : ℕ) (before other : List Bare) (parts : ℕ) → GivesSame before other → bare_session bits before parts ≡ bare_session bits other parts
session_same bits before other parts same = rw (same Shards, same Room, same Entries, same Input) refl

-- what is asked for by what was given, once the parts are judged
config_same : (bits : ℕ) (before other : List Bare) (parts : Option ℕ) → GivesSame before other
    → option_map (bare_session bits before) parts ≡ option_map (bare_session bits other) parts
config_same bits before other None same = refl
config_same bits before other (Some parts) same = ap (λ (one : Config). Some one) (session_same bits before other parts same)

-- the numbers of a session by what was given
found_same : (before other : List Bare) → GivesSame before other
    → bare_config (bare_number Bits 64 (bare_given Bits before)) before (bare_given Parts before)
    ≡ bare_config (bare_number Bits 64 (bare_given Bits other)) other (bare_given Parts other)
found_same before other same =
    ap (λ (found : Option (Option (List ℕ))). bare_config (bare_number Bits 64 found) before (bare_given Parts before)) (same Bits)
    ∙ ap (bare_config (bare_number Bits 64 (bare_given Bits other)) before) (same Parts)
    ∙ config_same (bare_number Bits 64 (bare_given Bits other)) before other
    (bare_parts (bare_number Bits 64 (bare_given Bits other)) (bare_given Parts other)) same

-- what a command asks for by what was given
with_same : (command : CommandWord) (before other : List Bare) (config : Config) → GivesSame before other
    → bare_with command before config ≡ bare_with command other config
with_same Run before other config same = refl
with_same Listen before other config same = refl
with_same Load before other config same =
    ap (λ (found : Option (Option (List ℕ))). bare_load (config_of_load config) (bare_required Number found) (bare_required Codes (bare_given Codes before)))
    (same Number)
    ∙ ap (λ (found : Option (Option (List ℕ))). bare_load (config_of_load config) (bare_required Number (bare_given Number other)) (bare_required Codes found))
    (same Codes)

command_same : (command : CommandWord) (before other : List Bare) (found : Option Config) → GivesSame before other
    → bare_command command before found ≡ bare_command command other found
command_same command before other None same = refl
command_same command before other (Some config) same = with_same command before other config same

-- what was given decides what is asked for
asked_same : (command : CommandWord) (before other settings : List Bare) → GivesSame before other
    → bare_asked command before settings ≡ bare_asked command other settings
asked_same command before other [] same =
    ap (bare_command command before) (found_same before other same)
    ∙ command_same command before other
    (bare_config (bare_number Bits 64 (bare_given Bits other)) other (bare_given Parts other)) same
asked_same command before other (one ∷ others) same =
    ap (λ (passed : Bool). cond passed (bare_asked command (one ∷ before) others) None) (passes_same before other one (option_of command one.0) same)
    ∙ ap (λ (asked : Option Command). cond (passes command other one) asked None)
    (asked_same command (one ∷ before) (one ∷ other) others
    (λ option. ap (λ (found : Option (Option (List ℕ))). cond (bytes_eq one.0 (name_of option)) (Some one.1) found) (same option)))

-- a name is not another option's
not_named : (name : List ℕ) (option : CommandOption) → name ≢ name_of option → bytes_eq name (name_of option) ≡ false
not_named name option other = false_from_ne_true (bytes_eq name (name_of option)) (λ same. other ((bytes_eq-Decides name (name_of option)).0 same))

-- an option passes whether or not another one comes before it
passes_after : (command : CommandWord) (before : List Bare) (one other : Bare) (named : Option CommandOption) → option_of command other.0 ≡ named
    → one.0 ≢ other.0
    → option_passes (one ∷ before) other named ≡ option_passes before other named
passes_after command before one other None is differ = refl
passes_after command before one other (Some option) is differ =
    let same : other.0 ≡ name_of option = named_name other.0 option (of_named command other.0 option is) in
    let apart : bytes_eq one.0 (name_of option) ≡ false = not_named one.0 option (λ equal. differ (equal ∙ sym same)) in
    ap (λ (test : Bool). cond (is_some (cond test (Some one.1) (bare_given option before))) false (stands option other.1)) apart

-- two tests in either order
tests_swap : (first second : Bool) (asked : Option Command) → cond first (cond second asked None) None ≡ cond second (cond first asked None) None
tests_swap true true asked = refl
tests_swap true false asked = refl
tests_swap false true asked = refl
tests_swap false false asked = refl

-- two finds in either order, of which one at most finds
finds_swap : (first second : Bool) (one other found : Option (Option (List ℕ))) → (first ≡ true → second ≡ true → ⊥)
    → cond first one (cond second other found) ≡ cond second other (cond first one found)
finds_swap true true one other found apart = absurd (apart refl refl)
finds_swap true false one other found apart = refl
finds_swap false true one other found apart = refl
finds_swap false false one other found apart = refl

-- two options before, in either order
gives_swap : (before : List Bare) (one other : Bare) → one.0 ≢ other.0 → GivesSame (other ∷ one ∷ before) (one ∷ other ∷ before)
gives_swap before one other differ = λ option.
    finds_swap (bytes_eq other.0 (name_of option)) (bytes_eq one.0 (name_of option)) (Some other.1) (Some one.1) (bare_given option before)
    (λ is_other is_one. differ ((bytes_eq-Decides one.0 (name_of option)).0 is_one ∙ sym ((bytes_eq-Decides other.0 (name_of option)).0 is_other)))

-- two options in either order
bare_swap : (command : CommandWord) (before settings : List Bare) (one other : Bare) → one.0 ≢ other.0
    → bare_asked command before (one ∷ other ∷ settings) ≡ bare_asked command before (other ∷ one ∷ settings)
bare_swap command before settings one other differ =
    ap (λ (test : Bool). cond (passes command before one) (cond test (bare_asked command (other ∷ one ∷ before) settings) None) None)
    (passes_after command before one other (option_of command other.0) refl differ)
    ∙ ap (λ (asked : Option Command). cond (passes command before one) (cond (passes command before other) asked None) None)
    (asked_same command (other ∷ one ∷ before) (one ∷ other ∷ before) settings (gives_swap before one other differ))
    ∙ tests_swap (passes command before one) (passes command before other) (bare_asked command (one ∷ other ∷ before) settings)
    ∙ ap (λ (test : Bool). cond (passes command before other) (cond test (bare_asked command (one ∷ other ∷ before) settings) None) None)
    (sym (passes_after command before other one (option_of command one.0) refl (λ same. differ (sym same))))

-- two options in either order, with their places
pub order_free : (command : CommandWord) (end : ℕ) (before later : List Written) (one other : Written) → one.name ≢ other.name
    → result_ok (asked_after command end before (one ∷ other ∷ later)) ≡ result_ok (asked_after command end before (other ∷ one ∷ later))
order_free command end before later one other differ =
    asked_bare command end before (one ∷ other ∷ later) ∙ bare_swap command (map bare before) (map bare later) (bare one) (bare other) differ
    ∙ sym (asked_bare command end before (other ∷ one ∷ later))

-- a name ends at the first `=`
name_ends : (name rest : List ℕ) → has_no_equals name ≡ true → prefix_len (λ byte. not (byte == 61)) (name ++ 61 ∷ rest) ≡ length name
name_ends [] rest plain = refl
name_ends (byte ∷ name) rest plain =
    let both = and_parts (not (byte == 61)) (has_no_equals name) plain in
    let more : prefix_len (λ byte. not (byte == 61)) (name ++ 61 ∷ rest) ≡ length name = name_ends name rest both.1 in
    ap (λ (test : Bool). cond test (1 + prefix_len (λ byte. not (byte == 61)) (name ++ 61 ∷ rest)) 0) both.0 ∙ omega (arith, more)

-- a name has none
name_whole : (name : List ℕ) → has_no_equals name ≡ true → prefix_len (λ byte. not (byte == 61)) name ≡ length name
name_whole [] plain = refl
name_whole (byte ∷ name) plain =
    let both = and_parts (not (byte == 61)) (has_no_equals name) plain in
    let more : prefix_len (λ byte. not (byte == 61)) name ≡ length name = name_whole name both.1 in
    ap (λ (test : Bool). cond test (1 + prefix_len (λ byte. not (byte == 61)) name) 0) both.0 ∙ omega (arith, more)

-- the name of a word
taken : (name rest : List ℕ) → take (length name) (name ++ rest) ≡ name
taken [] rest = refl
taken (byte ∷ name) rest = ap (λ (bytes : List ℕ). byte ∷ bytes) (taken name rest)

-- the value of a word
dropped : (name rest : List ℕ) → drop (length name + 1) (name ++ 61 ∷ rest) ≡ rest
dropped [] rest = refl
dropped (byte ∷ name) rest = rw add-one (rw add-one at (dropped name rest))

-- a name alone has no parts
parted_none : (name : List ℕ) → has_no_equals name ≡ true → parted name ≡ None
parted_none name plain =
    let cut : ℕ → List ℕ × List ℕ = λ (equals : ℕ). (take equals name, drop (equals + 1) name) in
    ap (λ (place : ℕ). option_map cut (cond (nat_lt place (length name)) (Some place) None)) (name_whole name plain)
    ∙ ap (λ (within : Bool). option_map cut (cond within (Some (length name)) None)) (le-ltb (length name) (length name) (omega arith))

-- a name, a `=` and a value have them
parted_joined : (name value : List ℕ) → has_no_equals name ≡ true → parted (name ++ 61 ∷ value) ≡ Some (name, value)
parted_joined name value plain =
    let cut : ℕ → List ℕ × List ℕ = λ (equals : ℕ). (take equals (name ++ 61 ∷ value), drop (equals + 1) (name ++ 61 ∷ value)) in
    let size : length name < length (name ++ 61 ∷ value) = rw (length-append name (61 ∷ value)) (omega arith) in
    let Both : List ℕ → List ℕ → Option (List ℕ × List ℕ) = λ (a b : List ℕ). Some (a, b) in
    ap (λ (place : ℕ). option_map cut (cond (nat_lt place (length (name ++ 61 ∷ value))) (Some place) None)) (name_ends name value plain)
    ∙ ap (λ (within : Bool). option_map cut (cond within (Some (length name)) None)) (lt-ltb (length name) (length (name ++ 61 ∷ value)) size)
    ∙ ap (λ (a : List ℕ). Both a (drop (length name + 1) (name ++ 61 ∷ value))) (taken name (61 ∷ value))
    ∙ ap (Both name) (dropped name value)

-- the first option without its places
bare_first : (place other : ℕ) (word : List ℕ) (next : Option (List ℕ)) (found : Option (List ℕ × List ℕ))
    → bare (first_written place word next found) ≡ bare (first_written other word next found)
bare_first place other word next None = refl
bare_first place other word next (Some parts) = refl

-- the others without theirs
bare_others : (found : Option (List ℕ × List ℕ)) (next later next_too later_too : List Written) → map bare next ≡ map bare next_too
    → map bare later ≡ map bare later_too → map bare (others_written found next later) ≡ map bare (others_written found next_too later_too)
bare_others None next later next_too later_too same same_later = same_later
bare_others (Some parts) next later next_too later_too same same_later = same

-- words write the same from another place on, but for the places
bare_written : (texts : List (List ℕ)) (place other : ℕ) → map bare (written_options place texts) ≡ map bare (written_options other texts)
bare_written [] place other = refl
bare_written (word ∷ []) place other = ap (λ (one : Bare). one ∷ []) (bare_first place other word None (parted word))
bare_written (word ∷ next ∷ texts) place other =
    let rest = bare_others (parted word) (written_options (place + 1) (next ∷ texts)) (written_options (place + 2) texts)
    (written_options (other + 1) (next ∷ texts)) (written_options (other + 2) texts)
    (bare_written (next ∷ texts) (place + 1) (other + 1)) (bare_written texts (place + 2) (other + 2)) in
    ap (λ (one : Bare). one ∷ map bare (others_written (parted word) (written_options (place + 1) (next ∷ texts)) (written_options (place + 2) texts)))
    (bare_first place other word (Some next) (parted word))
    ∙ ap (λ (others : List Bare). bare (first_written other word (Some next) (parted word)) ∷ others) rest

-- an option in either form
pub either_form : (command : CommandWord) (name value : List ℕ) (words : List (List ℕ)) → has_no_equals name ≡ true
    → result_ok (options_asked command ((name ++ 61 ∷ value) ∷ words)) ≡ result_ok (options_asked command (name ∷ value ∷ words))
either_form command name value words plain =
    let Asked : ℕ → List Written → Option Command = λ (end : ℕ) (settings : List Written). result_ok (asked_after command end [] settings) in
    let ends = length ((name ++ 61 ∷ value) ∷ words) + 2 in
    let ends_two = length (name ∷ value ∷ words) + 2 in
    let one = in_one_word 2 (name, value) in
    let two = in_two_words 2 name (Some value) in
    ap (Asked ends) (written_one 2 (name ++ 61 ∷ value) words (name, value) (parted_joined name value plain))
    ∙ asked_bare command ends [] (one ∷ written_options 3 words)
    ∙ ap (λ (others : List Bare). bare_asked command [] (bare one ∷ others)) (bare_written words 3 4)
    ∙ sym (asked_bare command ends_two [] (two ∷ written_options 4 words))
    ∙ sym (ap (Asked ends_two) (written_two 2 name (value ∷ words) (parted_none name plain)))
