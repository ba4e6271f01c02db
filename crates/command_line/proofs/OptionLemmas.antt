-- Names and numbers of options.
use Rattle.std.proofs.Common.{◌≡◌, ℕ, ◌%◌, ◌==◌, ◌≤◌, ◌&&◌, Bool, true, false, cond, nat_le, List, Option, Some, None, IfSome, refl, sym, ap, ◌∙◌}
use Rattle.std.specs.Option.{option_and_then}
use Rattle.std.specs.Str.{bytes_eq}
use Rattle.std.specs.Str.Parse.{digits_value}
use Rattle.std.proofs.lemmas.Bool.{and_parts, leb-true, eqb-true}
use Rattle.std.proofs.lemmas.Slice.Eq.{bytes_eq-Decides}
use Rattle.line_forms.specs.Forms.{is_decimal, number_of}
use Rattle.command_line.specs.CommandOptions.{name_of, option_named, number, multiple_of_8, least, greatest}
use Rattle.command_line.specs.Kept.{IsNumberOf}
use Rattle.command_line.specs.declared.command_option.CommandOption.{CommandOption}
use Rattle.command_line.specs.declared.command_option.CommandOption.TheVariants.{Bits, Parts, Shards, Room, Entries, Input, Number, Codes, Port, Sessions}

-- the option that is found is the first, or one of the others, and passes its test
found_passes : (first : Bool) (one : CommandOption) (others : Option CommandOption) (option : CommandOption) (test : CommandOption → Bool)
    → test one ≡ first → (others ≡ Some option → test option ≡ true) → cond first (Some one) others ≡ Some option → test option ≡ true
found_passes true one others option test passed later found = let same : one ≡ option = cc in ap test (sym same) ∙ passed
found_passes false one others option test passed later found = later found

-- a name that names an option is that option's
pub named_name : (name : List ℕ) (option : CommandOption) → option_named name ≡ Some option → name ≡ name_of option
named_name name option named =
    let test : CommandOption → Bool = λ (o : CommandOption). bytes_eq name (name_of o) in
    let passed : bytes_eq name (name_of option) ≡ true =
    found_passes (test Bits) Bits _ option test refl
    (found_passes (test Parts) Parts _ option test refl
    (found_passes (test Shards) Shards _ option test refl
    (found_passes (test Room) Room _ option test refl
    (found_passes (test Entries) Entries _ option test refl
    (found_passes (test Input) Input _ option test refl
    (found_passes (test Number) Number _ option test refl
    (found_passes (test Codes) Codes _ option test refl
    (found_passes (test Port) Port _ option test refl
    (found_passes (test Sessions) Sessions None option test refl (λ none. cc)))))))))) named in
    (bytes_eq-Decides name (name_of option)).0 passed

-- a number that passes the tests of its range lies in it
in_range : (digits : Bool) (least value greatest : ℕ)
    → IfSome (cond (digits && nat_le least value && nat_le value greatest) (Some value) None) (λ number. (least ≤ number) × (number ≤ greatest))
in_range digits least value greatest =
    elim (digits && nat_le least value && nat_le value greatest) as
    (λ b. (b ≡ true → (least ≤ value) × (value ≤ greatest)) → IfSome (cond b (Some value) None) (λ number. (least ≤ number) × (number ≤ greatest)))
    [ true ↦ λ held. held refl | false ↦ λ held. tt ]
    (λ passed.
    let both = and_parts (digits && nat_le least value) (nat_le value greatest) passed in
    let low = and_parts digits (nat_le least value) both.0 in
    (leb-true least value low.1, leb-true value greatest both.1))

-- a number of so many digits lies in its range
pub number_of_range : (digits least greatest : ℕ) (word : List ℕ)
    → IfSome (number_of digits least greatest word) (λ number. (least ≤ number) × (number ≤ greatest))
number_of_range digits least greatest word = in_range (is_decimal digits word) least (digits_value 10 word) greatest

-- a number of bits that is kept
bits_range : (found : Option ℕ) → IfSome found (λ number. (8 ≤ number) × (number ≤ 256)) → IfSome (option_and_then multiple_of_8 found) (IsNumberOf Bits)
bits_range None within = tt
bits_range (Some value) within =
    elim (value % 8 == 0) as (λ b. (b ≡ true → value % 8 ≡ 0) → IfSome (cond b (Some value) None) (IsNumberOf Bits))
    [ true ↦ λ held. (within.0, within.1, held refl) | false ↦ λ held. tt ] (λ passed. eqb-true (value % 8) 0 passed)

-- the number that a value gives an option is one that it may be given
pub number_range : (option : CommandOption) (value : List ℕ) → IfSome (number option value) (IsNumberOf option)
number_range Bits value = bits_range (number_of 20 8 256 value) (number_of_range 20 8 256 value)
number_range Parts value = number_of_range 20 1 64 value
number_range Shards value = number_of_range 20 1 16 value
number_range Room value = number_of_range 20 1 256 value
number_range Entries value = number_of_range 20 1 1048576 value
number_range Input value = number_of_range 20 1 4294967296 value
number_range Number value = number_of_range 20 0 18446744073709551615 value
number_range Codes value = number_of_range 20 0 1048576 value
number_range Port value = number_of_range 20 1 65535 value
number_range Sessions value = number_of_range 20 1 65536 value
