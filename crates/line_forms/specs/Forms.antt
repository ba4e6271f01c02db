-- The forms of a request's words: what a word stands for, where it has the form.
use Rattle.std.specs.Prelude.{ℕ, ◌==◌, ◌/◌, ◌^◌, ◌-◌, ◌&&◌, nat_le, nat_lt, if◌then◌else◌, List, length, Bool, Option, Some, None}
use Rattle.std.specs.List.{list_all}
use Rattle.std.specs.Char.{digit_value}
use Rattle.std.specs.Str.Parse.{digits_value}
use Rattle.hamming_model.specs.Codes.{hex_code}
use Rattle.line_forms.specs.declared.tag.TheConstants.{TAG_MOST}

-- one to so many decimal digits
abbrev pub is_decimal : ℕ → List ℕ → Bool
is_decimal most word =
    nat_le 1 (length word) && nat_le (length word) most
    && list_all (λ byte. nat_lt (digit_value byte) 10) word

-- the number that one to so many decimal digits write, where it is from the least to the greatest
abbrev pub number_of : ℕ → ℕ → ℕ → List ℕ → Option ℕ
number_of digits least greatest word =
    let value = digits_value 10 word in
    if is_decimal digits word && nat_le least value && nat_le value greatest
    then Some value else None

-- a key
abbrev pub key_form : List ℕ → Option ℕ
key_form word = number_of 20 0 (2 ^ 64 - 1) word

-- a radius of codes of so many bits
abbrev pub radius_of : ℕ → List ℕ → Option ℕ
radius_of bits word = number_of 3 0 bits word

-- how many hits are asked
abbrev pub count_of : List ℕ → Option ℕ
count_of word = number_of 5 1 65536 word

-- a shard's number
abbrev pub shard_form : List ℕ → Option ℕ
shard_form word = number_of 2 0 99 word

-- a code of so many bits
abbrev pub code_form : ℕ → List ℕ → Option (List ℕ)
code_form bits word =
    if (length word == bits / 4) && list_all (λ byte. nat_lt (digit_value byte) 16) word
    then Some (hex_code word) else None

-- a letter or a digit of ASCII
abbrev pub is_letter_or_digit : ℕ → Bool
is_letter_or_digit byte = nat_lt (digit_value byte) 36

-- one to sixteen letters or digits
abbrev pub is_tag : List ℕ → Bool
is_tag word =
    nat_le 1 (length word) && nat_le (length word) TAG_MOST && list_all is_letter_or_digit word

-- a tag
abbrev pub tag_of : List ℕ → Option (List ℕ)
tag_of word = if is_tag word then Some word else None
