-- How the lines of a workload are read.
use Rattle.std.proofs.Common.{◌≡◌, ℕ, zero, suc, ◌+◌, ◌-◌, ◌*◌, ◌/◌, ◌%◌, ◌<◌, ◌≤◌, ◌^◌, ◌==◌, ◌&&◌, nat_le, nat_lt, Bool, true, cond, List, [], ◌∷◌, ◌++◌, length, slice_index, codes, decimal, Option, Some, None, Ok, refl, ap, ◌∙◌, arith, length-append}
use Rattle.std.proofs.lemmas.Bool.{and_parts, and_from, le-leb, lt-ltb, le-ltb, eq-eqb}
use Rattle.std.proofs.lemmas.Bool.Decides.{nat_tests}
use Rattle.std.proofs.lemmas.Fmt.{decimal_is_IsNumeral, length-decimal-le}
use Rattle.std.proofs.lemmas.List.Folds.{list_all-append}
use Rattle.std.proofs.lemmas.Str.{digit_value-digit_char}
use Rattle.std.specs.Char.{digit_char, digit_value}
use Rattle.std.specs.List.{list_all}
use Rattle.std.specs.Str.Parse.{AllDigits, digits_value}
use Rattle.byte_lines.specs.declared.cutter.TheConstants.{LINE_MOST}
use Rattle.hamming_model.specs.declared.limits.TheConstants.{ENTRIES_MOST}
use Rattle.hamming_model.specs.Codes.{hex_code}
use Rattle.line_forms.specs.Words.{words, is_printable}
use Rattle.line_forms.specs.Forms.{code_form, is_decimal, is_letter_or_digit, number_of}
use Rattle.part_layout.specs.declared.config.Config.{Config}
use Rattle.query_protocol.specs.Requests.{LineRequest, Add, Range, Near}
use Rattle.query_protocol.specs.Asked.{add_of, opening_of}
use Rattle.query_protocol.specs.Lines.{reading, of_words}
use Rattle.load_lines.specs.Lines.{digit_at, digits_from, code_text}
use Rattle.load_sums.proofs.CostLemmas.{letters_plain, first_word, last_word}
use Rattle.load_model.specs.Workload.{code_in_words}

-- ---- words of letters and digits

-- letters and digits are printable
letter_printable : (byte : ℕ) → is_letter_or_digit byte ≡ true → (nat_le 32 byte && nat_le byte 126) ≡ true
letter_printable byte letter = grind (arith, nat_tests)

pub letters_printable : (bytes : List ℕ) → list_all is_letter_or_digit bytes ≡ true → is_printable bytes ≡ true
letters_printable [] letters = refl
letters_printable (byte ∷ bytes) letters =
    let split = and_parts (is_letter_or_digit byte) (list_all is_letter_or_digit bytes) letters in
    and_from (nat_le 32 byte && nat_le byte 126) (is_printable bytes) (letter_printable byte split.0) (letters_printable bytes split.1)

-- what is below 36 is the value of a letter or a digit, and below 16 of a hexadecimal digit
digits_letters : (digits : List ℕ) → AllDigits 10 digits → list_all is_letter_or_digit digits ≡ true
digits_letters [] all = refl
digits_letters (byte ∷ bytes) all =
    and_from (is_letter_or_digit byte) (list_all is_letter_or_digit bytes) (lt-ltb (digit_value byte) 36 (omega (arith, all.0)))
    (digits_letters bytes all.1)

pub number_letters : (number : ℕ) → number < 2 ^ 64 → list_all is_letter_or_digit (decimal number) ≡ true
number_letters number small = digits_letters (decimal number) (decimal_is_IsNumeral number small).0.1

-- a digit of a code
code_digit : (most value : ℕ) → 16 ≤ most → nat_lt (digit_value (digit_char (value % 16))) most ≡ true
code_digit most value enough =
    let small : value % 16 < 16 = omega arith in
    lt-ltb (digit_value (digit_char (value % 16))) most (omega (arith, small, enough, digit_value-digit_char (value % 16) (omega (arith, small))))

code_digits : (most : ℕ) (words : List ℕ) (digits place : ℕ) → 16 ≤ most
    → list_all (λ byte. nat_lt (digit_value byte) most) (digits_from words digits place) ≡ true
code_digits most words zero place enough = refl
code_digits most words (suc digits) place enough =
    and_from (nat_lt (digit_value (digit_at words place)) most)
    (list_all (λ byte. nat_lt (digit_value byte) most) (digits_from words digits (place + 1)))
    (code_digit most (slice_index words (place / 16) / 2 ^ (60 - 4 * (place % 16))) enough) (code_digits most words digits (place + 1) enough)

pub digits_number : (words : List ℕ) (digits place : ℕ) → length (digits_from words digits place) ≡ digits
digits_number words zero place = refl
digits_number words (suc digits) place = ap suc (digits_number words digits (place + 1))

pub code_letters : (bits : ℕ) (words : List ℕ) → list_all is_letter_or_digit (code_text bits words) ≡ true
code_letters bits words = code_digits 36 words (bits / 4) 0 (omega arith)

-- ---- forms

-- the text of a code is read as the code that it spells
pub code_read : (bits : ℕ) (words : List ℕ) → code_form bits (code_text bits words) ≡ Some (code_in_words bits words)
code_read bits words =
    let text = code_text bits words in
    let size : (length text == bits / 4) ≡ true = eq-eqb (length text) (bits / 4) (digits_number words (bits / 4) 0) in
    ap (λ (b : Bool). cond (b && list_all (λ byte. nat_lt (digit_value byte) 16) text) (Some (hex_code text)) None) size
    ∙ ap (λ (b : Bool). cond b (Some (hex_code text)) None) (code_digits 16 words (bits / 4) 0 (omega arith))

-- digits are what `is_decimal` asks
are_digits : (digits : List ℕ) → AllDigits 10 digits → list_all (λ byte. nat_lt (digit_value byte) 10) digits ≡ true
are_digits [] all = refl
are_digits (byte ∷ bytes) all =
    and_from (nat_lt (digit_value byte) 10) (list_all (λ byte. nat_lt (digit_value byte) 10) bytes)
    (lt-ltb (digit_value byte) 10 (omega (arith, all.0))) (are_digits bytes all.1)

-- the text of a number is read as it, where it is in its range
pub number_read : (digits least greatest number : ℕ) → number < 2 ^ 64 → length (decimal number) ≤ digits → least ≤ number → number ≤ greatest
    → number_of digits least greatest (decimal number) ≡ Some number
number_read digits least greatest number small short above below =
    let numeral = decimal_is_IsNumeral number small in
    let value : digits_value 10 (decimal number) ≡ number = numeral.1 in
    let some : nat_le 1 (length (decimal number)) ≡ true = le-leb 1 (length (decimal number)) (omega (arith, numeral.0.0)) in
    let few : nat_le (length (decimal number)) digits ≡ true = le-leb (length (decimal number)) digits short in
    let is : is_decimal digits (decimal number) ≡ true =
    and_from (nat_le 1 (length (decimal number)) && nat_le (length (decimal number)) digits) (list_all (λ byte. nat_lt (digit_value byte) 10) (decimal number))
    (and_from (nat_le 1 (length (decimal number))) (nat_le (length (decimal number)) digits) some few) (are_digits (decimal number) numeral.0.1) in
    ap (λ (n : ℕ). cond (is_decimal digits (decimal number) && nat_le least n && nat_le n greatest) (Some n) None) value
    ∙ ap (λ (b : Bool). cond b (Some number) None)
    (and_from (is_decimal digits (decimal number) && nat_le least number) (nat_le number greatest)
    (and_from (is_decimal digits (decimal number)) (nat_le least number) is (le-leb least number above)) (le-leb number greatest below))

-- ---- lines

-- a short line of printable bytes is read by its words
read_by_words : (config : Config) (line : List ℕ) → is_printable line ≡ true → length line ≤ 128 → reading config line ≡ of_words config (words line)
read_by_words config line printable short =
    rw (printable, le-ltb LINE_MOST (length line) (omega (arith, short))) refl

-- the last two words of a line
two_words : (number text : List ℕ) → list_all is_letter_or_digit number ≡ true → 1 ≤ length number
    → list_all is_letter_or_digit text ≡ true → 1 ≤ length text → words (number ++ 32 ∷ text) ≡ number ∷ text ∷ []
two_words number text plain some plain_text some_text =
    first_word number text (letters_plain number plain) some
    ∙ ap (λ (texts : List (List ℕ)). number ∷ texts) (last_word text (letters_plain text plain_text) some_text)

two_printable : (number text : List ℕ) → list_all is_letter_or_digit number ≡ true → list_all is_letter_or_digit text ≡ true
    → is_printable (number ++ 32 ∷ text) ≡ true
two_printable number text plain plain_text =
    list_all-append (λ byte. nat_le 32 byte && nat_le byte 126) number (32 ∷ text)
    ∙ and_from (is_printable number) (is_printable (32 ∷ text)) (letters_printable number plain) (letters_printable text plain_text)

-- the text after the first words of a line: a number and a code
abbrev pub line_end : ℕ → ℕ → List ℕ → List ℕ
line_end bits number words = decimal number ++ 32 ∷ code_text bits words

-- what a line is read as
pub record IsRead (config : Config) (line : List ℕ) (request : LineRequest) : Type 0 where
  pub printable : is_printable line ≡ true
  pub asks : reading config line ≡ Ok (Some request)

-- a line that ends so is printable and short, and its last words are these
record IsEnd (bits number : ℕ) (drawn : List ℕ) : Type 0 where
  last : words (line_end bits number drawn) ≡ decimal number ∷ code_text bits drawn ∷ []
  printable : is_printable (line_end bits number drawn) ≡ true
  short : length (line_end bits number drawn) ≤ 85

line_ends : (bits number : ℕ) (drawn : List ℕ) → 8 ≤ bits → bits ≤ 256 → number < 2 ^ 64 → IsEnd bits number drawn
line_ends bits number drawn least most small =
    let letters = number_letters number small in
    let code : list_all is_letter_or_digit (code_text bits drawn) ≡ true = code_letters bits drawn in
    let size : length (code_text bits drawn) ≡ bits / 4 = digits_number drawn (bits / 4) 0 in
    let digits = length-decimal-le 20 number (omega arith) (omega (arith, small)) small in
    let some : 1 ≤ length (decimal number) = omega (arith, (decimal_is_IsNumeral number small).0.0) in record {
      last = two_words (decimal number) (code_text bits drawn) letters some code (omega (arith, size, least));
      printable = two_printable (decimal number) (code_text bits drawn) letters code;
      short = omega (arith, size, most, length-append (decimal number) (32 ∷ code_text bits drawn), digits);
    }

-- the line that adds a code
pub add_read : (config : Config) (key : ℕ) (drawn : List ℕ) → 8 ≤ config.bits → config.bits ≤ 256 → key < 2 ^ 64
    → IsRead config (codes "add " ++ line_end config.bits key drawn) (Add key (code_in_words config.bits drawn))
add_read config key drawn least most small =
    let end = line_ends config.bits key drawn least most small in
    let short : length (decimal key) ≤ 20 = length-decimal-le 20 key (omega arith) (omega (arith, small)) small in
    record {
      printable = end.printable;
      asks = read_by_words config (codes "add " ++ line_end config.bits key drawn) end.printable (omega (arith, end.short))
          ∙ ap (λ (texts : List (List ℕ)). of_words config (codes "add" ∷ texts)) end.last
          ∙ ap (λ (found : Option ℕ). add_of found (code_form config.bits (code_text config.bits drawn)))
          (number_read 20 0 (2 ^ 64 - 1) key small short (omega arith) (omega (arith, small)))
          ∙ ap (λ (found : Option (List ℕ)). add_of (Some key) found) (code_read config.bits drawn);
    }

-- the line that opens a range
pub range_read : (config : Config) (radius : ℕ) (drawn : List ℕ) → 8 ≤ config.bits → config.bits ≤ 256 → radius ≤ 8
    → IsRead config (codes "range q " ++ line_end config.bits radius drawn) (Range (codes "q") radius (code_in_words config.bits drawn))
range_read config radius drawn least most small =
    let fits : radius < 2 ^ 64 = omega (arith, small) in
    let end = line_ends config.bits radius drawn least most fits in
    let short : length (decimal radius) ≤ 3 = length-decimal-le 3 radius (omega arith) (omega (arith, small)) fits in
    let range_asked : List ℕ → ℕ → List ℕ → LineRequest = λ tag tau code. Range tag tau code in
    record {
      printable = end.printable;
      asks = read_by_words config (codes "range q " ++ line_end config.bits radius drawn) end.printable (omega (arith, end.short))
          ∙ ap (λ (texts : List (List ℕ)). of_words config (codes "range" ∷ codes "q" ∷ texts)) end.last
          ∙ ap (λ (found : Option ℕ). opening_of range_asked (Some (codes "q")) found (code_form config.bits (code_text config.bits drawn)))
          (number_read 3 0 config.bits radius fits short (omega arith) (omega (arith, small, least)))
          ∙ ap (λ (found : Option (List ℕ)). opening_of range_asked (Some (codes "q")) (Some radius) found) (code_read config.bits drawn);
    }

-- the line that opens a near query
pub near_read : (config : Config) (query : ℕ) (drawn : List ℕ) → 8 ≤ config.bits → config.bits ≤ 256 → 1 ≤ query → query < 32
    → IsRead config (codes "near q " ++ line_end config.bits query drawn) (Near (codes "q") query (code_in_words config.bits drawn))
near_read config query drawn least most some small =
    let fits : query < 2 ^ 64 = omega (arith, small) in
    let end = line_ends config.bits query drawn least most fits in
    let short : length (decimal query) ≤ 7 = length-decimal-le 7 query (omega arith) (omega (arith, small)) fits in
    let near_asked : List ℕ → ℕ → List ℕ → LineRequest = λ tag tau code. Near tag tau code in
    record {
      printable = end.printable;
      asks = read_by_words config (codes "near q " ++ line_end config.bits query drawn) end.printable (omega (arith, end.short))
          ∙ ap (λ (texts : List (List ℕ)). of_words config (codes "near" ∷ codes "q" ∷ texts)) end.last
          ∙ ap (λ (found : Option ℕ). opening_of near_asked (Some (codes "q")) found (code_form config.bits (code_text config.bits drawn)))
          (number_read 7 1 ENTRIES_MOST query fits short some (omega (arith, small)))
          ∙ ap (λ (found : Option (List ℕ)). opening_of near_asked (Some (codes "q")) (Some query) found) (code_read config.bits drawn);
    }
