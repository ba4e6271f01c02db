-- Words of a line that is made of them, and what numbers and codes are read from their text.
use Rattle.std.proofs.Common.{◌≡◌, ℕ, ◌+◌, ◌*◌, ◌/◌, ◌%◌, ◌^◌, ◌<◌, ◌≤◌, ◌==◌, ◌&&◌, nat_le, nat_lt, not, Bool, true, cond, List, [], ◌∷◌, ◌++◌, length, decimal, Some, None, refl, ap, ◌∙◌, arith, length-append}
use Rattle.std.proofs.lemmas.Bool.{and_from, eq-eqb, leb-true, lt-ltb, le-ltb}
use Rattle.std.proofs.lemmas.Fmt.{decimal_is_IsNumeral, length-decimal-le}
use Rattle.std.proofs.lemmas.List.Folds.{list_all-append}
use Rattle.std.proofs.lemmas.Str.{digit_value-digit_char}
use Rattle.std.specs.Char.{digit_char, digit_value}
use Rattle.std.specs.List.{AllByRecursion, list_all}
use Rattle.byte_lines.specs.declared.cutter.TheConstants.{LINE_MOST}
use Rattle.hamming_model.specs.Codes.{IsCode, bits_of, hex_code}
use Rattle.line_forms.specs.Forms.{code_form, is_letter_or_digit, number_of}
use Rattle.line_forms.specs.Words.{is_printable, joined, words}
use Rattle.load_sums.proofs.CostLemmas.{letters_plain, first_word, last_word}
use Rattle.load_model.proofs.ReadingLemmas.{letters_printable, number_letters, number_read}
use Rattle.query_protocol.specs.Replies.{hex_text}
use Rattle.trace_lines.specs.EventLines.{event_of_words, event_reading}

-- ---- words

-- a word that no space parts
pub record IsOneWord (word : List ℕ) : Type 0 where
  pub plain : list_all (λ byte. not (byte == 32)) word ≡ true
  pub printable : is_printable word ≡ true
  pub some : 1 ≤ length word

abbrev pub AreOneWords : List (List ℕ) → Type 0
AreOneWords [] = Unit {0}
AreOneWords (word ∷ words) = IsOneWord word × AreOneWords words

-- the bytes of words with one more each
abbrev pub all_bytes : List (List ℕ) → ℕ
all_bytes [] = 0
all_bytes (word ∷ words) = length word + 1 + all_bytes words

words_again : (all : List (List ℕ)) → AreOneWords all → words (joined all) ≡ all
words_again [] are = refl
words_again (word ∷ []) are = last_word word are.0.plain are.0.some
words_again (word ∷ next ∷ others) are =
    first_word word (joined (next ∷ others)) are.0.plain are.0.some
    ∙ ap (λ (rest : List (List ℕ)). word ∷ rest) (words_again (next ∷ others) are.1)

printable_again : (all : List (List ℕ)) → AreOneWords all → is_printable (joined all) ≡ true
printable_again [] are = refl
printable_again (word ∷ []) are = are.0.printable
printable_again (word ∷ next ∷ others) are =
    list_all-append (λ byte. nat_le 32 byte && nat_le byte 126) word (32 ∷ joined (next ∷ others))
    ∙ and_from (is_printable word) (is_printable (32 ∷ joined (next ∷ others))) are.0.printable (printable_again (next ∷ others) are.1)

joined_short : (all : List (List ℕ)) → length (joined all) ≤ all_bytes all
joined_short [] = omega arith
joined_short (word ∷ []) = omega arith
joined_short (word ∷ next ∷ others) =
    omega (arith, joined_short (next ∷ others), length-append word (32 ∷ joined (next ∷ others)))

-- a short line that is made of words is read by them
pub line_read : (bits : ℕ) (all : List (List ℕ)) → AreOneWords all → all_bytes all ≤ 4096
    → event_reading bits (joined all) ≡ event_of_words bits all
line_read bits all are short =
    rw (printable_again all are, le-ltb LINE_MOST (length (joined all)) (omega (arith, short, joined_short all)))
    (ap (λ (each : List (List ℕ)). event_of_words bits each) (words_again all are))

-- a word of at most 64 bytes
pub record IsShortWord (word : List ℕ) : Type 0 where
  pub one : IsOneWord word
  pub short : length word ≤ 64

abbrev pub AreShort : List (List ℕ) → Type 0
AreShort [] = Unit {0}
AreShort (word ∷ words) = IsShortWord word × AreShort words

are_words : (all : List (List ℕ)) → AreShort all → AreOneWords all
are_words [] are = tt
are_words (word ∷ words) are = (are.0.one, are_words words are.1)

bytes_few : (all : List (List ℕ)) → AreShort all → all_bytes all ≤ 65 * length all
bytes_few [] are = omega arith
bytes_few (word ∷ words) are = omega (arith, are.0.short, bytes_few words are.1)

-- so is one of at most six short words
pub short_read : (bits : ℕ) (all : List (List ℕ)) → AreShort all → length all ≤ 6 → event_reading bits (joined all) ≡ event_of_words bits all
short_read bits all are few = line_read bits all (are_words all are) (omega (arith, few, bytes_few all are))

-- ---- numbers

-- letters and digits make a word
pub letters_word : (word : List ℕ) → list_all is_letter_or_digit word ≡ true → 1 ≤ length word → IsOneWord word
letters_word word letters some = record {
  plain = letters_plain word letters;
  printable = letters_printable word letters;
  some = some;
}

-- a word that is known
pub known_word : (word : List ℕ) → list_all is_letter_or_digit word ≡ true → nat_le 1 (length word) ≡ true → nat_le (length word) 64 ≡ true
    → IsShortWord word
known_word word letters some short = record {
  one = letters_word word letters (leb-true 1 (length word) some);
  short = leb-true (length word) 64 short;
}

pub number_word : (number : ℕ) → number < 2 ^ 64 → IsShortWord (decimal number)
number_word number small = record {
  one = letters_word (decimal number) (number_letters number small) (omega (arith, (decimal_is_IsNumeral number small).0.0));
  short = omega (arith, length-decimal-le 20 number (omega arith) (omega (arith, small)) small);
}

-- a number of so many digits, from the least to the greatest
pub number_again : (digits least greatest number : ℕ) → 0 < digits → number < 10 ^ digits → number < 2 ^ 64 → least ≤ number → number ≤ greatest
    → number_of digits least greatest (decimal number) ≡ Some number
number_again digits least greatest number some few small above below =
    number_read digits least greatest number small (length-decimal-le digits number some few small) above below

-- ---- codes

bits_back : (a b c d : ℕ) → a < 2 → b < 2 → c < 2 → d < 2
    → bits_of 4 (8 * a + 4 * b + 2 * c + d) ≡ a ∷ b ∷ c ∷ d ∷ []
unfolding bits_of
bits_back a b c d first second third fourth =
    let whole : (8 * a + 4 * b + 2 * c + d) / 2 ^ 3 % 2 ≡ a = omega arith in
    let half : (8 * a + 4 * b + 2 * c + d) / 2 ^ 2 % 2 ≡ b = omega arith in
    let fourth_of : (8 * a + 4 * b + 2 * c + d) / 2 ^ 1 % 2 ≡ c = omega arith in
    let last : (8 * a + 4 * b + 2 * c + d) / 2 ^ 0 % 2 ≡ d = omega arith in
    rw (whole, half, fourth_of, last) refl

hex_digit : (a b c d : ℕ) → a < 2 → b < 2 → c < 2 → d < 2
    → digit_value (digit_char (8 * a + 4 * b + 2 * c + d)) ≡ 8 * a + 4 * b + 2 * c + d
hex_digit a b c d first second third fourth = digit_value-digit_char (8 * a + 4 * b + 2 * c + d) (omega arith)

-- the text of a code spells it, by a digit for each four bits
pub record SpellsCode (code : List ℕ) : Type 0 where
  pub again : hex_code (hex_text code) ≡ code
  pub size : 4 * length (hex_text code) ≡ length code
  pub digits : list_all (λ byte. nat_lt (digit_value byte) 16) (hex_text code) ≡ true
  pub letters : list_all is_letter_or_digit (hex_text code) ≡ true

pub code_spelled : (code : List ℕ) → AllByRecursion (λ bit. bit < 2) code → length code % 4 ≡ 0 → SpellsCode code
unfolding hex_text
code_spelled [] binary whole = record { again = refl; size = refl; digits = refl; letters = refl }
code_spelled (a ∷ []) binary whole = absurd (omega (arith, whole))
code_spelled (a ∷ b ∷ []) binary whole = absurd (omega (arith, whole))
code_spelled (a ∷ b ∷ c ∷ []) binary whole = absurd (omega (arith, whole))
code_spelled (a ∷ b ∷ c ∷ d ∷ code) binary whole =
    let rest = code_spelled code binary.1.1.1.1 (omega (arith, whole)) in
    let value = 8 * a + 4 * b + 2 * c + d in
    let is = hex_digit a b c d binary.0 binary.1.0 binary.1.1.0 binary.1.1.1.0 in
    let small : value < 16 = omega (arith, binary.0, binary.1.0, binary.1.1.0, binary.1.1.1.0) in
    record {
      again = ap (λ (n : ℕ). bits_of 4 n ++ hex_code (hex_text code)) is
          ∙ ap (λ (front : List ℕ). front ++ hex_code (hex_text code)) (bits_back a b c d binary.0 binary.1.0 binary.1.1.0 binary.1.1.1.0)
          ∙ ap (λ (after : List ℕ). a ∷ b ∷ c ∷ d ∷ after) rest.again;
      size = omega (arith, rest.size);
      digits = and_from (nat_lt (digit_value (digit_char value)) 16) (list_all (λ byte. nat_lt (digit_value byte) 16) (hex_text code))
          (lt-ltb (digit_value (digit_char value)) 16 (omega (arith, is, small))) rest.digits;
      letters = and_from (is_letter_or_digit (digit_char value)) (list_all is_letter_or_digit (hex_text code))
          (lt-ltb (digit_value (digit_char value)) 36 (omega (arith, is, small))) rest.letters;
    }

pub code_again : (bits : ℕ) (code : List ℕ) → IsCode bits code → SpellsCode code → code_form bits (hex_text code) ≡ Some code
code_again bits code is spells =
    let text = hex_text code in
    let size : (length text == bits / 4) ≡ true = eq-eqb (length text) (bits / 4) (omega (arith, spells.size, is.size)) in
    ap (λ (b : Bool). cond (b && list_all (λ byte. nat_lt (digit_value byte) 16) text) (Some (hex_code text)) None) size
    ∙ ap (λ (b : Bool). cond b (Some (hex_code text)) None) spells.digits
    ∙ ap (λ (c : List ℕ). Some c) spells.again

pub code_word : (bits : ℕ) (code : List ℕ) → 8 ≤ bits → bits ≤ 256 → IsCode bits code → SpellsCode code → IsShortWord (hex_text code)
code_word bits code least most is spells = record {
  one = letters_word (hex_text code) spells.letters (omega (arith, least, spells.size, is.size));
  short = omega (arith, most, spells.size, is.size);
}
