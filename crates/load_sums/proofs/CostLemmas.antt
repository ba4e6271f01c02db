-- The words of a reply to `cost`.
use Rattle.std.proofs.Common.{◌≡◌, ℕ, ◌<◌, ◌≤◌, ◌^◌, ◌==◌, ◌&&◌, not, nat_le, nat_lt, Bool, true, false, cond, List, [], ◌∷◌, ◌++◌, length, codes, decimal, Some, None, ◌-◌, refl, sym, ap, ◌∙◌, subst, arith, append_assoc}
use Rattle.std.proofs.lemmas.Bool.{and_parts, leb-true, le-leb, lt-ltb}
use Rattle.std.proofs.lemmas.Bool.Decides.{nat_tests}
use Rattle.std.proofs.lemmas.Fmt.{decimal_is_IsNumeral, length-decimal-le}
use Rattle.std.proofs.lemmas.List.{append-nil}
use Rattle.std.proofs.lemmas.Str.Parse.{digit_from_value}
use Rattle.std.specs.Char.{digit_value}
use Rattle.std.specs.Int.{IsInRange}
use Rattle.std.specs.List.{list_all}
use Rattle.std.specs.Str.Parse.{AllDigits, digits_value}
use Rattle.line_forms.specs.Forms.{is_tag, is_letter_or_digit, is_decimal, number_of}
use Rattle.line_forms.specs.Words.{words, words_after, begun_word}
use Rattle.query_protocol.specs.Replies.{reply_text}
use Rattle.query_protocol.specs.Replies as reply
use Rattle.line_forms.specs.declared.tag.TheConstants.{TAG_MOST}

-- no byte of a word is a space
abbrev pub is_plain : List ℕ → Bool
is_plain word = list_all (λ byte. not (byte == 32)) word

not_true : (test : Bool) → not test ≡ true → test ≡ false
not_true true is = cc
not_true false is = refl

both : (a b : Bool) → a ≡ true → b ≡ true → (a && b) ≡ true
both true true first second = refl
both true false first second = second
both false b first second = first

-- the words of a text whose first word ends at a space
word_ends : (begun word rest : List ℕ) → is_plain word ≡ true
    → words_after begun (word ++ 32 ∷ rest) ≡ begun_word (begun ++ word) ++ words_after [] rest
word_ends begun [] rest plain = ap (λ (text : List ℕ). begun_word text ++ words_after [] rest) (sym (append-nil begun))
word_ends begun (byte ∷ word) rest plain =
    let both = and_parts (not (byte == 32)) (is_plain word) plain in
    let apart : (byte == 32) ≡ false = not_true (byte == 32) both.0 in
    ap (λ (b : Bool). cond b (begun_word begun ++ words_after [] (word ++ 32 ∷ rest)) (words_after (begun ++ byte ∷ []) (word ++ 32 ∷ rest))) apart
    ∙ word_ends (begun ++ byte ∷ []) word rest both.1
    ∙ ap (λ (text : List ℕ). begun_word text ++ words_after [] rest) (append_assoc begun (byte ∷ []) word)

-- the last word
word_last : (begun word : List ℕ) → is_plain word ≡ true → words_after begun word ≡ begun_word (begun ++ word)
word_last begun [] plain = ap begun_word (sym (append-nil begun))
word_last begun (byte ∷ word) plain =
    let both = and_parts (not (byte == 32)) (is_plain word) plain in
    let apart : (byte == 32) ≡ false = not_true (byte == 32) both.0 in
    ap (λ (b : Bool). cond b (begun_word begun ++ words_after [] word) (words_after (begun ++ byte ∷ []) word)) apart
    ∙ word_last (begun ++ byte ∷ []) word both.1 ∙ ap begun_word (append_assoc begun (byte ∷ []) word)

-- bytes that stand for a digit or a letter are no spaces
digit_plain : (byte : ℕ) → IsInRange 48 57 byte → not (byte == 32) ≡ true
digit_plain byte range = grind (arith, nat_tests)

digits_plain : (digits : List ℕ) → AllDigits 10 digits → is_plain digits ≡ true
digits_plain [] all = refl
digits_plain (byte ∷ bytes) all =
    both (not (byte == 32)) (is_plain bytes) (digit_plain byte (digit_from_value byte all.0)) (digits_plain bytes all.1)

number_plain : (number : ℕ) → number < 2 ^ 64 → is_plain (decimal number) ≡ true
number_plain number small = digits_plain (decimal number) (decimal_is_IsNumeral number small).0.1

-- a letter or a digit is no space
space_is : (byte : ℕ) → (byte == 32) ≡ true → byte ≡ 32
space_is byte passed = grind (arith, nat_tests)

letter_step : (byte : ℕ) (space : Bool) → (byte == 32) ≡ space → is_letter_or_digit byte ≡ true → not space ≡ true
letter_step byte true passed letter =
    let IsLetter : ℕ → Type 0 = λ (n : ℕ). is_letter_or_digit n ≡ true in subst IsLetter (space_is byte passed) letter
letter_step byte false passed letter = refl

pub letters_plain : (bytes : List ℕ) → list_all is_letter_or_digit bytes ≡ true → is_plain bytes ≡ true
letters_plain [] all = refl
letters_plain (byte ∷ bytes) all =
    let split = and_parts (is_letter_or_digit byte) (list_all is_letter_or_digit bytes) all in
    both (not (byte == 32)) (is_plain bytes) (letter_step byte (byte == 32) refl split.0) (letters_plain bytes split.1)

-- a tag is plain, and not empty
tag_plain : (tag : List ℕ) → is_tag tag ≡ true → (is_plain tag ≡ true) × (1 ≤ length tag)
tag_plain tag is =
    let outer = and_parts (nat_le 1 (length tag) && nat_le (length tag) TAG_MOST) (list_all is_letter_or_digit tag) is in
    let inner = and_parts (nat_le 1 (length tag)) (nat_le (length tag) TAG_MOST) outer.0 in
    (letters_plain tag outer.1, leb-true 1 (length tag) inner.0)

-- a word that isn't empty is one
begun_some : (word : List ℕ) → 1 ≤ length word → begun_word word ≡ word ∷ []
begun_some [] some = absurd (omega (arith, some))
begun_some (byte ∷ word) some = refl

-- a plain word before a space, and after the others
pub first_word : (word rest : List ℕ) → is_plain word ≡ true → 1 ≤ length word → words (word ++ 32 ∷ rest) ≡ word ∷ words rest
first_word word rest plain some =
    word_ends [] word rest plain ∙ ap (λ (front : List (List ℕ)). front ++ words rest) (begun_some word some)

pub last_word : (word : List ℕ) → is_plain word ≡ true → 1 ≤ length word → words word ≡ word ∷ []
last_word word plain some = word_last [] word plain ∙ begun_some word some

-- six texts one after another
regrouped : (a b c d e f : List ℕ) → a ++ b ++ c ++ d ++ e ++ f ≡ a ++ (b ++ (c ++ (d ++ (e ++ f))))
regrouped a b c d e f =
    append_assoc (a ++ b ++ c ++ d) e f ∙ append_assoc (a ++ b ++ c) d (e ++ f) ∙ append_assoc (a ++ b) c (d ++ (e ++ f))
    ∙ append_assoc a b (c ++ (d ++ (e ++ f)))

-- a number is plain, and not empty
pub number_some : (number : ℕ) → number < 2 ^ 64 → 1 ≤ length (decimal number)
number_some number small = omega (arith, (decimal_is_IsNumeral number small).0.0)

-- the words of a reply to `cost`
pub cost_words : (tag : List ℕ) (reads bound : ℕ) → is_tag tag ≡ true → reads < 2 ^ 64 → bound < 2 ^ 64
    → words (reply_text (reply.Cost tag reads bound))
    ≡ codes "cost" ∷ tag ∷ codes "reads" ∷ decimal reads ∷ codes "bound" ∷ decimal bound ∷ []
cost_words tag reads bound is small few =
    let tag_is = tag_plain tag is in
    let last : List ℕ = codes "bound " ++ decimal bound in
    let middle : List ℕ = codes "reads " ++ (decimal reads ++ 32 ∷ last) in
    let end : words last ≡ codes "bound" ∷ decimal bound ∷ [] =
    ap (λ (texts : List (List ℕ)). codes "bound" ∷ texts) (last_word (decimal bound) (number_plain bound few) (number_some bound few)) in
    let number : words middle ≡ codes "reads" ∷ decimal reads ∷ codes "bound" ∷ decimal bound ∷ [] =
    ap (λ (texts : List (List ℕ)). codes "reads" ∷ texts)
    (first_word (decimal reads) last (number_plain reads small) (number_some reads small) ∙ ap (λ (texts : List (List ℕ)). decimal reads ∷ texts) end) in
    let first : words (tag ++ 32 ∷ middle) ≡ tag ∷ codes "reads" ∷ decimal reads ∷ codes "bound" ∷ decimal bound ∷ [] =
    first_word tag middle tag_is.0 tag_is.1 ∙ ap (λ (texts : List (List ℕ)). tag ∷ texts) number in
    ap words (regrouped (codes "cost ") tag (codes " reads ") (decimal reads) (codes " bound ") (decimal bound))
    ∙ ap (λ (texts : List (List ℕ)). codes "cost" ∷ texts) first

-- the digits of a number are read as digits
digits_pass : (digits : List ℕ) → AllDigits 10 digits → list_all (λ byte. nat_lt (digit_value byte) 10) digits ≡ true
digits_pass [] all = refl
digits_pass (byte ∷ bytes) all =
    both (nat_lt (digit_value byte) 10) (list_all (λ byte. nat_lt (digit_value byte) 10) bytes) (lt-ltb (digit_value byte) 10 all.0)
    (digits_pass bytes all.1)

-- a number of 64 bits in decimal is a word of at most twenty digits
decimal_is : (number : ℕ) → number < 2 ^ 64 → is_decimal 20 (decimal number) ≡ true
decimal_is number small =
    let size : length (decimal number) ≤ 20 = length-decimal-le 20 number (omega arith) (omega (arith, small)) small in
    both (nat_le 1 (length (decimal number)) && nat_le (length (decimal number)) 20)
    (list_all (λ byte. nat_lt (digit_value byte) 10) (decimal number))
    (both (nat_le 1 (length (decimal number))) (nat_le (length (decimal number)) 20)
    (le-leb 1 (length (decimal number)) (number_some number small)) (le-leb (length (decimal number)) 20 size))
    (digits_pass (decimal number) (decimal_is_IsNumeral number small).0.1)

-- a number within its range is the one that was tested
chosen : (test below within : Bool) (value number : ℕ) → test ≡ true → below ≡ true → within ≡ true → value ≡ number
    → cond (test && below && within) (Some value) None ≡ Some number
chosen true true true value number passed low high is = ap Some is
chosen true true false value number passed low high is = cc
chosen true false within value number passed low high is = cc
chosen false below within value number passed low high is = cc

-- the number that a word in decimal stands for
pub number_read : (number : ℕ) (word : List ℕ) → number < 2 ^ 64 → word ≡ decimal number → number_of 20 0 (2 ^ 64 - 1) word ≡ Some number
number_read number word small is =
    let value : digits_value 10 word ≡ number = ap (digits_value 10) is ∙ (decimal_is_IsNumeral number small).1 in
    chosen (is_decimal 20 word) (nat_le 0 (digits_value 10 word)) (nat_le (digits_value 10 word) (2 ^ 64 - 1)) (digits_value 10 word) number
    (ap (is_decimal 20) is ∙ decimal_is number small) (le-leb 0 (digits_value 10 word) (omega arith))
    (le-leb (digits_value 10 word) (2 ^ 64 - 1) (omega (arith, value, small))) value
