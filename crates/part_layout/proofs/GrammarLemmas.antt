-- The words of a text by its first byte, and the grammar read byte by byte.
use Rattle.std.proofs.Common.{◌≡◌, ℕ, suc, ◌+◌, ◌<◌, ◌≤◌, ◌==◌, ◌&&◌, nat_le, nat_lt, Bool, true, false, inl, inr, ◌⊎◌, List, [], ◌∷◌, Option, Some, None, map, length, refl, sym, ◌∙◌, ap, subst, arith}
use Rattle.std.specs.Char.{is_digit}
use Rattle.std.specs.List.{list_all, onto_first, slice_split}
use Rattle.std.proofs.lemmas.Bool.{cases_eq, cases_lt, eqb-true}
use Rattle.std.proofs.lemmas.Bool.Decides.{nat_tests}
use Rattle.std.proofs.lemmas.List.Splits.{length-slice_split, slice_split-cons_no}
use Rattle.part_layout.specs.Grammar.{is_position_text, is_layout_text, position_texts, texts_of_part}
use Rattle.part_layout.specs.ReadOn.{digits_after, ends_text, is_mark}

-- a test is passed or not
pub by_test : (test : Bool) → (test ≡ true) ⊎ (test ≡ false)
by_test true = inl refl
by_test false = inr refl

-- there is a word in a first part
unfoldable pub AreWords : List (List (List ℕ)) → Type 0
AreWords [] = ⊥
AreWords ([] ∷ parts) = ⊥
AreWords ((word ∷ others) ∷ parts) = Unit {0}

-- a byte put before the first word
unfoldable pub onto_word : ℕ → List (List (List ℕ)) → List (List (List ℕ))
onto_word byte [] = []
onto_word byte (part ∷ parts) = onto_first byte part ∷ parts

part_words : (part : List (List ℕ)) (parts : List (List (List ℕ))) → 0 < length part → AreWords (part ∷ parts)
unfolding AreWords
part_words [] parts some = absurd (omega arith)
part_words (word ∷ others) parts some = tt

some_words : (pieces : List (List ℕ)) → 0 < length pieces → AreWords (map texts_of_part pieces)
some_words [] some = absurd (omega arith)
some_words (piece ∷ pieces) some =
    part_words (texts_of_part piece) (map texts_of_part pieces) (let sized = length-slice_split (λ byte. byte == 44) piece in omega arith)

-- a text has a first word
pub are_words : (text : List ℕ) → AreWords (position_texts text)
are_words text =
    some_words (slice_split (λ byte. byte == 47) text) (let sized = length-slice_split (λ byte. byte == 47) text in omega arith)

-- a slash ends a part
pub words_slash : (bytes : List ℕ) → position_texts (47 ∷ bytes) ≡ ([] ∷ []) ∷ position_texts bytes
words_slash bytes = refl

comma_pieces : (pieces : List (List ℕ)) → 0 < length pieces → map texts_of_part (onto_first 44 pieces) ≡ onto_first [] (map texts_of_part pieces)
comma_pieces [] some = absurd (omega arith)
comma_pieces (piece ∷ pieces) some = refl

-- a comma ends a word
pub words_comma : (bytes : List ℕ) → position_texts (44 ∷ bytes) ≡ onto_first [] (position_texts bytes)
words_comma bytes =
    comma_pieces (slice_split (λ byte. byte == 47) bytes) (let sized = length-slice_split (λ byte. byte == 47) bytes in omega arith)

plain_pieces : (byte : ℕ) (pieces : List (List ℕ)) → (byte == 44) ≡ false → 0 < length pieces
    → map texts_of_part (onto_first byte pieces) ≡ onto_word byte (map texts_of_part pieces)
unfolding onto_word
plain_pieces byte [] plain some = absurd (omega arith)
plain_pieces byte (piece ∷ pieces) plain some =
    ap (λ part. part ∷ map texts_of_part pieces) (slice_split-cons_no (λ b. b == 44) byte piece plain)

-- another byte goes on with a word
pub words_plain : (byte : ℕ) (bytes : List ℕ) → (byte == 44) ≡ false → (byte == 47) ≡ false
    → position_texts (byte ∷ bytes) ≡ onto_word byte (position_texts bytes)
words_plain byte bytes no_comma no_slash =
    ap (map texts_of_part) (slice_split-cons_no (λ b. b == 47) byte bytes no_slash)
    ∙ plain_pieces byte (slice_split (λ b. b == 47) bytes) no_comma (let sized = length-slice_split (λ b. b == 47) bytes in omega arith)

-- whether a word ends a position of so many digits
ends_word : ℕ → List ℕ → Bool
ends_word digits word = nat_le 1 (digits + length word) && (nat_le (digits + length word) 3 && list_all (λ byte. is_digit byte 10) word)

-- whether words end a text whose last position has so many digits
after_digits : ℕ → List (List (List ℕ)) → Bool
after_digits digits [] = false
after_digits digits ([] ∷ parts) = false
after_digits digits ((word ∷ others) ∷ parts) =
    ends_word digits word && (list_all is_position_text others && list_all (λ part. list_all is_position_text part) parts)

and_assoc : (a b c : Bool) → (a && (b && c)) ≡ ((a && b) && c)
and_assoc true b c = refl
and_assoc false b c = refl

-- words that begin with a whole position
from_none : (parts : List (List (List ℕ))) → AreWords parts → after_digits 0 parts ≡ list_all (λ part. list_all is_position_text part) parts
unfolding AreWords after_digits ends_word
from_none [] there = absurd there
from_none ([] ∷ parts) there = absurd there
from_none ((word ∷ others) ∷ parts) there =
    let size : 0 + length word ≡ length word = omega arith in
    ap (λ n. (nat_le 1 n && (nat_le n 3 && list_all (λ byte. is_digit byte 10) word))
    && (list_all is_position_text others && list_all (λ part. list_all is_position_text part) parts)) size
    ∙ and_assoc (is_position_text word) (list_all is_position_text others) (list_all (λ part. list_all is_position_text part) parts)

-- one digit more
digit_more : (digits byte : ℕ) (parts : List (List (List ℕ))) → AreWords parts → is_digit byte 10 ≡ true
    → after_digits digits (onto_word byte parts) ≡ after_digits (digits + 1) parts
unfolding AreWords after_digits ends_word onto_word
digit_more digits byte [] there digit = absurd there
digit_more digits byte ([] ∷ parts) there digit = absurd there
digit_more digits byte ((word ∷ others) ∷ parts) there digit =
    let size : digits + suc (length word) ≡ digits + 1 + length word = omega arith in
    ap (λ n. (nat_le 1 n && (nat_le n 3 && (is_digit byte 10 && list_all (λ b. is_digit b 10) word)))
    && (list_all is_position_text others && list_all (λ part. list_all is_position_text part) parts)) size
    ∙ ap
    (λ test.
    (nat_le 1 (digits + 1 + length word)
    && (nat_le (digits + 1 + length word) 3 && (test && list_all (λ b. is_digit b 10) word)))
    && (list_all is_position_text others && list_all (λ part. list_all is_position_text part) parts)) digit

and_false : (a b c : Bool) → b ≡ false → (a && (b && c)) ≡ false
and_false true b c e = rw e refl
and_false false b c e = refl

and_last_false : (a b c : Bool) → c ≡ false → (a && (b && (c && true))) ≡ false
and_last_false true true c e = rw e refl
and_last_false true false c e = refl
and_last_false false b c e = refl

-- a fourth digit
digit_many : (digits byte : ℕ) (parts : List (List (List ℕ))) → AreWords parts → 3 ≤ digits → after_digits digits (onto_word byte parts) ≡ false
unfolding AreWords after_digits ends_word onto_word
digit_many digits byte [] there many = absurd there
digit_many digits byte ([] ∷ parts) there many = absurd there
digit_many digits byte ((word ∷ others) ∷ parts) there many =
    let over : nat_le (digits + suc (length word)) 3 ≡ false = grind (arith, nat_tests) in
    ap (λ test. test && (list_all is_position_text others && list_all (λ part. list_all is_position_text part) parts))
    (and_false (nat_le 1 (digits + suc (length word))) (nat_le (digits + suc (length word)) 3) (list_all (λ b. is_digit b 10) (byte ∷ word)) over)

none_passes : (a b c d : Bool) → c ≡ false → (a && (b && (c && d))) ≡ false
none_passes true true c d e = rw e refl
none_passes true false c d e = refl
none_passes false b c d e = refl

-- a byte that is no digit and no mark
no_digit : (digits byte : ℕ) (parts : List (List (List ℕ))) → AreWords parts → is_digit byte 10 ≡ false → after_digits digits (onto_word byte parts) ≡ false
unfolding AreWords after_digits ends_word onto_word
no_digit digits byte [] there other = absurd there
no_digit digits byte ([] ∷ parts) there other = absurd there
no_digit digits byte ((word ∷ others) ∷ parts) there other =
    ap (λ test. test && (list_all is_position_text others && list_all (λ part. list_all is_position_text part) parts))
    (none_passes (nat_le 1 (digits + suc (length word))) (nat_le (digits + suc (length word)) 3) (is_digit byte 10) (list_all (λ b. is_digit b 10) word) other)

-- the end of a position
ended : (digits : ℕ) (test : Bool) → digits ≤ 3 → 0 < digits → (ends_word digits [] && test) ≡ test
unfolding ends_word
ended digits test few some =
    let low : nat_le 1 (digits + 0) ≡ true = grind (arith, nat_tests) in
    let high : nat_le (digits + 0) 3 ≡ true = grind (arith, nat_tests) in
    rw (low, high) refl

not_begun : (digits : ℕ) (test : Bool) → digits ≡ 0 → (ends_word digits [] && test) ≡ false
unfolding ends_word
not_begun digits test none = let low : nat_le 1 (digits + 0) ≡ false = grind (arith, nat_tests) in rw low refl

-- what follows a byte
pub follows : (digits byte : ℕ) (bytes : List ℕ) (more : Option ℕ) → digits_after digits byte ≡ more
    → ends_text digits (byte ∷ bytes) ≡ elim more [ None ↦ false | Some n ↦ ends_text n bytes ]
follows digits byte bytes more same = ap (λ (next : Option ℕ). elim next as (λ _. Bool) [ None ↦ false | Some n ↦ ends_text n bytes ]) same

after_digit : (digits byte : ℕ) → is_digit byte 10 ≡ true → digits < 3 → digits_after digits byte ≡ Some (digits + 1)
after_digit digits byte digit few = let test : nat_lt digits 3 ≡ true = grind (arith, nat_tests) in rw (digit, test) refl

after_three : (digits byte : ℕ) → is_digit byte 10 ≡ true → 3 ≤ digits → digits_after digits byte ≡ None
after_three digits byte digit many = let test : nat_lt digits 3 ≡ false = grind (arith, nat_tests) in rw (digit, test) refl

after_other : (digits byte : ℕ) → is_digit byte 10 ≡ false → is_mark byte ≡ false → digits_after digits byte ≡ None
after_other digits byte digit mark = rw (digit, mark) refl

after_mark : (digits byte : ℕ) → is_digit byte 10 ≡ false → is_mark byte ≡ true → 0 < digits → digits_after digits byte ≡ Some 0
after_mark digits byte digit mark some = let test : nat_lt 0 digits ≡ true = grind (arith, nat_tests) in rw (digit, mark, test) refl

after_nothing : (digits byte : ℕ) → is_digit byte 10 ≡ false → is_mark byte ≡ true → digits ≡ 0 → digits_after digits byte ≡ None
after_nothing digits byte digit mark none = let test : nat_lt 0 digits ≡ false = grind (arith, nat_tests) in rw (digit, mark, test) refl

-- a byte is a slash, a comma or neither
pub data Kind (byte : ℕ) : Type 0 where
  Slash : byte ≡ 47 → Kind byte
  Comma : byte ≡ 44 → Kind byte
  Plain : (byte == 44) ≡ false → (byte == 47) ≡ false → Kind byte

pub kind_of : (byte : ℕ) → Kind byte
kind_of byte =
    elim (by_test (byte == 47)) [
      | inl slash ↦ Slash (eqb-true byte 47 slash)
      | inr no_slash ↦
          elim (by_test (byte == 44)) [ inl comma ↦ Comma (eqb-true byte 44 comma) | inr no_comma ↦ Plain no_comma no_slash ]
    ]

-- a slash more
slash_step : (bytes : List ℕ) (digits : ℕ) → digits ≤ 3 → ((n : ℕ) → n ≤ 3 → ends_text n bytes ≡ after_digits n (position_texts bytes))
    → ends_text digits (47 ∷ bytes) ≡ after_digits digits (position_texts (47 ∷ bytes))
unfolding after_digits
slash_step bytes digits few rest =
    elim (cases_eq digits 0) [
      | inl none ↦
          follows digits 47 bytes None (after_nothing digits 47 refl refl none)
          ∙ sym (not_begun digits (true && list_all (λ part. list_all is_position_text part) (position_texts bytes)) none)
      | inr other ↦
          let some : 0 < digits = omega arith in
          follows digits 47 bytes (Some 0) (after_mark digits 47 refl refl some)
          ∙ rest 0 (omega arith)
          ∙ from_none (position_texts bytes) (are_words bytes)
          ∙ sym (ended digits (true && list_all (λ part. list_all is_position_text part) (position_texts bytes)) few some)
    ]

comma_words : (parts : List (List (List ℕ))) (digits : ℕ) → AreWords parts
    → after_digits digits (onto_first [] parts) ≡ (ends_word digits [] && list_all (λ part. list_all is_position_text part) parts)
unfolding AreWords after_digits
comma_words [] digits there = absurd there
comma_words ([] ∷ parts) digits there = absurd there
comma_words ((word ∷ others) ∷ parts) digits there = refl

-- a comma more
comma_step : (bytes : List ℕ) (digits : ℕ) → digits ≤ 3 → ((n : ℕ) → n ≤ 3 → ends_text n bytes ≡ after_digits n (position_texts bytes))
    → ends_text digits (44 ∷ bytes) ≡ after_digits digits (position_texts (44 ∷ bytes))
comma_step bytes digits few rest =
    let here = ap (after_digits digits) (words_comma bytes) ∙ comma_words (position_texts bytes) digits (are_words bytes) in
    elim (cases_eq digits 0) [
      | inl none ↦
          follows digits 44 bytes None (after_nothing digits 44 refl refl none)
          ∙ sym (here ∙ not_begun digits (list_all (λ part. list_all is_position_text part) (position_texts bytes)) none)
      | inr other ↦
          let some : 0 < digits = omega arith in
          follows digits 44 bytes (Some 0) (after_mark digits 44 refl refl some)
          ∙ rest 0 (omega arith)
          ∙ from_none (position_texts bytes) (are_words bytes)
          ∙ sym (here ∙ ended digits (list_all (λ part. list_all is_position_text part) (position_texts bytes)) few some)
    ]

-- a digit more
digit_step : (byte : ℕ) (bytes : List ℕ) (digits : ℕ) → digits ≤ 3 → ((n : ℕ) → n ≤ 3 → ends_text n bytes ≡ after_digits n (position_texts bytes))
    → (byte == 44) ≡ false → (byte == 47) ≡ false → is_digit byte 10 ≡ true
    → ends_text digits (byte ∷ bytes) ≡ after_digits digits (position_texts (byte ∷ bytes))
digit_step byte bytes digits few rest no_comma no_slash digit =
    let here = ap (after_digits digits) (words_plain byte bytes no_comma no_slash) in
    elim (cases_lt digits 3) [
      | inl fewer ↦
          follows digits byte bytes (Some (digits + 1)) (after_digit digits byte digit fewer)
          ∙ rest (digits + 1) (omega arith)
          ∙ sym (here ∙ digit_more digits byte (position_texts bytes) (are_words bytes) digit)
      | inr many ↦
          follows digits byte bytes None (after_three digits byte digit many)
          ∙ sym (here ∙ digit_many digits byte (position_texts bytes) (are_words bytes) many)
    ]

at_end : (digits : ℕ) → digits ≤ 3 → 0 < digits → nat_lt 0 digits ≡ after_digits digits (position_texts [])
unfolding after_digits
at_end digits few some =
    let test : nat_lt 0 digits ≡ true = grind (arith, nat_tests) in test ∙ sym (ended digits (true && true) few some)

-- one byte more
kind_step : (byte : ℕ) (bytes : List ℕ) (digits : ℕ) → digits ≤ 3 → ((n : ℕ) → n ≤ 3 → ends_text n bytes ≡ after_digits n (position_texts bytes))
    → Kind byte → ends_text digits (byte ∷ bytes) ≡ after_digits digits (position_texts (byte ∷ bytes))
kind_step byte bytes digits few rest (Slash is) =
    subst (λ b. ends_text digits (b ∷ bytes) ≡ after_digits digits (position_texts (b ∷ bytes))) (sym is) (slash_step bytes digits few rest)
kind_step byte bytes digits few rest (Comma is) =
    subst (λ b. ends_text digits (b ∷ bytes) ≡ after_digits digits (position_texts (b ∷ bytes))) (sym is) (comma_step bytes digits few rest)
kind_step byte bytes digits few rest (Plain no_comma no_slash) =
    elim (by_test (is_digit byte 10)) [
      | inl digit ↦ digit_step byte bytes digits few rest no_comma no_slash digit
      | inr other ↦
          let no_mark : is_mark byte ≡ false = rw (no_comma, no_slash) refl in
          follows digits byte bytes None (after_other digits byte other no_mark)
          ∙ sym (ap (after_digits digits) (words_plain byte bytes no_comma no_slash) ∙ no_digit digits byte (position_texts bytes) (are_words bytes) other)
    ]

-- reading a text byte by byte tells how it ends
accepted : (text : List ℕ) (digits : ℕ) → digits ≤ 3 → ends_text digits text ≡ after_digits digits (position_texts text)
unfolding after_digits ends_word
accepted [] digits few =
    elim (cases_eq digits 0) [ inl none ↦ rw none refl | inr some ↦ at_end digits few (omega arith) ]
accepted (byte ∷ bytes) digits few = kind_step byte bytes digits few (λ n short. accepted bytes n short) (kind_of byte)

-- a text is one of the grammar where reading it byte by byte says so
pub text_read : (text : List ℕ) → ends_text 0 text ≡ is_layout_text text
text_read text = accepted text 0 (omega arith) ∙ from_none (position_texts text) (are_words text)
