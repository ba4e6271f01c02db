-- The first position of a text: its word, and the text after its mark.
use Rattle.std.proofs.Common.{◌≡◌, ◌≢◌, ℕ, zero, suc, ◌+◌, ◌-◌, ◌<◌, ◌≤◌, ◌==◌, ◌&&◌, ◌||◌, nat_le, Bool, true, false, inl, inr, ◌⊎◌, List, [], ◌∷◌, ◌++◌, All, map, length, take, drop, get_or, refl, sym, ◌∙◌, ap, subst, arith}
use Rattle.std.specs.Char.{digit_value, is_digit}
use Rattle.std.specs.List.{list_all, onto_first}
use Rattle.std.specs.Str.Parse.{digits_value, AllDigits}
use Rattle.std.proofs.lemmas.Bool.{and_parts, leb-true, ne_eqb}
use Rattle.std.proofs.lemmas.Bool.Decides.{nat_tests}
use Rattle.std.proofs.lemmas.List.{append-nil, get_or-drop, length-drop, take-append-drop, take_all, take_more}
use Rattle.std.proofs.lemmas.List.Elements.{All-append, All-head, All-tail}
use Rattle.part_layout.specs.Faults.{numbers_of}
use Rattle.part_layout.specs.Grammar.{is_position_text, IsLayoutText, spelled, position_texts}
use Rattle.part_layout.specs.ReadOn.{grown, is_mark, parts_left, IsRest}
use Rattle.part_layout.specs.declared.cursor.ListedPosition.{ListedPosition}
use Rattle.part_layout.proofs.GrammarLemmas.{AreWords, Kind, Slash, Comma, Plain, are_words, by_test, kind_of, onto_word, words_comma, words_plain, words_slash}

-- a byte that is no mark
pub no_mark : (byte : ℕ) → byte ≢ 44 → byte ≢ 47 → is_mark byte ≡ false
no_mark byte no_comma no_slash =
    let comma = ne_eqb byte 44 no_comma in
    let slash = ne_eqb byte 47 no_slash in
    rw (comma, slash) refl

-- one byte more that is none
pub plain_more : (text : List ℕ) (end : ℕ) → end < length text → All (λ byte. is_mark byte ≡ false) (take end text) → is_mark (get_or text end 0) ≡ false
    → All (λ byte. is_mark byte ≡ false) (take (end + 1) text)
plain_more text end inside plain here =
    subst (λ bytes. All (λ byte. is_mark byte ≡ false) bytes) (sym (take_more text end 0 inside))
    (All-append (λ byte. is_mark byte ≡ false) (take end text) (get_or text end 0 ∷ []) plain (All-one (λ byte. is_mark byte ≡ false) (get_or text end 0) here))
  where
    All-one : (P : ℕ → Type 0) (x : ℕ) → P x → All P (x ∷ [])
    All-one P x here zero d inside = here
    All-one P x here (suc k) d inside = absurd (omega arith)

-- the kind of a byte that is no mark
plain_kind : (byte : ℕ) → is_mark byte ≡ false → ((byte == 44) ≡ false) × ((byte == 47) ≡ false)
plain_kind byte plain = or_false (byte == 44) (byte == 47) plain
  where
    or_false : (a b : Bool) → (a || b) ≡ false → (a ≡ false) × (b ≡ false)
    or_false true b e = absurd (cc)
    or_false false b e = (refl, e)

-- a mark is a comma or a slash
mark_kind : (byte : ℕ) → is_mark byte ≡ true → Kind byte → (byte ≡ 44) ⊎ (byte ≡ 47)
mark_kind byte mark (Slash is) = inr is
mark_kind byte mark (Comma is) = inl is
mark_kind byte mark (Plain no_comma no_slash) =
    let none : is_mark byte ≡ false = rw (no_comma, no_slash) refl in absurd (cc)

-- a word alone
words_alone : (word : List ℕ) → All (λ byte. is_mark byte ≡ false) word → position_texts word ≡ (word ∷ []) ∷ []
unfolding onto_word
words_alone [] plain = refl
words_alone (byte ∷ word) plain =
    let here = plain_kind byte (All-head (λ b. is_mark b ≡ false) byte word plain) in
    words_plain byte word here.0 here.1 ∙ ap (onto_word byte) (words_alone word (All-tail (λ b. is_mark b ≡ false) byte word plain))

-- a word before a slash
words_before_slash : (word rest : List ℕ) → All (λ byte. is_mark byte ≡ false) word → position_texts (word ++ 47 ∷ rest) ≡ (word ∷ []) ∷ position_texts rest
unfolding onto_word
words_before_slash [] rest plain = words_slash rest
words_before_slash (byte ∷ word) rest plain =
    let here = plain_kind byte (All-head (λ b. is_mark b ≡ false) byte word plain) in
    words_plain byte (word ++ 47 ∷ rest) here.0 here.1
    ∙ ap (onto_word byte) (words_before_slash word rest (All-tail (λ b. is_mark b ≡ false) byte word plain))

onto_both : (byte : ℕ) (word : List ℕ) (parts : List (List (List ℕ))) → onto_word byte (onto_first word parts) ≡ onto_first (byte ∷ word) parts
unfolding onto_word
onto_both byte word [] = refl
onto_both byte word (part ∷ parts) = refl

-- a word before a comma
words_before_comma : (word rest : List ℕ) → All (λ byte. is_mark byte ≡ false) word → position_texts (word ++ 44 ∷ rest) ≡ onto_first word (position_texts rest)
words_before_comma [] rest plain = words_comma rest
words_before_comma (byte ∷ word) rest plain =
    let here = plain_kind byte (All-head (λ b. is_mark b ≡ false) byte word plain) in
    words_plain byte (word ++ 44 ∷ rest) here.0 here.1
    ∙ ap (onto_word byte) (words_before_comma word rest (All-tail (λ b. is_mark b ≡ false) byte word plain))
    ∙ onto_both byte word (position_texts rest)

-- the test of parts whose first word is known
abbrev passes : List (List (List ℕ)) → Bool
passes parts = list_all (λ part. list_all is_position_text part) parts

passes_part : (word : List ℕ) (parts : List (List (List ℕ))) → passes ((word ∷ []) ∷ parts) ≡ true → (is_position_text word ≡ true) × (passes parts ≡ true)
passes_part word parts e =
    let both = and_parts (is_position_text word && true) (passes parts) e in
    ((and_parts (is_position_text word) true both.0).0, both.1)

passes_first : (word : List ℕ) (parts : List (List (List ℕ))) → passes (onto_first word parts) ≡ true → (is_position_text word ≡ true) × (passes parts ≡ true)
passes_first word [] e = passes_part word [] e
passes_first word (part ∷ parts) e =
    let both = and_parts (is_position_text word && list_all is_position_text part) (passes parts) e in
    let first = and_parts (is_position_text word) (list_all is_position_text part) both.0 in
    let others : passes (part ∷ parts) ≡ true = rw (first.1, both.1) refl in
    (first.0, others)

-- a text is a rest, and something is left of it
pub rest_of_text : (text : List ℕ) → IsLayoutText text → IsRest text × (parts_left text ≡ spelled text) × (0 < length text)
rest_of_text [] is = absurd (let same : false ≡ true = is in cc)
rest_of_text (byte ∷ bytes) is = (is, refl, omega arith)

-- the numbers of words
abbrev numbers : List (List (List ℕ)) → List (List ℕ)
numbers parts = map (λ part. map (digits_value 10) part) parts

numbers_first : (word : List ℕ) (parts : List (List (List ℕ))) → numbers (onto_first word parts) ≡ onto_first (digits_value 10 word) (numbers parts)
numbers_first word [] = refl
numbers_first word (part ∷ parts) = refl

-- what the first word of a text is, by what follows it
unfoldable pub FirstRead : List ℕ → List ℕ → List ℕ → Type 0
FirstRead text word [] = (is_position_text word ≡ true) × (parts_left text ≡ (digits_value 10 word ∷ []) ∷ [])
FirstRead text word (mark ∷ rest) =
    (is_position_text word ≡ true) × IsLayoutText rest
    × (parts_left text ≡ grown (record { position = digits_value 10 word; ends_part = mark == 47 }) (parts_left rest))

-- the first word of a text that goes on with a mark
mark_read : (word rest : List ℕ) (mark : ℕ) → IsLayoutText (word ++ mark ∷ rest) → All (λ byte. is_mark byte ≡ false) word → (mark ≡ 44) ⊎ (mark ≡ 47)
    → FirstRead (word ++ mark ∷ rest) word (mark ∷ rest)
unfolding FirstRead
mark_read word rest mark is plain (inl comma) = subst (λ m. IsLayoutText (word ++ m ∷ rest)
    → FirstRead (word ++ m ∷ rest) word (m ∷ rest)) (sym comma) (comma_read word rest plain) is
  where
    comma_read : (word rest : List ℕ) → All (λ byte. is_mark byte ≡ false) word → IsLayoutText (word ++ 44 ∷ rest)
        → FirstRead (word ++ 44 ∷ rest) word (44 ∷ rest)
    comma_read word rest plain is =
        let both = passes_first word (position_texts rest) (sym (ap passes (words_before_comma word rest plain)) ∙ is) in
        let whole = rest_of_text (word ++ 44 ∷ rest) is in
        let left = rest_of_text rest both.1 in (
          both.0,
          both.1,
          whole.1 ∙ ap numbers (words_before_comma word rest plain) ∙ numbers_first word (position_texts rest)
              ∙ ap (onto_first (digits_value 10 word)) (sym left.1),
        )
mark_read word rest mark is plain (inr slash) = subst (λ m. IsLayoutText (word ++ m ∷ rest)
    → FirstRead (word ++ m ∷ rest) word (m ∷ rest)) (sym slash) (slash_read word rest plain) is
  where
    slash_read : (word rest : List ℕ) → All (λ byte. is_mark byte ≡ false) word → IsLayoutText (word ++ 47 ∷ rest)
        → FirstRead (word ++ 47 ∷ rest) word (47 ∷ rest)
    slash_read word rest plain is =
        let both = passes_part word (position_texts rest) (sym (ap passes (words_before_slash word rest plain)) ∙ is) in
        let whole = rest_of_text (word ++ 47 ∷ rest) is in
        let left = rest_of_text rest both.1 in (
          both.0,
          both.1,
          whole.1 ∙ ap numbers (words_before_slash word rest plain) ∙ ap (λ parts. (digits_value 10 word ∷ []) ∷ parts) (sym left.1),
        )

-- the first word of a text
pub first_read : (word after : List ℕ) → IsLayoutText (word ++ after) → All (λ byte. is_mark byte ≡ false) word
    → (0 < length after → is_mark (get_or after 0 0) ≡ true) → FirstRead (word ++ after) word after
unfolding FirstRead
first_read word [] is plain marked =
    let same = append-nil word in
    let here : IsLayoutText word = rw same at is in
    let both = passes_part word [] (sym (ap passes (words_alone word plain)) ∙ here) in
    let whole = rest_of_text (word ++ []) is in
    (both.0, whole.1 ∙ ap numbers (ap position_texts same ∙ words_alone word plain))
first_read word (mark ∷ rest) is plain marked = mark_read word rest mark is plain (mark_kind mark (marked (omega arith)) (kind_of mark))

-- a position's text is short
pub position_short : (word : List ℕ) → is_position_text word ≡ true → (0 < length word) × (length word ≤ 3)
position_short word is =
    let both = and_parts (nat_le 1 (length word)) (nat_le (length word) 3 && list_all (λ byte. is_digit byte 10) word) is in
    let second = and_parts (nat_le (length word) 3) (list_all (λ byte. is_digit byte 10) word) both.1 in
    let low = leb-true 1 (length word) both.0 in
    (omega arith, leb-true (length word) 3 second.0)

digits_pass : (word : List ℕ) → list_all (λ byte. is_digit byte 10) word ≡ true → AllDigits 10 word
digits_pass [] passed = tt
digits_pass (byte ∷ bytes) passed =
    let both = and_parts (is_digit byte 10) (list_all (λ b. is_digit b 10) bytes) passed in
    let small : digit_value byte < 10 = grind (arith, nat_tests, both.0) in
    (small, digits_pass bytes both.1)

-- a position's text has digits alone
pub position_digits : (word : List ℕ) → is_position_text word ≡ true → AllDigits 10 word
position_digits word is =
    let both = and_parts (nat_le 1 (length word)) (nat_le (length word) 3 && list_all (λ byte. is_digit byte 10) word) is in
    let second = and_parts (nat_le (length word) 3) (list_all (λ byte. is_digit byte 10) word) both.1 in
    digits_pass word second.1

-- a number before others
numbers_onto : (number : ℕ) (parts : List (List ℕ)) → numbers_of (onto_first number parts) ≡ number ∷ numbers_of parts
numbers_onto number [] = refl
numbers_onto number (part ∷ parts) = refl

-- the numbers of parts with one position before them
pub numbers_grown : (listed : ListedPosition) (parts : List (List ℕ)) → numbers_of (grown listed parts) ≡ listed.position ∷ numbers_of parts
numbers_grown listed parts =
    elim (by_test listed.ends_part) [
      | inl ends ↦ rw ends refl
      | inr goes ↦ rw goes (numbers_onto listed.position parts)
    ]

-- something is left of a rest where a part is
pub some_left : (rest : List ℕ) → 0 < length rest → 0 < length (parts_left rest)
unfolding AreWords
some_left [] some = absurd (omega arith)
some_left (byte ∷ bytes) some = shaped (position_texts (byte ∷ bytes)) (are_words (byte ∷ bytes))
  where
    shaped : (parts : List (List (List ℕ))) → AreWords parts → 0 < length (numbers parts)
    shaped [] there = absurd there
    shaped (part ∷ parts) there = omega arith

-- the first word of a text, by where it ends
read_at : (text : List ℕ) (end : ℕ) → IsRest text → 0 < length text → end ≤ length text → All (λ byte. is_mark byte ≡ false) (take end text)
    → (end < length text → is_mark (get_or text end 0) ≡ true) → FirstRead text (take end text) (drop end text)
read_at text end rest some within plain stops =
    let whole : take end text ++ drop end text ≡ text = take-append-drop end text in
    let is : IsLayoutText (take end text ++ drop end text) = rw whole (text_of_rest text rest some) in
    let left = length-drop end text in
    subst (λ all. FirstRead all (take end text) (drop end text)) whole
    (first_read (take end text) (drop end text) is plain (λ (more : 0 < length (drop end text)).
    let here = get_or-drop end text 0 0 in
    let inside : end < length text = omega arith in
    rw here (rw (add_zero end) (stops inside))))
  where
    text_of_rest : (text : List ℕ) → IsRest text → 0 < length text → IsLayoutText text
    text_of_rest [] rest some = absurd (omega arith)
    text_of_rest (byte ∷ bytes) rest some = rest

    add_zero : (n : ℕ) → n + 0 ≡ n
    add_zero n = omega arith

-- the same of its cut there
pub cut_read : (text word after : List ℕ) (end : ℕ) → IsRest text → 0 < length text → end ≤ length text → All (λ byte. is_mark byte ≡ false) (take end text)
    → (end < length text → is_mark (get_or text end 0) ≡ true) → word ≡ take end text → after ≡ drop end text → FirstRead text word after
cut_read text word after end rest some within plain stops front back = rw (front, back) (read_at text end rest some within plain stops)

-- a last word
pub last_read : (text word after : List ℕ) (value : ℕ) → FirstRead text word after → length after < 1 → value ≡ digits_value 10 word
    → parts_left text ≡ (value ∷ []) ∷ parts_left after
unfolding FirstRead
last_read text word [] value read none same = read.1 ∙ ap (λ n. (n ∷ []) ∷ []) (sym same)
last_read text word (mark ∷ rest) value read none same = absurd (omega arith)

-- a word's position
pub word_read : (text word after : List ℕ) → FirstRead text word after → is_position_text word ≡ true
unfolding FirstRead
word_read text word [] read = read.0
word_read text word (mark ∷ rest) read = read.0

-- a word before others, with the text after its mark as the reader cuts it
pub record NextRead (text after : List ℕ) (value : ℕ) : Type 0 where
  pub parts : parts_left text ≡ grown (record { position = value; ends_part = get_or after 0 0 == 47 }) (parts_left (take (length after - 1) (drop 1 after)))
  pub rest : IsRest (take (length after - 1) (drop 1 after))
  pub more : 0 < length (take (length after - 1) (drop 1 after))

pub next_read : (text word after : List ℕ) (value : ℕ) → FirstRead text word after → 1 ≤ length after → value ≡ digits_value 10 word → NextRead text after value
unfolding FirstRead
next_read text word [] value read some same = absurd (omega arith)
next_read text word (mark ∷ rest) value read some same =
    let cut : take (length (mark ∷ rest) - 1) rest ≡ rest = take_all (length (mark ∷ rest) - 1) rest (omega arith) in
    let left = rest_of_text rest read.1 in
    record {
      parts = rw (cut, same) read.2;
      rest = rw cut left.0;
      more = rw cut left.2;
    }
