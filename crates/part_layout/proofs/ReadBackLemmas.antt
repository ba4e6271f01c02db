-- The text of parts reads back.
use Rattle.std.proofs.Common.{◌≡◌, ℕ, zero, suc, ◌<◌, ◌≤◌, ◌==◌, nat_le, true, false, List, [], ◌∷◌, All, map, length, decimal, refl, ◌∙◌, ap, arith, lit≤}
use Rattle.std.specs.Char.{digit_value, is_digit}
use Rattle.std.specs.List.{join_with_byte, list_all, slice_split}
use Rattle.std.specs.Str.Parse.{digits_value, AllDigits}
use Rattle.std.proofs.lemmas.Bool.{le-leb, lt-ltb, ne_eqb}
use Rattle.std.proofs.lemmas.Fmt.{decimal_is_IsNumeral}
use Rattle.std.proofs.lemmas.List.Elements.{All-append, All-head, All-tail}
use Rattle.std.proofs.lemmas.List.Splits.{slice_split_at, slice_split_none}
use Rattle.part_layout.specs.Faults.{IsReadBack}
use Rattle.part_layout.specs.Grammar.{is_position_text, spelled, position_texts, texts_of_part}
use Rattle.part_layout.specs.Laid.{Laid, IsLaid}
use Rattle.part_layout.specs.Text.{layout_text, part_text}
use Rattle.part_layout.proofs.FaultLemmas.{faultless_of_laid}
use Rattle.part_layout.proofs.LayoutLemmas.{layout_fits}
use Rattle.part_layout.proofs.TextLemmas.{piece_short}

-- bytes without a mark
abbrev Lacks : ℕ → List ℕ → Type 0
Lacks mark bytes = All (λ byte. (byte == mark) ≡ false) bytes

-- pieces without the mark between them are the pieces that it parts
split_join : (mark : ℕ) (pieces : List (List ℕ)) → 0 < length pieces → (mark == mark) ≡ true → All (λ piece. Lacks mark piece) pieces
    → slice_split (λ byte. byte == mark) (join_with_byte mark pieces) ≡ pieces
split_join mark [] some same lack = absurd (omega arith)
split_join mark (piece ∷ []) some same lack =
    slice_split_none (λ byte. byte == mark) piece (All-head (λ p. Lacks mark p) piece [] lack)
split_join mark (piece ∷ next ∷ pieces) some same lack =
    slice_split_at (λ byte. byte == mark) piece mark (join_with_byte mark (next ∷ pieces)) (All-head (λ p. Lacks mark p) piece (next ∷ pieces) lack) same
    ∙ ap (λ others. piece ∷ others)
    (split_join mark (next ∷ pieces) (omega arith) same (All-tail (λ p. Lacks mark p) piece (next ∷ pieces) lack))

All-cons : {X : Type 0} (P : X → Type 0) (x : X) (xs : List X) → P x → All P xs → All P (x ∷ xs)
All-cons P x xs here rest zero d inside = here
All-cons P x xs here rest (suc k) d inside = rest k d (omega arith)

All-nil : {X : Type 0} (P : X → Type 0) → All P []
All-nil P k d inside = absurd (omega arith)

-- what is between pieces that lack a byte lacks it
join_lacks : (mark other : ℕ) (pieces : List (List ℕ)) → (mark == other) ≡ false → All (λ piece. Lacks other piece) pieces
    → Lacks other (join_with_byte mark pieces)
join_lacks mark other [] differ lack = All-nil (λ byte. (byte == other) ≡ false)
join_lacks mark other (piece ∷ []) differ lack = All-head (λ p. Lacks other p) piece [] lack
join_lacks mark other (piece ∷ next ∷ pieces) differ lack =
    All-append (λ byte. (byte == other) ≡ false) piece (mark ∷ join_with_byte mark (next ∷ pieces))
    (All-head (λ p. Lacks other p) piece (next ∷ pieces) lack)
    (All-cons (λ byte. (byte == other) ≡ false) mark (join_with_byte mark (next ∷ pieces)) differ
    (join_lacks mark other (next ∷ pieces) differ (All-tail (λ p. Lacks other p) piece (next ∷ pieces) lack)))

digit_differs : (byte mark : ℕ) → digit_value byte < 10 → 10 ≤ digit_value mark → (byte == mark) ≡ false
digit_differs byte mark digit none =
    ne_eqb byte mark (λ (same : byte ≡ mark). let value = ap digit_value same in omega arith)

digits_lack : (mark : ℕ) (word : List ℕ) → 10 ≤ digit_value mark → AllDigits 10 word → Lacks mark word
digits_lack mark [] none digits = All-nil (λ byte. (byte == mark) ≡ false)
digits_lack mark (byte ∷ word) none digits =
    All-cons (λ b. (b == mark) ≡ false) byte word (digit_differs byte mark digits.0 none) (digits_lack mark word none digits.1)

digits_pass : (word : List ℕ) → AllDigits 10 word → list_all (λ byte. is_digit byte 10) word ≡ true
digits_pass [] digits = refl
digits_pass (byte ∷ word) digits =
    let here : is_digit byte 10 ≡ true = lt-ltb (digit_value byte) 10 digits.0 in
    let rest = digits_pass word digits.1 in
    rw (here, rest) refl

-- a small number's text
small_digits : (n : ℕ) → n < 1000 → AllDigits 10 (decimal n)
small_digits n small = (decimal_is_IsNumeral n (omega arith)).0.1

small_value : (n : ℕ) → n < 1000 → digits_value 10 (decimal n) ≡ n
small_value n small = (decimal_is_IsNumeral n (omega arith)).1

small_position : (n : ℕ) → n < 1000 → is_position_text (decimal n) ≡ true
small_position n small =
    let some = (decimal_is_IsNumeral n (omega arith)).0.0 in
    let short = piece_short n (decimal n) small refl in
    let low : nat_le 1 (length (decimal n)) ≡ true = le-leb 1 (length (decimal n)) (omega arith) in
    let high : nat_le (length (decimal n)) 3 ≡ true = le-leb (length (decimal n)) 3 short in
    let digits = digits_pass (decimal n) (small_digits n small) in
    rw (low, high, digits) refl

-- the numbers of a part
numbers_lack : (mark : ℕ) (part : List ℕ) → 10 ≤ digit_value mark → All (λ n. n < 1000) part → All (λ word. Lacks mark word) (map decimal part)
numbers_lack mark [] none small = All-nil (λ word. Lacks mark word)
numbers_lack mark (n ∷ part) none small =
    All-cons (λ word. Lacks mark word) (decimal n) (map decimal part)
    (digits_lack mark (decimal n) none (small_digits n (All-head (λ m. m < 1000) n part small)))
    (numbers_lack mark part none (All-tail (λ m. m < 1000) n part small))

numbers_pass : (part : List ℕ) → All (λ n. n < 1000) part → list_all is_position_text (map decimal part) ≡ true
numbers_pass [] small = refl
numbers_pass (n ∷ part) small =
    let here = small_position n (All-head (λ m. m < 1000) n part small) in
    let rest = numbers_pass part (All-tail (λ m. m < 1000) n part small) in
    rw (here, rest) refl

numbers_same : (part : List ℕ) → All (λ n. n < 1000) part → map (digits_value 10) (map decimal part) ≡ part
numbers_same [] small = refl
numbers_same (n ∷ part) small =
    ap (λ m. m ∷ map (digits_value 10) (map decimal part)) (small_value n (All-head (λ m. m < 1000) n part small))
    ∙ ap (λ others. n ∷ others) (numbers_same part (All-tail (λ m. m < 1000) n part small))

-- the words of a part's text
part_words : (part : List ℕ) → 0 < length part → All (λ n. n < 1000) part → texts_of_part (part_text part) ≡ map decimal part
part_words [] some small = absurd (omega arith)
part_words (n ∷ part) some small =
    split_join 44 (map decimal (n ∷ part)) (omega arith) refl (numbers_lack 44 (n ∷ part) (lit≤ tt) small)

abbrev AreSome : List (List ℕ) → Type 0
AreSome parts = All (λ part. 0 < length part) parts

abbrev AreSmall : List (List ℕ) → Type 0
AreSmall parts = All (λ part. All (λ n. n < 1000) part) parts

texts_lack : (parts : List (List ℕ)) → AreSmall parts → All (λ piece. Lacks 47 piece) (map part_text parts)
texts_lack [] small = All-nil (λ piece. Lacks 47 piece)
texts_lack (part ∷ parts) small =
    All-cons (λ piece. Lacks 47 piece) (part_text part) (map part_text parts)
    (join_lacks 44 47 (map decimal part) refl (numbers_lack 47 part (lit≤ tt) (All-head (λ p. All (λ n. n < 1000) p) part parts small)))
    (texts_lack parts (All-tail (λ p. All (λ n. n < 1000) p) part parts small))

texts_words : (parts : List (List ℕ)) → AreSome parts → AreSmall parts → map texts_of_part (map part_text parts) ≡ map (λ part. map decimal part) parts
texts_words [] some small = refl
texts_words (part ∷ parts) some small =
    ap (λ piece. piece ∷ map texts_of_part (map part_text parts))
    (part_words part (All-head (λ p. 0 < length p) part parts some) (All-head (λ p. All (λ n. n < 1000) p) part parts small))
    ∙ ap (λ others. map decimal part ∷ others)
    (texts_words parts (All-tail (λ p. 0 < length p) part parts some) (All-tail (λ p. All (λ n. n < 1000) p) part parts small))

-- the words of the text of parts
layout_words : (parts : List (List ℕ)) → 0 < length parts → AreSome parts → AreSmall parts
    → position_texts (layout_text parts) ≡ map (λ part. map decimal part) parts
layout_words [] there some small = absurd (omega arith)
layout_words (part ∷ parts) there some small =
    ap (map texts_of_part) (split_join 47 (map part_text (part ∷ parts)) (omega arith) refl (texts_lack (part ∷ parts) small))
    ∙ texts_words (part ∷ parts) some small

parts_pass : (parts : List (List ℕ)) → AreSmall parts → list_all (λ part. list_all is_position_text part) (map (λ part. map decimal part) parts) ≡ true
parts_pass [] small = refl
parts_pass (part ∷ parts) small =
    let here = numbers_pass part (All-head (λ p. All (λ n. n < 1000) p) part parts small) in
    let rest = parts_pass parts (All-tail (λ p. All (λ n. n < 1000) p) part parts small) in
    rw (here, rest) refl

parts_same : (parts : List (List ℕ)) → AreSmall parts → map (λ part. map (digits_value 10) part) (map (λ part. map decimal part) parts) ≡ parts
parts_same [] small = refl
parts_same (part ∷ parts) small =
    ap (λ numbers. numbers ∷ map (λ p. map (digits_value 10) p) (map (λ p. map decimal p) parts))
    (numbers_same part (All-head (λ p. All (λ n. n < 1000) p) part parts small))
    ∙ ap (λ others. part ∷ others) (parts_same parts (All-tail (λ p. All (λ n. n < 1000) p) part parts small))

-- the text of a layout reads back
pub reads_back : (layout : Laid) → IsLaid layout → IsReadBack layout
reads_back layout laid =
    let fits = layout_fits layout.bits 2048 layout.parts laid.allowed.few (lit≤ tt) laid.layout in
    let read = layout_words layout.parts laid.layout.some_part fits.some fits.short in
    let same : spelled (layout_text layout.parts) ≡ layout.parts =
    ap (λ parts. map (λ part. map (digits_value 10) part) parts) read ∙ parts_same layout.parts fits.short in
    record {
      faultless =
          record {
            text_of_grammar =
                ap (λ parts. list_all (λ part. list_all is_position_text part) parts) read ∙ parts_pass layout.parts fits.short;
            faultless = rw same (faultless_of_laid layout.bits layout.parts laid.layout);
          };
      same_parts = same;
    }
