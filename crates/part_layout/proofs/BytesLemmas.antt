-- The bytes of a layout's text.
use Rattle.std.proofs.Common.{◌≡◌, ℕ, ◌<◌, ◌&&◌, Bool, true, false, List, [], ◌∷◌, ◌++◌, All, map, get_or, decimal, refl, arith, lit≤}
use Rattle.std.specs.Char.{digit_value, is_digit}
use Rattle.std.specs.List.{join_with_byte, list_all}
use Rattle.std.specs.Str.Parse.{AllDigits}
use Rattle.std.proofs.lemmas.Bool.{lt-ltb}
use Rattle.std.proofs.lemmas.Fmt.{decimal_is_IsNumeral}
use Rattle.std.proofs.lemmas.List.Elements.{All-head, All-map, All-tail}
use Rattle.std.proofs.lemmas.List.Folds.{list_all-append}
use Rattle.part_layout.specs.Laid.{Laid, IsLaid}
use Rattle.part_layout.specs.Text.{layout_text, part_text, is_layout_byte, HasLayoutBytes}
use Rattle.part_layout.proofs.LayoutLemmas.{layout_fits}

-- two tests that are true
both : (a b : Bool) → a ≡ true → b ≡ true → (a && b) ≡ true
both true true first second = refl
both true false first second = second
both false b first second = first

-- one text after another
joined : (front back : List ℕ) → HasLayoutBytes front → HasLayoutBytes back → HasLayoutBytes (front ++ back)
joined front back first second =
    rw (list_all-append is_layout_byte front back) (both (list_all is_layout_byte front) (list_all is_layout_byte back) first second)

-- one byte before a text
after_byte : (byte : ℕ) (text : List ℕ) → is_layout_byte byte ≡ true → HasLayoutBytes text → HasLayoutBytes (byte ∷ text)
after_byte byte text first others = both (is_layout_byte byte) (list_all is_layout_byte text) first others

-- a digit is such a byte
digit_is : (byte : ℕ) → digit_value byte < 10 → is_layout_byte byte ≡ true
digit_is byte digit = let is : is_digit byte 10 ≡ true = lt-ltb (digit_value byte) 10 digit in rw is refl

-- digits
digits_are : (word : List ℕ) → AllDigits 10 word → HasLayoutBytes word
digits_are [] digits = refl
digits_are (byte ∷ word) digits = after_byte byte word (digit_is byte digits.0) (digits_are word digits.1)

-- texts with a mark between each two
joined_by : (mark : ℕ) (texts : List (List ℕ)) → is_layout_byte mark ≡ true → All HasLayoutBytes texts → HasLayoutBytes (join_with_byte mark texts)
joined_by mark [] is each = refl
joined_by mark (text ∷ []) is each = All-head HasLayoutBytes text [] each
joined_by mark (text ∷ next ∷ texts) is each =
    joined text (mark ∷ join_with_byte mark (next ∷ texts)) (All-head HasLayoutBytes text (next ∷ texts) each)
    (after_byte mark (join_with_byte mark (next ∷ texts)) is
    (joined_by mark (next ∷ texts) is (All-tail HasLayoutBytes text (next ∷ texts) each)))

-- the texts of a list, where each has such bytes
texts_of : {X : Type 0} (Is : X → Type 0) (text_of : X → List ℕ) (xs : List X) → ((x : X) → Is x → HasLayoutBytes (text_of x)) → All Is xs
    → All HasLayoutBytes (map text_of xs)
texts_of Is text_of xs each all =
    All-map HasLayoutBytes text_of xs (λ place default inside. each (get_or xs place default) (all place default inside))

-- a number below 1,000
number_is : (number : ℕ) → number < 1000 → HasLayoutBytes (decimal number)
number_is number small = digits_are (decimal number) (decimal_is_IsNumeral number (omega arith)).0.1

-- the text of a part
part_is : (part : List ℕ) → All (λ number. number < 1000) part → HasLayoutBytes (part_text part)
part_is part small = joined_by 44 (map decimal part) refl (texts_of (λ number. number < 1000) decimal part number_is small)

-- the text of a layout
pub bytes_of_layout : (layout : Laid) → IsLaid layout → HasLayoutBytes (layout_text layout.parts)
bytes_of_layout layout laid =
    let fits = layout_fits layout.bits 2048 layout.parts laid.allowed.few (lit≤ tt) laid.layout in
    joined_by 47 (map part_text layout.parts) refl (texts_of (λ part. All (λ number. number < 1000) part) part_text layout.parts part_is fits.short)
