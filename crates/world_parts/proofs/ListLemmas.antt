-- What stands at a place of a list.
use Rattle.std.proofs.Common.{◌≡◌, ℕ, zero, suc, ◌<◌, List, [], ◌∷◌, length, get_or, Some, refl, sym, ap, ◌∙◌, arith}
use Rattle.std.specs.Prelude.{slice_get, slice_set}
use Rattle.std.proofs.lemmas.Option.{same_Some, slice_get_read}

-- an element stands at each place within a list
pub at_within : {A : Type 0} (xs : List A) (i : ℕ) → i < length xs → (x : A) × (slice_get xs i ≡ Some x)
at_within [] i below = absurd (omega (arith, below))
at_within (x ∷ xs) zero below = (x, refl)
at_within (x ∷ xs) (suc i) below = at_within xs i (omega (arith, below))

-- what stands at a place put there again changes nothing
pub put_again : {A : Type 0} (xs : List A) (i : ℕ) (x : A) → slice_get xs i ≡ Some x → slice_set xs i x ≡ xs
put_again [] i x there = refl
put_again {A} (y ∷ xs) zero x there = ap (λ (one : A). one ∷ xs) (sym (same_Some y x there))
put_again {A} (y ∷ xs) (suc i) x there = ap (λ (rest : List A). y ∷ rest) (put_again xs i x there)

-- what an index finds stands there
pub found_there : {A : Type 0} (xs : List A) (i : ℕ) (x : A) → i < length xs → x ≡ get_or xs i x → slice_get xs i ≡ Some x
found_there xs i x below at = slice_get_read xs (length xs) i x refl below at

-- two look-ups at one place find the same
pub two_found : {A : Type 0} (xs : List A) (i : ℕ) (x y : A) → i < length xs → x ≡ get_or xs i x → y ≡ get_or xs i y → x ≡ y
two_found xs i x y below first second = same_Some x y (sym (found_there xs i x below first) ∙ found_there xs i y below second)
