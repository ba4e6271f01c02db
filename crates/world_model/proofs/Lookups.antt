-- Lists that change at one place or at their end, and what holds of each element.
use Rattle.std.proofs.Common.{◌≡◌, ℕ, zero, suc, ◌<◌, List, [], ◌∷◌, ◌++◌, length, map, refl, sym, ap, ◌∙◌, arith, inl, inr}
use Rattle.std.specs.Prelude.{◌≢◌, ◌⊎◌, Option, Some, None, slice_get, slice_set, is_none, filter, replicate}
use Rattle.std.specs.List.{AllByRecursion}
use Rattle.std.proofs.lemmas.Option.{none-some, same_Some}

-- what stands in a list with one place changed is what was put there, or stood there before
pub get_set : {A : Type 0} (xs : List A) (i j : ℕ) (y x : A) → slice_get (slice_set xs i y) j ≡ Some x → ((j ≡ i) × (x ≡ y))
    ⊎ (slice_get xs j ≡ Some x)
get_set [] i j y x h = inr h
get_set (z ∷ xs) zero zero y x h = inl (refl, sym (same_Some y x h))
get_set (z ∷ xs) zero (suc j) y x h = inr h
get_set (z ∷ xs) (suc i) zero y x h = inr h
get_set (z ∷ xs) (suc i) (suc j) y x h =
    elim (get_set xs i j y x h) [ inl both ↦ inl (ap suc both.0, both.1) | inr before ↦ inr before ]

-- at another place it is as before
pub get_other : {A : Type 0} (xs : List A) (i j : ℕ) (y : A) → j ≢ i → slice_get (slice_set xs i y) j ≡ slice_get xs j
get_other [] i j y ne = refl
get_other (z ∷ xs) zero zero y ne = absurd (ne refl)
get_other (z ∷ xs) zero (suc j) y ne = refl
get_other (z ∷ xs) (suc i) zero y ne = refl
get_other (z ∷ xs) (suc i) (suc j) y ne = get_other xs i j y (λ e. ne (ap suc e))

-- what was put at a place stands there
pub get_same : {A : Type 0} (xs : List A) (i : ℕ) (x y : A) → slice_get xs i ≡ Some x → slice_get (slice_set xs i y) i ≡ Some y
get_same [] i x y h = absurd (none-some x h)
get_same (z ∷ xs) zero x y h = refl
get_same (z ∷ xs) (suc i) x y h = get_same xs i x y h

-- what stands in a list with one more element is the last, or stood there before
pub get_snoc : {A : Type 0} (xs : List A) (j : ℕ) (y x : A) → slice_get (xs ++ y ∷ []) j ≡ Some x → ((j ≡ length xs) × (x ≡ y))
    ⊎ (slice_get xs j ≡ Some x)
get_snoc [] zero y x h = inl (refl, sym (same_Some y x h))
get_snoc [] (suc j) y x h = absurd (none-some x h)
get_snoc (z ∷ xs) zero y x h = inr h
get_snoc (z ∷ xs) (suc j) y x h =
    elim (get_snoc xs j y x h) [ inl both ↦ inl (ap suc both.0, both.1) | inr before ↦ inr before ]

-- what stood there before still does
pub get_before : {A : Type 0} (xs : List A) (j : ℕ) (y x : A) → slice_get xs j ≡ Some x → slice_get (xs ++ y ∷ []) j ≡ Some x
get_before [] j y x h = absurd (none-some x h)
get_before (z ∷ xs) zero y x h = h
get_before (z ∷ xs) (suc j) y x h = get_before xs j y x h

-- what stands in a list that was mapped
pub get_mapped : {A B : Type 0} (f : A → B) (xs : List A) (i : ℕ) (x : A) → slice_get xs i ≡ Some x → slice_get (map f xs) i ≡ Some (f x)
get_mapped f [] i x h = absurd (none-some x h)
get_mapped f (y ∷ xs) zero x h = ap (λ z. Some (f z)) (same_Some y x h)
get_mapped f (y ∷ xs) (suc i) x h = get_mapped f xs i x h

-- the same place has the same element
pub one_there : {A : Type 0} (o : Option A) (x y : A) → o ≡ Some x → o ≡ Some y → x ≡ y
one_there o x y first second = same_Some x y (sym first ∙ second)

-- ---- each element

-- what holds of each of two lists holds of each of both
pub all_joined : {A : Type 0} (P : A → Type 0) (xs ys : List A) → AllByRecursion P xs → AllByRecursion P ys → AllByRecursion P (xs ++ ys)
all_joined P [] ys first second = second
all_joined P (x ∷ xs) ys first second = (first.0, all_joined P xs ys first.1 second)

-- ---- missing elements

-- as many are missing as there are where none is there
pub none_missing : (A : Type 0) (n : ℕ) → length (filter is_none (let missing : Option A = None in replicate n missing)) ≡ n
none_missing A zero = refl
none_missing A (suc n) = omega (arith, none_missing A n)

-- one is missing
pub some_missing : {A : Type 0} (xs : List (Option A)) (i : ℕ) → slice_get xs i ≡ Some None → 0 < length (filter is_none xs)
some_missing [] i h = absurd (none-some None h)
some_missing (None ∷ xs) zero h = omega arith
some_missing (Some x ∷ xs) zero h = absurd (none-some x (sym (same_Some (Some x) None h)))
some_missing (None ∷ xs) (suc i) h = omega arith
some_missing (Some x ∷ xs) (suc i) h = some_missing xs i h

-- none is there
pub none_there : {A : Type 0} (n i : ℕ) (x : A) → slice_get (replicate n None) i ≡ Some (Some x) → ⊥
none_there zero i x h = none-some (Some x) h
none_there (suc n) zero x h = none-some x (same_Some None (Some x) h)
none_there (suc n) (suc i) x h = none_there n i x h
