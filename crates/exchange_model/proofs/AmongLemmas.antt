-- What stands in a list that is made of other lists.
use Rattle.std.proofs.Common.{◌≡◌, ℕ, zero, suc, ◌+◌, ◌<◌, ◌≤◌, inl, inr, ◌⊎◌, List, [], ◌∷◌, ◌++◌, length, map, refl, sym, ap, arith, subst}
use Rattle.std.specs.List.{flat_map, range_with_len}
use Rattle.std.proofs.lemmas.Bool.{cases_lt}

-- an element stands in a list
abbrev pub Stands : {X : Type 0} → X → List X → Type 0
Stands x [] = ⊥
Stands x (y ∷ ys) = (y ≡ x) ⊎ Stands x ys

pub stands_left : {X : Type 0} (x : X) (xs ys : List X) → Stands x xs → Stands x (xs ++ ys)
stands_left x [] ys h = absurd h
stands_left x (y ∷ xs) ys (inl same) = inl same
stands_left x (y ∷ xs) ys (inr rest) = inr (stands_left x xs ys rest)

pub stands_right : {X : Type 0} (x : X) (xs ys : List X) → Stands x ys → Stands x (xs ++ ys)
stands_right x [] ys h = h
stands_right x (y ∷ xs) ys h = inr (stands_right x xs ys h)

pub stands_either : {X : Type 0} (x : X) (xs ys : List X) → Stands x (xs ++ ys) → Stands x xs ⊎ Stands x ys
stands_either x [] ys h = inr h
stands_either x (y ∷ xs) ys (inl same) = inl (inl same)
stands_either x (y ∷ xs) ys (inr rest) = elim (stands_either x xs ys rest) [
  | inl left ↦ inl (inr left)
  | inr right ↦ inr right
]

pub stands_map : {X Y : Type 0} (f : X → Y) (x : X) (xs : List X) → Stands x xs → Stands (f x) (map f xs)
stands_map f x [] h = h
stands_map f x (y ∷ xs) (inl same) = inl (ap f same)
stands_map f x (y ∷ xs) (inr rest) = inr (stands_map f x xs rest)

pub stands_from_map : {X Y : Type 0} (f : X → Y) (y : Y) (xs : List X) → Stands y (map f xs) → (x : X) × Stands x xs × (f x ≡ y)
stands_from_map f y [] h = absurd h
stands_from_map f y (x ∷ xs) (inl same) = (x, inl refl, same)
stands_from_map f y (x ∷ xs) (inr rest) = let there = stands_from_map f y xs rest in (there.0, inr there.1, there.2)

pub stands_flat_map : {X Y : Type 0} (f : X → List Y) (x : X) (y : Y) (xs : List X) → Stands x xs → Stands y (f x) → Stands y (flat_map f xs)
stands_flat_map f x y [] h there = absurd h
stands_flat_map f x y (z ∷ xs) (inl same) there = stands_left y (f z) (flat_map f xs) (subst (λ w. Stands y (f w)) (sym same) there)
stands_flat_map f x y (z ∷ xs) (inr rest) there = stands_right y (f z) (flat_map f xs) (stands_flat_map f x y xs rest there)

pub stands_from_flat_map : {X Y : Type 0} (f : X → List Y) (y : Y) (xs : List X) → Stands y (flat_map f xs) → (x : X) × Stands x xs × Stands y (f x)
stands_from_flat_map f y [] h = absurd h
stands_from_flat_map f y (x ∷ xs) h = elim (stands_either y (f x) (flat_map f xs) h) [
  | inl here ↦ (x, inl refl, here)
  | inr rest ↦ let there = stands_from_flat_map f y xs rest in (there.0, inr there.1, there.2)
]

pub stands_range : (x from n : ℕ) → from ≤ x → x < from + n → Stands x (range_with_len from n)
stands_range x from zero low high = absurd (omega arith)
stands_range x from (suc n) low high = elim (cases_lt from x) [
  | inl above ↦ inr (stands_range x (from + 1) n (omega arith) (omega arith))
  | inr at ↦ inl (omega arith)
]

pub range_low : (x from n : ℕ) → Stands x (range_with_len from n) → from ≤ x
range_low x from zero h = absurd h
range_low x from (suc n) (inl same) = omega arith
range_low x from (suc n) (inr rest) = let h = range_low x (from + 1) n rest in omega arith

pub in_range : (x from n : ℕ) → Stands x (range_with_len from n) → x < from + n
in_range x from zero h = absurd h
in_range x from (suc n) (inl same) = omega arith
in_range x from (suc n) (inr rest) = let h = in_range x (from + 1) n rest in omega arith

pub some_stands : {X : Type 0} (x : X) (xs : List X) → Stands x xs → 0 < length xs
some_stands x [] h = absurd h
some_stands x (y ∷ xs) h = omega arith
