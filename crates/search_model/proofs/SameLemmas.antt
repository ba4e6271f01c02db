-- Sums over what a map, a filter and joined lists give, and over lists with the same elements.
use Rattle.std.proofs.Common.{◌≡◌, ℕ, ◌+◌, List, [], ◌∷◌, ◌++◌, length, map, sum_by, Bool, true, false, cond, ◌&&◌, refl, sym, ◌∙◌, arith}
use Rattle.std.specs.List.{flat_map, AllByRecursion}
use Rattle.std.proofs.lemmas.List.Sums.{sum_by-cons, sum_by-append}
use Rattle.search_model.specs.Reading.{HasSame}

-- a sum over a map
pub sum_map : {X Y : Type 0} (f : Y → ℕ) (g : X → Y) (xs : List X) → sum_by f (map g xs) ≡ sum_by (λ x. f (g x)) xs
sum_map f g [] = refl
sum_map f g (x ∷ xs) = omega (arith, sum_by-cons f (g x) (map g xs), sum_by-cons (λ y. f (g y)) x xs, sum_map f g xs)

-- a sum over joined lists
pub sum_flat_map : {X Y : Type 0} (f : Y → ℕ) (g : X → List Y) (xs : List X) → sum_by f (flat_map g xs) ≡ sum_by (λ x. sum_by f (g x)) xs
sum_flat_map f g [] = refl
sum_flat_map f g (x ∷ xs) =
    omega (arith, sum_by-append f (g x) (flat_map g xs), sum_by-cons (λ y. sum_by f (g y)) x xs, sum_flat_map f g xs)

-- a length is a sum of ones
pub sum_ones : {X : Type 0} (xs : List X) → sum_by (λ x. 1) xs ≡ length xs
sum_ones [] = refl
sum_ones (x ∷ xs) = omega (arith, sum_by-cons (λ y. 1) x xs, sum_ones xs)

-- a sum of zeros
pub sum_none : {X : Type 0} (xs : List X) → sum_by (λ x. 0) xs ≡ 0
sum_none [] = refl
sum_none (x ∷ xs) = omega (arith, sum_by-cons (λ y. 0) x xs, sum_none xs)

-- two functions that agree at each element have one sum
pub sum_agrees : {X : Type 0} (f g : X → ℕ) (xs : List X) → AllByRecursion (λ x. f x ≡ g x) xs → sum_by f xs ≡ sum_by g xs
sum_agrees f g [] all = refl
sum_agrees f g (x ∷ xs) all = omega (arith, sum_by-cons f x xs, sum_by-cons g x xs, all.0, sum_agrees f g xs all.1)

-- a sum over a list whose first element may be left out
pub sum_kept : {X : Type 0} (f : X → ℕ) (keep : Bool) (x : X) (xs : List X) → sum_by f (cond keep (x ∷ xs) xs) ≡ cond keep (f x) 0 + sum_by f xs
sum_kept f true x xs = sum_by-cons f x xs
sum_kept f false x xs = omega arith

-- lists with the same elements are of one length
pub same_length : {X : Type 0} (xs ys : List X) → HasSame xs ys → length xs ≡ length ys
same_length xs ys same = sym (sum_ones xs) ∙ same.sums (λ x. 1) ∙ sum_ones ys

-- an amount that two tests let through
pub both_let : (a b : Bool) (amount : ℕ) → cond (a && b) amount 0 ≡ cond b (cond a amount 0) 0
both_let true true amount = refl
both_let true false amount = refl
both_let false true amount = refl
both_let false false amount = refl

-- what is true of each element of joined lists is true of each element of both
pub all_front : {X : Type 0} (P : X → Type 0) (xs ys : List X) → AllByRecursion P (xs ++ ys) → AllByRecursion P xs
all_front P [] ys all = tt
all_front P (x ∷ xs) ys all = (all.0, all_front P xs ys all.1)

pub all_back : {X : Type 0} (P : X → Type 0) (xs ys : List X) → AllByRecursion P (xs ++ ys) → AllByRecursion P ys
all_back P [] ys all = all
all_back P (x ∷ xs) ys all = all_back P xs ys all.1
