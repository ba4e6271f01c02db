-- The plain scan: past the end of either code nothing is left of a distance.
use Rattle.std.proofs.Common.{◌≡◌, ℕ, ◌<◌, ◌≤◌, List, [], ◌∷◌, length, drop, refl, drop_of_length-le, arith, true, false, Bool, min}
use lib.Dec.{leb}
use Rattle.std.proofs.lemmas.Bool.{leb-true, leb-false}
use Rattle.hamming_model.specs.Codes.{distance}

distance_to_none : (code : List ℕ) → distance code [] ≡ 0
distance_to_none [] = refl
distance_to_none (bit ∷ code) = refl

-- nothing is left once one code is at its end
pub none_left : (a b : List ℕ) (i : ℕ) → i ≡ min (length a) (length b) → distance (drop i a) (drop i b) ≡ 0
none_left a b i end = go (leb (length a) (length b)) refl
  where
    go : (t : Bool) → leb (length a) (length b) ≡ t → distance (drop i a) (drop i b) ≡ 0
    go true e =
        let le : length a ≤ length b = leb-true _ _ e in
        let all : length a ≤ i = omega arith in
        rw (drop_of_length-le a all)
    go false e =
        let lt : length b < length a = leb-false _ _ e in
        let all : length b ≤ i = omega arith in
        rw (drop_of_length-le b all) (distance_to_none (drop i a))
