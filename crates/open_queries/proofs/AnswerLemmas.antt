-- Lemmas on lists of hits: the next one, the last one given, and what is left.
use Rattle.std.proofs.Common.{◌≡◌, ℕ, zero, suc, ◌+◌, ◌≤◌, ◌<◌, List, [], ◌∷◌, ◌++◌, length, take, drop}
use Rattle.std.proofs.Common.{Some, None, refl, ap, ◌∙◌, arith}
use Rattle.hamming_model.specs.declared.hit.Hit.{Hit}
use Rattle.hit_source.specs.Moves.{first_of}
use Rattle.threshold_model.specs.Bounds.{last_distance}

-- the hits from the next one on
pub next_first : (n : ℕ) (hits : List Hit) (hit : Hit) → first_of (drop n hits) ≡ Some hit
    → (rest : List Hit) × (drop n hits ≡ hit ∷ rest)
next_first zero [] hit is = cc
next_first zero (head ∷ hits) hit is = let same : head ≡ hit = cc in (hits, ap (λ (h : Hit). h ∷ hits) same)
next_first (suc n) [] hit is = cc
next_first (suc n) (head ∷ hits) hit is = next_first n hits hit is

-- a hit that is next is one of all
pub next_within : (n : ℕ) (hits : List Hit) (hit : Hit) → first_of (drop n hits) ≡ Some hit → n < length hits
next_within zero [] hit is = cc
next_within zero (head ∷ hits) hit is = omega arith
next_within (suc n) [] hit is = cc
next_within (suc n) (head ∷ hits) hit is = omega (arith, next_within n hits hit is)

-- where none is next all were given
pub none_next : (n : ℕ) (hits : List Hit) → first_of (drop n hits) ≡ None → length hits ≤ n
none_next n [] is = omega arith
none_next zero (head ∷ hits) is = cc
none_next (suc n) (head ∷ hits) is = omega (arith, none_next n hits is)

-- one hit more
pub one_more : (given : ℕ) (hits rest : List Hit) (hit : Hit) → drop given hits ≡ hit ∷ rest
    → take (suc given) hits ≡ take given hits ++ hit ∷ []
one_more zero hits rest hit is = ap (take 1) is
one_more (suc given) [] rest hit is = cc
one_more (suc given) (first ∷ hits) rest hit is = ap (λ l. first ∷ l) (one_more given hits rest hit is)

-- the hits up to a place and its hit are a part of more
pub up_to : (given count : ℕ) (hits rest : List Hit) (hit : Hit) → drop given hits ≡ hit ∷ rest
    → given < count → (more : List Hit) × (take count hits ≡ take given hits ++ hit ∷ more)
up_to zero zero hits rest hit is fewer = absurd (omega (arith, fewer))
up_to zero (suc count) hits rest hit is fewer = (take count rest, ap (take (suc count)) is)
up_to (suc given) zero hits rest hit is fewer = absurd (omega (arith, fewer))
up_to (suc given) (suc count) [] rest hit is fewer = cc
up_to (suc given) (suc count) (first ∷ hits) rest hit is fewer =
    let more = up_to given count hits rest hit is (omega (arith, fewer)) in
    (more.0, ap (λ l. first ∷ l) more.1)

-- the last of hits with one behind them
last_behind : (hits : List Hit) (hit : Hit) → last_distance (hits ++ hit ∷ []) ≡ Some hit.dist
last_behind [] hit = refl
last_behind (first ∷ []) hit = refl
last_behind (first ∷ other ∷ hits) hit = last_behind (other ∷ hits) hit

-- the distance of the last hit given is that of the one that was next
pub last_next : (n : ℕ) (hits : List Hit) (hit : Hit) → first_of (drop n hits) ≡ Some hit
    → last_distance (take (n + 1) hits) ≡ Some hit.dist
last_next n hits hit is =
    let rest = next_first n hits hit is in
    let one : n + 1 ≡ suc n = omega arith in
    ap (λ k. last_distance (take k hits)) one
    ∙ ap last_distance (one_more n hits rest.0 hit rest.1)
    ∙ last_behind (take n hits) hit
