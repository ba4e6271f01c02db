-- Lists and radii, for the law that a near query is lawful. No public clause cites this module.
use Rattle.std.proofs.Common.{◌≡◌, ℕ, zero, suc, ◌+◌, ◌-◌, ◌≤◌, nat_lt, Bool, true, false, cond}
use Rattle.std.proofs.Common.{List, [], ◌∷◌}
use Rattle.std.proofs.Common.{length, take, drop, sum, refl, sym, ap, ◌∙◌, subst, arith}
use Rattle.std.proofs.Common.{Some, None}
use Rattle.std.specs.Prelude.{IfSome}
use Rattle.std.proofs.lemmas.Bool.{ne_eqb}
use Rattle.std.proofs.lemmas.List.Sums.{sum_by-cons}
use Rattle.hamming_model.specs.declared.hit.Hit.{Hit}
use Rattle.ring_model.specs.Rings.{hits_nearer}
use Rattle.hit_source.specs.Sources.{radii_begun}
use Rattle.hit_source.specs.Windows.{first_distance}
use Rattle.knn_task.specs.Near.{last_of}

-- what lies within the first so many
pub take_inside : {X : Type 0} (k g r : ℕ) (xs : List X) → g + k ≤ r → take k (drop g (take r xs)) ≡
    take k (drop g xs)
take_inside k zero zero xs le = (let e : k ≡ zero = omega arith in rw e refl)
take_inside zero zero (suc r) [] le = refl
take_inside (suc k) zero (suc r) [] le = refl
take_inside zero zero (suc r) (x ∷ xs) le = refl
take_inside (suc k) zero (suc r) (x ∷ xs) le = ap (λ ys. x ∷ ys)
    (take_inside k zero r xs (omega arith))
take_inside k (suc g) zero xs le = absurd (omega arith)
take_inside k (suc g) (suc r) [] le = refl
take_inside k (suc g) (suc r) (x ∷ xs) le = take_inside k g r xs (omega arith)

pub first_of_take : (hits : List Hit) → first_distance (take 1 hits) ≡ first_distance hits
first_of_take [] = refl
first_of_take (hit ∷ hits) = refl

-- sums of the first numbers rise with how many there are
pub sum_rises : (xs : List ℕ) (few many : ℕ) → few ≤ many → sum (take few xs) ≤ sum (take many xs)
sum_rises [] zero zero le = omega arith
sum_rises [] zero (suc many) le = omega arith
sum_rises [] (suc few) zero le = omega arith
sum_rises [] (suc few) (suc many) le = omega arith
sum_rises (x ∷ xs) zero many le = omega arith
sum_rises (x ∷ xs) (suc few) zero le = absurd (omega arith)
sum_rises (x ∷ xs) (suc few) (suc many) le =
    omega (
      arith,
      sum_by-cons (λ n. n) x (take few xs),
      sum_by-cons (λ n. n) x (take many xs),
      sum_rises xs few many (omega arith),
    )

-- the last of so many radii
pub some_last : (radii : ℕ) → last_of (suc radii) ≡ Some radii
some_last radii =
    ap (λ b. cond b None (Some (suc radii - 1)))
    (ne_eqb (suc radii) 0 (λ (e : suc radii ≡ 0). omega arith)) ∙ ap Some (omega arith)

pub last_radii : (radii : ℕ) → radii_begun (last_of radii) ≡ radii
last_radii zero = refl
last_radii (suc radii) = ap radii_begun (some_last radii) ∙ omega arith

pub last_most : (bits radii : ℕ) → radii ≤ bits + 1 → IfSome (last_of radii)
    (λ radius. radius ≤ bits)
last_most bits zero le = tt
last_most bits (suc radii) le = subst (λ last. IfSome last (λ radius. radius ≤ bits))
    (sym (some_last radii)) (omega arith)

pub near_few : (hits : List Hit) (units : ℕ) → length (hits_nearer hits units) ≤ length hits
near_few [] units = omega arith
near_few (hit ∷ hits) units = go (nat_lt hit.dist units) (near_few hits units)
  where
    go : (b : Bool) → length (hits_nearer hits units) ≤ length hits
        → length (cond b (hit ∷ hits_nearer hits units) (hits_nearer hits units)) ≤ suc
        (length hits)
    go true le = omega arith
    go false le = omega arith
