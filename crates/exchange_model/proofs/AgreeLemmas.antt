-- Counts that agree up to tau + 1 units have one least cost.
use Rattle.std.proofs.Common.{◌≡◌, ℕ, ◌+◌, ◌<◌, ◌≤◌, ℤ, pos, negsuc, ◌≤ℤ◌, List, [], ◌∷◌, length, refl, sym, ap, ◌∙◌, arith}
use Rattle.std.specs.List.{All, AllByRecursion}
use Rattle.std.proofs.lemmas.Int.{ints}
use Rattle.std.proofs.lemmas.List.Elements.{recursion_from_All}
use Rattle.threshold_model.specs.Vectors.{cost_from, cost, units_of, IsVector, IsLeast}

units_small : (tau : ℕ) (t : ℤ) → t ≤ℤ pos tau → units_of t ≤ tau + 1
units_small tau (pos n) le = omega (arith, ints)
units_small tau (negsuc n) le = omega arith

-- counts that agree at so many parts, up to tau + 1 units
abbrev pub Agree : (ℕ → ℕ → ℕ) → (ℕ → ℕ → ℕ) → ℕ → ℕ → Type 0
Agree one other tau parts = (part units : ℕ) → part < parts → units ≤ tau + 1 → one part units ≡ other part units

costs_agree : (one other : ℕ → ℕ → ℕ) (tau parts part : ℕ) (ts : List ℤ) → Agree one other tau parts → part + length ts ≤ parts
    → AllByRecursion (λ t. t ≤ℤ pos tau) ts → cost_from one part ts ≡ cost_from other part ts
costs_agree one other tau parts part [] agree fits all = refl
costs_agree one other tau parts part (t ∷ ts) agree fits all =
    ap (λ n. n + cost_from one (part + 1) ts) (agree part (units_of t) (omega arith) (units_small tau t all.0))
    ∙ ap (λ n. other part (units_of t) + n) (costs_agree one other tau parts (part + 1) ts agree (omega arith) all.1)

module _ (most : (tau parts : ℕ) (thresholds : List ℤ) → IsVector tau parts thresholds → All (λ threshold. threshold ≤ℤ pos tau) thresholds)
    (one other : ℕ → ℕ → ℕ) (tau parts : ℕ) (agree : Agree one other tau parts) where
  cost_agrees : (ts : List ℤ) → IsVector tau parts ts → cost one ts ≡ cost other ts
  cost_agrees ts vector =
      let size = vector.size in
      costs_agree one other tau parts 0 ts agree (omega arith) (recursion_from_All (λ t. t ≤ℤ pos tau) ts (most tau parts ts vector))

  pub least_agrees : (least : ℕ) → IsLeast one tau parts least → IsLeast other tau parts least
  least_agrees least is_least =
      let found = is_least.attained in
      record {
        attained = (found.0, found.1, sym (cost_agrees found.0 found.1) ∙ found.2);
        none_cheaper = λ us vector. omega (arith, is_least.none_cheaper us vector, cost_agrees us vector);
      }
