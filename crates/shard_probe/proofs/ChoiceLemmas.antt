-- Two counts that agree up to tau + 1 units have one choice and one least cost.
use Rattle.std.proofs.Common.{◌≡◌, ℕ, ◌+◌, ◌<◌, ◌≤◌, ℤ, pos, negsuc, ◌≤ℤ◌, List, [], ◌∷◌, length, refl, sym, ap, ◌∙◌, arith}
use Rattle.std.specs.List.{All, AllByRecursion}
use Rattle.std.proofs.lemmas.Int.{ints}
use Rattle.std.proofs.lemmas.List.Elements.{recursion_from_All}
use Rattle.threshold_model.specs.Vectors.{cost_from, cost, units_of, IsVector, IsChoice, IsLeast}

-- no threshold of a vector is over its radius
abbrev pub NoneOver : Type 0
NoneOver =
    (tau parts : ℕ) (thresholds : List ℤ) → IsVector tau parts thresholds
    → All (λ threshold. threshold ≤ℤ pos tau) thresholds

units_small : (tau : ℕ) (t : ℤ) → t ≤ℤ pos tau → units_of t ≤ tau + 1
units_small tau (pos n) le = omega (arith, ints)
units_small tau (negsuc n) le = omega arith

-- counts that agree at so many parts, up to tau + 1 units
abbrev pub Agree : (ℕ → ℕ → ℕ) → (ℕ → ℕ → ℕ) → ℕ → ℕ → Type 0
Agree one other tau parts = (part units : ℕ) → part < parts → units ≤ tau + 1 → one part units ≡ other part units

costs_agree : (one other : ℕ → ℕ → ℕ) (tau parts part : ℕ) (ts : List ℤ) → Agree one other tau parts → part + length ts ≤ parts
    → AllByRecursion (λ t. t ≤ℤ pos tau) ts → cost_from one part ts ≡ cost_from other part ts
costs_agree one other tau parts part [] agree fits all = refl
costs_agree one other tau parts part (t ∷ ts) agree fits all =
    ap (λ n. n + cost_from one (part + 1) ts) (agree part (units_of t) (omega arith) (units_small tau t all.0))
    ∙ ap (λ n. other part (units_of t) + n) (costs_agree one other tau parts (part + 1) ts agree (omega arith) all.1)

module _ (most : NoneOver) (one other : ℕ → ℕ → ℕ) (tau parts : ℕ) (agree : Agree one other tau parts) where
  cost_agrees : (ts : List ℤ) → IsVector tau parts ts → cost one ts ≡ cost other ts
  cost_agrees ts vector =
      let size = vector.size in
      costs_agree one other tau parts 0 ts agree (omega arith) (recursion_from_All (λ t. t ≤ℤ pos tau) ts (most tau parts ts vector))

  pub choice_agrees : (ts : List ℤ) → IsChoice one tau parts ts → IsChoice other tau parts ts
  choice_agrees ts choice =
      let here = cost_agrees ts choice.vector in
      record {
        vector = choice.vector;
        none_cheaper = λ us vector. omega (arith, choice.none_cheaper us vector, cost_agrees us vector);
        none_before = λ us vector same. choice.none_before us vector (cost_agrees us vector ∙ same ∙ sym here);
      }

  pub least_agrees : (least : ℕ) → IsLeast one tau parts least → IsLeast other tau parts least
  least_agrees least is_least =
      let found = is_least.attained in
      record {
        attained = (found.0, found.1, sym (cost_agrees found.0 found.1) ∙ found.2);
        none_cheaper = λ us vector. omega (arith, is_least.none_cheaper us vector, cost_agrees us vector);
      }
