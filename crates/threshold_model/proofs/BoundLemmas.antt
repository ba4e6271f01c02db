-- A question has one bound, plan and number of units; bounds rise with the radius and the rows.
use Rattle.std.proofs.Common.{◌≡◌, ℕ, zero, suc, ◌+◌, ◌-◌, ◌*◌, ◌<◌, ◌≤◌, min, ℤ, Option, Some}
use Rattle.std.proofs.Common.{None, List, [], ◌∷◌, length, map, refl, sym, ap, ◌∙◌, subst, ⊎_elim, arith}
use Rattle.std.proofs.lemmas.Bool.{cases_lt}
use Rattle.hamming_model.specs.Scan.{Ask, Range, Near}
use Rattle.threshold_model.specs.Vectors.{IsLeast, cost, units_of, row_counts, NeverFalls}
use Rattle.threshold_model.specs.Splits.{units_total, split_cost, threshold_of, IsSplit}
use Rattle.threshold_model.specs.Bounds.{IsLeastUpTo, IsBoundOf, IsPlanAt, IsPlanOf}
use Rattle.threshold_model.specs.Bounds.{IsUnitsAt, IsUnitsUpTo, IsUnitsOf, values_of_parts}
use Rattle.threshold_model.proofs.SplitLemmas.{units_all, cost_units}
use Rattle.threshold_model.proofs.SplitLemmas.{split_of_vector, vector_of_split}
use Rattle.threshold_model.proofs.ChoiceLemmas.{choice_unique, least_unique, least_of_rows}

-- at most so many of the units of a split, those of the first parts first
abbrev at_most : ℕ → List ℕ → List ℕ
at_most most [] = []
at_most most (u ∷ us) = min most u ∷ at_most (most - min most u) us

at_most_size : (most : ℕ) (us : List ℕ) → length (at_most most us) ≡ length us
at_most_size most [] = refl
at_most_size most (u ∷ us) = ap suc (at_most_size (most - min most u) us)

at_most_sum : (most : ℕ) (us : List ℕ) → most ≤ units_total us
    → units_total (at_most most us) ≡ most
at_most_sum most [] le = omega arith
at_most_sum most (u ∷ us) le =
    let left : ℕ = most - min most u in
    let rest : units_total (at_most left us) ≡ left = at_most_sum left us (omega arith) in
    omega arith

-- where no count falls, fewer units cost no more
at_most_cost : (counts : ℕ → ℕ → ℕ) (parts : ℕ)
    → ((part : ℕ) → part < parts → NeverFalls (counts part))
    → (most part : ℕ) (us : List ℕ) → part + length us ≤ parts
    → split_cost counts part (at_most most us) ≤ split_cost counts part us
at_most_cost counts parts rises most part [] fits = omega arith
at_most_cost counts parts rises most part (u ∷ us) fits =
    let here = rises part (omega arith) (min most u) u (omega arith) in
    let left : ℕ = most - min most u in
    let rest = at_most_cost counts parts rises left (part + 1) us (omega arith) in
    omega arith

-- a greater radius costs no less
pub least_rises : (counts : ℕ → ℕ → ℕ) (parts nearer farther one other : ℕ)
    → ((part : ℕ) → part < parts → NeverFalls (counts part)) → nearer ≤ farther
    → IsLeast counts nearer parts one → IsLeast counts farther parts other → one ≤ other
least_rises counts parts nearer farther one other rises le first second =
    let found = second.attained in
    let us : List ℕ = map units_of found.0 in
    let vs : List ℕ = at_most (nearer + 1) us in
    let split = split_of_vector farther parts found.0 found.1 in
    let size : length us ≡ parts = split.size in
    let sum : units_total us ≡ farther + 1 = split.sum in
    let fewer : IsSplit parts (nearer + 1) vs =
    record {
      size = at_most_size (nearer + 1) us ∙ size;
      sum = at_most_sum (nearer + 1) us (omega arith);
    } in
    let cheap = first.none_cheaper (map threshold_of vs) (vector_of_split nearer parts vs fewer) in
    let costs : cost counts (map threshold_of vs) ≡ split_cost counts 0 vs =
    cost_units counts 0 (map threshold_of vs) ∙ ap (split_cost counts 0) (units_all vs) in
    let paid = at_most_cost counts parts rises (nearer + 1) 0 us (omega arith) in
    omega (arith, cost_units counts 0 found.0, found.2)

module _ (counts : ℕ → ℕ → ℕ) (parts : ℕ) where
  -- the least costs at so many radii have one sum
  pub sum_unique : (radii one other : ℕ)
      → IsLeastUpTo counts parts radii one → IsLeastUpTo counts parts radii other → one ≡ other
  sum_unique zero one other first second = first ∙ sym second
  sum_unique (suc radius) one other first second =
      omega (
        arith,
        first.all,
        second.all,
        sum_unique radius first.earlier second.earlier first.is_earlier second.is_earlier,
        least_unique counts radius parts first.one second.one first.is_one second.is_one,
      )

  -- more radii add to the sum
  pub sum_rises : (fewer more one other : ℕ) → fewer ≤ more
      → IsLeastUpTo counts parts fewer one → IsLeastUpTo counts parts more other → one ≤ other
  sum_rises fewer zero one other le first second =
      let none : fewer ≡ zero = omega arith in
      omega (arith, second, subst (λ n. IsLeastUpTo counts parts n one) none first)
  sum_rises fewer (suc more) one other le first second =
      ⊎_elim
      (λ (less : fewer < suc more).
      let rest = sum_rises fewer more one second.earlier (omega arith) first second.is_earlier in
      omega (arith, second.all))
      (λ (all : suc more ≤ fewer).
      let same : fewer ≡ suc more = omega arith in
      let here = subst (λ n. IsLeastUpTo counts parts n one) same first in
      omega (arith, sum_unique (suc more) one other here second))
      (cases_lt fewer (suc more))

-- one bound
pub bound_unique : (ask : Ask) (rows : List (ℕ × List ℕ)) (layout : List (List ℕ))
    (last : Option ℕ) (one other : ℕ)
    → IsBoundOf ask rows layout last one → IsBoundOf ask rows layout last other → one ≡ other
bound_unique (Range tau code) rows layout last one other first second =
    least_unique (row_counts rows layout code) tau (length layout) one other first second
bound_unique (Near number code) rows layout None one other first second = first ∙ sym second
bound_unique (Near number code) rows layout (Some farthest) one other first second =
    sum_unique (row_counts rows layout code) (length layout) (farthest + 1) one other first second

-- one plan at a radius
plan_at_unique : (counts : ℕ → ℕ → ℕ) (radius parts : ℕ) (ts us : List ℤ) (one other : ℕ)
    → IsPlanAt counts radius parts ts one → IsPlanAt counts radius parts us other
    → (ts ≡ us) × (one ≡ other)
plan_at_unique counts radius parts ts us one other first second = (
  choice_unique counts radius parts ts us first.vector second.vector,
  least_unique counts radius parts one other first.least second.least,
)

-- one plan
pub plan_unique : (ask : Ask) (rows : List (ℕ × List ℕ)) (layout : List (List ℕ))
    (last : Option ℕ) (ts us : List ℤ) (one other : ℕ)
    → IsPlanOf ask rows layout last ts one → IsPlanOf ask rows layout last us other
    → (ts ≡ us) × (one ≡ other)
plan_unique (Range tau code) rows layout last =
    plan_at_unique (row_counts rows layout code) tau (length layout)
plan_unique (Near number code) rows layout None =
    plan_at_unique (row_counts rows layout code) 0 (length layout)
plan_unique (Near number code) rows layout (Some farthest) =
    plan_at_unique (row_counts rows layout code) farthest (length layout)

-- the units at a radius, and at so many
module _ (counts : ℕ → ℕ → ℕ) (layout : List (List ℕ)) where
  units_at_unique : (radius one other : ℕ)
      → IsUnitsAt counts layout radius one → IsUnitsAt counts layout radius other → one ≡ other
  units_at_unique radius one other first second =
      let one_least = least_unique counts radius (length layout) first.least second.least in
      let same : first.least ≡ second.least = one_least first.is_least second.is_least in
      omega (arith, first.units_are, second.units_are)

  units_up_to_unique : (radii one other : ℕ)
      → IsUnitsUpTo counts layout radii one → IsUnitsUpTo counts layout radii other → one ≡ other
  units_up_to_unique zero one other first second = first ∙ sym second
  units_up_to_unique (suc radius) one other first second =
      omega (
        arith,
        first.all,
        second.all,
        units_up_to_unique radius first.earlier second.earlier first.is_earlier second.is_earlier,
        units_at_unique radius first.one second.one first.is_one second.is_one,
      )

  -- the units at so many radii, by the least costs there
  pub units_of_costs : (radii sum : ℕ) → IsLeastUpTo counts (length layout) radii sum
      → IsUnitsUpTo counts layout radii (radii * (values_of_parts layout + 1) + 2 * sum)
  units_of_costs zero sum is = omega (arith, is)
  units_of_costs (suc radius) sum is =
      record {
        earlier = radius * (values_of_parts layout + 1) + 2 * is.earlier;
        one = values_of_parts layout + 2 * is.one + 1;
        is_earlier = units_of_costs radius is.earlier is.is_earlier;
        is_one = record { least = is.one; is_least = is.is_one; units_are = refl };
        all = omega (arith, is.all);
      }

-- one number of units
pub units_unique : (bits : ℕ) (ask : Ask) (rows : List (ℕ × List ℕ)) (layout : List (List ℕ))
    (one other : ℕ)
    → IsUnitsOf bits ask rows layout one → IsUnitsOf bits ask rows layout other → one ≡ other
units_unique bits (Range tau code) rows layout =
    units_at_unique (row_counts rows layout code) layout tau
units_unique bits (Near number code) rows layout =
    units_up_to_unique (row_counts rows layout code) layout (bits + 1)

-- a bound never falls as hits are given
pub bound_rises : (ask : Ask) (rows : List (ℕ × List ℕ)) (layout : List (List ℕ))
    (nearer farther one other : ℕ) → nearer ≤ farther
    → IsBoundOf ask rows layout (Some nearer) one → IsBoundOf ask rows layout (Some farther) other
    → one ≤ other
bound_rises (Range tau code) rows layout nearer farther one other le first second =
    let one_least = least_unique (row_counts rows layout code) tau (length layout) one other in
    omega (arith, one_least first second)
bound_rises (Near number code) rows layout nearer farther one other le first second =
    sum_rises (row_counts rows layout code) (length layout) (nearer + 1) (farther + 1)
    one other (omega arith) first second

-- before a hit was given the bound is the smallest
pub bound_first : (ask : Ask) (rows : List (ℕ × List ℕ)) (layout : List (List ℕ))
    (last : Option ℕ) (one other : ℕ)
    → IsBoundOf ask rows layout None one → IsBoundOf ask rows layout last other → one ≤ other
bound_first (Range tau code) rows layout last one other first second =
    let one_least = least_unique (row_counts rows layout code) tau (length layout) one other in
    omega (arith, one_least first second)
bound_first (Near number code) rows layout last one other first second = omega (arith, first)

-- a radius costs at most the number of rows
pub sum_of_rows : (code : List ℕ) (rows : List (ℕ × List ℕ)) (layout : List (List ℕ))
    (radii sum : ℕ) → 0 < length layout
    → IsLeastUpTo (row_counts rows layout code) (length layout) radii sum
    → sum ≤ radii * length rows
sum_of_rows code rows layout zero sum some is = omega (arith, is)
sum_of_rows code rows layout (suc radius) sum some is =
    let few = least_of_rows rows layout code radius is.one some is.is_one in
    let rest = sum_of_rows code rows layout radius is.earlier some is.is_earlier in
    omega (arith, is.all)

-- no rows cost nothing
free_from : (layout : List (List ℕ)) (code : List ℕ) (part : ℕ) (us : List ℕ)
    → split_cost (row_counts [] layout code) part us ≡ 0
free_from layout code part [] = refl
free_from layout code part (u ∷ us) = omega (arith, free_from layout code (part + 1) us)

least_of_none : (layout : List (List ℕ)) (code : List ℕ) (radius least : ℕ)
    → IsLeast (row_counts [] layout code) radius (length layout) least → least ≡ 0
least_of_none layout code radius least is =
    let found = is.attained in
    let free = free_from layout code 0 (map units_of found.0) in
    omega (arith, found.2, cost_units (row_counts [] layout code) 0 found.0)

sum_of_none : (layout : List (List ℕ)) (code : List ℕ) (radii sum : ℕ)
    → IsLeastUpTo (row_counts [] layout code) (length layout) radii sum → sum ≡ 0
sum_of_none layout code zero sum is = is
sum_of_none layout code (suc radius) sum is =
    let here = least_of_none layout code radius is.one is.is_one in
    let rest = sum_of_none layout code radius is.earlier is.is_earlier in
    omega (arith, is.all)

pub bound_of_none : (ask : Ask) (layout : List (List ℕ)) (last : Option ℕ) (bound : ℕ)
    → IsBoundOf ask [] layout last bound → bound ≡ 0
bound_of_none (Range tau code) layout last bound is = least_of_none layout code tau bound is
bound_of_none (Near number code) layout None bound is = is
bound_of_none (Near number code) layout (Some farthest) bound is =
    sum_of_none layout code (farthest + 1) bound is
