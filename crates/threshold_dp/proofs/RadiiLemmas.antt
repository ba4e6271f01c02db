-- The plans of all radii are those of the rows that were solved.
use Rattle.std.proofs.Common.{◌≡◌, ℕ, zero, suc, ◌+◌, ◌*◌, ◌<◌, ◌≤◌, List, [], length, map, get_or, sum, refl, sym, ap, ◌∙◌, subst, arith}
use Rattle.std.specs.List.{range_with_len}
use Rattle.std.proofs.lemmas.List.{length-map, get_or-map}
use Rattle.std.proofs.lemmas.List.Sums.{sum_by-cons}
use Rattle.std.proofs.lemmas.List.FromFn.{length-range_with_len, get_or-range_with_len}
use Rattle.threshold_model.specs.Bounds.{IsPlanAt}
use Rattle.threshold_model.specs.Splits.{threshold_of, IsBest}
use Rattle.threshold_model.proofs.BestLemmas.{choice_is, least_is}
use Rattle.threshold_dp.specs.Table.{pick_rows, follow, IsSolved}
use Rattle.threshold_dp.specs.Radii.{PlansRadii, HasPlans, plans_of}
use Rattle.threshold_dp.proofs.RowsLemmas.{rows_number}

by_radius : {X : Type 0} (f : ℕ → X) (tau radius : ℕ) (default : X) → radius ≤ tau
    → get_or (map f (range_with_len 0 (tau + 1))) radius default ≡ f radius
by_radius f tau radius default within =
    let size = length-range_with_len 0 (tau + 1) in
    let at : get_or (range_with_len 0 (tau + 1)) radius 0 ≡ radius =
    get_or-range_with_len 0 (tau + 1) radius 0 (omega arith) ∙ omega arith in
    get_or-map f (range_with_len 0 (tau + 1)) radius 0 default (omega arith) ∙ ap f at

-- numbers each at most 64 times the greatest u32 add up to at most that, so often
sum_small : (f : ℕ → ℕ) (from number : ℕ) → ((n : ℕ) → n < from + number → f n ≤ 274877906880)
    → sum (map f (range_with_len from number)) ≤ number * 274877906880
sum_small f from zero small = omega arith
sum_small f from (suc number) small =
    omega (
      arith,
      sum_by-cons (λ x. x) (f from) (map f (range_with_len (from + 1) number)),
      small from (omega arith),
      sum_small f (from + 1) number (λ n less. small n (omega arith)),
    )

module _ (tau parts : ℕ) (picks costs : List ℕ) (radius : ℕ) (within : radius ≤ tau) where
  pub least_at : get_or (plans_of tau parts picks costs).leasts radius 0 ≡ get_or costs (radius + 1) 0
  least_at = by_radius (λ r. get_or costs (r + 1) 0) tau radius 0 within

  pub vector_at : get_or (plans_of tau parts picks costs).vectors radius []
      ≡ map threshold_of (follow (pick_rows (tau + 2) parts picks) (radius + 1))
  vector_at = by_radius (λ r. map threshold_of (follow (pick_rows (tau + 2) parts picks) (r + 1))) tau radius [] within

module _ (count : ℕ → ℕ → ℕ) (tau parts : ℕ) (picks costs : List ℕ) (few : parts ≤ 64) (near : tau ≤ 512)
    (solved : IsSolved count 0 (pick_rows (tau + 2) parts picks) costs (tau + 2)) where
  pub has_plans : parts * (tau + 2) ≤ length picks → length costs ≡ tau + 2 → HasPlans tau parts picks costs
  has_plans wide size = record {
    few = few;
    near = near;
    wide = wide;
    costs_are = size;
    sums = λ units less. (solved.best units less).splits.sum;
  }

  best_at : (radius : ℕ) → radius ≤ tau
      → IsBest count 0 parts (radius + 1) (follow (pick_rows (tau + 2) parts picks) (radius + 1))
  best_at radius within =
      subst (λ n. IsBest count 0 n (radius + 1) (follow (pick_rows (tau + 2) parts picks) (radius + 1)))
      (rows_number (tau + 2) parts picks) (solved.best (radius + 1) (omega arith))

  plan_at : (radius : ℕ) → radius ≤ tau
      → IsPlanAt count radius parts (map threshold_of (follow (pick_rows (tau + 2) parts picks) (radius + 1)))
      (get_or costs (radius + 1) 0)
  plan_at radius within = record {
    vector = choice_is count radius parts (follow (pick_rows (tau + 2) parts picks) (radius + 1)) (best_at radius within);
    least = rw (solved.cost (radius + 1) (omega arith))
        (least_is count radius parts (follow (pick_rows (tau + 2) parts picks) (radius + 1)) (best_at radius within));
  }

  pub plans_radii : PlansRadii count tau parts (plans_of tau parts picks costs)
  plans_radii = record {
    parts_are = refl;
    tau_is = refl;
    number = length-map (range_with_len 0 (tau + 1)) (λ r. get_or costs (r + 1) 0) ∙ length-range_with_len 0 (tau + 1);
    small = omega (
      arith,
      sum_small (λ r. get_or costs (r + 1) 0) 0 (tau + 1)
          (λ r less. omega (arith, solved.bound (r + 1) (omega arith), rows_number (tau + 2) parts picks)),
    );
    each = λ radius within. subst (λ vector. IsPlanAt count radius parts vector (get_or (plans_of tau parts picks costs).leasts radius 0))
        (sym (vector_at tau parts picks costs radius within))
        (rw (least_at tau parts picks costs radius within) (plan_at radius within));
  }

-- the same of a table by other names
pub radii_as : (count : ℕ → ℕ → ℕ) (tau parts width : ℕ) (mid picks cs costs : List ℕ) → parts ≤ 64 → tau ≤ 512 → width ≡ tau + 2
    → picks ≡ mid → costs ≡ cs → IsSolved count 0 (pick_rows width parts mid) cs width
    → PlansRadii count tau parts (plans_of tau parts picks costs)
radii_as count tau parts width mid picks cs costs few near wide of_picks of_costs solved =
    subst (λ xs. PlansRadii count tau parts (plans_of tau parts xs costs)) (sym of_picks)
    (subst (λ xs. PlansRadii count tau parts (plans_of tau parts mid xs)) (sym of_costs)
    (plans_radii count tau parts mid cs few near
    (subst (λ n. IsSolved count 0 (pick_rows n parts mid) cs n) wide solved)))

pub plans_as : (count : ℕ → ℕ → ℕ) (tau parts width : ℕ) (mid picks cs costs : List ℕ) → parts ≤ 64 → tau ≤ 512 → width ≡ tau + 2
    → picks ≡ mid → costs ≡ cs → IsSolved count 0 (pick_rows width parts mid) cs width
    → parts * (tau + 2) ≤ length mid → length cs ≡ tau + 2 → HasPlans tau parts picks costs
plans_as count tau parts width mid picks cs costs few near wide of_picks of_costs solved room size =
    subst (λ xs. HasPlans tau parts xs costs) (sym of_picks)
    (subst (HasPlans tau parts mid) (sym of_costs)
    (has_plans count tau parts mid cs few near
    (subst (λ n. IsSolved count 0 (pick_rows n parts mid) cs n) wide solved) room size))
