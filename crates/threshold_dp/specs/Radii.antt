-- The choices and the least costs of all radii up to one.
use Rattle.std.specs.Prelude.{◌≡◌, ℕ, ◌+◌, ◌*◌, ◌^◌, ◌<◌, ◌≤◌, ℤ, List, [], length, map, sum}
use Rattle.std.specs.Prelude.{slice_index, slice_index_or}
use Rattle.std.specs.List.{range_with_len}
use Rattle.hamming_model.specs.declared.limits.TheConstants.{PARTS_MOST}
use Rattle.threshold_model.specs.Bounds.{IsPlanAt}
use Rattle.threshold_model.specs.Splits.{threshold_of, units_total}
use Rattle.threshold_dp.specs.Table.{pick_rows, follow}

-- the number of parts, the greatest radius, and for each radius up to it a vector and a cost
pub record RadiusPlans : Type 0 where
  pub parts : ℕ
  pub tau : ℕ
  pub vectors : List (List ℤ)
  pub leasts : List ℕ

-- each radius up to tau has the first of the cheapest vectors, and their cost
pub record PlansRadii (counts : ℕ → ℕ → ℕ) (tau parts : ℕ) (plans : RadiusPlans) : Type 0 where
  pub parts_are : plans.parts ≡ parts
  pub tau_is : plans.tau ≡ tau
  pub number : length plans.leasts ≡ tau + 1
  pub small : sum plans.leasts < 2 ^ 63
  pub each : (radius : ℕ) → radius ≤ tau →
      IsPlanAt counts radius parts (slice_index_or plans.vectors radius [])
      (slice_index plans.leasts radius)

-- what the rows of picks and the costs of a table plan
abbrev pub plans_of : ℕ → ℕ → List ℕ → List ℕ → RadiusPlans
plans_of tau parts picks costs = record {
  parts = parts;
  tau = tau;
  vectors = map (λ radius. map threshold_of (follow (pick_rows (tau + 2) parts picks) (radius + 1)))
      (range_with_len 0 (tau + 1));
  leasts = map (λ radius. slice_index costs (radius + 1)) (range_with_len 0 (tau + 1));
}

-- a table has the rows of all parts, each split of which has all its units
pub record HasPlans (tau parts : ℕ) (picks costs : List ℕ) : Type 0 where
  pub few : parts ≤ PARTS_MOST
  pub near : tau ≤ 512
  pub wide : parts * (tau + 2) ≤ length picks
  pub costs_are : length costs ≡ tau + 2
  pub sums : (units : ℕ) → units < tau + 2 →
      units_total (follow (pick_rows (tau + 2) parts picks) units) ≡ units
