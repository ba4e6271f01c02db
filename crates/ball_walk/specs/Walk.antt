-- What a walk over a ball keeps, and the values that it still has to give.
-- No public clause cites this module.
use Rattle.std.specs.Prelude.{ℕ, zero, suc, ◌+◌, ◌-◌, ◌^◌, ◌<◌, ◌≤◌, ◌==◌, List, [], ◌++◌, filter}
use Rattle.std.specs.List.{flat_map, range_with_len}
use Rattle.hamming_model.specs.declared.limits.TheConstants.{PART_WIDTH_MOST}
use Rattle.ball_walk.specs.Balls.{ring, value_distance}

-- the values of a width at one distance from a value, from one on
unfoldable pub ring_from : ℕ → ℕ → ℕ → ℕ → List ℕ
ring_from value width apart from =
    filter (λ other. value_distance other value == apart) (range_with_len from (2 ^ width - from))

-- the values at so many distances from this one on, those at this distance from this value on
abbrev pub rest_of : ℕ → ℕ → ℕ → ℕ → ℕ → List ℕ
rest_of value width apart from zero = []
rest_of value width apart from (suc left) =
    ring_from value width apart from ++ flat_map (ring value width)
    (range_with_len (apart + 1) left)

-- the numbers of a walk are in range
pub record IsWalk (value width apart from left : ℕ) : Type 0 where
  pub small : width ≤ PART_WIDTH_MOST
  pub in_width : value < 2 ^ width
  pub few : apart + left ≤ width + 1
  pub in_range : from ≤ 2 ^ width

-- the least value of a width above the last one that is at least and at most so far from a value
pub record IsNextAfter (value width last least most found : ℕ) : Type 0 where
  pub later : last < found
  pub in_width : found < 2 ^ width
  pub enough : least ≤ value_distance found value
  pub near : value_distance found value ≤ most
  pub first : (other : ℕ) → last < other → other < found
      → least ≤ value_distance other value → value_distance other value ≤ most → ⊥

-- there is no such value
pub record HasNoneAfter (value width last least most : ℕ) : Type 0 where
  pub none : (other : ℕ) → last < other → other < 2 ^ width
      → least ≤ value_distance other value → value_distance other value ≤ most → ⊥
