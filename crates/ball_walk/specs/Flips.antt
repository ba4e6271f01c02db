-- Which digits of a value are flipped: the numbers of a width by how many ones they have, and the
-- values that a value becomes by an exclusive or with them.
use Rattle.std.specs.Prelude.{ℕ, ◌==◌, List, filter, map}
use Rattle.std.specs.Int.RustNames.{count_ones, bit_xor}
use Rattle.std.specs.List.{flat_map, range_with_len}
use Rattle.ball_walk.specs.Balls.{values}

-- the numbers of a width with so many ones, ascending
unfoldable pub flips : ℕ → ℕ → List ℕ
flips width apart = filter (λ flip. count_ones flip == apart) (values width)

-- the values that a value becomes where so many of its digits are flipped
unfoldable pub flipped_ring : ℕ → ℕ → ℕ → List ℕ
flipped_ring value width apart = map (bit_xor value) (flips width apart)

-- the values that a value becomes where fewer than so many of its digits are flipped
unfoldable pub flipped_ball : ℕ → ℕ → ℕ → List ℕ
flipped_ball value width units = flat_map (flipped_ring value width) (range_with_len 0 units)

-- values still to come, and the width of all of them
pub record FlippedLeft : Type 0 where
  pub width : ℕ
  pub values : List ℕ
