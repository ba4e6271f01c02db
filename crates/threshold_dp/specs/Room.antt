-- What contracts see of the table and of the thresholds: the room that was reserved,
-- and the entries.
use Rattle.std.specs.Prelude.{ℕ, ℤ, List}

-- the greatest number of parts and the greatest radius that a table has room for
pub record TableRoom : Type 0 where
  pub parts : ℕ
  pub tau : ℕ

-- thresholds, and how many of them there is room for
pub record ThresholdList : Type 0 where
  pub entries : List ℤ
  pub room : ℕ
