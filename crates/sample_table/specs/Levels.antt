-- The table of one sample: for each part the counts of the radii -1 to tau, the least costs of all
-- parts but two neighbouring ones, and the least cost of all.
use Rattle.std.specs.Prelude.{◌≡◌, ℕ, ◌+◌, ◌≤◌, min, List, [], length, map, count_by, slice_index, slice_index_or, slice_set, refl}
use Rattle.std.specs.List.{range_with_len}
use Rattle.std.specs.Coded.{Coded, code_by, coded×, coded_list, coded_ℕ}
use Rattle.ball_walk.specs.Balls.{is_near}
use Rattle.exchange_model.specs.Least.{least_cost}
use Rattle.exchange_model.specs.Pairs.{least_beside}

-- the greatest radius, and for each part the counts of its radii
pub record LevelTable : Type 0 where
  pub tau : ℕ
  pub rows : List (List ℕ)

-- the counts, and for each number of units what all parts but two cost at least
pub record PairTable : Type 0 where
  pub levels : LevelTable
  pub others : List ℕ

-- such a table as plain lists and numbers
abbrev pub pair_table_code : Coded PairTable
pair_table_code =
    code_by (ℕ × (List (List ℕ) × List ℕ))
    (coded× coded_ℕ (coded× (coded_list (coded_list coded_ℕ)) (coded_list coded_ℕ)))
    (λ t. (t.levels.tau, (t.levels.rows, t.others)))
    (λ p. record { levels = record { tau = p.0; rows = p.1.0 }; others = p.1.1 }) (λ _. refl)

-- the count at a part, where more units than a row has count as many as its last
abbrev pub level_count : LevelTable → ℕ → ℕ → ℕ
level_count table part units =
    slice_index (slice_index_or table.rows part []) (min units (table.tau + 1))

-- how many values are nearer to a value than each number of units below the width
unfoldable pub levels_of : List ℕ → ℕ → ℕ → List ℕ
levels_of values value width =
    map (λ units. count_by (is_near value units) values) (range_with_len 0 width)

-- the table with the counts of values at a part in place of its own
abbrev pub with_part : LevelTable → ℕ → List ℕ → ℕ → LevelTable
with_part table part values value =
    record {
      tau = table.tau;
      rows = slice_set table.rows part (levels_of values value (table.tau + 2));
    }

-- the least cost of the counts of a table
abbrev pub least_of_levels : LevelTable → ℕ
least_of_levels table = least_cost (level_count table) table.tau (length table.rows)

-- the least costs kept are those of all parts but this one and the next, where there are such
abbrev pub IsTurnedTo : ℕ → PairTable → Type 0
IsTurnedTo pair table =
    3 ≤ length table.levels.rows → (units : ℕ) → units ≤ table.levels.tau + 1
    → slice_index table.others units
    ≡ least_beside (level_count table.levels) pair (length table.levels.rows) units
