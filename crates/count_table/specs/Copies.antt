-- Tables of copies of values, and how many copies lie near a value.
use Rattle.std.specs.Prelude.{ℕ, ◌+◌, ◌-◌, ◌^◌, ◌==◌, List, map, replicate, sum, sum_by, count_by, slice_index, slice_set, ◌≡◌, EachIndex}
use Rattle.ball_walk.specs.Balls.{values, values_near}

-- a table: the width of its values, and how many copies each of them has, by value
pub record CopyTable : Type 0 where
  pub width : ℕ
  pub copies : List ℕ

-- the table that has no copies
unfoldable pub empty_table : ℕ → CopyTable
empty_table width = record { width = width; copies = replicate (2 ^ width) 0 }

-- how many copies a value has
abbrev pub copies_at : CopyTable → ℕ → ℕ
copies_at table value = slice_index table.copies value

-- how many copies there are
abbrev pub total_of : CopyTable → ℕ
total_of table = sum table.copies

-- the table with one more copy of a value
abbrev pub with_one : CopyTable → ℕ → CopyTable
with_one table value =
    record {
      width = table.width;
      copies = slice_set table.copies value (copies_at table value + 1);
    }

-- the table with one copy of a value less
abbrev pub without_one : CopyTable → ℕ → CopyTable
without_one table value =
    record {
      width = table.width;
      copies = slice_set table.copies value (copies_at table value - 1);
    }

-- how many copies there are of the values nearer to a value than so many units: all values of the
-- width that are near, and what each of them has
unfoldable pub count_near : CopyTable → ℕ → ℕ → ℕ
count_near table value units = sum_by (copies_at table) (values_near value table.width units)

-- numbers by place, each being how many copies are nearer to a value than that many units
abbrev pub AreLevels : CopyTable → ℕ → List ℕ → Type 0
AreLevels table value levels =
    EachIndex levels (λ units. slice_index levels units ≡ count_near table value units)

-- the table of a list of values: each value has as many copies as the list has items with it
unfoldable pub table_of : ℕ → List ℕ → CopyTable
table_of width items =
    record {
      width = width;
      copies = map (λ value. count_by (λ item. item == value) items) (values width);
    }
