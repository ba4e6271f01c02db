-- The least cost of a trial, by the rows that it wrote.
use Rattle.std.proofs.Common.{◌≡◌, ℕ, ◌+◌, ◌<◌, ◌≤◌, List, [], ◌∷◌, length, refl, sym, ◌∙◌, ap, arith, subst}
use Rattle.std.proofs.lemmas.List.{length-map}
use Rattle.std.specs.Global.{Vec}
use Rattle.exchange_model.specs.Least.{IsLeastSum}
use Rattle.sample_table.specs.Kept.{sample_table_of}
use Rattle.sample_table.specs.Levels.{IsTurnedTo, PairTable, least_of_levels, levels_of, with_part}
use Rattle.sample_table.specs.Sums.{AreCountRows, IsLeastJoint, counts_in, kept_rows}
use Rattle.sample_table.proofs.TableLemmas.{AgreeLaw, SplitsLaw, ThreeLaw, three_tried, two_tried}

module _ (tau : ℕ) (rows : List (Vec ℕ)) (others : List ℕ) (table : PairTable) (pair : ℕ) (values : List ℕ) (value : ℕ) (next_values : List ℕ)
    (next_value : ℕ) (seen : sample_table_of tau rows others ≡ table) (splits : SplitsLaw) (agrees : AgreeLaw) (three : ThreeLaw)
    (inside : pair + 1 < length table.levels.rows) (counted : AreCountRows (tau + 2) (kept_rows rows)) (few : length values ≤ 64)
    (few_next : length next_values ≤ 64) (first next : List ℕ) (least : ℕ) (is_first : first ≡ levels_of values value (tau + 2))
    (is_next : next ≡ levels_of next_values next_value (tau + 2)) where
  -- how many rows there are
  rows_kept : length (kept_rows rows) ≡ length table.levels.rows
  rows_kept = ap (λ (t : PairTable). length t.levels.rows) seen

  of_table : least_of_levels (with_part (with_part (sample_table_of tau rows others).levels pair values value) (pair + 1) next_values next_value)
      ≡ least_of_levels (with_part (with_part table.levels pair values value) (pair + 1) next_values next_value)
  of_table = ap (λ (t : PairTable). least_of_levels (with_part (with_part t.levels pair values value) (pair + 1) next_values next_value)) seen

  pub tried_by_two : length rows ≡ 2 → IsLeastJoint first next (tau + 1) least
      → least ≡ least_of_levels (with_part (with_part table.levels pair values value) (pair + 1) next_values next_value)
  tried_by_two two is =
      let kept = rows_kept in
      let number = length-map rows (λ (row : Vec ℕ). row.items) in
      two_tried splits agrees three (sample_table_of tau rows others).levels pair values value next_values next_value (omega arith) counted few few_next
      least (omega arith)
      (subst (λ xs. IsLeastJoint (levels_of values value (tau + 2)) xs (tau + 1) least) is_next (subst (λ xs. IsLeastJoint xs next (tau + 1) least)
      is_first is))
      ∙ of_table

  pub tried_by_three : (beside : List ℕ) → beside ≡ others → 3 ≤ length rows → IsTurnedTo pair table
      → IsLeastSum (counts_in (first ∷ next ∷ beside ∷ [])) 0 3 (tau + 1) least
      → least ≡ least_of_levels (with_part (with_part table.levels pair values value) (pair + 1) next_values next_value)
  tried_by_three beside same many turned is =
      let kept = rows_kept in
      let number = length-map rows (λ (row : Vec ℕ). row.items) in
      let is_rows : first ∷ next ∷ beside ∷ [] ≡ levels_of values value (tau + 2) ∷ levels_of next_values next_value (tau + 2) ∷ others ∷ [] =
      rw (is_first, is_next, same) refl in
      three_tried splits agrees three (sample_table_of tau rows others).levels pair values value next_values next_value (omega arith) counted few few_next
      others least (omega arith) (subst (IsTurnedTo pair) (sym seen) turned (omega arith))
      (subst (λ rs. IsLeastSum (counts_in rs) 0 3 (tau + 1) least) is_rows is) ∙ of_table
