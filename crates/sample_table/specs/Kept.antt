-- A table as it is kept. No public clause cites this module.
use Rattle.std.specs.Prelude.{◌≡◌, ℕ, ◌+◌, ◌≤◌, List, length}
use Rattle.std.specs.Global.{Vec}
use Rattle.exchange_model.specs.declared.limits.TheConstants.{SAMPLE_RADIUS_MOST}
use Rattle.sample_table.specs.Levels.{PairTable}
use Rattle.sample_table.specs.Sums.{AreCountRows, IsCountRow, kept_rows}

-- a table by its fields
abbrev pub sample_table_of : ℕ → List (Vec ℕ) → List ℕ → PairTable
sample_table_of tau rows others =
    record { levels = record { tau = tau; rows = kept_rows rows }; others = others }

-- each part has a row, and so have the others; there is room for the rows of a trial
pub record IsTableKept (tau : ℕ) (rows : List (Vec ℕ)) (others first next sums : List ℕ)
    : Type 0 where
  pub near : tau ≤ SAMPLE_RADIUS_MOST
  pub counted : AreCountRows (tau + 2) (kept_rows rows)
  pub beside : IsCountRow (tau + 2) others
  pub first_fits : length first ≡ tau + 2
  pub next_fits : length next ≡ tau + 2
  pub sums_fit : length sums ≡ tau + 2
