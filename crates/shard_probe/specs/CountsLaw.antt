-- The counts of a version's rows round a query start at none and never fall.
use Rattle.std.specs.Prelude.{◌≡◌, ℕ, List}
use Rattle.threshold_model.specs.Vectors.{NeverFalls}
use Rattle.threshold_model.proofs.ChoiceLemmas.{row_counts_start, row_counts_rise}
use Rattle.shard_version.specs.Tables.{Tabled}
use Rattle.shard_probe.specs.Probed.{parts_in, code_in, counts_round}

-- no row is nearer than no unit
pub counts_start : (version : Tabled) (stored : List ℕ) (part : ℕ)
    → counts_round version stored part 0 ≡ 0
counts_start version stored part =
    row_counts_start version.contents.rows (parts_in version) (code_in version stored) part

-- as many rows are nearer than more units, or more
pub counts_rise : (version : Tabled) (stored : List ℕ) (part : ℕ)
    → NeverFalls (counts_round version stored part)
counts_rise version stored part =
    row_counts_rise version.contents.rows (parts_in version) (code_in version stored) part
