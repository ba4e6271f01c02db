-- What was planned by the counts round a query is a plan.
use Rattle.std.proofs.Common.{ℕ, ◌<◌, ◌≤◌, ℤ, List, length}
use Rattle.threshold_model.specs.Vectors.{row_counts, IsChoice, IsLeast}
use Rattle.shard_walk.specs.Planned.{IsPlanned, planned_of}
use Rattle.shard_probe.specs.Probed.{Probed, IsProbed, parts_in, code_in, counts_round}

-- the least cost is at most the number of rows
abbrev pub AtMostRows : Type 0
AtMostRows =
    (rows : List (ℕ × List ℕ)) (layout : List (List ℕ)) (query : List ℕ) (tau least : ℕ)
    → 0 < length layout → IsLeast (row_counts rows layout query) tau (length layout) least
    → least ≤ length rows

module _ (at_most_rows : AtMostRows) (words : ℕ) (probe : Probed) (is : IsProbed words probe) (tau : ℕ) where
  -- the first of the cheapest vectors by the counts round the query is a plan
  pub plan_of_choice : tau ≤ probe.version.contents.layout.bits → (thresholds : List ℤ) (least : ℕ)
      → IsChoice (counts_round probe.version probe.stored) tau (length (parts_in probe.version)) thresholds
      → IsLeast (counts_round probe.version probe.stored) tau (length (parts_in probe.version)) least
      → IsPlanned words (planned_of probe.version probe.stored tau thresholds least)
  plan_of_choice near thresholds least choice is_least =
      let version = is.version in
      let some = version.laid.layout.some_part in
      record {
        few_words = is.few_words;
        version = version;
        tables = is.tables;
        query = is.query;
        near = near;
        choice = choice;
        least = is_least;
        few = at_most_rows probe.version.contents.rows (parts_in probe.version)
            (code_in probe.version probe.stored) tau least some is_least;
      }
