use Rattle.std.proofs.Common.{◌≡◌, ◌+◌, ◌≤◌}
use Rattle.std.specs.Vec.{vec_capacity}
use Rattle.shard_version.specs.KeptRows.{AreTaken, row_buckets_of, rows_in}
use Rattle.shard_version.proofs.keyed_rows.KeyedRows.first.Given as goal

abbrev pub invariant-loop-i : goal.invariant-loop-i
invariant-loop-i g l =
    AreTaken (rows_in (row_buckets_of l.self-inside.buckets.items)) l.first.items l.heads.items l._i
    × ((l.steps ≡ l.initial.steps + l._i) × (l.number ≤ vec_capacity l.first))
