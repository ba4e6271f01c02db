-- What the loop keeps: the rows of the first versions are counted, at most so many of each.
use Rattle.std.proofs.Common.{◌≡◌, ◌*◌, ◌≤◌, length, map, sum, take}
use Rattle.hamming_model.specs.declared.limits.TheConstants.{ENTRIES_MOST}
use Rattle.query_opening.specs.Pinning.{contents_of_all}
use Rattle.query_opening.proofs.opening.row_count.Given as goal

abbrev pub invariant-loop-shard : goal.invariant-loop-shard
invariant-loop-shard g l =
    (l.rows ≡ sum (take l.shard (map (λ version. length version.rows) (contents_of_all l.versions))))
    × (l.rows ≤ l.shard * ENTRIES_MOST)
