use Rattle.std.proofs.Common.{◌≡◌, ◌*◌, length}
use Rattle.threshold_model.specs.Vectors.{row_counts}
use Rattle.shard_probe.specs.Counted.{HasCounts}
use Rattle.shard_probe.specs.Probed.{parts_in, code_in}
use Rattle.shard_probe.proofs.radius_counts.RadiusCounts.of.Given as goal

abbrev pub invariant-loop-part : goal.invariant-loop-part
invariant-loop-part g l =
    (length l.counts.items ≡ l.parts * l.width)
    × (HasCounts l.counts.items l.fn.tau l.part
    (row_counts l.fn.probe.version.contents.rows (parts_in l.fn.probe.version) (code_in l.fn.probe.version l.fn.probe.stored)))
