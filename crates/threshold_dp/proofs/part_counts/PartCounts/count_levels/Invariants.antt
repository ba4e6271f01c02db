use Rattle.std.proofs.Common.{◌≡◌, ℕ, ◌<◌, slice_index}
use Rattle.threshold_dp.proofs.part_counts.PartCounts.count_levels.Given as goal

abbrev pub invariant-loop-units : goal.invariant-loop-units
invariant-loop-units g l =
    (units : ℕ) → units < l.units → slice_index l.out units ≡ g.Self.PartCounts.counts l.self l.part units
