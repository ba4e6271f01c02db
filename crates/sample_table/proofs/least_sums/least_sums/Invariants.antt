use Rattle.std.proofs.Common.{◌<◌, ◌-◌, length}
use Rattle.exchange_model.specs.Pairs.{counts_beside}
use Rattle.sample_table.specs.Sums.{AreLeastSums, IsCountRow, counts_in, kept_rows}
use Rattle.sample_table.proofs.least_sums.least_sums.Given as goal

abbrev pub invariant-loop-part : goal.invariant-loop-part
invariant-loop-part l =
    (l.part < l.number) × IsCountRow (length l.fn.sums) l.sums
    × AreLeastSums (counts_beside (counts_in (kept_rows l.rows)) l.pair) l.part (l.number - l.part) (length l.fn.sums) l.sums

abbrev pub decreases-loop-part : goal.decreases-loop-part
decreases-loop-part l = l.part
