use Rattle.std.proofs.Common.{length, refl}
use Rattle.threshold_dp.proofs.RowsLemmas.{from_first}
use Rattle.threshold_dp.proofs.table.solve_parts.Goals as goal

pub returns : goal.returns
returns g c =
    record {
      solved = from_first (g.C.PartCounts.counts c.args.counts.now) (length c.args.asked.now) c.args.parts 0
          c.solve_from.new.picks c.solve_from.new.costs refl c.solve_from.ensures.solved;
    }
