use Rattle.std.proofs.Common.{◌+◌, ◌*◌, length, get_or, map, refl, ap, ◌∙◌, arith, rules}
use Rattle.std.proofs.lemmas.List.{length_push}
use Rattle.threshold_model.specs.Splits.{threshold_of}
use Rattle.threshold_dp.specs.Table.{pick_rows, follow}
use Rattle.threshold_dp.proofs.RowsLemmas.{read_total, read_entries}
use Rattle.threshold_dp.proofs.table.read_out.Goals as goal

pub loop-part-preserved : goal.loop-part-preserved
loop-part-preserved c =
    let width = c.args.width in
    let pick = get_or c.args.picks.now (c.loop-part.part * width + c.loop-part.left) 0 in
    let few = c.loop-part.invariant.2 in (
      search rules,
      ap length c.push.ensures.entries ∙ length_push c.loop-part.out.entries (threshold_of pick) ∙ ap (λ n. n + 1) c.loop-part.invariant.1,
      omega (arith, few),
      read_total c.args.picks.now width c.args.parts c.loop-part.part c.loop-part.left pick c.from-left.result
          (omega arith) (omega arith) refl c.from-left.ensures c.loop-part.invariant.3,
      rw c.push.ensures.entries
          (read_entries c.args.picks.now width c.args.parts c.loop-part.part c.loop-part.left pick c.from-left.result
          (omega arith) (omega arith) refl c.from-left.ensures c.loop-part.invariant.3
          c.loop-part.out.entries (map threshold_of (follow (pick_rows width c.args.parts c.args.picks.now) c.args.units)) c.loop-part.invariant.4),
    )
