use Rattle.std.proofs.Common.{sym, arith}
use Rattle.count_table.proofs.LevelLemmas.{near_none, near_more, next_fits}
use Rattle.count_table.proofs.levels.count_within.Goals as goal

pub loop-apart-init : goal.loop-apart-init
loop-apart-init c = sym (near_none c.args.flips.now c.args.value c.args.copies.now)

pub overflow_add-count : goal.overflow_add-count
overflow_add-count c =
    let here = c.loop-apart.invariant in
    let count = c.count_ring-count.ensures in
    let fits = next_fits c.args.flips.now c.args.value c.loop-apart.apart c.args.copies.now c.requires in
    omega arith

pub loop-apart-preserved : goal.loop-apart-preserved
loop-apart-preserved c =
    let here = c.loop-apart.invariant in
    let count = c.count_ring-count.ensures in
    let more = near_more c.args.flips.now c.args.value c.loop-apart.apart c.args.copies.now in
    omega arith
