use Rattle.std.proofs.Common.{arith, rules}
use Rattle.count_table.proofs.LevelLemmas.{levels_begun, levels_next, next_fits}
use Rattle.count_table.proofs.levels.count_rings.Goals as goal

pub loop-apart-init : goal.loop-apart-init
loop-apart-init c = levels_begun c.args.flips.now c.args.value c.args.copies.now c.args.out.now (search rules)

pub overflow_add-out : goal.overflow_add-out
overflow_add-out c =
    let here = c.loop-apart.invariant c.loop-apart.apart (omega arith) in
    let count = c.count_ring.ensures in
    let fits = next_fits c.args.flips.now c.args.value c.loop-apart.apart c.args.copies.now c.requires in
    omega arith

pub loop-apart-preserved : goal.loop-apart-preserved
loop-apart-preserved c =
    levels_next c.args.flips.now c.args.value c.loop-apart.apart c.count_ring.result c.args.copies.now c.loop-apart.out
    (omega arith) c.count_ring.ensures c.loop-apart.invariant
