use Rattle.std.proofs.Common.{◌*◌, ◌+◌, ◌-◌, ◌/◌, ◌%◌, arith, sym}
use Rattle.part_layout.proofs.RunLemmas.{first_none, first_some}
use Rattle.part_layout.proofs.pieces.first_width.Goals as goal

pub returns-then-bits-parts-eq0 : goal.returns-then-bits-parts-eq0
returns-then-bits-parts-eq0 c =
    sym (first_none (c.args.bits % c.args.parts) (c.args.parts - c.args.bits % c.args.parts) (c.args.bits / c.args.parts)
    (c.args.bits % c.args.parts * (c.args.bits / c.args.parts + 1)) (omega arith) (omega arith))

pub returns-else-bits-parts-eq0 : goal.returns-else-bits-parts-eq0
returns-else-bits-parts-eq0 c =
    sym (first_some (c.args.bits % c.args.parts) (c.args.parts - c.args.bits % c.args.parts) (c.args.bits / c.args.parts)
    (c.args.bits % c.args.parts * (c.args.bits / c.args.parts + 1)) (omega arith))
