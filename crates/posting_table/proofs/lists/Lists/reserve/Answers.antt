use Rattle.std.proofs.Common.{◌≡◌, length, arith}
use Rattle.posting_table.proofs.ListsLemmas.{kept_reserved}
use Rattle.posting_table.proofs.lists.Lists.reserve.Goals as goal

pub invariant_of-result : goal.invariant_of-result
invariant_of-result g c =
    let all : c.loop-size.size-index ≡ length c.args.sizes.now = omega arith in
    kept_reserved c.args.width c.args.sizes.now c.loop-size.lists.items c.loop-size.size-index c.requires.some c.requires.narrow c.requires.number
    c.requires.few
    all c.loop-size.invariant.0 c.loop-size.invariant.1
