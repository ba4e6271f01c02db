use Rattle.std.proofs.Common.{◌*◌, ◌∙◌, [], ap, subst, arith}
use Rattle.std.proofs.lemmas.List.{get_or_read}
use Rattle.part_layout.specs.Laid.{Laid}
use Rattle.shard_version.specs.Masked.{AreMasks}
use Rattle.shard_version.proofs.masked_layout.MaskedLayout.mask.Goals as goal

pub returns : goal.returns
returns g c =
    let are = subst (λ (laid : Laid). AreMasks g.row.W laid.parts c.self.inside.masks.items) c.self.view_is c.self.invariant in
    let number = are.number in
    let less = c.requires in
    get_or_read c.self.inside.masks.items c.args.part c.index.result.now (omega arith) c.index.ensures [] ∙ are.each c.args.part c.requires
