use Rattle.std.proofs.Common.{length, ◌∙◌, ◌≡◌, arith}
use Rattle.sample_table.proofs.CountLemmas.{added_up, few_in_all, levels_filled}
use Rattle.sample_table.proofs.levels.levels.Goals as goal

pub add_up-requires : goal.add_up-requires
add_up-requires c =
    let few = few_in_all c.args.values.now c.count_each.new.out c.args.value c.count_each.ensures in
    omega arith

pub returns : goal.returns
returns c =
    let size : length c.add_up.new.out ≡ length c.count_each.new.out = c.add_up.auto.out in
    let kept : length c.count_each.new.out ≡ length c.args.out.now = c.count_each.auto.out in
    levels_filled c.args.values.now c.add_up.new.out c.args.value (length c.args.out.now) (size ∙ kept)
    (λ at below. c.add_up.ensures at (omega arith) ∙ added_up c.args.values.now c.count_each.new.out c.args.value c.count_each.ensures at (omega arith))
