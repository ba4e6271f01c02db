use Rattle.std.proofs.Common.{◌∙◌, length, ap, arith}
use Rattle.std.proofs.lemmas.List.{with_items_is}
use Rattle.sample_table.specs.Levels.{levels_of}
use Rattle.sample_table.proofs.sample_table.write_levels.Goals as goal

pub returns : goal.returns
returns c =
    let kept = c.levels.auto.out in
    let long = ap length c.as_mut_slice.ensures.value in
    let is = with_items_is c.args.row.now c.levels.new.out (omega arith) in
    record {
      levels = is ∙ c.levels.ensures ∙ ap (levels_of c.args.values.now c.args.value) long;
      long = ap length is ∙ kept ∙ long;
    }
