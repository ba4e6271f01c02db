use Rattle.std.proofs.Common.{◌∙◌, ap}
use Rattle.sample_table.specs.Levels.{levels_of}
use Rattle.sample_table.proofs.TableLemmas.{part_kept, part_seen, row_below}
use Rattle.sample_table.proofs.sample_table.SampleTable.count_part.Goals as goal

pub invariant_of-self : goal.invariant_of-self
invariant_of-self c =
    let own = c.self.inside in
    part_kept own.tau own.rows.items own.others.items c.args.self.now c.args.part c.index_mut.result.now c.write_levels.new.row
    c.args.values.now c.args.value c.self.view_is (row_below own.tau own.rows.items own.others.items c.args.self.now c.args.part c.self.view_is c.requires.part)
    c.index_mut.ensures.value c.self.invariant.counted (λ size. c.write_levels.ensures.levels ∙ ap (levels_of c.args.values.now c.args.value) size)
    own.first.items own.next.items own.sums.items c.requires.few c.self.invariant

pub returns : goal.returns
returns c =
    let own = c.self.inside in
    record {
      levels = part_seen own.tau own.rows.items own.others.items c.args.self.now c.args.part c.index_mut.result.now c.write_levels.new.row
          c.args.values.now c.args.value c.self.view_is
          (row_below own.tau own.rows.items own.others.items c.args.self.now c.args.part c.self.view_is c.requires.part) c.index_mut.ensures.value
          c.self.invariant.counted (λ size. c.write_levels.ensures.levels ∙ ap (levels_of c.args.values.now c.args.value) size);
    }
