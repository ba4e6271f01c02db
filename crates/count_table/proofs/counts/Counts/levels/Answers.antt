use Rattle.std.proofs.Common.{◌^◌, ◌<◌, ◌∙◌, sym, subst}
use Rattle.std.specs.Arc.{arc_value}
use Rattle.count_table.specs.Copies.{CopyTable, AreLevels}
use Rattle.count_table.proofs.LevelLemmas.{kept_read, table_read}
use Rattle.count_table.proofs.counts.Counts.levels.Goals as goal

pub count_rings-requires : goal.count_rings-requires
count_rings-requires c =
    let P : CopyTable → Type 0 = λ table. c.args.value < 2 ^ table.width in
    kept_read c.self.inside.width (arc_value c.self.inside.flips) c.args.value c.self.inside.total c.self.inside.copies.items c.deref.result.now
    c.deref-2.result.now c.self.invariant (subst P (sym c.self.view_is) c.requires.in_width) c.deref.ensures.value c.deref-2.ensures

pub returns : goal.returns
returns c =
    let P : CopyTable → Type 0 = λ table. AreLevels table c.args.value c.count_rings.new.out in
    let same = table_read c.self.inside.width (arc_value c.self.inside.flips) c.self.inside.total c.self.inside.copies.items c.deref.result.now
    c.deref-2.result.now c.self.invariant c.deref.ensures.value c.deref-2.ensures in
    subst P (same ∙ c.self.view_is) c.count_rings.ensures
