use Rattle.std.proofs.Common.{◌≡◌, ◌+◌, ◌^◌, ◌<◌, ◌∙◌, ℕ, min, rules, sym, ap, subst, w32, FitsSigned}
use Rattle.std.specs.Arc.{arc_value}
use Rattle.std.proofs.lemmas.Int.{to_z-of_z}
use Rattle.ball_walk.specs.Balls.{radius_units}
use Rattle.count_table.specs.Copies.{CopyTable, count_near}
use Rattle.count_table.proofs.LevelLemmas.{kept_read, table_read, near_cut}
use Rattle.count_table.proofs.counts.Counts.within.Goals as goal

pub count_within-requires : goal.count_within-requires
count_within-requires c =
    let P : CopyTable → Type 0 = λ table. c.args.value < 2 ^ table.width in
    kept_read c.self.inside.width (arc_value c.self.inside.flips) c.args.value c.self.inside.total c.self.inside.copies.items c.deref.result.now
    c.deref-2.result.now c.self.invariant (subst P (sym c.self.view_is) c.requires.in_width) c.deref.ensures.value c.deref-2.ensures

pub returns : goal.returns
returns c =
    let fits : FitsSigned w32 c.args.radius = search rules in
    let units : c.distances_within-units.result ≡ min (radius_units c.args.radius) (c.self.inside.width + 1) =
    cc (c.distances_within-units.ensures, to_z-of_z w32 c.args.radius fits) in
    let P : CopyTable → Type 0 = λ table. c.args.value < 2 ^ table.width in
    let seen : CopyTable → ℕ = λ table. count_near table c.args.value c.distances_within-units.result in
    let near : CopyTable → ℕ = λ table. count_near table c.args.value (radius_units c.args.radius) in
    let same = table_read c.self.inside.width (arc_value c.self.inside.flips) c.self.inside.total c.self.inside.copies.items c.deref.result.now
    c.deref-2.result.now c.self.invariant c.deref.ensures.value c.deref-2.ensures in
    c.count_within.ensures ∙ ap seen same
    ∙ ap (count_near (record { width = c.self.inside.width; copies = c.self.inside.copies.items }) c.args.value) units
    ∙ near_cut c.self.inside.width c.args.value (radius_units c.args.radius) c.self.inside.copies.items (subst P (sym c.self.view_is) c.requires.in_width)
    ∙ ap near c.self.view_is
