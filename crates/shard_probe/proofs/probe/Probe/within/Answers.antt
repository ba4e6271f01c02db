use Rattle.std.proofs.Common.{w32, length, ap, ◌∙◌, subst, arith}
use Rattle.std.specs.Prelude.{ℤ}
use Rattle.std.proofs.lemmas.Int.{to_z-of_z}
use Rattle.std.proofs.lemmas.List.{get_or_read}
use Rattle.threshold_model.specs.Vectors.{units_of}
use Rattle.ball_walk.specs.Balls.{radius_units}
use Rattle.part_layout.specs.Laid.{part_at}
use Rattle.count_table.specs.Copies.{CopyTable, count_near}
use Rattle.shard_version.specs.Tables.{part_values, counts_of}
use Rattle.shard_probe.specs.Kept.{IsProbe}
use Rattle.shard_probe.specs.Probed.{parts_in, code_in}
use Rattle.shard_probe.proofs.ProbeLemmas.{same_units, value_small}
use Rattle.shard_probe.proofs.probe.Probe.within.Goals as goal

pub within-requires-clause-in_width : goal.within-requires-clause-in_width
within-requires-clause-in_width g c =
    let probe = subst (λ p. IsProbe g.row.W p c.self.inside.values.items) c.self.view_is c.self.invariant in
    let number = probe.values_are.number in
    let less = c.requires.part in
    let version = c.args.self.now.version in
    let positions = part_at version.contents.layout c.args.part in
    let counts = c.counts.ensures ∙ ap (λ v. counts_of v.contents c.args.part) (c.deref.ensures ∙ ap (λ p. p.version) c.self.view_is) in
    let width = ap (λ (table : CopyTable). table.width) counts
    ∙ c.changes_follow_a_list.ensures.width (length positions) (part_values version.contents.rows positions) in
    value_small version.contents.layout.bits (parts_in version) (code_in version c.args.self.now.stored) c.self.inside.values.items
    c.args.part c.index.result.now c.counts.result.now.width probe.probed.query.is_code probe.values_are c.requires.part
    (get_or_read c.self.inside.values.items c.args.part c.index.result.now (omega arith) c.index.ensures 0) width

pub returns : goal.returns
returns g c =
    let probe = subst (λ p. IsProbe g.row.W p c.self.inside.values.items) c.self.view_is c.self.invariant in
    let number = probe.values_are.number in
    let less = c.requires.part in
    let version = c.args.self.now.version in
    let counts = c.counts.ensures ∙ ap (λ v. counts_of v.contents c.args.part) (c.deref.ensures ∙ ap (λ p. p.version) c.self.view_is) in
    let value = get_or_read c.self.inside.values.items c.args.part c.index.result.now (omega arith) c.index.ensures 0
    ∙ probe.values_are.each c.args.part c.requires.part in
    let back = to_z-of_z w32 c.args.radius c.ranges.radius in
    c.within.ensures
    ∙ ap (λ (z : ℤ). count_near c.counts.result.now c.index.result.now (radius_units z)) back
    ∙ ap (count_near c.counts.result.now c.index.result.now) (same_units c.args.radius)
    ∙ ap (λ table. count_near table c.index.result.now (units_of c.args.radius)) counts
    ∙ ap (λ n. count_near (counts_of version.contents c.args.part) n (units_of c.args.radius)) value
    ∙ c.counts_are_of_the_rows.ensures version.contents c.args.part (units_of c.args.radius) (code_in version c.args.self.now.stored)
    probe.probed.version probe.probed.query.is_code
