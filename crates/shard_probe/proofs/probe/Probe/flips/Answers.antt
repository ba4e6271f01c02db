use Rattle.std.proofs.Common.{length, ap, ◌∙◌}
use Rattle.part_layout.specs.Laid.{part_at}
use Rattle.count_table.specs.Copies.{CopyTable}
use Rattle.shard_version.specs.Tables.{part_values, counts_of}
use Rattle.shard_probe.proofs.probe.Probe.flips.Goals as goal

pub returns : goal.returns
returns g c =
    let version = c.args.self.now.version in
    let positions = part_at version.contents.layout c.args.part in
    let counts = c.counts.ensures ∙ ap (λ v. counts_of v.contents c.args.part) (c.deref.ensures ∙ ap (λ p. p.version) c.self.view_is) in
    c.flips.ensures ∙ ap (λ (table : CopyTable). table.width) counts
    ∙ c.changes_follow_a_list.ensures.width (length positions) (part_values version.contents.rows positions)
