use Rattle.std.proofs.Common.{◌*◌, ap, ◌∙◌, subst}
use Rattle.gph_codes.specs.Masks.{distance_under, mask_of}
use Rattle.shard_probe.specs.Kept.{IsProbe}
use Rattle.shard_probe.specs.Probed.{parts_in, part_in, code_in}
use Rattle.shard_probe.proofs.ProbeLemmas.{stored_size, alike_at}
use Rattle.shard_probe.proofs.probe.Probe.distance_at.Goals as goal

pub returns-clause-distance : goal.returns-clause-distance
returns-clause-distance g c =
    let probe = subst (λ p. IsProbe g.row.W p c.self.inside.values.items) c.self.view_is c.self.invariant in
    let less = c.requires.part in
    let version = c.args.self.now.version in
    let bits = version.contents.layout.bits in
    let stored = c.args.self.now.stored in
    let code = c.args.code.now in
    let is_layout = probe.probed.version.laid.layout in
    let room = probe.probed.tables.room in
    let mask = c.mask.ensures ∙ ap (λ v. mask_of (64 * g.row.W) (part_in v c.args.part)) (c.deref.ensures ∙ ap (λ p. p.version) c.self.view_is) in
    let under = c.part_distance_is_under_the_mask.ensures (64 * g.row.W) bits (parts_in version) is_layout room c.args.part code stored less
    (stored_size g.row.W bits code (code_in version code) c.requires.stored room)
    (stored_size g.row.W bits stored (code_in version stored) probe.probed.query room) in
    let alike = c.stored_rows_search_alike.ensures.parts g.row.W bits (parts_in version) code stored (code_in version code)
    (code_in version stored) is_layout c.requires.stored probe.probed.query in
    c.dist_under.ensures.distance
    ∙ ap (λ p. distance_under c.mask.result.now code p.stored) c.self.view_is
    ∙ ap (λ m. distance_under m code stored) mask ∙ under
    ∙ alike_at (parts_in version) c.args.part code stored (code_in version code) (code_in version stored) less alike
