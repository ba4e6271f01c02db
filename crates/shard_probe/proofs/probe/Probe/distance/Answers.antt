use Rattle.std.proofs.Common.{ap, ◌∙◌, subst}
use Rattle.hamming_model.specs.Codes.{distance}
use Rattle.shard_probe.specs.Kept.{IsProbe}
use Rattle.shard_probe.specs.Probed.{code_in}
use Rattle.shard_probe.proofs.probe.Probe.distance.Goals as goal

pub returns : goal.returns
returns g c =
    let probe = subst (λ p. IsProbe g.row.W p c.self.inside.values.items) c.self.view_is c.self.invariant in
    let version = c.args.self.now.version in
    let alike = c.stored_rows_search_alike.ensures.hits g.row.W version.contents.layout.bits (0, c.args.code.now)
    c.args.self.now.stored (code_in version c.args.code.now) (code_in version c.args.self.now.stored) c.requires probe.probed.query in
    c.dist.ensures ∙ ap (λ p. distance c.args.code.now p.stored) c.self.view_is ∙ ap (λ hit. hit.dist) alike
