use Rattle.std.proofs.Common.{length, ap, ◌∙◌, subst, arith}
use Rattle.std.proofs.lemmas.List.{get_or_read}
use Rattle.shard_probe.specs.Kept.{IsProbe}
use Rattle.shard_probe.specs.Probed.{parts_in, code_in}
use Rattle.shard_probe.proofs.ProbeLemmas.{value_small}
use Rattle.shard_probe.proofs.probe.Probe.ring.Goals as goal

pub ring-requires : goal.ring-requires
ring-requires g c =
    let probe = subst (λ p. IsProbe g.row.W p c.self.inside.values.items) c.self.view_is c.self.invariant in
    let number = probe.values_are.number in
    let less = c.requires.part in
    let version = c.args.self.now.version in
    record {
      in_width = value_small version.contents.layout.bits (parts_in version) (code_in version c.args.self.now.stored) c.self.inside.values.items
          c.args.part c.index.result.now c.flips.result.now probe.probed.query.is_code probe.values_are c.requires.part
          (get_or_read c.self.inside.values.items c.args.part c.index.result.now (omega arith) c.index.ensures 0) c.flips.ensures;
    }
