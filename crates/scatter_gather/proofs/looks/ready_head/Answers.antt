-- One source more was seen; and at the end the best head goes first, or has to wait.
use Rattle.std.proofs.Common.{◌≡◌, ◌∙◌, refl, sym, ap, subst, arith, length, map}
use Rattle.std.proofs.lemmas.List.{length-map}
use Rattle.scatter_gather.specs.Gathering.{source_of}
use Rattle.scatter_gather.specs.Due.{least_of}
use Rattle.scatter_gather.specs.Heads.{BestOf, empty_floor, has_to_wait}
use Rattle.scatter_gather.proofs.MergeLemmas.{read_seen}
use Rattle.scatter_gather.proofs.FloorLemmas.{least_step, least_end}
use Rattle.scatter_gather.proofs.HeadLemmas.{best_step}
use Rattle.scatter_gather.proofs.GiveLemmas.{nobody}
use Rattle.scatter_gather.proofs.GoLemmas.{ready_held, ready_best}
use Rattle.scatter_gather.proofs.ReadyLemmas.{all_lawful}
use Rattle.scatter_gather.proofs.looks.ready_head.Goals as goal

pub loop-shard-preserved : goal.loop-shard-preserved
loop-shard-preserved g c =
    let hs = c.args.sources.now in
    let see = source_of g.H.HitSource.asked g.H.HitSource.standing in
    let shard = c.loop-shard.shard in
    let at = read_seen see hs hs shard c.index-sources-shard.result refl (omega (arith, c.loop-shard-test.true))
    c.index-sources-shard.is in
    let again = c.index-sources-shard-in-loop-shard in
    let also = read_seen see hs hs shard again.result refl (omega (arith, c.loop-shard-test.true)) again.is in (
      rw c.better-best.ensures
          (best_step (map see hs) shard (see c.index-sources-shard.result)
          _ c.loop-shard.best at.0 at.1 c.head.ensures.head c.loop-shard.invariant.0),
      rw (c.lower_floor-floor.ensures, c.empty_floor.ensures)
          (least_step empty_floor c.loop-shard.floor (map see hs) shard
          (see again.result) _ also.0 also.1 c.loop-shard.invariant.1),
    )

pub returns-then-has_to_wait : goal.returns-then-has_to_wait
returns-then-has_to_wait g c =
    let laws = g.met.H.HitSource g.world.𝓛 g.world.𝓜 g.world.𝓡 ((λ s x. x), (λ x. x), (λ x. x), λ x. x) in
    let as_seen = source_of g.H.HitSource.asked g.H.HitSource.standing in
    let all = map as_seen c.args.sources.now in
    let size = length-map c.args.sources.now as_seen in
    let end : c.loop-shard.shard ≡ length all =
    omega (arith, size, c.loop-shard-test.false, c.loop-shard.auto.shard-end) in
    let floor = least_end empty_floor c.loop-shard.floor all c.loop-shard.shard (least_of empty_floor all)
    (omega (arith, end)) c.loop-shard.invariant.1 in
    ready_held all (all_lawful g.H.HitSource.asked g.H.HitSource.standing laws.lawful c.args.sources.now)
    c.loop-shard.best
    (subst (λ n. BestOf all n c.loop-shard.best) end c.loop-shard.invariant.0) nobody
    (ap (has_to_wait c.loop-shard.best) (sym floor) ∙ sym c.has_to_wait.ensures ∙ c.if-has_to_wait.true)

pub returns : goal.returns
returns g c =
    let laws = g.met.H.HitSource g.world.𝓛 g.world.𝓜 g.world.𝓡 ((λ s x. x), (λ x. x), (λ x. x), λ x. x) in
    let as_seen = source_of g.H.HitSource.asked g.H.HitSource.standing in
    let all = map as_seen c.args.sources.now in
    let size = length-map c.args.sources.now as_seen in
    let end : c.loop-shard.shard ≡ length all =
    omega (arith, size, c.loop-shard-test.false, c.loop-shard.auto.shard-end) in
    let floor = least_end empty_floor c.loop-shard.floor all c.loop-shard.shard (least_of empty_floor all)
    (omega (arith, end)) c.loop-shard.invariant.1 in
    ready_best all (all_lawful g.H.HitSource.asked g.H.HitSource.standing laws.lawful c.args.sources.now)
    c.loop-shard.best
    (subst (λ n. BestOf all n c.loop-shard.best) end c.loop-shard.invariant.0) nobody
    (ap (has_to_wait c.loop-shard.best) (sym floor) ∙ sym c.has_to_wait.ensures ∙ c.if-has_to_wait.false)
