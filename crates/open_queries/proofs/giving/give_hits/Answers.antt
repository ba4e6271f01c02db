-- Each hit that is given is the next of the answer as it was left at the call.
use Rattle.std.proofs.Common.{◌≡◌, ◌∙◌, arith}
use Rattle.query_protocol.specs.Replies.{reply_line}
use Rattle.query_protocol.specs.Replies as reply
use Rattle.open_queries.proofs.GivingLemmas.{gave_number, gave_last, gave_part, gave_more}
use Rattle.hit_source.specs.Sources.{IsLawful}
use Rattle.open_queries.proofs.giving.give_hits.Given.{Over}
use Rattle.open_queries.proofs.giving.give_hits.Goals as goal

-- the sources keep their laws
lawful : (g : Over) (source : g.row.H.Denot) → IsLawful (g.H.HitSource.asked source) (g.H.HitSource.standing source)
lawful g = (g.met.H.HitSource g.world.𝓛 g.world.𝓜 g.world.𝓡 ((λ s x. x), (λ x. x), (λ x. x), λ x. x)).lawful

pub returns-in_default-clause-gives : goal.returns-in_default-clause-gives
returns-in_default-clause-gives g c =
    gave_last g.H.HitSource.asked g.H.HitSource.standing (lawful g) c.args.tag.now c.args.count c.loop-given.given
    c.args.gather.now c.loop-given.gather c.next.new.self _ _ c.args.meters.now c.loop-given.meters c.next.new.meters
    c.loop-given.invariant.has c.loop-given.invariant.few c.next.result c.in_default.is c.next.ensures.gave
    c.next.ensures.gives c.next.ensures.within

pub loop-given-preserved : goal.loop-given-preserved
loop-given-preserved g c =
    let piece : c.bytes.result.now ≡ reply_line (reply.Hit c.args.tag.now c.in-Some.hit.dist c.in-Some.hit.key) =
    ◌∙◌ {c = reply_line (reply.Hit c.args.tag.now c.in-Some.hit.dist c.in-Some.hit.key)} c.bytes.ensures.value
    c.write_hit.ensures in
    record {
      few = omega (arith, c.loop-given-test.true);
      has = gave_more g.H.HitSource.asked g.H.HitSource.standing (lawful g) c.args.tag.now c.args.count c.loop-given.given
          c.args.gather.now c.loop-given.gather c.next.new.self _ _ c.args.meters.now c.loop-given.meters c.next.new.meters
          c.loop-given.invariant.has c.next.result c.in-Some.hit c.in-Some.is c.next.ensures.gave
          c.next.ensures.gives c.next.ensures.within _ c.bytes.result.now piece c.in-Ok.ensures.written;
      steady = c.in-Ok.ensures.cause ∙ c.loop-given.invariant.steady;
    }

pub returns-in-Err-clause-gives : goal.returns-in-Err-clause-gives
returns-in-Err-clause-gives g c =
    let piece : c.bytes.result.now ≡ reply_line (reply.Hit c.args.tag.now c.in-Some.hit.dist c.in-Some.hit.key) =
    ◌∙◌ {c = reply_line (reply.Hit c.args.tag.now c.in-Some.hit.dist c.in-Some.hit.key)} c.bytes.ensures.value
    c.write_hit.ensures in
    gave_part g.H.HitSource.asked g.H.HitSource.standing (lawful g) c.args.tag.now c.args.count c.loop-given.given
    c.args.gather.now c.loop-given.gather c.next.new.self _ _ c.args.meters.now c.loop-given.meters c.next.new.meters
    c.loop-given.invariant.has c.next.result c.in-Some.hit c.in-Some.is c.next.ensures.gave
    c.next.ensures.gives c.next.ensures.within (omega (arith, c.loop-given-test.true)) _ _ c.bytes.result.now piece
    c.in-Err.ensures.written

pub returns-clause-gives : goal.returns-clause-gives
returns-clause-gives g c =
    gave_number g.H.HitSource.asked g.H.HitSource.standing (lawful g) c.args.tag.now c.args.count c.loop-given.given
    c.args.gather.now c.loop-given.gather c.more.new.self _ _ c.args.meters.now c.loop-given.meters c.more.new.meters
    c.loop-given.invariant.has c.loop-given.invariant.few (omega (arith, c.loop-given-test.false)) c.more.result
    c.more.ensures.more c.more.ensures.waited c.more.ensures.near
