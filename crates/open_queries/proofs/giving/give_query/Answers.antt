use Rattle.std.proofs.Common.{true, false, refl, subst, Ok}
use Rattle.line_io.specs.declared.source.Failed.{Failed}
use Rattle.open_queries.specs.Giving.{GivesHits}
use Rattle.open_queries.proofs.QueryLemmas.{done_again, query_part, query_all}
use Rattle.hit_source.specs.Sources.{IsLawful}
use Rattle.open_queries.proofs.giving.give_query.Given.{Over}
use Rattle.open_queries.proofs.giving.give_query.Goals as goal

-- the sources keep their laws
lawful : (g : Over) (source : g.row.H.Denot) → IsLawful (g.H.HitSource.asked source) (g.H.HitSource.standing source)
lawful g = (g.met.H.HitSource g.world.𝓛 g.world.𝓜 g.world.𝓡 ((λ s x. x), (λ x. x), (λ x. x), λ x. x)).lawful

pub returns-then-query-clause-gives : goal.returns-then-query-clause-gives
returns-then-query-clause-gives g c =
    done_again g.H.HitSource.asked g.H.HitSource.standing (lawful g) c.args.tag.now c.args.count c.args.query.now
    (g.K.Sink.held c.args.sink.now) (g.K.Sink.held c.say_done.new.sink) c.args.meters.now c.say_done.result
    c.requires.kept c.if-query.true c.say_done.ensures.written

pub returns-in-Err-clause-gives : goal.returns-in-Err-clause-gives
returns-in-Err-clause-gives g c =
    let failed : Failed = record {} in
    query_part g.H.HitSource.asked g.H.HitSource.standing (lawful g) c.args.tag.now c.args.count c.args.query.now _
    refl c.if-query.false (g.K.Sink.held c.args.sink.now) (g.K.Sink.held c.give_hits.new.sink) c.args.meters.now
    c.give_hits.new.meters failed failed c.in-Err.ensures.gives

pub returns-in-Ok-true-clause-gives : goal.returns-in-Ok-true-clause-gives
returns-in-Ok-true-clause-gives g c =
    let gives = subst (λ more. GivesHits g.H.HitSource.asked g.H.HitSource.standing c.args.tag.now c.args.count
    c.args.query.now.gather c.give_hits.new.gather (g.K.Sink.held c.args.sink.now) (g.K.Sink.held c.give_hits.new.sink)
    c.args.meters.now c.give_hits.new.meters (Ok more)) c.in-Ok-true.field-0-test c.in-Ok-true.ensures.gives in
    query_all g.H.HitSource.asked g.H.HitSource.standing (lawful g) c.args.tag.now c.args.count c.args.query.now _
    refl c.if-query.false (g.K.Sink.held c.args.sink.now) (g.K.Sink.held c.give_hits.new.sink) c.args.meters.now
    c.give_hits.new.meters true (g.K.Sink.held c.say.new.sink) c.say.result gives refl
    c.say.ensures.written

pub returns-in-Ok-false-clause-gives : goal.returns-in-Ok-false-clause-gives
returns-in-Ok-false-clause-gives g c =
    let said = c.say_done-in-Ok-false in
    let gives = subst (λ more. GivesHits g.H.HitSource.asked g.H.HitSource.standing c.args.tag.now c.args.count
    c.args.query.now.gather c.give_hits.new.gather (g.K.Sink.held c.args.sink.now) (g.K.Sink.held c.give_hits.new.sink)
    c.args.meters.now c.give_hits.new.meters (Ok more)) c.in-Ok-false.field-0-test c.in-Ok-false.ensures.gives in
    query_all g.H.HitSource.asked g.H.HitSource.standing (lawful g) c.args.tag.now c.args.count c.args.query.now _
    refl c.if-query.false (g.K.Sink.held c.args.sink.now) (g.K.Sink.held c.give_hits.new.sink) c.args.meters.now
    c.give_hits.new.meters false (g.K.Sink.held said.new.sink) said.result gives refl
    said.ensures.written
