use Rattle.open_queries.proofs.PlaceLemmas.{differs, free_more, free_all, first_at}
use Rattle.open_queries.proofs.open_query.place_of.Goals as goal

pub returns-then-matches : goal.returns-then-matches
returns-then-matches g c =
    first_at c.args.queries.now c.loop-place.place c.index-queries-place.result c.args.tag.now
    c.loop-place-test.true c.loop-place.invariant (c.matches.ensures.0 c.if-matches.true)

pub loop-place-preserved : goal.loop-place-preserved
loop-place-preserved g c =
    free_more c.args.queries.now c.loop-place.place c.index-queries-place.result c.args.tag.now
    c.loop-place-test.true c.loop-place.invariant
    (differs _ c.args.tag.now c.matches.result c.matches.ensures.1 c.if-matches.false)

pub returns : goal.returns
returns g c = free_all c.args.queries.now c.loop-place.place c.args.tag.now c.loop-place-test.false
    c.loop-place.invariant
