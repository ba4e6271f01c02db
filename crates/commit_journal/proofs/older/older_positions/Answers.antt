use Rattle.std.proofs.Common.{◌∙◌}
use Rattle.commit_journal.proofs.GatherLemmas.{gathered_first, gathered_more, gathered_past, gathered_all}
use Rattle.commit_journal.proofs.older.older_positions.Goals as goal

pub loop-id-init : goal.loop-id-init
loop-id-init c = (
  tt,
  tt,
  gathered_first c.args.live.now c.args.position c.new-older.result.items c.into_iter-id-iterator.result
      c.new-older.ensures.items (c.into_iter-id-iterator.ensures.into_iter_gives ∙ c.iter-id-items.ensures.rest),
)

pub loop-id-preserved-in-Continue-1 : goal.loop-id-preserved-in-Continue-1
loop-id-preserved-in-Continue-1 c = (
  tt,
  tt,
  gathered_more c.args.live.now c.args.position c.loop-id.older.items c.add_position.new.positions.items c.loop-id._id-iterator
      c.next.new.self (c.in-Some._id, c.in-Some.front.now)
      c.loop-id.invariant.2 c.in-Some.ensures.steps c.if-front-position.true c.in_ok-add_position.ensures,
)

pub loop-id-preserved : goal.loop-id-preserved
loop-id-preserved c = (
  tt,
  tt,
  gathered_past c.args.live.now c.args.position c.loop-id.older.items c.loop-id._id-iterator c.next.new.self (c.in-Some._id, c.in-Some.front.now)
      c.loop-id.invariant.2 c.in-Some.ensures.steps c.if-front-position.false,
)

pub returns : goal.returns
returns c = gathered_all c.args.live.now c.args.position c.loop-id.older.items c.loop-id._id-iterator c.loop-id.invariant.2 c.in-None.ensures.steps.0
