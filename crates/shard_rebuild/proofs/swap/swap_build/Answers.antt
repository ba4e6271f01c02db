-- The build that came to the front, or didn't, once the front is closed.
use Rattle.query_opening.proofs.CloseLemmas.{known_through}
use Rattle.shard_rebuild.proofs.EndLemmas.{end_known, end_memory, end_moved, end_others, end_swapped, end_without}
use Rattle.shard_rebuild.proofs.swap.swap_build.Goals as goal

pub returns-in_default-came-clause-no_memory : goal.returns-in_default-came-clause-no_memory
returns-in_default-came-clause-no_memory g c = end_without (g.D.Desk.desk c.args.desk.now) (g.D.Desk.desk c.open_front.new.self)
    (g.D.Desk.desk c.follow_to-came.new.desk) (g.D.Desk.desk c.close_front.new.self) c.in-Ok.front c.in-Ok.ensures.opened c.follow_to-came.ensures.comes
    c.close_front.ensures.closed c.args.shard c.args.build c.follow_to-came.new.build c.follow_to-came.ensures.goes_on

pub returns-in_default-came-clause-known : goal.returns-in_default-came-clause-known
returns-in_default-came-clause-known g c = known_through (g.D.Desk.desk c.args.desk.now) (g.D.Desk.desk c.open_front.new.self)
    (g.D.Desk.desk c.follow_to-came.new.desk) (g.D.Desk.desk c.close_front.new.self) c.in-Ok.front c.in-Ok.ensures.opened c.follow_to-came.ensures.comes
    c.close_front.ensures.closed (g.D.Desk.knows c.args.desk.now) (g.D.Desk.knows c.open_front.new.self) (g.D.Desk.knows c.follow_to-came.new.desk)
    (g.D.Desk.knows c.close_front.new.self) c.in-Ok.ensures.known c.follow_to-came.ensures.known c.close_front.ensures.known

pub returns-clause-swapped : goal.returns-clause-swapped
returns-clause-swapped g c = end_swapped (g.D.Desk.desk c.args.desk.now) (g.D.Desk.desk c.open_front.new.self) (g.D.Desk.desk c.follow_to-came.new.desk)
    (g.D.Desk.desk c.close_front.new.self) c.in-Ok.front c.in-Ok.ensures.opened c.follow_to-came.ensures.comes c.close_front.ensures.closed c.args.shard
    c.args.build c.follow_to-came.new.build c.follow_to-came.ensures.goes_on (g.D.Desk.desk c.finish_and_swap-answer.new.desk) c.position-position.result
    c.position-position.ensures.position c.in-Ok-came.ensures.meets c.follow_to-came.ensures.last c.finish_and_swap-answer.result
    c.finish_and_swap-answer.ensures.swaps g.row.W c.who-before.ensures.desk c.who-closed.ensures.desk c.requires.of_shard

pub returns-clause-moved : goal.returns-clause-moved
returns-clause-moved g c = end_moved (g.D.Desk.desk c.args.desk.now) (g.D.Desk.desk c.open_front.new.self) (g.D.Desk.desk c.follow_to-came.new.desk)
    (g.D.Desk.desk c.close_front.new.self) c.in-Ok.front c.in-Ok.ensures.opened c.follow_to-came.ensures.comes c.close_front.ensures.closed c.args.shard
    c.args.build c.follow_to-came.new.build c.follow_to-came.ensures.goes_on (g.D.Desk.desk c.finish_and_swap-answer.new.desk) c.position-position.result
    c.position-position.ensures.position c.in-Ok-came.ensures.meets c.follow_to-came.ensures.last c.finish_and_swap-answer.result
    c.finish_and_swap-answer.ensures.swaps g.row.W

pub returns-clause-no_memory : goal.returns-clause-no_memory
returns-clause-no_memory g c = end_memory (g.D.Desk.desk c.args.desk.now) (g.D.Desk.desk c.open_front.new.self) (g.D.Desk.desk c.follow_to-came.new.desk)
    (g.D.Desk.desk c.close_front.new.self) c.in-Ok.front c.in-Ok.ensures.opened c.follow_to-came.ensures.comes c.close_front.ensures.closed c.args.shard
    c.args.build c.follow_to-came.new.build c.follow_to-came.ensures.goes_on (g.D.Desk.desk c.finish_and_swap-answer.new.desk) c.position-position.result
    c.position-position.ensures.position c.in-Ok-came.ensures.meets c.follow_to-came.ensures.last c.finish_and_swap-answer.result
    c.finish_and_swap-answer.ensures.swaps g.row.W

pub returns-clause-others : goal.returns-clause-others
returns-clause-others g c = end_others (g.D.Desk.desk c.args.desk.now) (g.D.Desk.desk c.open_front.new.self) (g.D.Desk.desk c.follow_to-came.new.desk)
    (g.D.Desk.desk c.close_front.new.self) c.in-Ok.front c.in-Ok.ensures.opened c.follow_to-came.ensures.comes c.close_front.ensures.closed c.args.shard
    c.args.build c.follow_to-came.new.build c.follow_to-came.ensures.goes_on (g.D.Desk.desk c.finish_and_swap-answer.new.desk) c.position-position.result
    c.position-position.ensures.position c.in-Ok-came.ensures.meets c.follow_to-came.ensures.last c.finish_and_swap-answer.result
    c.finish_and_swap-answer.ensures.swaps g.row.W c.follow_to-came.ensures.others

pub returns-clause-known : goal.returns-clause-known
returns-clause-known g c = end_known (g.D.Desk.desk c.args.desk.now) (g.D.Desk.desk c.open_front.new.self) (g.D.Desk.desk c.follow_to-came.new.desk)
    (g.D.Desk.desk c.close_front.new.self) c.in-Ok.front c.in-Ok.ensures.opened c.follow_to-came.ensures.comes c.close_front.ensures.closed c.args.shard
    c.args.build c.follow_to-came.new.build c.follow_to-came.ensures.goes_on (g.D.Desk.desk c.finish_and_swap-answer.new.desk) c.position-position.result
    c.position-position.ensures.position c.in-Ok-came.ensures.meets c.follow_to-came.ensures.last c.finish_and_swap-answer.result
    c.finish_and_swap-answer.ensures.swaps (g.D.Desk.knows c.args.desk.now) (g.D.Desk.knows c.open_front.new.self) (g.D.Desk.knows c.follow_to-came.new.desk)
    (g.D.Desk.knows c.close_front.new.self) (g.D.Desk.knows c.finish_and_swap-answer.new.desk) c.in-Ok.ensures.known c.follow_to-came.ensures.known
    c.close_front.ensures.known c.finish_and_swap-answer.ensures.known
