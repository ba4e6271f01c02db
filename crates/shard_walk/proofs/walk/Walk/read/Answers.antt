use Rattle.std.proofs.Common.{◌+◌, sym, ap, ◌∙◌}
use Rattle.shard_walk.proofs.WalkLemmas.{reads_run}
use Rattle.shard_walk.proofs.walk.Walk.read.Goals as goal

pub returns-clause-hits : goal.returns-clause-hits
returns-clause-hits g c =
    (reads_run c.args.plan.now c.args.self.now c.requires.place _ c.self.view_is c.min-count.result c.args.most c.min-count.ensures
    c.block-run.result.now c.block-run.ensures.rows).hits

pub returns-clause-reads : goal.returns-clause-reads
returns-clause-reads g c =
    (reads_run c.args.plan.now c.args.self.now c.requires.place _ c.self.view_is c.min-count.result c.args.most c.min-count.ensures
    c.block-run.result.now c.block-run.ensures.rows).reads

pub returns-clause-steps : goal.returns-clause-steps
returns-clause-steps g c =
    c.block-run.ensures.steps
    ∙ ap (λ n. c.args.steps.now + n)
    (sym (reads_run c.args.plan.now c.args.self.now c.requires.place _ c.self.view_is c.min-count.result c.args.most c.min-count.ensures
    c.block-run.result.now c.block-run.ensures.rows).size)
