-- A source of either kind, as it was opened.
use Rattle.std.proofs.Common.{sym, subst}
use Rattle.versioned_shard.specs.Shards.{contents_at}
use Rattle.scatter_gather.specs.declared.either.Either.TheVariants as either
use Rattle.world_parts.specs.Pinned.{IsOpened}
use Rattle.world_parts.specs.declared.ask.Ask.{Ask}
use Rattle.world_parts.proofs.SourceLemmas.{opened_near, opened_range}
use Rattle.world_parts.proofs.sources.open_source.Goals as goal

pub returns-in_ok-task-in-Range : goal.returns-in_ok-task-in-Range
returns-in_ok-task-in-Range g c =
    subst (λ (ask : Ask g.row.W). IsOpened c.args.room ask (contents_at c.args.version) (either.Range c.in_ok-task-in-Range.task)) (sym c.in-Range.is)
    (opened_range c.args.room c.in-Range.tau c.in-Range.code (contents_at c.args.version) (either.Range c.in_ok-task-in-Range.task)
    c.in_ok-task-in-Range.ensures.asked c.in_ok-task-in-Range.ensures.begins)

pub returns-in_ok-task-in-Near : goal.returns-in_ok-task-in-Near
returns-in_ok-task-in-Near g c =
    subst (λ (ask : Ask g.row.W). IsOpened c.args.room ask (contents_at c.args.version) (either.Near c.in_ok-task-in-Near.task)) (sym c.in-Near.is)
    (opened_near c.args.room c.in-Near.number c.in-Near.code (contents_at c.args.version) (either.Near c.in_ok-task-in-Near.task)
    c.in_ok-task-in-Near.ensures.asked c.in_ok-task-in-Near.ensures.begins)
