-- A source was opened on one shard more.
use Rattle.std.proofs.Common.{◌≡◌, ◌+◌, List, length, subst, sym, arith, rules}
use Rattle.versioned_shard.specs.Shards.{contents_at}
use Rattle.world_parts.specs.Pinned.{AreOpened, MayOpen, pinned_with}
use Rattle.world_parts.specs.Sources.{QuerySource}
use Rattle.world_parts.proofs.SourceLemmas.{none_opened, opened_more, own_may}
use Rattle.world_parts.proofs.sources.open_each.Goals as goal

pub open_source-requires : goal.open_source-requires
open_source-requires g c =
    let may : MayOpen c.args.ask.now (contents_at c.in_ok-own.own) =
    own_may c.args.ask.now (pinned_with c.args.pins.now c.args.place c.args.version.now) c.loop-shard.shard c.in_ok-own.own c.requires.may
    c.in_ok-own.ensures in
    (omega arith, (search rules, (search rules, (search rules, (c.requires.few_words, (c.requires.some_room, (c.requires.small_room, may)))))))

pub loop-shard-preserved : goal.loop-shard-preserved
loop-shard-preserved g c =
    subst (λ (sources : List (QuerySource g.row.W)). AreOpened c.args.room c.args.ask.now
    (pinned_with c.args.pins.now c.args.place c.args.version.now) sources (c.loop-shard.shard + 1)) (sym c.in_ok-push.ensures.items)
    (opened_more c.args.room c.args.ask.now (pinned_with c.args.pins.now c.args.place c.args.version.now) c.loop-shard.sources.items
    c.loop-shard.shard c.in_ok-own.own c.in_ok-source.source c.loop-shard.invariant c.in_ok-own.ensures c.in_ok-source.ensures)

pub loop-shard-init : goal.loop-shard-init
loop-shard-init g c =
    subst (λ (sources : List (QuerySource g.row.W)). AreOpened c.args.room c.args.ask.now
    (pinned_with c.args.pins.now c.args.place c.args.version.now) sources 0) (sym c.new-sources.ensures.items)
    (none_opened c.args.room c.args.ask.now (pinned_with c.args.pins.now c.args.place c.args.version.now))

pub returns : goal.returns
returns g c =
    let all : c.loop-shard.shard ≡ length c.args.pins.now = omega (arith, c.loop-shard-test.false, c.loop-shard.auto.shard-end) in
    subst (AreOpened c.args.room c.args.ask.now (pinned_with c.args.pins.now c.args.place c.args.version.now) c.loop-shard.sources.items) all
    c.loop-shard.invariant
