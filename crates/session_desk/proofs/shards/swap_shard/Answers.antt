-- A swap keeps the rule.
use Rattle.std.proofs.Common.{subst}
use Rattle.commit_journal.specs.Fronts.{positions_of}
use Rattle.part_layout.specs.Laid.{IsLaid}
use Rattle.shard_version.specs.Tables.{Tabled}
use Rattle.versioned_shard.specs.Shards.{contents_at}
use Rattle.session_desk.proofs.ShardLemmas.{may_stand_in, swap_leaves}
use Rattle.session_desk.proofs.shards.swap_shard.Goals as goal

pub returns-clause-keeps : goal.returns-clause-keeps
returns-clause-keeps g c =
    let journal = c.args.journal.now in
    let version = contents_at c.args.prepared.version in
    let laid : IsLaid version.layout = subst (λ (each : Tabled). IsLaid each.contents.layout) c.deref.ensures c.at-at.ensures.version.laid in
    let may = may_stand_in journal c.args.shard.now version c.requires.rule c.requires.follows c.requires.shard_is c.requires.shards_are c.requires.bits_are in
    swap_leaves journal c.args.shard.now c.swap.new.self version c.swap.result c.requires.rule may
    (c.shards_keep_the_rule.ensures.swapped (positions_of journal.live) journal.history c.args.shard.now version c.requires.rule laid may)
    c.swap.ensures.moved c.swap.ensures.swapped c.swap.ensures.unchanged
