-- The shard advances with a known c.args.front.now, and its rule gives the version there.
use Rattle.std.proofs.Common.{subst, sym, arith}
use Rattle.commit_journal.specs.Fronts.{position_of, positions_of}
use Rattle.versioned_shard.specs.Rule.{KeepsJournalRule}
use Rattle.versioned_shard.specs.Shards.{contents_at}
use Rattle.shard_version.specs.Contents.{IsVersion}
use Rattle.shard_version.specs.Tables.{Tabled}
use Rattle.session_desk.specs.Solos.{ComesTo}
use Rattle.session_desk.proofs.ShardLemmas.{advanced_comes, one_given, stored_front}
use Rattle.session_desk.proofs.shards.pin_shard.Goals as goal

pub advance-requires : goal.advance-requires
advance-requires g c = (
  omega arith,
  (
    omega arith,
    (
      c.shards_keep_the_rule.ensures.follows (positions_of c.args.journal.now.live) c.args.journal.now.history c.args.shard.now c.args.front.now
          c.requires.rule c.requires.known,
      stored_front g.row.W c.args.shard.now.current.layout.bits c.args.journal.now c.args.front.now c.requires.known c.requires.codes,
    ),
  ),
)

pub returns-in_err-version-clause-comes : goal.returns-in_err-version-clause-comes
returns-in_err-version-clause-comes g c =
    subst (ComesTo c.args.journal.now (position_of c.args.front.now) c.args.shard.now) (sym c.in_ok-advance.ensures.advanced)
    (advanced_comes c.args.front.now c.args.shard.now c.args.journal.now
    (c.shards_keep_the_rule.ensures.advanced
    (positions_of c.args.journal.now.live) c.args.journal.now.history c.args.shard.now c.args.front.now c.requires.rule c.requires.known
    c.position-position.ensures.front))

pub returns-clause-comes : goal.returns-clause-comes
returns-clause-comes g c =
    subst (ComesTo c.args.journal.now (position_of c.args.front.now) c.args.shard.now) (sym c.in_ok-advance.ensures.advanced)
    (advanced_comes c.args.front.now c.args.shard.now c.args.journal.now
    (c.shards_keep_the_rule.ensures.advanced
    (positions_of c.args.journal.now.live) c.args.journal.now.history c.args.shard.now c.args.front.now c.requires.rule c.requires.known
    c.position-position.ensures.front))

pub returns-clause-gives : goal.returns-clause-gives
returns-clause-gives g c =
    let version = contents_at c.in_ok-version.version in
    let rule : KeepsJournalRule c.args.journal.now c.advance.new.self = subst (KeepsJournalRule c.args.journal.now) (sym c.in_ok-advance.ensures.advanced)
    (c.shards_keep_the_rule.ensures.advanced
    (positions_of c.args.journal.now.live) c.args.journal.now.history c.args.shard.now c.args.front.now c.requires.rule c.requires.known
    c.position-position.ensures.front) in
    let sound : IsVersion version = subst (λ (each : Tabled). IsVersion each.contents) c.deref.ensures c.at-at.ensures.version in
    one_given c.args.journal.now c.advance.new.self (position_of c.args.front.now) version rule c.in_ok-version.ensures
    (c.shards_keep_the_rule.ensures.given (positions_of c.args.journal.now.live) c.args.journal.now.history c.advance.new.self
    (position_of c.args.front.now) version rule c.in_ok-version.ensures)
    sound
