-- Each pin keeps what the loop keeps.
use Rattle.std.proofs.Common.{◌≡◌, ◌++◌, ◌∷◌, [], List, ◌+◌, ap, subst, sym, ◌∙◌, arith}
use Rattle.std.proofs.lemmas.List.{map-append}
use Rattle.shard_version.specs.Contents.{Contents}
use Rattle.commit_journal.specs.Fronts.{live_at, position_of}
use Rattle.versioned_shard.specs.Shards.{contents_at}
use Rattle.session_desk.specs.Desks.{DeskState, IsOwnFront}
use Rattle.query_opening.specs.Pinning.{PinsFirst, contents_of_all}
use Rattle.query_opening.proofs.PinLemmas.{behind_all, behind_more, came, failed_came, pins_more}
use Rattle.query_opening.proofs.pinning.pin_each.Goals as goal

pub returns-in_err-version-clause-comes : goal.returns-in_err-version-clause-comes
returns-in_err-version-clause-comes g c =
    failed_came (g.D.Desk.desk c.args.desk.now) (g.D.Desk.desk c.loop-shard.desk) (g.D.Desk.desk c.pin.new.self) c.loop-shard.shard
    c.loop-shard.invariant.0.comes c.in_err-version.ensures.comes

pub returns-in_err-version-clause-upkeep : goal.returns-in_err-version-clause-upkeep
returns-in_err-version-clause-upkeep g c =
    behind_all (g.D.Desk.desk c.args.desk.now) (g.D.Desk.desk c.loop-shard.desk) (position_of c.args.front.now) (contents_of_all c.loop-shard.versions.items)
    c.loop-shard.shard c.args.steps.now c.loop-shard.steps c.pin.new.steps c.loop-shard.invariant.0 c.loop-shard.invariant.1.1.1.1 c.pin.ensures.upkeep
    (g.D.Desk.desk c.args.desk.now).config.shards (omega (arith, c.loop-shard-test.true, c.shards-shard-end.ensures.shards))

pub returns-in_err-push-clause-comes : goal.returns-in_err-push-clause-comes
returns-in_err-push-clause-comes g c =
    came (g.D.Desk.desk c.args.desk.now) (g.D.Desk.desk c.loop-shard.desk) (g.D.Desk.desk c.pin.new.self) c.args.front.now
    (contents_of_all c.loop-shard.versions.items) c.loop-shard.shard (contents_at c.in_ok-version.version)
    c.loop-shard.invariant.0 c.in_ok-version.ensures.pinned (omega (arith, c.loop-shard-test.true, c.shards-shard-end.ensures.shards))

pub returns-in_err-push-clause-upkeep : goal.returns-in_err-push-clause-upkeep
returns-in_err-push-clause-upkeep g c =
    behind_all (g.D.Desk.desk c.args.desk.now) (g.D.Desk.desk c.loop-shard.desk) (position_of c.args.front.now) (contents_of_all c.loop-shard.versions.items)
    c.loop-shard.shard c.args.steps.now c.loop-shard.steps c.pin.new.steps c.loop-shard.invariant.0 c.loop-shard.invariant.1.1.1.1 c.pin.ensures.upkeep
    (g.D.Desk.desk c.args.desk.now).config.shards (omega (arith, c.loop-shard-test.true, c.shards-shard-end.ensures.shards))

pub loop-shard-preserved : goal.loop-shard-preserved
loop-shard-preserved g c =
    let old = g.D.Desk.desk c.args.desk.now in
    let mid = g.D.Desk.desk c.loop-shard.desk in
    let new = g.D.Desk.desk c.pin.new.self in
    let front = c.args.front.now in
    let items = contents_of_all c.loop-shard.versions.items in
    let pins = c.in_ok-version.ensures.pinned in
    let first = c.loop-shard.invariant.0 in
    let fronts = ap (λ (d : DeskState). d.fronts) pins.comes.after in
    let more : contents_of_all c.push.new.self.items ≡ items ++ contents_at c.in_ok-version.version ∷ [] = ap contents_of_all c.in_ok-push.ensures.items
    ∙ map-append contents_at c.loop-shard.versions.items (c.in_ok-version.version ∷ []) in
    let own : IsOwnFront new front = ap (λ live. live_at live front.id) fronts ∙ c.loop-shard.invariant.1.0 in (
      subst (λ (versions : List Contents). PinsFirst old new (position_of front) versions (c.loop-shard.shard + 1)) (sym more)
          (pins_more old mid new front items c.loop-shard.shard (contents_at c.in_ok-version.version) first pins
          (omega (arith, c.loop-shard-test.true, c.shards-shard-end.ensures.shards))),
      (
        own,
        (
          c.pin.ensures.known front own c.loop-shard.invariant.1.1.0,
          (
            (λ other there known. c.pin.ensures.known other there
                (c.loop-shard.invariant.1.1.1.0 other (ap (λ live. live_at live other.id) (sym fronts) ∙ there) known)),
            behind_more old mid (position_of front) items c.loop-shard.shard c.args.steps.now c.loop-shard.steps c.pin.new.steps first
                c.loop-shard.invariant.1.1.1.1 c.pin.ensures.upkeep,
          ),
        ),
      ),
    )
