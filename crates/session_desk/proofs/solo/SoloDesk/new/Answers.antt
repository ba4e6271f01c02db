-- The desk begins with its first shards.
use Rattle.std.proofs.Common.{◌≡◌, ◌++◌, ◌∷◌, [], ◌+◌, List, Option, subst, sym, ap, ◌∙◌, arith}
use Rattle.part_layout.specs.Laid.{IsLaid, Laid}
use Rattle.shard_version.specs.Contents.{empty_of}
use Rattle.versioned_shard.specs.Shards.{ShardState, shard_with}
use Rattle.session_desk.specs.Desks.{Pin}
use Rattle.session_desk.specs.Solos.{AreFirstShards, first_shard_of}
use Rattle.session_desk.proofs.StartLemmas.{begins_new, begins_solo, first_more}
use Rattle.session_desk.proofs.solo.SoloDesk.new.Goals as goal

pub loop-number-preserved : goal.loop-number-preserved
loop-number-preserved g c =
    let config = c.args.config.now in
    let n = c.loop-number.number in
    let is : c.in_ok-shard.shard ≡ first_shard_of config n = c.in_ok-shard.ensures
    ∙ ap (λ (layout : Laid). shard_with (empty_of n config.shards layout) []) c.in_ok-layout.ensures.layout in
    subst (λ (shards : List ShardState). AreFirstShards config shards c.push-in-loop-number.new.self.items (n + 1)) (sym c.in_ok-push.ensures.items)
    (subst (λ (pins : List (Option Pin)). AreFirstShards config (c.loop-number.shards.items ++ c.in_ok-shard.shard ∷ []) pins (n + 1))
    (sym c.in_ok-push-2.ensures.items)
    (first_more config c.loop-number.shards.items c.loop-number.pins.items n c.in_ok-shard.shard c.loop-number.invariant is))

pub invariant_of-result : goal.invariant_of-result
invariant_of-result g c =
    let all : c.loop-number.number ≡ c.args.config.now.shards = omega (arith, c.loop-number-test.false, c.loop-number.auto.number-end) in
    begins_solo c.args.config.now c.in_ok-journal.journal c.loop-number.shards.items c.loop-number.pins.items c.loop-number.number c.in_ok-journal.ensures
    c.loop-number.invariant all g.row.W c.requires.config c.requires.few_words c.requires.room
    (subst IsLaid c.in_ok-layout.ensures.layout c.in_ok-layout.ensures.laid) c.shards_keep_the_rule.ensures.begins

pub returns : goal.returns
returns g c =
    let all : c.loop-number.number ≡ c.args.config.now.shards = omega (arith, c.loop-number-test.false, c.loop-number.auto.number-end) in
    record {
      begins = begins_new c.args.config.now c.in_ok-journal.journal c.loop-number.shards.items c.loop-number.pins.items c.loop-number.number
          c.in_ok-journal.ensures c.loop-number.invariant all;
    }
