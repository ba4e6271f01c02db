-- The shard comes to the front, and its version there is the shard's of what was seen.
use Rattle.std.proofs.Common.{ℕ, ap, ◌∙◌, refl, arith, List}
use Rattle.commit_journal.specs.Fronts.{position_of}
use Rattle.versioned_shard.specs.Shards.{contents_at}
use Rattle.session_desk.specs.Desks.{Pin}
use Rattle.session_desk.proofs.CallLemmas.{now_came, now_comes, now_pinned, now_pins, pin_needs}
use Rattle.session_desk.proofs.ShardLemmas.{on_err}
use Rattle.session_desk.proofs.solo.SoloDeskDesk.pin.Goals as goal

pub pin_shard-requires : goal.pin_shard-requires
pin_shard-requires g c = (
  omega arith,
  (
    omega arith,
    (
      omega arith,
      (
        omega arith,
        pin_needs g.row.W _ c.args.self.now c.self.invariant c.self.view_is c.args.shard c.requires.shard c.index_mut.result.now c.index_mut.ensures.value
            c.args.front.now c.requires.own c.requires.knows,
      ),
    ),
  ),
)

pub invariant_of-self : goal.invariant_of-self
invariant_of-self g c =
    now_came g.row.W _ c.args.self.now c.self.invariant c.self.view_is c.args.shard c.requires.shard c.index_mut.result.now c.index_mut.ensures.value
    c.pin_shard.new.shard (position_of c.args.front.now) c.pin_shard.ensures.comes

pub returns-in_err-version-clause-comes : goal.returns-in_err-version-clause-comes
returns-in_err-version-clause-comes g c = on_err c.from_residual.result
    (now_comes g.row.W _ c.args.self.now c.self.invariant c.self.view_is c.args.shard c.requires.shard c.index_mut.result.now c.index_mut.ensures.value
    c.pin_shard.new.shard (position_of c.args.front.now) c.pin_shard.ensures.comes)

pub invariant_of-self-in_err-layout : goal.invariant_of-self-in_err-layout
invariant_of-self-in_err-layout g c =
    now_came g.row.W _ c.args.self.now c.self.invariant c.self.view_is c.args.shard c.requires.shard c.index_mut.result.now c.index_mut.ensures.value
    c.pin_shard.new.shard (position_of c.args.front.now) c.pin_shard.ensures.comes

pub returns-in_err-layout-clause-comes : goal.returns-in_err-layout-clause-comes
returns-in_err-layout-clause-comes g c = on_err c.from_residual-in_err-layout.result
    (now_comes g.row.W _ c.args.self.now c.self.invariant c.self.view_is c.args.shard c.requires.shard c.index_mut.result.now c.index_mut.ensures.value
    c.pin_shard.new.shard (position_of c.args.front.now) c.pin_shard.ensures.comes)

pub invariant_of-self-2 : goal.invariant_of-self-2
invariant_of-self-2 g c =
    now_pinned g.row.W _ c.args.self.now c.self.invariant c.self.view_is c.args.shard c.requires.shard c.index_mut.result.now c.index_mut.ensures.value
    c.pin_shard.new.shard (position_of c.args.front.now) c.pin_shard.ensures.comes c.in_ok-version.ensures.reached
    (c.position.result, c.in_ok-layout.layout) c.position.ensures.position

pub returns-clause-pinned : goal.returns-clause-pinned
returns-clause-pinned g c =
    now_pins g.row.W _ c.args.self.now c.self.invariant c.self.view_is c.args.shard c.requires.shard c.index_mut.result.now c.index_mut.ensures.value
    c.pin_shard.new.shard (position_of c.args.front.now) c.pin_shard.ensures.comes c.in_ok-version.ensures.reached
    (contents_at c.in_ok-version.version) c.in_ok-version.ensures.gives c.args.front.now (c.position.result, c.in_ok-layout.layout) refl
    (ap (λ (at : ℕ). let pin : Pin = (at, c.in_ok-layout.layout) in pin) c.position.ensures.position
    ∙ ap (λ (text : List ℕ). let pin : Pin = (position_of c.args.front.now, text) in pin) c.in_ok-layout.ensures)
