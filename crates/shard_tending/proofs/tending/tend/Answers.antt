-- The shards of a turn, one after the other.
use Rattle.std.proofs.Common.{◌≡◌, ◌+◌, ◌*◌, ◌≤◌, length, refl, sym, ap, subst, ◌∙◌, arith}
use Rattle.query_opening.proofs.PinLemmas.{learns_length, none_came}
use Rattle.session_desk.specs.Desks.{DeskState}
use Rattle.shard_tending.specs.Outcomes.{moves_in, swaps_in, turns_in}
use Rattle.shard_tending.specs.Tending.{IsCountRise, TendsAlone}
use Rattle.shard_tending.proofs.TurnLemmas.{keeps_both, keeps_comes, rise_none}
use Rattle.shard_tending.proofs.TendLemmas.{begins_alone, bound_more, counted_few, keeps_known, rise_both, turns_alone_more}
use Rattle.shard_tending.proofs.tending.tend.Goals as goal

pub loop-shard-init : goal.loop-shard-init
loop-shard-init g c = record {
  keeps = keeps_comes _ _ (none_came (g.D.Desk.desk c.args.desk.now));
  known = λ front own known. known;
  few = omega arith;
  swapped = rise_none _ _ refl;
  moved = rise_none _ _ refl;
  alone = λ _. begins_alone (g.D.Desk.desk c.args.desk.now);
  bound = omega arith;
}

pub tend_shard-requires : goal.tend_shard-requires
tend_shard-requires g c =
    omega (arith, c.shards-shards.ensures.shards, c.loop-shard-test.true, ap (λ config. config.shards) c.loop-shard.invariant.keeps.config)

pub loop-shard-preserved : goal.loop-shard-preserved
loop-shard-preserved g c =
    let old = g.D.Desk.desk c.args.desk.now in
    let now = g.D.Desk.desk c.loop-shard.desk in
    let new = g.D.Desk.desk c.tend_shard.new.desk in
    let so_far = c.loop-shard.invariant in
    let turns = c.tend_shard.ensures.turns in
    record {
      keeps = keeps_both old now new so_far.keeps turns.keeps;
      known = keeps_known old now new (g.D.Desk.knows c.args.desk.now) (g.D.Desk.knows c.loop-shard.desk) (g.D.Desk.knows c.tend_shard.new.desk)
          so_far.keeps turns.keeps so_far.known c.tend_shard.ensures.known;
      few = subst (λ tended. turns_in tended ≤ c.loop-shard.shard + 1) (sym c.with-tended.ensures)
          (counted_few c.loop-shard.tended c.tend_shard.result c.loop-shard.shard so_far.few);
      swapped = subst (λ tended. IsCountRise old.done tended.swapped new.done) (sym c.with-tended.ensures)
          (rise_both old.done c.loop-shard.tended.swapped now.done (swaps_in c.tend_shard.result) new.done so_far.swapped turns.done);
      moved = subst (λ tended. IsCountRise old.late tended.moved new.late) (sym c.with-tended.ensures)
          (rise_both old.late c.loop-shard.tended.moved now.late (moves_in c.tend_shard.result) new.late so_far.moved turns.late);
      alone = λ alone. subst (λ tended. TendsAlone old new tended (c.loop-shard.shard + 1)) (sym c.with-tended.ensures)
          (turns_alone_more c.rounds_never_cost_more.ensures.cheaper old now new c.loop-shard.tended c.loop-shard.shard (so_far.alone alone) so_far.keeps alone
          c.tend_shard.result (turns.alone (so_far.keeps.alone ∙ alone)));
      bound = bound_more c.args.upkeep.now c.loop-shard.upkeep c.tend_shard.new.upkeep c.loop-shard.shard (length now.seen) (length new.seen)
          so_far.bound c.tend_shard.ensures.bound (learns_length now new.seen turns.keeps.learns);
    }
