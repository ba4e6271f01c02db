use Rattle.std.proofs.Common.{arith}
use Rattle.std.proofs.lemmas.List.Filters.{FiltersInPlace-all}
use Rattle.std.proofs.Common.{refl}
use Rattle.hit_source.proofs.SettleLemmas.{gathers_more, gathers_next}
use Rattle.hit_source.proofs.settling.gather.Goals as goal
use Rattle.hit_source.proofs.settling.gather.Goals.{then-hits-at, else-hits-at}

pub loop-at-init : goal.loop-at-init
loop-at-init c = (record { front = refl; rest = refl; behind = omega arith; within = omega arith; long = refl }, record { sums = λ f. refl })

pub swap-requires-clause-a_in_bounds : goal.swap-requires-clause-a_in_bounds
swap-requires-clause-a_in_bounds c = omega (arith, c.loop-at.invariant.0.behind, c.loop-at.invariant.0.long, c.loop-at-test.true)

pub loop-at-preserved : goal.loop-at-preserved
loop-at-preserved c = elim c.if-hits-at.branch [
  | then-hits-at w ↦ rw (w.hits-is, w.near-is)
      (gathers_more c.args.units c.args.hits.now c.loop-at.hits c.loop-at.near c.loop-at.at _ c.loop-at.invariant.0 c.loop-at.invariant.1
      (omega (arith, c.loop-at.invariant.0.long, c.loop-at-test.true))
      w.swap.new.self w.if-hits-at.true w.swap.ensures.by_index w.swap.ensures.permutation)
  | else-hits-at w ↦ rw (w.hits-is, w.near-is)
      (gathers_next c.args.units c.args.hits.now c.loop-at.hits c.loop-at.near c.loop-at.at _ c.loop-at.invariant.0 c.loop-at.invariant.1
      (omega (arith, c.loop-at.invariant.0.long, c.loop-at-test.true))
      w.if-hits-at.false)
]

pub returns : goal.returns
returns c = record {
  same = c.loop-at.invariant.1;
  size = c.loop-at.invariant.0.long;
  within = omega (arith, c.loop-at.invariant.0.behind, c.loop-at.invariant.0.within, c.loop-at.invariant.0.long);
  front = FiltersInPlace-all c.loop-at.invariant.0 c.loop-at-test.false;
}
