-- The rows that were filled are solved for all units.
use Rattle.std.proofs.Common.{◌≡◌, ◌+◌, ◌*◌, length, ap, ◌∙◌, refl, arith, rules}
use Rattle.std.proofs.lemmas.List.{with_items_is}
use Rattle.threshold_dp.specs.Room.{TableRoom}
use Rattle.threshold_dp.proofs.RadiiLemmas.{radii_as, plans_as}
use Rattle.threshold_dp.proofs.radii.Radii.solve.Goals as goal

pub returns : goal.returns
returns g c =
    let own = c.scratch.inside in
    let tau : own.tau ≡ c.args.tau = ap (λ (r : TableRoom). r.tau) (c.scratch.view_is ∙ c.in_ok-scratch.ensures.room) in
    record {
      plans = radii_as (g.C.PartCounts.counts c.args.counts.now) c.args.tau c.args.parts (length c.as_mut_slice.result.now)
          c.solve_parts.new.picks _ c.solve_parts.new.costs _ c.requires.few c.requires.near
          (omega (arith, c.as_mut_slice.ensures.len, c.scratch.invariant.asked))
          (with_items_is own.picks c.solve_parts.new.picks (search rules))
          (with_items_is own.costs c.solve_parts.new.costs (search rules)) c.solve_parts.ensures.solved;
    }

pub invariant_of-result : goal.invariant_of-result
invariant_of-result g c =
    let own = c.scratch.inside in
    let tau : own.tau ≡ c.args.tau = ap (λ (r : TableRoom). r.tau) (c.scratch.view_is ∙ c.in_ok-scratch.ensures.room) in
    let parts : own.parts ≡ c.args.parts = ap (λ (r : TableRoom). r.parts) (c.scratch.view_is ∙ c.in_ok-scratch.ensures.room) in
    let room : own.parts * (own.tau + 2) ≡ c.args.parts * (c.args.tau + 2) = rw (tau, parts) refl in
    plans_as (g.C.PartCounts.counts c.args.counts.now) c.args.tau c.args.parts (length c.as_mut_slice.result.now)
    c.solve_parts.new.picks _ c.solve_parts.new.costs _ c.requires.few c.requires.near
    (omega (arith, c.as_mut_slice.ensures.len, c.scratch.invariant.asked))
    (with_items_is own.picks c.solve_parts.new.picks (search rules))
    (with_items_is own.costs c.solve_parts.new.costs (search rules)) c.solve_parts.ensures.solved
    (omega (arith, room, c.solve_parts.auto.picks, c.as_mut_slice-3.ensures.len, c.scratch.invariant.picks))
    (omega (arith, c.solve_parts.auto.costs, c.as_mut_slice-2.ensures.len, c.scratch.invariant.costs))
