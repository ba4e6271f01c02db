use Rattle.std.proofs.Common.{◌≡◌, ◌+◌, ap, sym, subst, ◌∙◌}
use Rattle.std.proofs.lemmas.List.{get_or_read}
use Rattle.ring_model.specs.Rings.{IsCheapest, ring_cost}
use Rattle.ring_walk.specs.NearPlanned.{near_counts, near_ring}
use Rattle.ring_walk.specs.RingWalks.{RingPlace, BeginsRing, units_after}
use Rattle.ring_walk.proofs.RingWalkLemmas.{ring_begins}
use Rattle.ring_walk.proofs.ring_walk.RingWalk.begin.Goals as goal

pub returns-clause-begins : goal.returns-clause-begins
returns-clause-begins g c =
    let p = c.args.plan.now in
    let old = c.args.self.now in
    let own = c.self.inside in
    let part = c.cheapest-ring.result.part in
    let units : own.units.items ≡ units_after old = ap (λ (w : RingPlace). w.units) c.self.view_is ∙ c.raise.ensures.units in
    let begun : own.begun ≡ old.begun = ap (λ (w : RingPlace). w.begun) c.self.view_is ∙ c.raise.ensures.begun in
    let cheapest : IsCheapest (near_counts p) own.units.items part =
    subst (λ us. IsCheapest (near_counts p) us part) c.as_slice.ensures.value c.cheapest-ring.ensures.cheapest in
    let cost = c.cheapest-ring.ensures.cost ∙ ap (λ us. ring_cost (near_counts p) us part) c.as_slice.ensures.value in
    let apart = get_or_read own.units.items part c.index.result.now cheapest.within c.index.ensures 0 in
    subst (λ n. BeginsRing p old (record {
      units = own.units.items;
      part = part;
      width = c.ring-self-inside.result.width;
      ball = c.ring-self-inside.result.values;
      value = 0;
      next = 0;
      size = 0;
      begun = n + 1;
    }) c.cheapest-ring.result.cost) (sym begun)
    (ring_begins g.row.W p c.parts.ensures.plan old c.requires.place own.units.items units part c.cheapest-ring.result.cost
    cheapest cost c.ring-self-inside.result.width c.ring-self-inside.ensures.width c.ring-self-inside.result.values
    (c.ring-self-inside.ensures.values ∙ ap (near_ring p part) apart)
    c.ring-self-inside.ensures.in_width)
