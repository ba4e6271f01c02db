use Rattle.std.proofs.Common.{length, sym, ap, ◌∙◌, subst}
use Rattle.ring_walk.specs.NearPlanned.{near_list, near_part}
use Rattle.ring_walk.specs.RingWalks.{RingPlace, IsRingPlace}
use Rattle.ring_walk.proofs.RingWalkLemmas.{value_place}
use Rattle.ring_walk.proofs.ring_walk.RingWalk.next_value.Goals as goal

pub returns-clause-place : goal.returns-clause-place
returns-clause-place g c =
    let own = c.args.self.now in
    let p = c.args.plan.now in
    let left = c.next.new.self in
    let size = c.list_len-self-inside.result in
    subst (λ (w : RingPlace). IsRingPlace p (record w { width = left.width; ball = left.values; value = c.in-Some.value; next = 0; size = size }))
    (sym c.self.view_is)
    (value_place p own c.requires.place c.in-Some.value left.values (ap (λ (w : RingPlace). w.ball) (sym c.self.view_is) ∙ c.in-Some.ensures.first)
    left.width (c.next.ensures.width ∙ ap (λ (w : RingPlace). w.width) c.self.view_is) size
    (c.list_len-self-inside.ensures ∙ ap (λ (w : RingPlace). length (near_list p w.part c.in-Some.value)) c.self.view_is))

pub next-requires : goal.next-requires
next-requires g c = record {
  flips = c.flips.ensures ∙ ap (λ (w : RingPlace). length (near_part c.args.plan.now w.part)) c.self.view_is ∙ sym c.requires.place.width
      ∙ sym (ap (λ (w : RingPlace). w.width) c.self.view_is);
}
