-- The bounds change no source.
use Rattle.std.proofs.Common.{◌≡◌, ap, arith, length, drop, sym, subst}
use Rattle.std.proofs.lemmas.List.{take_at, length-map}
use Rattle.std.specs.Prelude.{◌≤◌}
use Rattle.scatter_gather.specs.Gathering.{gathered, seen, answer_of}
use Rattle.scatter_gather.specs.Moves.{BegunWithin}
use Rattle.scatter_gather.proofs.BeginLemmas.{reads_within, capped}
use Rattle.scatter_gather.proofs.CostLemmas.{given_read, not_capped}
use Rattle.scatter_gather.proofs.KeepLemmas.{last_within, planned_keeps}
use Rattle.scatter_gather.proofs.gather.Gather.cost.Goals as goal

pub bound_of-requires-after_bounds : goal.bound_of-requires-after_bounds
bound_of-requires-after_bounds g c = λ κs lives.
    rw c.as_mut_slice.ensures.value
    (last_within g.H.HitSource.asked g.H.HitSource.standing c.self.inside.sources.items _ _ c.self.inside.last
    c.self.invariant)

pub invariant_of-self : goal.invariant_of-self
invariant_of-self g c =
    let asked = rw c.as_mut_slice.ensures.value at c.bound_of.ensures.asked in
    let stood = rw c.as_mut_slice.ensures.value at c.bound_of.ensures.standing in
    let size : length c.bound_of.new.sources ≡ c.self.inside.sources.len =
    omega (
      arith,
      length-map c.bound_of.new.sources g.H.HitSource.asked,
      ap length c.bound_of.ensures.asked,
      length-map c.as_mut_slice.result.now g.H.HitSource.asked,
      c.as_mut_slice.ensures.len,
    ) in
    rw (take_at c.bound_of.new.sources (drop (length c.bound_of.new.sources) c.self.inside.sources.items)
    c.self.inside.sources.len size)
    (planned_keeps g.H.HitSource.asked g.H.HitSource.standing c.self.inside.sources.items c.bound_of.new.sources _ _
    c.self.inside.last asked stood c.self.invariant)

pub returns-clause-within : goal.returns-clause-within
returns-clause-within g c = λ begun.
    let laws = g.met.H.HitSource g.world.𝓛 g.world.𝓜 g.world.𝓡 ((λ s x. x), (λ x. x), (λ x. x), λ x. x) in
    let here = subst (λ x. BegunWithin g.H.HitSource.standing x.last x.sources) (sym c.self.view_is) begun in
    let most = reads_within g.H.HitSource.asked g.H.HitSource.standing
    (gathered c.self.inside.sources.items c.self.inside.limit c.self.inside.given c.self.inside.last)
    laws.lawful c.self.invariant here in
    let reads = rw c.deref.ensures.value at c.reads_of-reads.ensures in
    let bound = rw c.as_mut_slice.ensures.value at c.bound_of.ensures.bound in
    capped _ _ _ _ _ reads bound most

pub returns-clause-no_less : goal.returns-clause-no_less
returns-clause-no_less g c = λ within.
    let laws = g.met.H.HitSource g.world.𝓛 g.world.𝓜 g.world.𝓡 ((λ s x. x), (λ x. x), (λ x. x), λ x. x) in
    let asks = g.H.HitSource.asked in
    let stands = g.H.HitSource.standing in
    let here = subst (λ x. x.given ≤ length (answer_of (seen asks stands x))) (sym c.self.view_is) within in
    let most = given_read asks stands
    (gathered c.self.inside.sources.items c.self.inside.limit c.self.inside.given c.self.inside.last)
    laws.lawful c.self.invariant here in
    let reads = rw c.deref.ensures.value at c.reads_of-reads.ensures in
    let same : c.args.self.now.given ≡ c.self.inside.given = sym (ap (λ x. x.given) c.self.view_is) in
    omega (arith, same, not_capped _ _ _ _ most (omega arith) reads)
