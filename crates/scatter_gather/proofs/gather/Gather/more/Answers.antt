-- Whether a hit is left, by what waits, by the rows, or since nothing is due.
use Rattle.std.proofs.Common.{◌≡◌, ◌∙◌, ap, arith, sym, subst, true, false, refl, length}
use Rattle.std.specs.Prelude.{is_some, nat_lt, nat_le, sum_by}
use Rattle.std.specs.List.{list_any, list_all}
use Rattle.std.proofs.lemmas.Bool.{and_from, le-leb}
use Rattle.scatter_gather.specs.Gathering.{Source, seen, sources_of, answer_of, gathered}
use Rattle.scatter_gather.specs.Due.{has_head}
use Rattle.scatter_gather.proofs.NextLemmas.{waited_again, loop_todo}
use Rattle.scatter_gather.proofs.ReadyLemmas.{all_lawful}
use Rattle.scatter_gather.proofs.MoreLemmas.{more_rows, seen_waits, none_due_more, waited_more, waited_open}
use Rattle.hit_source.specs.Sources.{IsLawful}
use Rattle.scatter_gather.proofs.gather.Gather.more.Given.{Over}
use Rattle.scatter_gather.proofs.gather.Gather.more.Goals as goal

-- the sources keep their laws
lawful : (g : Over) (source : g.row.H.Denot) → IsLawful (g.H.HitSource.asked source) (g.H.HitSource.standing source)
lawful g = (g.met.H.HitSource g.world.𝓛 g.world.𝓜 g.world.𝓡 ((λ s x. x), (λ x. x), (λ x. x), λ x. x)).lawful

pub returns-then-self-rows_of-clause-more : goal.returns-then-self-rows_of-clause-more
returns-then-self-rows_of-clause-more g c =
    let all = sources_of g.H.HitSource.asked g.H.HitSource.standing c.self.inside.sources.items in
    let near : list_all (λ (s : Source). s.asked.near) all ≡ true =
    rw (← c.deref.ensures.value) (sym c.all_near.ensures ∙ c.if-all_near.true) in
    let rows = rw c.deref-then-all_near.ensures.value at c.rows_of.ensures in
    let enough : nat_le c.self.inside.limit (sum_by (λ (s : Source). s.asked.rows) all) ≡ true =
    le-leb c.self.inside.limit (sum_by (λ (s : Source). s.asked.rows) all)
    (omega (arith, rows, c.if-self-rows_of.true)) in
    subst (λ x. true ≡ nat_lt x.given (length (answer_of (seen g.H.HitSource.asked g.H.HitSource.standing x))))
    c.self.view_is
    (sym (more_rows (seen g.H.HitSource.asked g.H.HitSource.standing
    (gathered c.self.inside.sources.items c.self.inside.limit c.self.inside.given c.self.inside.last))
    c.self.invariant (all_lawful g.H.HitSource.asked g.H.HitSource.standing (lawful g)
    c.self.inside.sources.items) c.if-self.false (and_from _ _ near enough)))

pub returns-then-any_waits-clause-more : goal.returns-then-any_waits-clause-more
returns-then-any_waits-clause-more g c =
    let open_still = subst (λ x. x.given ≡ x.limit → ⊥) c.self.view_is c.if-self.false in
    let here : list_any has_head
    (sources_of g.H.HitSource.asked g.H.HitSource.standing c.self-in-loop-self.inside.sources.items) ≡ true =
    rw (← c.deref-in-loop-self.ensures.value) (sym c.any_waits.ensures ∙ c.if-any_waits.true) in
    let waits = subst (λ x. list_any has_head (sources_of g.H.HitSource.asked g.H.HitSource.standing x.sources) ≡ true)
    c.self-in-loop-self.view_is here in
    sym (seen_waits g.H.HitSource.asked g.H.HitSource.standing c.loop-self.self (lawful g) c.loop-self.invariant.1
    (waited_open g.H.HitSource.asked g.H.HitSource.standing c.args.self.now c.loop-self.self _ _
    c.loop-self.invariant.0 open_still) waits)
    ∙ waited_more g.H.HitSource.asked g.H.HitSource.standing c.args.self.now c.loop-self.self _ _
    c.loop-self.invariant.0

pub returns-in_default-clause-more : goal.returns-in_default-clause-more
returns-in_default-clause-more g c =
    let open_still = subst (λ x. x.given ≡ x.limit → ⊥) c.self.view_is c.if-self.false in
    let here : list_any has_head
    (sources_of g.H.HitSource.asked g.H.HitSource.standing c.self-in-loop-self.inside.sources.items) ≡ false =
    rw (← c.deref-in-loop-self.ensures.value) (sym c.any_waits.ensures ∙ c.if-any_waits.false) in
    let none = subst (λ x. list_any has_head (sources_of g.H.HitSource.asked g.H.HitSource.standing x.sources) ≡ false)
    c.self-in-loop-self.view_is here in
    sym (none_due_more g.H.HitSource.asked g.H.HitSource.standing c.loop-self.self (lawful g) c.loop-self.invariant.1
    (waited_open g.H.HitSource.asked g.H.HitSource.standing c.args.self.now c.loop-self.self _ _
    c.loop-self.invariant.0 open_still) (sym c.poll_some.ensures.due ∙ ap is_some c.in_default.is) none)
    ∙ waited_more g.H.HitSource.asked g.H.HitSource.standing c.args.self.now c.loop-self.self _ _
    c.loop-self.invariant.0

pub loop-self-smaller : goal.loop-self-smaller
loop-self-smaller g c =
    let polls = c.poll_some.ensures.polled (ap is_some c.in-Some.is) in
    loop_todo g.H.HitSource.asked g.H.HitSource.standing polls.budget c.loop-self.self c.loop-self.self
    c.poll_some.new.self _ _ (lawful g) refl (sym c.poll_some.ensures.due ∙ ap is_some c.in-Some.is) polls.polls

pub loop-self-preserved : goal.loop-self-preserved
loop-self-preserved g c =
    let polls = c.poll_some.ensures.polled (ap is_some c.in-Some.is) in (
      waited_again g.H.HitSource.asked g.H.HitSource.standing polls.budget c.args.self.now c.loop-self.self
          c.poll_some.new.self _ _ _ c.loop-self.invariant.0 polls.polls c.poll_some.ensures.stays,
      c.poll_some.ensures.holds,
    )
