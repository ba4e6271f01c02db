-- The two starts are in order and within the numbers, and between them are those with so many ones.
use Rattle.std.proofs.Common.{◌∙◌, ◌<◌, ◌^◌, ℕ, List, All, sym, ap, arith, subst}
use Rattle.ball_walk.specs.Flips.{flips}
use Rattle.ball_walk.proofs.FlipLemmas.{flips_far, flips_in_width, table_read, table_between, table_order}
use Rattle.ball_walk.proofs.flips.Flips.ring.Goals as goal

pub returns-then-apart-self-clause-flips : goal.returns-then-apart-self-clause-flips
returns-then-apart-self-clause-flips c =
    sym (flips_far c.args.self.now c.args.apart (let seen = c.self.view_is in let far = c.if-apart-self.true in omega arith))

pub between-requires : goal.between-requires
between-requires c =
    let table = table_read c.self.inside.width c.self.inside.numbers.items c.self.inside.starts.items c.as_slice.result.now
    c.as_slice-starts.result.now c.self.invariant c.as_slice.ensures.value c.as_slice-starts.ensures.value in
    let order = table_order c.self.inside.width c.args.apart c.as_slice.result.now c.as_slice-starts.result.now table c.if-apart-self.false in
    record { order = order.0; within = order.1 }

pub returns-clause-flips : goal.returns-clause-flips
returns-clause-flips c =
    let table = table_read c.self.inside.width c.self.inside.numbers.items c.self.inside.starts.items c.as_slice.result.now
    c.as_slice-starts.result.now c.self.invariant c.as_slice.ensures.value c.as_slice-starts.ensures.value in
    c.between.ensures
    ∙ table_between c.self.inside.width c.args.apart c.as_slice.result.now c.as_slice-starts.result.now table c.if-apart-self.false
    ∙ ap (λ n. flips n c.args.apart) c.self.view_is

pub returns-clause-in_width : goal.returns-clause-in_width
returns-clause-in_width c =
    let P : List ℕ → Type 0 = All (λ flip. flip < 2 ^ c.args.self.now) in
    subst P (sym (returns-clause-flips c)) (flips_in_width c.args.self.now c.args.apart)
