use Rattle.std.proofs.Common.{◌≡◌, ℕ, ◌-◌, ◌/◌, refl, subst, arith}
use Rattle.std.proofs.lemmas.Bool.{false≢true}
use Rattle.ball_walk.specs.Walk.{IsNextAfter, HasNoneAfter}
use Rattle.ball_walk.proofs.NextLemmas.{bound_half, next_raised, none_before, not_raised, next_even, next_odd}
use Rattle.ball_walk.proofs.next.+next_after.Goals as goal

pub returns-then-can_raise : goal.returns-then-can_raise
returns-then-can_raise t c =
    let facts = c.if-can_raise.ensures.0 refl in
    next_raised c.args.value c.args.width c.args.last c.args.least c.args.most (omega arith) c.requires.last facts.0 facts.1 facts.2

pub next_after-requires : goal.next_after-requires
next_after-requires t c =
    let half = bound_half c.args.width (omega arith) in
    (omega arith, (omega arith, (omega arith, omega arith)))

pub returns-in-None : goal.returns-in-None
returns-in-None t c =
    let P : ℕ → Type 0 = λ n. HasNoneAfter (c.args.value / 2) (c.args.width - 1) (c.args.last / 2) n c.args.most in
    let high : P (c.args.least - 1) = subst P (omega arith) c.in-None.ensures in
    none_before c.args.value c.args.width c.args.last c.args.least c.args.most (omega arith)
    (not_raised _ _ _ _ c.if-can_raise.ensures.1) high

pub returns-then-is_between : goal.returns-then-is_between
returns-then-is_between t c =
    let lower : c.saturating_sub.result ≡ c.args.least - 1 = omega arith in
    let P : ℕ → Type 0 = λ n. IsNextAfter (c.args.value / 2) (c.args.width - 1) (c.args.last / 2) n c.args.most c.in-Some.high in
    let facts = c.if-is_between.ensures.0 refl in
    next_even c.args.value c.args.width c.args.last c.args.least c.args.most c.in-Some.high (omega arith) (not_raised _ _ _ _ c.if-can_raise.ensures.1)
    (subst P lower c.in-Some.ensures) facts.0 facts.1

pub returns-else-is_between : goal.returns-else-is_between
returns-else-is_between t c =
    let lower : c.saturating_sub.result ≡ c.args.least - 1 = omega arith in
    let P : ℕ → Type 0 = λ n. IsNextAfter (c.args.value / 2) (c.args.width - 1) (c.args.last / 2) n c.args.most c.in-Some.high in
    next_odd c.args.value c.args.width c.args.last c.args.least c.args.most c.in-Some.high (omega arith) c.requires.order
    (not_raised _ _ _ _ c.if-can_raise.ensures.1)
    (subst P lower c.in-Some.ensures)
    (λ enough near. absurd (false≢true (c.if-is_between.ensures.1 (enough, near))))
