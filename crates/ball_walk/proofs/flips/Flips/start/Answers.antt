use Rattle.std.proofs.Common.{List, ℕ, ◌∙◌, ap, length, arith, get_or}
use Rattle.ball_walk.specs.FlipTable.{flips_below}
use Rattle.ball_walk.proofs.flips.Flips.start.Goals as goal

pub bounds-as_slice-apart : goal.bounds-as_slice-apart
bounds-as_slice-apart c =
    let long = ap length c.as_slice.ensures.value in
    let number = c.self.invariant.starts_at.number in
    let is = c.self.view_is in
    omega arith

pub returns : goal.returns
returns c =
    let read : List ℕ → ℕ = λ l. get_or l c.args.apart 0 in
    let is = c.self.view_is in
    ap read c.as_slice.ensures.value ∙ c.self.invariant.starts_at.each c.args.apart (omega arith)
    ∙ ap (λ w. length (flips_below w c.args.apart)) c.self.view_is
