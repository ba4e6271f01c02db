use Rattle.std.proofs.Common.{◌+◌, ◌-◌, ◌∙◌, ◌∷◌, ℕ, List, get_or, ap, sym, arith}
use Rattle.std.specs.Int.RustNames.{bit_xor}
use Rattle.ball_walk.specs.Flips.{FlippedLeft}
use Rattle.ball_walk.specs.FlipTable.{all_flips, flipped_from}
use Rattle.ball_walk.proofs.FlippedLemmas.{step_first}
use Rattle.ball_walk.proofs.flipped.Flipped.next.Goals as goal

pub returns-clause-first : goal.returns-clause-first
returns-clause-first c =
    let view : List ℕ = flipped_from c.self.inside.value c.self.inside.width (c.self.inside.at + 1) (c.self.inside.left - 1) in
    let read : List ℕ → List ℕ = λ l. bit_xor c.self.inside.value (get_or l c.self.inside.at 0) ∷ view in
    let same = c.numbers.ensures ∙ ap all_flips (c.requires.flips ∙ sym (ap (λ (f : FlippedLeft). f.width) c.self.view_is)) in
    let some = c.if-self-eq0.false in
    sym (ap (λ (f : FlippedLeft). f.values) c.self.view_is)
    ∙ step_first c.self.inside.value c.self.inside.width c.self.inside.at c.self.inside.left (omega arith) c.self.invariant.within
    ∙ sym (ap read same)
