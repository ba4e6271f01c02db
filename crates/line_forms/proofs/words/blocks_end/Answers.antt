use Rattle.std.proofs.Common.{◌≡◌, ◌+◌, ◌-◌, true, take, drop, subst, sym, ◌∙◌, arith}
use Rattle.line_forms.specs.Words.{has_no_space}
use Rattle.line_forms.proofs.WordLemmas.{many_more}
use Rattle.line_forms.proofs.words.blocks_end.Goals as goal

pub loop-end-preserved : goal.loop-end-preserved
loop-end-preserved c =
    let begun = c.args.begun.now in
    let end = c.loop-end.end in
    let size : end + 16 - end ≡ 16 = omega arith in
    let none = subst (λ n. has_no_space (take n (drop end begun)) ≡ true) size (sym c.has_no_space.ensures ∙ c.if-has_no_space.true) in
    (omega arith, many_more begun end 16 none c.loop-end.invariant.1)
