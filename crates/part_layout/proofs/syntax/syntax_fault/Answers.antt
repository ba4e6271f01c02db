use Rattle.std.proofs.Common.{◌≡◌, ◌∙◌, Some, None, inl, inr, sym, length, get_or, subst, arith}
use Rattle.std.proofs.lemmas.List.{take_all}
use Rattle.part_layout.specs.Grammar.{IsPrefixBefore}
use Rattle.part_layout.specs.ReadOn.{digits_after}
use Rattle.part_layout.proofs.SyntaxLemmas.{IsBegun, breaks, cut_off, goes_on, prefix_more, read_whole}
use Rattle.part_layout.proofs.syntax.syntax_fault.Goals as goal

pub returns-in-None : goal.returns-in-None
returns-in-None c =
    let next : digits_after c.loop-at.digits (get_or c.args.text.now c.loop-at.at 0) ≡ None = sym c.digits_after.ensures.value ∙ c.in-None.is in
    inl (breaks c.args.text.now c.loop-at.at c.loop-at.digits (omega arith) c.loop-at.invariant.1 next c.loop-at.invariant.2)

pub loop-at-preserved : goal.loop-at-preserved
loop-at-preserved c =
    let next : digits_after c.loop-at.digits (get_or c.args.text.now c.loop-at.at 0) ≡ Some c.in-Some.more = sym c.digits_after.ensures.value ∙ c.in-Some.is in
    let begun = goes_on c.args.text.now c.loop-at.at c.loop-at.digits c.in-Some.more (omega arith) c.loop-at.invariant.1 next in
    (c.in-Some.ensures.few, begun, prefix_more c.args.text.now c.loop-at.at c.in-Some.more begun c.loop-at.invariant.2)

pub returns-then-digits-eq0 : goal.returns-then-digits-eq0
returns-then-digits-eq0 c =
    let all : c.loop-at.at ≡ length c.args.text.now = omega arith in
    let whole = take_all c.loop-at.at c.args.text.now (omega arith) in
    inr
    (cut_off c.args.text.now c.loop-at.digits (subst (λ bytes. IsBegun bytes c.loop-at.digits) whole c.loop-at.invariant.1) (omega arith)
    (subst (λ n. IsPrefixBefore c.args.text.now n) all c.loop-at.invariant.2))

pub returns-else-digits-eq0 : goal.returns-else-digits-eq0
returns-else-digits-eq0 c =
    let all : c.loop-at.at ≡ length c.args.text.now = omega arith in
    let whole = take_all c.loop-at.at c.args.text.now (omega arith) in
    read_whole c.args.text.now c.loop-at.digits (subst (λ bytes. IsBegun bytes c.loop-at.digits) whole c.loop-at.invariant.1) (omega arith)
