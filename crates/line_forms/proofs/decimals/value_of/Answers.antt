use Rattle.std.proofs.Common.{[], ◌≤◌, arith}
use Rattle.line_forms.proofs.FormLemmas.{by_last, whole_small}
use Rattle.line_forms.proofs.decimals.value_of.Goals as goal

pub returns-in_default-clause-small : goal.returns-in_default-clause-small
returns-in_default-clause-small c = λ most short. let none : 0 ≤ most = omega arith in whole_small [] most none tt

pub front_value-requires-clause-digits : goal.front_value-requires-clause-digits
front_value-requires-clause-digits c =
    (by_last c.args.word.now c.in-Some.front.now c.in-Some.last.now c.in-Some.ensures.cases.0 c.requires.digits).0

pub overflow_sub-last : goal.overflow_sub-last
overflow_sub-last c =
    let last = by_last c.args.word.now c.in-Some.front.now c.in-Some.last.now c.in-Some.ensures.cases.0 c.requires.digits in omega (arith, last.1)

pub returns-clause-value : goal.returns-clause-value
returns-clause-value c =
    let last = by_last c.args.word.now c.in-Some.front.now c.in-Some.last.now c.in-Some.ensures.cases.0 c.requires.digits in
    omega (arith, last.2, c.from.ensures, c.from-2.ensures, c.front_value.ensures.value)

pub returns-clause-small : goal.returns-clause-small
returns-clause-small c = λ most short.
    let last = by_last c.args.word.now c.in-Some.front.now c.in-Some.last.now c.in-Some.ensures.cases.0 c.requires.digits in
    omega (arith, last.2, c.from.ensures, c.from-2.ensures, c.front_value.ensures.value, whole_small c.args.word.now most short c.requires.digits)
