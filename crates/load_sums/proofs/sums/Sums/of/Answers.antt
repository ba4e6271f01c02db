use Rattle.std.proofs.Common.{subst}
use Rattle.load_sums.proofs.TextLemmas.{Left, none_added, one_added, all_added, fewer_left, empty_is, some_left, has_feed, none_added_more}
use Rattle.load_sums.proofs.SumLemmas.{if_none}
use Rattle.load_sums.proofs.sums.Sums.of.Goals as goal

pub loop-rest-init : goal.loop-rest-init
loop-rest-init c = λ said is written. none_added said c.args.replies.now is written

pub loop-rest-preserved : goal.loop-rest-preserved
loop-rest-preserved c = λ said is written.
    let some = some_left c.loop-rest.rest.now c.loop-rest-test.ensures in
    let held = c.loop-rest.invariant said is written in
    one_added said c.loop-rest.rest.now c.in_ok-line.line.now c.in_ok-line.after.now c.loop-rest.sums c.in_ok-sums.sums
    c.lines_of_replies.ensures some c.in_ok-line.ensures c.in_ok-sums.ensures.sums held.0 held.1

pub loop-rest-smaller : goal.loop-rest-smaller
loop-rest-smaller c =
    fewer_left c.loop-rest.rest.now c.in_ok-line.line.now c.in_ok-line.after.now (some_left c.loop-rest.rest.now c.loop-rest-test.ensures)
    c.in_ok-line.ensures

pub returns-clause-sums : goal.returns-clause-sums
returns-clause-sums c = λ said is written.
    let none = empty_is c.loop-rest.rest.now c.loop-rest-test.ensures in
    all_added said c.loop-rest.sums (subst (λ bytes. Left said bytes c.loop-rest.sums) none (c.loop-rest.invariant said is written))

pub returns-in_err-line-clause-none : goal.returns-in_err-line-clause-none
returns-in_err-line-clause-none c = λ said is written.
    let some = some_left c.loop-rest.rest.now c.loop-rest-test.ensures in
    absurd (has_feed said c.loop-rest.rest.now c.loop-rest.sums c.lines_of_replies.ensures some (c.loop-rest.invariant said is written)
    c.in_err-line.ensures)

pub returns-in_err-sums-clause-none : goal.returns-in_err-sums-clause-none
returns-in_err-sums-clause-none c = λ said is written.
    if_none _ _ (none_added_more said c.loop-rest.rest.now c.in_ok-line.line.now c.in_ok-line.after.now c.loop-rest.sums c.lines_of_replies.ensures
    (some_left c.loop-rest.rest.now c.loop-rest-test.ensures) c.in_ok-line.ensures c.in_err-sums.ensures.none (c.loop-rest.invariant said is written))
