use Rattle.std.proofs.Common.{codes, subst}
use Rattle.load_sums.proofs.SumLemmas.{hit_word, lacks_word, said_word, with_adds, cost_added, cost_must_read, cost_told}
use Rattle.load_sums.proofs.SumLemmas.{no_more_hits, no_more_reads, no_more_bound, lacks_memory, if_none, ReadsCost}
use Rattle.load_sums.proofs.sums.Sums.with.Goals as goal

pub returns-then-eq-clause-sums : goal.returns-then-eq-clause-sums
returns-then-eq-clause-sums c = λ reply fits is.
    with_adds reply c.args.self _ 1 (hit_word reply (said_word reply c.args.line.now c.in_ok-word.word.now c.in_ok-word.after.now _ (codes "hit") c.eq.result
    is c.in_ok-word.ensures c.eq.ensures c.as_slice.ensures (cc))) c.in_ok-checked_add.ensures.1 (cc) (cc)

pub returns-then-eq-2-clause-sums : goal.returns-then-eq-2-clause-sums
returns-then-eq-2-clause-sums c = λ reply fits is.
    cost_added reply c.args.line.now c.in_ok-word.word.now c.in_ok-word.after.now _ c.eq-2.result fits is c.in_ok-word.ensures c.eq-2.ensures
    c.as_slice-2.ensures (cc) c.args.self _ c.in_ok-reads.reads c.in_ok-reads.bound c.in_ok-reads.ensures (cc) c.in_ok-checked_add-2.ensures.1
    c.in_ok-checked_add-3.ensures.1

pub returns-in_err-checked_add-clause-none : goal.returns-in_err-checked_add-clause-none
returns-in_err-checked_add-clause-none c = λ reply fits is.
    if_none _ _ (no_more_hits reply c.args.self (hit_word reply (said_word reply c.args.line.now c.in_ok-word.word.now c.in_ok-word.after.now _
    (codes "hit") c.eq.result is c.in_ok-word.ensures c.eq.ensures c.as_slice.ensures (cc))) c.in_err-checked_add.ensures)

pub returns-in_err-reads-clause-none : goal.returns-in_err-reads-clause-none
returns-in_err-reads-clause-none c = λ reply fits is.
    absurd (cost_must_read reply c.args.line.now c.in_ok-word.word.now c.in_ok-word.after.now _ c.eq-2.result fits is c.in_ok-word.ensures c.eq-2.ensures
    c.as_slice-2.ensures (cc) (subst (ReadsCost c.in_ok-word.after.now) c.in_err-reads.was c.cost_in.ensures))

pub returns-in_err-checked_add-2-clause-none : goal.returns-in_err-checked_add-2-clause-none
returns-in_err-checked_add-2-clause-none c = λ reply fits is.
    if_none _ _ (no_more_reads reply c.args.self c.in_ok-reads.reads
    (cost_told reply c.args.line.now c.in_ok-word.word.now c.in_ok-word.after.now _ c.eq-2.result fits is c.in_ok-word.ensures c.eq-2.ensures
    c.as_slice-2.ensures (cc) c.in_ok-reads.reads c.in_ok-reads.bound c.in_ok-reads.ensures).0 c.in_err-checked_add-2.ensures)

pub returns-in_err-checked_add-3-clause-none : goal.returns-in_err-checked_add-3-clause-none
returns-in_err-checked_add-3-clause-none c = λ reply fits is.
    if_none _ _ (no_more_bound reply c.args.self c.in_ok-reads.bound
    (cost_told reply c.args.line.now c.in_ok-word.word.now c.in_ok-word.after.now _ c.eq-2.result fits is c.in_ok-word.ensures c.eq-2.ensures
    c.as_slice-2.ensures (cc) c.in_ok-reads.reads c.in_ok-reads.bound c.in_ok-reads.ensures).1 c.in_err-checked_add-3.ensures)

pub returns-then-eq-3-clause-none : goal.returns-then-eq-3-clause-none
returns-then-eq-3-clause-none c = λ reply fits is.
    lacks_memory reply c.args.self (lacks_word reply (said_word reply c.args.line.now c.in_ok-word.word.now c.in_ok-word.after.now _ (codes "nomem")
    c.eq-3.result is c.in_ok-word.ensures c.eq-3.ensures c.as_slice-3.ensures (cc)))
