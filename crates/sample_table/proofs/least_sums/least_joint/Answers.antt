use Rattle.std.proofs.Common.{rules, ◌≡◌, ◌+◌, ◌-◌, sym, subst, arith}
use Rattle.sample_table.specs.Sums.{IsLeastAmong}
use Rattle.sample_table.proofs.SumLemmas.{among_more}
use Rattle.sample_table.proofs.least_sums.least_joint.Goals as goal

pub loop-taken-preserved : goal.loop-taken-preserved
loop-taken-preserved c =
    let at : c.loop-taken.taken + 1 - 1 ≡ c.loop-taken.taken - 1 + 1 = omega arith in
    let here : c.loop-taken.taken ≡ c.loop-taken.taken - 1 + 1 = omega arith in
    subst (λ most. IsLeastAmong c.args.row.now c.args.sums.now c.args.units most c.min-least.result) (sym at)
    (subst (λ least. IsLeastAmong c.args.row.now c.args.sums.now c.args.units (c.loop-taken.taken - 1 + 1) least) (search rules)
    (among_more c.args.row.now c.args.sums.now c.args.units (c.loop-taken.taken - 1) c.loop-taken.least c.loop-taken.invariant))
