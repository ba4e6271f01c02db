use Rattle.std.proofs.Common.{◌≡◌, ◌∙◌, None, sym, rules, arith}
use Rattle.part_layout.specs.Faults.{first_beyond}
use Rattle.part_layout.specs.ReadOn.{numbers_left}
use Rattle.part_layout.proofs.FaultLemmas.{few_numbers, none_beyond}
use Rattle.part_layout.proofs.judging.fault_in.Goals as goal

pub table_of-requires-clause-few : goal.table_of-requires-clause-few
table_of-requires-clause-few c = λ k d inside.
    let small : first_beyond c.args.bits (numbers_left c.args.text.now) ≡ None = sym c.first_beyond.ensures ∙ search rules in
    let below = none_beyond c.args.bits (numbers_left c.args.text.now) small k d inside in
    omega arith

pub first_wide-requires-clause-few : goal.first_wide-requires-clause-few
first_wide-requires-clause-few c =
    few_numbers c.args.bits (numbers_left c.args.text.now) c.first_beyond.result c.least_missing.result c.first_beyond.ensures (search rules)
    c.in-Ok.ensures.single (c.least_missing.ensures (numbers_left c.args.text.now) c.in-Ok.ensures.table) (search rules) (omega arith)

pub number_of_parts-count-requires-clause-few : goal.number_of_parts-count-requires-clause-few
number_of_parts-count-requires-clause-few c =
    few_numbers c.args.bits (numbers_left c.args.text.now) c.first_beyond.result c.least_missing.result c.first_beyond.ensures (search rules)
    c.in-Ok.ensures.single (c.least_missing.ensures (numbers_left c.args.text.now) c.in-Ok.ensures.table) (search rules) (omega arith)
