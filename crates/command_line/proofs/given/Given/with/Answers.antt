use Rattle.std.proofs.Common.{◌≡◌, ℕ, Option, option_copied, Some, None, sym, ap}
use Rattle.command_line.specs.WrittenOptions.{setting}
use Rattle.command_line.specs.declared.given.GivenNumber.{GivenNumber}
use Rattle.command_line.proofs.GivenLemmas.{kept_with, size_few, size_more, repeated, value_at_fault, missing_value, bad_value}
use Rattle.command_line.proofs.given.Given.with.Goals as goal

pub returns-then-is_value-clause-value : goal.returns-then-is_value-clause-value
returns-then-is_value-clause-value c = λ before same.
    let entry : Option ℕ → GivenNumber = λ (number : Option ℕ). record { number = number; place = c.args.value_place } in
    let stands : option_copied c.args.value ≡ Some c.in-Some-value.value.now = rw c.in-Some-value.is in
    kept_with c.args.command before (setting c.args.name.now c.args.place (option_copied c.args.value) c.args.value_place) c.in-Some.option
    c.in-Some-value.value.now c.args.self c.put.result (entry c.number-number.result) (sym c.in-Some.ensures) same
    (cc) stands (cc) (ap entry c.number-number.ensures) c.put.ensures

pub returns-then-is_value-clause-more : goal.returns-then-is_value-clause-more
returns-then-is_value-clause-more c =
    let entry : GivenNumber = record { number = c.number-number.result; place = c.args.value_place } in
    rw c.put.ensures (size_more c.in-Some.option entry c.args.self (cc))

pub returns-then-is_some-clause-value : goal.returns-then-is_some-clause-value
returns-then-is_some-clause-value c = λ before same.
    repeated c.args.command before (setting c.args.name.now c.args.place (option_copied c.args.value) c.args.value_place) c.in-Some.option
    c.args.self (sym c.in-Some.ensures) same (cc)

pub returns-in_default-value-clause-value : goal.returns-in_default-value-clause-value
returns-in_default-value-clause-value c = λ before same.
    let none : option_copied c.args.value ≡ None = rw c.in_default-value.is in
    value_at_fault c.args.command before (setting c.args.name.now c.args.place (option_copied c.args.value) c.args.value_place) c.in-Some.option
    c.args.self (sym c.in-Some.ensures) same (cc) (missing_value c.in-Some.option c.args.value_place (option_copied c.args.value) none)

pub returns-else-is_value-clause-value : goal.returns-else-is_value-clause-value
returns-else-is_value-clause-value c = λ before same.
    let stands : option_copied c.args.value ≡ Some c.in-Some-value.value.now = rw c.in-Some-value.is in
    value_at_fault c.args.command before (setting c.args.name.now c.args.place (option_copied c.args.value) c.args.value_place) c.in-Some.option
    c.args.self (sym c.in-Some.ensures) same (cc)
    (bad_value c.in-Some.option c.args.value_place (option_copied c.args.value) c.in-Some-value.value.now stands (cc))

pub returns-then-is_value-clause-few : goal.returns-then-is_value-clause-few
returns-then-is_value-clause-few c = size_few c.put.result
