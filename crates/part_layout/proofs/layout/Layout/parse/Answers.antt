use Rattle.std.proofs.Common.{◌≡◌, ◌∙◌, Some, Err, refl, rules}
use Rattle.part_layout.specs.Faults.{fault_of}
use Rattle.part_layout.specs.Grammar.{spelled}
use Rattle.part_layout.specs.declared.layout_fault.LayoutFault.TheVariants.{Syntax, Range, Twice, Missing, Width, Parts, NoMemory}
use Rattle.part_layout.proofs.CursorLemmas.{rest_of_text}
use Rattle.part_layout.proofs.FaultLemmas.{laid_of_faultless, spelled_some}
use Rattle.part_layout.proofs.ParseLemmas.{no_syntax, spelled_apart, syntax_apart, syntax_told, whole_text}
use Rattle.part_layout.proofs.layout.Layout.parse.Goals as goal

pub returns-in-Some-clause-syntax : goal.returns-in-Some-clause-syntax
returns-in-Some-clause-syntax c = λ at. syntax_told c.args.text.now c.in-Some.at at (Err (Syntax c.in-Some.at)) refl c.in-Some.ensures

pub returns-in-Some-clause-range : goal.returns-in-Some-clause-range
returns-in-Some-clause-range c = λ n.
    spelled_apart c.args.bits c.args.text.now c.in-Some.at (Err (Syntax c.in-Some.at)) (Range n) refl refl c.in-Some.ensures

pub returns-in-Some-clause-twice : goal.returns-in-Some-clause-twice
returns-in-Some-clause-twice c = λ n.
    spelled_apart c.args.bits c.args.text.now c.in-Some.at (Err (Syntax c.in-Some.at)) (Twice n) refl refl c.in-Some.ensures

pub returns-in-Some-clause-missing : goal.returns-in-Some-clause-missing
returns-in-Some-clause-missing c = λ n.
    spelled_apart c.args.bits c.args.text.now c.in-Some.at (Err (Syntax c.in-Some.at)) (Missing n) refl refl c.in-Some.ensures

pub returns-in-Some-clause-width : goal.returns-in-Some-clause-width
returns-in-Some-clause-width c = λ n.
    spelled_apart c.args.bits c.args.text.now c.in-Some.at (Err (Syntax c.in-Some.at)) (Width n) refl refl c.in-Some.ensures

pub returns-in-Some-clause-parts : goal.returns-in-Some-clause-parts
returns-in-Some-clause-parts c = λ n.
    spelled_apart c.args.bits c.args.text.now c.in-Some.at (Err (Syntax c.in-Some.at)) (Parts n) refl refl c.in-Some.ensures

pub returns-in-Some-fault_in-clause-syntax : goal.returns-in-Some-fault_in-clause-syntax
returns-in-Some-fault_in-clause-syntax c = λ at.
    let faulty : fault_of c.args.bits (spelled c.args.text.now) ≡ Some c.in-Some-fault_in.fault = search rules in
    syntax_apart c.args.text.now at (Err c.in-Some-fault_in.fault)
    (no_syntax c.args.bits (spelled c.args.text.now) c.in-Some-fault_in.fault faulty) c.in_default.ensures

pub returns-in_default-parts_of-clause-syntax : goal.returns-in_default-parts_of-clause-syntax
returns-in_default-parts_of-clause-syntax c = λ at. syntax_apart c.args.text.now at (Err NoMemory) refl c.in_default.ensures

pub returns-in_default-runs_of-clause-syntax : goal.returns-in_default-runs_of-clause-syntax
returns-in_default-runs_of-clause-syntax c = λ at. syntax_apart c.args.text.now at (Err NoMemory) refl c.in_default.ensures

pub returns-clause-syntax : goal.returns-clause-syntax
returns-clause-syntax c = λ at. syntax_apart c.args.text.now at _ refl c.in_default.ensures

pub invariant_of-result : goal.invariant_of-result
invariant_of-result c =
    let same = c.in-Ok.ensures ∙ (rest_of_text c.args.text.now c.in_default.ensures).1 in
    let some = spelled_some c.args.text.now in
    let laid = laid_of_faultless c.args.bits (spelled c.args.text.now) some.0 some.1 (search rules) in
    record { is_laid = record { allowed = c.requires; layout = rw same laid }; runs_are = search rules }

pub returns-in-Some-clause-memory : goal.returns-in-Some-clause-memory
returns-in-Some-clause-memory c =
    ((λ same. absurd (let both = same in cc)), (λ faultless. absurd (whole_text c.args.text.now c.in-Some.at faultless.text_of_grammar c.in-Some.ensures)))
