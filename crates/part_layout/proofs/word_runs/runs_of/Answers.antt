use Rattle.std.proofs.Common.{◌≡◌, ℕ, ◌∙◌, ◌<◌, [], length, get_or, arith}
use Rattle.std.specs.Global.{Vec}
use Rattle.std.proofs.lemmas.List.{length-map}
use Rattle.part_layout.specs.Kept.{lists_of}
use Rattle.part_layout.proofs.LayoutLemmas.{own_part}
use Rattle.part_layout.proofs.WordRunLemmas.{one_run_more}
use Rattle.part_layout.proofs.word_runs.runs_of.Goals as goal

pub loop-part-preserved : goal.loop-part-preserved
loop-part-preserved c =
    let inside : c.loop-part.part-index < length c.args.parts.now = omega arith in
    let own = own_part c.args.parts.now c.loop-part.part-index c.part-item.result inside c.part-item.is in
    let same : c.deref.result.now ≡ get_or (lists_of c.args.parts.now) c.loop-part.part-index [] = c.deref.ensures.value ∙ own in
    rw c.in_ok-push.ensures.items
    (one_run_more (lists_of c.args.parts.now) c.loop-part.runs.items c.loop-part.part-index c.run_of.result c.loop-part.invariant
    (rw same at c.run_of.ensures))

pub returns : goal.returns
returns c =
    let sized = length-map c.args.parts.now (λ (part : Vec ℕ). part.items) in
    let number = c.loop-part.invariant.number in
    record {
      number = omega arith;
      each = λ part first below is. c.loop-part.invariant.each part first (omega arith) is;
    }
