-- What is taken up to an LF, or where there is none.
use Rattle.std.proofs.Common.{◌++◌, take, sym, ◌∙◌}
use Rattle.std.proofs.Math.Seq.{take-length}
use Rattle.byte_lines.proofs.LinesLemmas.{ended_lines-clean, unended-clean}
use Rattle.byte_lines.proofs.CutterLemmas.{clean_from_search, taken_through, take_through-clean}
use Rattle.byte_lines.proofs.CutterLemmas.{line_taken, none_begun}
use Rattle.byte_lines.proofs.cutter.Cutter.push.Goals as goal

pub returns-in-Some-clause-taken : goal.returns-in-Some-clause-taken
returns-in-Some-clause-taken c = taken_through c.args.bytes.now c.in-Some.at c.in-Some.ensures

pub returns-in-Some-clause-cut : goal.returns-in-Some-clause-cut
returns-in-Some-clause-cut c = λ raw h.
    rw (line_taken raw c.args.bytes.now c.in-Some.at c.in-Some.ensures)
    (c.end.ensures.cut (raw ++ take c.in-Some.at c.args.bytes.now) (c.keep.ensures.held raw h))

pub returns-in-Some-clause-held : goal.returns-in-Some-clause-held
returns-in-Some-clause-held c = λ raw h.
    rw (none_begun raw c.args.bytes.now c.in-Some.at c.in-Some.ensures) c.end.ensures.held

pub returns-in-None-clause-taken : goal.returns-in-None-clause-taken
returns-in-None-clause-taken c =
    let clean = clean_from_search c.args.bytes.now c.in-None.ensures in
    take-length c.args.bytes.now ∙ sym (take_through-clean c.args.bytes.now clean)

pub returns-in-None-clause-cut : goal.returns-in-None-clause-cut
returns-in-None-clause-cut c = λ raw h.
    rw (take-length c.args.bytes.now)
    (ended_lines-clean raw c.args.bytes.now (clean_from_search c.args.bytes.now c.in-None.ensures))

pub returns-in-None-clause-held : goal.returns-in-None-clause-held
returns-in-None-clause-held c = λ raw h.
    rw (
      take-length c.args.bytes.now,
      unended-clean raw c.args.bytes.now (clean_from_search c.args.bytes.now c.in-None.ensures),
    )
    (c.keep-in-None.ensures.held raw h)
