use Rattle.std.proofs.Common.{◌+◌, ◌<◌, length, take, get_or, arith}
use Rattle.std.proofs.lemmas.List.{take_more}
use Rattle.part_layout.proofs.RunLemmas.{range_pushed}
use Rattle.part_layout.proofs.word_runs.run_of.Goals as goal

pub loop-place-preserved : goal.loop-place-preserved
loop-place-preserved c =
    let inside : c.loop-place.place < length c.args.part.now = omega arith in
    range_pushed (take c.loop-place.place c.args.part.now) (take (c.loop-place.place + 1) c.args.part.now) c.in_ok-first.field-0.now c.loop-place.place
    (get_or c.args.part.now c.loop-place.place 0) c.loop-place.invariant (take_more c.args.part.now c.loop-place.place 0 inside) (omega arith)
