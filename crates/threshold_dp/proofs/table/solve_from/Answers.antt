use Rattle.std.proofs.Common.{◌≡◌, ◌+◌, ◌-◌, ◌*◌, length, drop, ◌∙◌, subst, arith}
use Rattle.threshold_dp.specs.Table.{AreAsked, IsRowFrom, IsLastRow, IsSolved, pick_rows}
use Rattle.threshold_dp.proofs.RowsLemmas.{solved_first, solved_next, written_size, lent_size, rows_number}
use Rattle.threshold_dp.proofs.table.solve_from.Goals as goal

pub loop-part-init : goal.loop-part-init
loop-part-init g c =
    let width = length c.args.asked.now in
    let part = c.args.parts - 1 in
    let span = part * width + width - part * width in
    let wide : span ≡ width = omega arith in
    let row = c.add_last_part.new.picks in
    let size : length row ≡ width = c.add_last_part.auto.picks
    ∙ lent_size c.args.picks.now width c.args.parts part span wide (omega arith) c.requires.wide c.requires.room in
    let is_row = subst (λ n. IsLastRow n c.read_counts.new.asked c.add_last_part.new.costs row) c.read_counts.auto.asked c.add_last_part.ensures.row in (
      omega arith,
      omega arith,
      written_size c.args.picks.now row width c.args.parts part span wide (omega arith) c.requires.wide size c.requires.room,
      solved_first c.args.picks.now row width c.args.parts part span wide (omega arith) c.requires.wide size c.requires.room
          (g.C.PartCounts.counts c.args.counts.now) c.read_counts.new.asked c.add_last_part.new.costs (omega arith)
          c.read_counts.ensures.asked is_row,
    )

pub add_part-requires-clause-bound : goal.add_part-requires-clause-bound
add_part-requires-clause-bound g c = λ units less.
    let asked = length c.args.asked.now in
    let number = rows_number asked (c.args.parts - c.loop-part.part) (drop (c.loop-part.part * asked) c.loop-part.picks) in
    omega (arith, c.loop-part.invariant.3.bound units (omega (arith, c.read_counts-in-loop-part.auto.asked ∙ c.loop-part.auto.asked)))

pub loop-part-preserved : goal.loop-part-preserved
loop-part-preserved g c =
    let width = length c.args.asked.now in
    let part = c.loop-part.part - 1 in
    let span = part * width + width - part * width in
    let wide : span ≡ width = omega arith in
    let row = c.add_part.new.picks in
    let within = c.loop-part.invariant.0 in
    let room = c.requires.room in
    let asked : length c.loop-part.asked ≡ width = c.loop-part.auto.asked ∙ c.read_counts.auto.asked in
    let size : length row ≡ width = c.add_part.auto.picks
    ∙ lent_size c.loop-part.picks width c.args.parts part span wide (omega arith) c.requires.wide (omega arith) in
    let asks = subst (λ n. AreAsked (g.C.PartCounts.counts c.args.counts.now) part n c.read_counts-in-loop-part.new.asked)
    asked c.read_counts-in-loop-part.ensures.asked in
    let is_row = subst (λ n. IsRowFrom 0 n c.read_counts-in-loop-part.new.asked c.loop-part.costs c.add_part.new.costs row)
    (c.read_counts-in-loop-part.auto.asked ∙ asked) c.add_part.ensures.row in (
      omega arith,
      omega arith,
      written_size c.loop-part.picks row width c.args.parts part span wide (omega arith) c.requires.wide size (omega arith) ∙ c.loop-part.invariant.2,
      solved_next c.loop-part.picks row width c.args.parts part span wide (omega arith) c.requires.wide size (omega arith)
          (g.C.PartCounts.counts c.args.counts.now) c.loop-part.part c.read_counts-in-loop-part.new.asked c.loop-part.costs
          c.add_part.new.costs (omega arith) asks c.loop-part.invariant.3 is_row,
    )

pub returns : goal.returns
returns g c =
    record {
      solved = subst (λ n. IsSolved (g.C.PartCounts.counts c.args.counts.now) n
          (pick_rows (length c.args.asked.now) (c.args.parts - n) (drop (n * length c.args.asked.now) c.loop-part.picks)) c.loop-part.costs
          (length c.args.asked.now)) (omega arith) c.loop-part.invariant.3;
    }
