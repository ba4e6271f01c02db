use Rattle.std.proofs.Common.{◌≡◌, true, false, slice_index_or, rules}
use Rattle.part_layout.specs.ReadOn.{numbers_left}
use Rattle.part_layout.proofs.JudgeLemmas.{found_twice, mark_more, numbers_next, small_next}
use Rattle.part_layout.proofs.judging.table_of.Goals as goal

pub bounds-table-listed : goal.bounds-table-listed
bounds-table-listed c =
    (small_next c.loop-listed.rest.now c.in-Some.after.now c.in-Some.listed c.in-Some.ensures.parts c.loop-listed.invariant.1).0

pub bounds-table-listed-in-Some : goal.bounds-table-listed-in-Some
bounds-table-listed-in-Some c =
    (small_next c.loop-listed.rest.now c.in-Some.after.now c.in-Some.listed c.in-Some.ensures.parts c.loop-listed.invariant.1).0

pub returns-then-table-listed-clause-repeated : goal.returns-then-table-listed-clause-repeated
returns-then-table-listed-clause-repeated c =
    let marked : slice_index_or c.loop-listed.table c.in-Some.listed.position false ≡ true = search rules in
    found_twice c.loop-listed.table (numbers_left c.args.text.now) (numbers_left c.loop-listed.rest.now) (numbers_left c.in-Some.after.now)
    c.in-Some.listed.position (numbers_next c.loop-listed.rest.now c.in-Some.after.now c.in-Some.listed c.in-Some.ensures.parts)
    (small_next c.loop-listed.rest.now c.in-Some.after.now c.in-Some.listed c.in-Some.ensures.parts c.loop-listed.invariant.1).0 marked
    c.loop-listed.invariant.2

pub loop-listed-preserved : goal.loop-listed-preserved
loop-listed-preserved c =
    let small = small_next c.loop-listed.rest.now c.in-Some.after.now c.in-Some.listed c.in-Some.ensures.parts c.loop-listed.invariant.1 in
    let marked : slice_index_or c.loop-listed.table c.in-Some.listed.position false ≡ false = search rules in (
      c.in-Some.ensures.rest,
      small.1,
      mark_more c.loop-listed.table (numbers_left c.args.text.now) (numbers_left c.loop-listed.rest.now) (numbers_left c.in-Some.after.now)
          c.in-Some.listed.position (numbers_next c.loop-listed.rest.now c.in-Some.after.now c.in-Some.listed c.in-Some.ensures.parts) small.0 marked
          c.loop-listed.invariant.2,
    )
