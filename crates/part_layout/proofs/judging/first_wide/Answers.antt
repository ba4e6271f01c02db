use Rattle.std.proofs.Common.{◌≡◌, ◌+◌, ◌≤◌, ◌∙◌, [], ap, length, sym, true, false, lit≤, rules, arith}
use Rattle.part_layout.specs.ReadOn.{parts_left}
use Rattle.part_layout.proofs.JudgeLemmas.{numbers_next, wide_here, wide_next, wide_none, wide_on, wide_start}
use Rattle.part_layout.proofs.judging.first_wide.Goals as goal

pub loop-listed-init : goal.loop-listed-init
loop-listed-init c = (c.requires.rest, lit≤ tt, omega (arith, c.requires.few), wide_start 0 (parts_left c.args.text.now))

pub returns-then-width-gt-PART_WIDTH_MOST : goal.returns-then-width-gt-PART_WIDTH_MOST
returns-then-width-gt-PART_WIDTH_MOST c =
    sym
    (c.loop-listed.invariant.3
    ∙ wide_here c.loop-listed.part c.loop-listed.width c.in-Some.listed (parts_left c.loop-listed.rest.now) (parts_left c.in-Some.after.now)
    c.in-Some.ensures.parts (omega arith))

pub loop-listed-preserved-then-listed : goal.loop-listed-preserved-then-listed
loop-listed-preserved-then-listed c =
    let ends : c.in-Some.listed.ends_part ≡ true = search rules in
    let next = ap length (numbers_next c.loop-listed.rest.now c.in-Some.after.now c.in-Some.listed c.in-Some.ensures.parts) in
    let few = c.loop-listed.invariant.2 in (
      c.in-Some.ensures.rest,
      lit≤ tt,
      omega arith,
      c.loop-listed.invariant.3
          ∙ wide_next c.loop-listed.part c.loop-listed.width c.in-Some.listed (parts_left c.loop-listed.rest.now) (parts_left c.in-Some.after.now)
          c.in-Some.ensures.parts ends (omega arith),
    )

pub loop-listed-preserved : goal.loop-listed-preserved
loop-listed-preserved c =
    let goes : c.in-Some.listed.ends_part ≡ false = search rules in
    let next = ap length (numbers_next c.loop-listed.rest.now c.in-Some.after.now c.in-Some.listed c.in-Some.ensures.parts) in
    let few = c.loop-listed.invariant.2 in
    let narrow : c.loop-listed.width + 1 ≤ 12 = omega arith in (
      c.in-Some.ensures.rest,
      narrow,
      omega arith,
      c.loop-listed.invariant.3
          ∙ wide_on c.loop-listed.part c.loop-listed.width c.in-Some.listed (parts_left c.loop-listed.rest.now) (parts_left c.in-Some.after.now)
          c.in-Some.ensures.parts goes narrow,
    )

pub returns : goal.returns
returns c =
    let empty : c.loop-listed.rest.now ≡ [] = search rules in
    sym (c.loop-listed.invariant.3 ∙ wide_none c.loop-listed.part c.loop-listed.width (parts_left c.loop-listed.rest.now) (ap parts_left empty))
