use Rattle.std.proofs.Common.{◌≡◌, ◌∙◌, ◌++◌, ◌∷◌, [], ap, sym, true, false, rules, arith}
use Rattle.part_layout.specs.ReadOn.{parts_left}
use Rattle.part_layout.proofs.CursorLemmas.{some_left}
use Rattle.part_layout.proofs.JudgeLemmas.{after_part, part_ends, part_on, part_start}
use Rattle.part_layout.proofs.spelling.first_part.Goals as goal

pub loop-listed-init : goal.loop-listed-init
loop-listed-init c = (
  c.requires.rest,
  c.requires.some,
  omega arith,
  part_start (parts_left c.args.text.now) (some_left c.args.text.now c.requires.some)
      ∙ ap (λ part. after_part part (parts_left c.args.text.now)) (sym c.new-part.ensures.items),
)

pub returns-then-listed-clause-part : goal.returns-then-listed-clause-part
returns-then-listed-clause-part c =
    let ends : c.in-Some.listed.ends_part ≡ true = search rules in
    let pushed : c.push.new.self.items ≡ c.loop-listed.part.items ++ c.in-Some.listed.position ∷ [] = search rules in
    c.loop-listed.invariant.3
    ∙ part_ends c.in-Some.listed c.loop-listed.part.items (parts_left c.loop-listed.rest.now) (parts_left c.in-Some.after.now) c.in-Some.ensures.parts ends
    ∙ ap (λ part. part ∷ parts_left c.in-Some.after.now) (sym pushed)

pub loop-listed-preserved : goal.loop-listed-preserved
loop-listed-preserved c =
    let goes : c.in-Some.listed.ends_part ≡ false = search rules in
    let pushed : c.push.new.self.items ≡ c.loop-listed.part.items ++ c.in-Some.listed.position ∷ [] = search rules in (
      c.in-Some.ensures.rest,
      c.in-Some.ensures.more goes,
      omega (arith, c.in-Some.ensures.fewer, c.loop-listed.invariant.2),
      c.loop-listed.invariant.3
          ∙ part_on c.in-Some.listed c.loop-listed.part.items (parts_left c.loop-listed.rest.now) (parts_left c.in-Some.after.now) c.in-Some.ensures.parts goes
          ∙ ap (λ part. after_part part (parts_left c.in-Some.after.now)) (sym pushed),
    )
