use Rattle.std.proofs.Common.{get_or, arith, ◌∙◌}
use Rattle.std.proofs.lemmas.Nat.{xor_lt}
use Rattle.count_table.proofs.LevelLemmas.{ring_flipped, ring_le}
use Rattle.count_table.proofs.levels.count_ring.Goals as goal

pub count_flipped-requires-clause-in_range : goal.count_flipped-requires-clause-in_range
count_flipped-requires-clause-in_range c = λ k d inside.
    let below = xor_lt c.args.flips.now c.args.value (get_or c.ring.result.now k d) c.requires.in_width (c.ring.ensures.in_width k d inside) in
    let long = c.requires.number in
    omega arith

pub count_flipped-requires-clause-few : goal.count_flipped-requires-clause-few
count_flipped-requires-clause-few c =
    let is = ring_flipped c.args.flips.now c.args.value c.args.apart c.args.copies.now c.ring.result.now c.ring.ensures.flips
    (c.flips_make_rings.ensures.rings (λ at. get_or c.args.copies.now at 0) c.args.value c.args.flips.now c.args.apart c.requires.in_width) in
    let few = ring_le c.args.flips.now c.args.value c.args.apart c.args.copies.now c.requires.number in
    let all = c.requires.in_all in
    omega arith

pub returns : goal.returns
returns c =
    c.count_flipped.ensures
    ∙ ring_flipped c.args.flips.now c.args.value c.args.apart c.args.copies.now c.ring.result.now c.ring.ensures.flips
    (c.flips_make_rings.ensures.rings (λ at. get_or c.args.copies.now at 0) c.args.value c.args.flips.now c.args.apart c.requires.in_width)
