use Rattle.std.proofs.Common.{rules, ◌≡◌, ◌<◌, arith, length}
use Rattle.std.proofs.lemmas.List.{take_all}
use Rattle.gph_codes.proofs.MaskLemmas.{under-more}
use Rattle.gph_codes.proofs.distance.word_distance_under.Goals as goal

pub loop-word-preserved : goal.loop-word-preserved
loop-word-preserved g c =
    let in_mask : c.loop-word.word < length c.args.mask.now = search rules in
    let in_one : c.loop-word.word < length c.args.one.now = search rules in
    let in_other : c.loop-word.word < length c.args.other.now = search rules in (
      omega (arith, under-more c.args.mask.now c.args.one.now c.args.other.now c.loop-word.word in_mask in_one in_other),
      omega arith,
    )

pub returns-clause-distance : goal.returns-clause-distance
returns-clause-distance g c =
    let end : c.loop-word.word ≡ g.row.W = omega arith in
    let all_mask = take_all g.row.W c.args.mask.now (search rules) in
    let all_one = take_all g.row.W c.args.one.now (search rules) in
    let all_other = take_all g.row.W c.args.other.now (search rules) in
    rw (end, all_mask, all_one, all_other) at c.loop-word.invariant.0
