use Rattle.std.proofs.Common.{rules, ◌≡◌, ◌<◌, arith, length}
use Rattle.std.proofs.lemmas.List.{take_all}
use Rattle.gph_codes.proofs.DistanceLemmas.{distance-more}
use Rattle.gph_codes.proofs.distance.word_distance.Goals as goal

pub loop-place-preserved : goal.loop-place-preserved
loop-place-preserved g c =
    let in_one : c.loop-place.place < length c.args.one.now = search rules in
    let in_other : c.loop-place.place < length c.args.other.now = search rules in (
      omega (arith, distance-more c.args.one.now c.args.other.now c.loop-place.place in_one in_other),
      omega arith,
    )

pub returns : goal.returns
returns g c =
    let end : c.loop-place.place ≡ g.row.W = omega arith in
    let all_one = take_all g.row.W c.args.one.now (search rules) in
    let all_other = take_all g.row.W c.args.other.now (search rules) in
    rw (end, all_one, all_other) at c.loop-place.invariant.0
