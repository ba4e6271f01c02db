use Rattle.std.proofs.Common.{◌≡◌, ◌*◌, ◌≤◌, take}
use Rattle.gph_codes.specs.Masks.{distance_under}
use Rattle.gph_codes.specs.Words.{word_bits}
use Rattle.gph_codes.proofs.distance.word_distance_under.Given as goal

abbrev pub invariant-loop-word : goal.invariant-loop-word
invariant-loop-word g l =
    (l.counted ≡ distance_under (word_bits (take l.word l.mask)) (word_bits (take l.word l.one)) (word_bits (take l.word l.other)))
    × (l.counted ≤ 64 * l.word)
