use Rattle.std.proofs.Common.{◌≡◌, ◌*◌, ◌≤◌, take}
use Rattle.hamming_model.specs.Codes.{distance}
use Rattle.gph_codes.specs.Words.{word_bits}
use Rattle.gph_codes.proofs.distance.word_distance.Given as goal

abbrev pub invariant-loop-place : goal.invariant-loop-place
invariant-loop-place g l = (l.counted ≡ distance (word_bits (take l.place l.one)) (word_bits (take l.place l.other))) × (l.counted ≤ 64 * l.place)
