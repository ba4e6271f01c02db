use Rattle.std.proofs.Common.{◌≡◌, ◌*◌, take}
use Rattle.gph_codes.specs.Words.{IsWords, byte_bits, word_bits}
use Rattle.gph_codes.proofs.bytes.words_from.Given as goal

abbrev pub invariant-loop-place : goal.invariant-loop-place
invariant-loop-place g l = (word_bits (take l.place l.words) ≡ byte_bits (take (8 * l.place) l.bytes)) × IsWords l.place-end l.words
