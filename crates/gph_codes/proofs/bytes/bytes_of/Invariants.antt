use Rattle.std.proofs.Common.{◌≡◌, ◌*◌, take}
use Rattle.hex.specs.Hex.{IsBytes}
use Rattle.gph_codes.specs.Words.{byte_bits, word_bits}
use Rattle.gph_codes.proofs.bytes.bytes_of.Given as goal

abbrev pub invariant-loop-place : goal.invariant-loop-place
invariant-loop-place g l = (byte_bits (take (8 * l.place) l.bytes) ≡ word_bits (take l.place l.words)) × IsBytes l.bytes
