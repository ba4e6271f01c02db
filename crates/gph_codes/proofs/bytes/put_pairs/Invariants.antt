use Rattle.std.proofs.Common.{◌≡◌, ◌*◌, length, take, Ok}
use Rattle.hex.specs.Hex.{decode_pairs}
use Rattle.gph_codes.proofs.bytes.put_pairs.Given as goal

-- the bytes so far are those that the first pairs spell
abbrev pub invariant-loop-place : goal.invariant-loop-place
invariant-loop-place l = (length l.text ≡ 2 * length l.bytes) × (decode_pairs 0 (take (2 * l.place) l.text) ≡ Ok (take l.place l.bytes))
