-- The count, and the distance of what is left, are the whole distance.
use Rattle.std.proofs.Common.{◌≡◌, ◌+◌, ◌≤◌, drop}
use Rattle.hamming_model.specs.Codes.{distance}
use Rattle.hamming_model.proofs.plain.differences.Given as goal

abbrev pub invariant-loop-position : goal.invariant-loop-position
invariant-loop-position l = (l.count ≤ l.position) × (l.count + distance (drop l.position l.code) (drop l.position l.query) ≡ distance l.code l.query)
