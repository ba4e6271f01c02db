use Rattle.std.proofs.Common.{◌≡◌, ◌*◌, drop}
use Rattle.gph_codes.specs.Masks.{mask_of, with_ones}
use Rattle.part_layout.specs.Laid.{part_at}
use Rattle.shard_version.proofs.masked_layout.mask_of.Given as goal

abbrev pub invariant-loop-place : goal.invariant-loop-place
invariant-loop-place g l =
    with_ones l.mask (drop l.place (part_at l.layout l.part)) ≡ mask_of (64 * g.row.W) (part_at l.layout l.part)
