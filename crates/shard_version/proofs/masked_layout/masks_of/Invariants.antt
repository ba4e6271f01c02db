use Rattle.std.proofs.Common.{◌≡◌, ℕ, ◌*◌, ◌<◌, [], length, get_or}
use Rattle.gph_codes.specs.Masks.{mask_of}
use Rattle.shard_version.proofs.masked_layout.masks_of.Given as goal

abbrev pub invariant-loop-part : goal.invariant-loop-part
invariant-loop-part g l =
    (length l.masks.items ≡ l.part)
    × ((at : ℕ) → at < l.part → get_or l.masks.items at [] ≡ mask_of (64 * g.row.W) (get_or l.fn.layout.parts at []))
