use Rattle.std.proofs.Common.{◌≡◌, ℕ, ◌<◌, [], length, get_or, take}
use Rattle.hamming_model.specs.Layouts.{part_value}
use Rattle.shard_probe.proofs.part_values.values_of.Given as goal

abbrev pub invariant-loop-part : goal.invariant-loop-part
invariant-loop-part g l =
    (length l.values.items ≡ l.part)
    × ((at : ℕ) → at < l.part → get_or l.values.items at 0 ≡ part_value (take l.fn.version.contents.layout.bits l.fn.code)
    (get_or l.fn.version.contents.layout.parts at []))
