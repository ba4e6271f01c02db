use Rattle.std.proofs.Common.{◌≡◌, [], replicate, take}
use Rattle.posting_table.specs.KeptLists.{held_by, rooms_of}
use Rattle.posting_table.proofs.lists.Lists.reserve.Given as goal

abbrev pub invariant-loop-size : goal.invariant-loop-size
invariant-loop-size g l = (held_by l.lists.items ≡ replicate l.size-index []) × (rooms_of l.lists.items ≡ take l.size-index l.sizes)
