use Rattle.std.proofs.Common.{◌≡◌}
use Rattle.posting_table.specs.KeptLists.{held_by, lists_of_rest}
use Rattle.posting_table.proofs.bucket.Bucket.of_rest.Given as goal

abbrev pub invariant-loop-round : goal.invariant-loop-round
invariant-loop-round g l = held_by l.lists.items ≡ lists_of_rest (held_by l.all) l.rest l.round
