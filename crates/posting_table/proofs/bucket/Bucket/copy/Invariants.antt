use Rattle.std.proofs.Common.{◌≡◌, map, take}
use Rattle.posting_table.proofs.bucket.Bucket.copy.Given as goal

abbrev pub invariant-loop-list : goal.invariant-loop-list
invariant-loop-list g l = map (λ list. list.items) l.copies.items ≡ take l.list-index (map (λ list. list.items) l.self-inside.lists.items)
