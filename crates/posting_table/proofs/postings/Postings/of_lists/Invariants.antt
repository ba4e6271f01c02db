use Rattle.std.proofs.Common.{◌≡◌, ◌+◌, ◌-◌, ◌/◌, length}
use Rattle.posting_table.specs.Kept.{buckets_of}
use Rattle.posting_table.specs.KeptLists.{dealt_out, held_by}
use Rattle.posting_table.proofs.postings.Postings.of_lists.Given as goal

abbrev pub invariant-loop-rest : goal.invariant-loop-rest
invariant-loop-rest g l = buckets_of l.buckets.items ≡ dealt_out (held_by l.lists) l.rest ((length l.lists + 256 - 1) / 256)
