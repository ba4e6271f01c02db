-- The chunks so far are shared.
use Rattle.std.proofs.Common.{◌≡◌, map, take}
use Rattle.commit_journal.specs.Chunks.{chunk_items}
use Rattle.commit_journal.proofs.chunks.shared_chunks.Given as goal

abbrev pub invariant-loop-chunk : goal.invariant-loop-chunk
invariant-loop-chunk g l = map chunk_items l.shared.items ≡ take l.chunk-index (map chunk_items l.chunks)
