-- One chunk more is shared.
use Rattle.std.proofs.Common.{ap}
use Rattle.commit_journal.specs.Chunks.{chunk_items}
use Rattle.commit_journal.proofs.ChunkLemmas.{map_more}
use Rattle.commit_journal.proofs.chunks.shared_chunks.Goals as goal

pub loop-chunk-preserved : goal.loop-chunk-preserved
loop-chunk-preserved g c =
    rw c.in_ok-push.ensures.items
    (map_more chunk_items c.args.chunks.now c.loop-chunk.shared.items c.loop-chunk.chunk-index c.chunk-item.result c.in_ok-one.one
    c.loop-chunk-test.true c.chunk-item.is
    (ap (λ list. list.items) c.in_ok-one.ensures.cases) c.loop-chunk.invariant)
