use Rattle.std.proofs.Common.{◌+◌, ◌*◌, ◌∙◌, refl}
use Rattle.posting_table.proofs.ListsLemmas.{list_dealt}
use Rattle.posting_table.proofs.bucket.Bucket.of_rest.Goals as goal

pub loop-round-preserved : goal.loop-round-preserved
loop-round-preserved g c =
    rw c.in_ok-push.ensures.items
    (list_dealt c.args.all.now c.loop-round.lists.items c.args.rest c.loop-round.round (c.loop-round.round * 256 + c.args.rest)
    c.index-all-round.result c.in_ok-copied.copied refl (c.requires c.loop-round.round c.loop-round-test.true) c.index-all-round.is
    (c.in_ok-copied.ensures.items ∙ c.as_slice.ensures.value) c.loop-round.invariant)
