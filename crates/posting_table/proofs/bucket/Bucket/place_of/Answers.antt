use Rattle.posting_table.proofs.PostingsLemmas.{has_key-more}
use Rattle.posting_table.proofs.bucket.Bucket.place_of.Goals as goal

pub loop-place-preserved : goal.loop-place-preserved
loop-place-preserved g c =
    has_key-more c.deref-entry-items.result.now c.loop-place.place c.args.key c.entry-item.result c.loop-place-test.true c.entry-item.is
    c.if-entry-key.false c.loop-place.invariant
