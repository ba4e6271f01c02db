use Rattle.std.proofs.Common.{◌≡◌, ◌<◌, ◌∙◌, ap, arith, get_or, length}
use Rattle.posting_table.proofs.BucketLemmas.{items_of, map_more}
use Rattle.posting_table.proofs.bucket.Bucket.copy.Goals as goal

pub loop-list-preserved : goal.loop-list-preserved
loop-list-preserved g c =
    let all = c.self.inside.lists.items in
    let same = c.deref-list-items.ensures.value in
    let long = ap length same in
    let below : c.loop-list.list-index < length all = omega arith in
    let is : c.list-item.result ≡ get_or all c.loop-list.list-index c.list-item.result = rw same at c.list-item.is in
    rw c.in_ok-push.ensures.items
    (map_more items_of all c.loop-list.copies.items c.loop-list.list-index c.list-item.result c.in_ok-copied.copied below is
    (c.in_ok-copied.ensures.items ∙ c.as_slice.ensures.value) c.loop-list.invariant)
