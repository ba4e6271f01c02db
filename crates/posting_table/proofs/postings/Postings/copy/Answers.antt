use Rattle.std.proofs.Common.{◌≡◌, ◌<◌, ◌≤◌, ap, arith, get_or, length}
use Rattle.std.specs.Arc.{arc_value}
use Rattle.std.proofs.lemmas.List.{length-map, take_all}
use Rattle.posting_table.specs.Kept.{buckets_of}
use Rattle.posting_table.proofs.BucketLemmas.{map_more}
use Rattle.posting_table.proofs.postings.Postings.copy.Goals as goal

pub loop-bucket-preserved : goal.loop-bucket-preserved
loop-bucket-preserved g c =
    let all = c.self.inside.buckets.items in
    let same = c.deref-bucket-items.ensures.value in
    let long = ap length same in
    let below : c.loop-bucket.bucket-index < length all = omega arith in
    let is : c.bucket-item.result ≡ get_or all c.loop-bucket.bucket-index c.bucket-item.result = rw same at c.bucket-item.is in
    rw c.in_ok-push.ensures.items
    (map_more (λ bucket. arc_value bucket) all c.loop-bucket.copies.items c.loop-bucket.bucket-index c.bucket-item.result c.in_ok-shared.shared below is
    c.in_ok-shared.ensures.cases c.loop-bucket.invariant)

pub invariant_of-result : goal.invariant_of-result
invariant_of-result g c =
    let long = ap length c.deref-bucket-items.ensures.value in
    let seen = length-map c.self.inside.buckets.items (λ bucket. arc_value bucket) in
    let end : length (buckets_of c.self.inside.buckets.items) ≤ c.loop-bucket.bucket-index = omega arith in
    rw (c.loop-bucket.invariant, take_all c.loop-bucket.bucket-index (buckets_of c.self.inside.buckets.items) end) c.self.invariant
