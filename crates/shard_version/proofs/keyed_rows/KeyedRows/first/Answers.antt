-- The rows of least key, taken one by one.
use Rattle.std.proofs.Common.{rules, ◌≡◌, ◌<◌, ◌∙◌, ap, arith, length, get_or, List, ℕ}
use Rattle.std.proofs.lemmas.List.{get_or_default, length-map}
use Rattle.std.specs.Arc.{arc_value}
use Rattle.shard_version.specs.KeptRows.{IsLeastHead, bucket_at, row_buckets_of, rows_in}
use Rattle.shard_version.proofs.HeadLemmas.{bucket_seen, head_inside, head_low, head_row, least_own, taken_more}
use Rattle.shard_version.proofs.keyed_rows.KeyedRows.first.Goals as goal

pub row-requires : goal.row-requires
row-requires g c =
    let shared = c.self.inside.buckets.items in
    let buckets = row_buckets_of shared in
    let are = c.self.invariant.each in
    let heads = c.loop-i.heads.items in
    let next = c.least_head-next.result in
    let taken = c.loop-i.invariant.0 in
    let few = c.min-number.ensures in
    let within : c.loop-i._i < length (rows_in buckets) = omega (arith, c.self.invariant.counted) in
    let least : IsLeastHead buckets heads 256 next = rw (c.deref.ensures.value, c.deref-in-loop-i.ensures.value) at c.least_head-next.ensures in
    let same = least_own buckets are c.loop-i._i within heads taken.each next least in
    let in_heads : next < length heads = omega (arith, taken.number, least.inside) in
    let in_shared : next < length shared = omega (arith, are.number, least.inside, length-map shared (λ bucket. arc_value bucket)) in
    let seen = bucket_seen shared next c.index.result.now in_shared c.index.ensures c.deref-in-loop-i-2.result.now c.deref-in-loop-i-2.ensures in
    let head : c.index-in-loop-i.result.now ≡ get_or heads next 0 =
    c.index-in-loop-i.ensures ∙ get_or_default heads next c.index-in-loop-i.result.now 0 in_heads in
    let inside = head_inside buckets are c.loop-i._i within heads taken.each next same in
    (omega arith, (search rules, omega (arith, head, ap length seen, inside)))

pub overflow_add-index_mut : goal.overflow_add-index_mut
overflow_add-index_mut g c =
    let buckets : List (List (ℕ × List ℕ)) = row_buckets_of c.self.inside.buckets.items in
    let inside : c.loop-i._i < length (rows_in buckets) = omega (arith, c.min-number.ensures, c.self.invariant.counted) in
    let is : IsLeastHead buckets c.loop-i.heads.items 256 c.least_head-next.result =
    rw (c.deref.ensures.value, c.deref-in-loop-i.ensures.value) at c.least_head-next.ensures in
    let own = c.index_mut.ensures.value
    ∙ get_or_default c.loop-i.heads.items c.least_head-next.result c.index_mut.result.now 0
    (omega (arith, c.loop-i.invariant.0.number, is.inside)) in
    record {
      fits = omega (
        arith,
        own,
        head_low buckets c.self.invariant.each c.loop-i._i inside c.loop-i.heads.items
            c.loop-i.invariant.0.each c.least_head-next.result is.inside,
      );
    }

pub loop-i-preserved : goal.loop-i-preserved
loop-i-preserved g c =
    let shared = c.self.inside.buckets.items in
    let buckets = row_buckets_of shared in
    let are = c.self.invariant.each in
    let heads = c.loop-i.heads.items in
    let next = c.least_head-next.result in
    let taken = c.loop-i.invariant.0 in
    let few = c.min-number.ensures in
    let within : c.loop-i._i < length (rows_in buckets) = omega (arith, c.self.invariant.counted) in
    let least : IsLeastHead buckets heads 256 next = rw (c.deref.ensures.value, c.deref-in-loop-i.ensures.value) at c.least_head-next.ensures in
    let same = least_own buckets are c.loop-i._i within heads taken.each next least in
    let in_heads : next < length heads = omega (arith, taken.number, least.inside) in
    let in_shared : next < length shared = omega (arith, are.number, least.inside, length-map shared (λ bucket. arc_value bucket)) in
    let seen = bucket_seen shared next c.index.result.now in_shared c.index.ensures c.deref-in-loop-i-2.result.now c.deref-in-loop-i-2.ensures in
    let head : c.index-in-loop-i.result.now ≡ get_or heads next 0 =
    c.index-in-loop-i.ensures ∙ get_or_default heads next c.index-in-loop-i.result.now 0 in_heads in
    let own : c.index_mut.result.now ≡ get_or heads next 0 = c.index_mut.ensures.value ∙ get_or_default heads next c.index_mut.result.now 0 in_heads in
    let row =
    c.row.ensures ∙ ap (λ (rows : List (ℕ × List ℕ)). get_or rows c.index-in-loop-i.result.now c.row.result) seen
    ∙ ap (λ (n : ℕ). get_or (bucket_at buckets next) n c.row.result) head ∙ head_row buckets are c.loop-i._i within heads taken.each next same c.row.result in
    let more = taken_more buckets are c.loop-i._i within heads taken.each next same c.loop-i.first.items taken c.row.result row in
    (rw (c.in-Ok.ensures.items, own) more, (omega (arith, c.tick.ensures, c.loop-i.invariant.1.0), search rules))
