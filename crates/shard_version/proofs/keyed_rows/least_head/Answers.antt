use Rattle.std.proofs.Common.{◌≡◌, ◌<◌, ◌∙◌, ap, arith, length, get_or, List, [], ℕ}
use Rattle.shard_version.specs.KeptRows.{head_key, key_from, row_buckets_of}
use Rattle.shard_version.proofs.HeadLemmas.{better, bucket_seen, no_better}
use Rattle.shard_version.proofs.keyed_rows.least_head.Goals as goal
use Rattle.shard_version.proofs.keyed_rows.least_head.Goals.{then-key_at, else-key_at}

pub loop-at-preserved : goal.loop-at-preserved
loop-at-preserved g c =
    let shared = c.args.buckets.now in
    let heads = c.args.heads.now in
    let at = c.loop-at.at in
    let best = c.loop-at.best in
    let inside = c.loop-at.invariant.inside in
    let here = bucket_seen shared at c.index-buckets-at.result (omega arith) c.index-buckets-at.is c.deref.result.now c.deref.ensures in
    let there = bucket_seen shared best c.index-buckets-best.result
    (omega arith) c.index-buckets-best.is c.deref-in-loop-at.result.now c.deref-in-loop-at.ensures in
    let key : c.key_at.result ≡ head_key (row_buckets_of shared) heads at =
    c.key_at.ensures.key ∙ ap (λ (rows : List (ℕ × List ℕ)). key_from rows (get_or heads at 0)) here in
    let least : c.key_at-in-loop-at.result ≡ head_key (row_buckets_of shared) heads best =
    c.key_at-in-loop-at.ensures.key ∙ ap (λ (rows : List (ℕ × List ℕ)). key_from rows (get_or heads best 0)) there in
    let small = λ (inside : get_or heads at 0 < length (get_or (row_buckets_of shared) at [])). (
    let low = c.key_at.ensures.small (omega (arith, ap length here, inside)) in
    let fits : head_key (row_buckets_of shared) heads at < 18446744073709551616 = omega (arith, key, low) in
    fits) in
    elim c.if-key_at.branch [
      | then-key_at w ↦ rw w.best-is
          (better (row_buckets_of shared) heads at best c.loop-at.invariant (omega arith) small
          (omega (arith, w.if-key_at.true, key, least)))
      | else-key_at w ↦ rw w.best-is
          (no_better (row_buckets_of shared) heads at best c.loop-at.invariant (omega arith) small
          (omega (arith, w.if-key_at.false, key, least)))
    ]
