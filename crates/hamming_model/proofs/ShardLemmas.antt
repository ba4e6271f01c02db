-- The scans of the shards of some rows are together the scan of all rows.
use Rattle.std.proofs.Common.{◌≡◌, inl, inr, ⊎_elim, ℕ, suc, ◌+◌, ◌≤◌, ◌<◌, ◌%◌, ◌==◌, List, [], ◌∷◌, length, get_or, take, filter, refl, sym, ap, ◌∙◌, arith, true, false, Bool, cond}
use Rattle.std.specs.Prelude.{nat_lt, nat_le, count_by, min, sum, sum_by}
use Rattle.std.specs.List.{flat_map}
use Rattle.std.specs.Ordering.{is_gt}
use Rattle.std.proofs.lemmas.Bool.{both_ways, cases_lt, cases_Bool, eq-eqb, eqb-true, ne_eqb, lt-ltb, le-ltb, ltb-true, ltb-false, le-leb}
use Rattle.std.proofs.lemmas.List.{take_min}
use Rattle.std.proofs.lemmas.List.Sums.{sum_by-cons, sum_by-append}
use Rattle.std.proofs.Math.Nat.{mod-lt}
use Rattle.hamming_model.specs.Codes.{difference, distance}
use Rattle.hamming_model.specs.History.{shard_rows}
use Rattle.hamming_model.specs.Order.{is_hit_row, is_same_hit, occurrences}
use Rattle.hamming_model.specs.Scan.{Near, answer, hit_cmp, hit_of, hits_within, in_order, placed, scan}
use Rattle.hamming_model.specs.Shards.{AreShardNumbers, AreShardScans}
use Rattle.hamming_model.specs.Stored.{AreCodeRows}
use Rattle.hamming_model.specs.declared.hit.Hit.{Hit}
use Rattle.hamming_model.proofs.OrderLemmas.{ascends_in_order, one_order, sum_of_in_order}
use Rattle.hamming_model.proofs.ScanLemmas.{scan_counted}

-- ---- counting rows shard by shard
module _ (shards : ℕ) (test : ℕ × List ℕ → Bool) where
  -- the rows of the first so many shards
  abbrev rows_below : ℕ → List (ℕ × List ℕ) → List (ℕ × List ℕ)
  rows_below n rows = filter (λ row. nat_lt (row.0 % shards) n) rows

  -- 1 where the test passes
  abbrev mark : ℕ × List ℕ → ℕ
  mark row = cond (test row) 1 0

  counted : (row : ℕ × List ℕ) (rows : List (ℕ × List ℕ)) (keep : Bool)
      → count_by test (cond keep (row ∷ rows) rows) ≡ cond keep (mark row) 0 + count_by test rows
  counted row rows true = sum_by-cons (λ each. cond (test each) 1 0) row rows
  counted row rows false = omega arith

  apart : (k n : ℕ) → n ≤ k → (k ≡ n → ⊥) → n + 1 ≤ k
  apart k n l ne = ⊎_elim (λ (less : n < k). omega (arith, less)) (λ (more : k ≤ n). absurd (ne (omega (arith, l, more)))) (cases_lt n k)

  -- below one shard more is below, or there
  below_or_there : (k n x : ℕ) → cond (nat_lt k (n + 1)) x 0 ≡ cond (nat_lt k n) x 0 + cond (k == n) x 0
  below_or_there k n x = elim (cases_Bool (nat_lt k n)) [
    | inl below ↦ (let l = ltb-true k n below in rw (below, lt-ltb k (n + 1) (omega (arith, l)), ne_eqb k n (λ e. omega (arith, l, e))) (omega arith))
    | inr not_below ↦ elim (cases_Bool (k == n)) [
      | inl there ↦ (let e = eqb-true k n there in rw (not_below, there, lt-ltb k (n + 1) (omega (arith, e))) (omega arith))
      | inr beyond ↦ (let l = ltb-false k n not_below in
          rw (not_below, beyond, le-ltb k (n + 1) (apart k n l (λ e. both_ways (k == n) beyond (eq-eqb k n e)))) (omega arith))
    ]
  ]

  count_step : (n : ℕ) (rows : List (ℕ × List ℕ))
      → count_by test (rows_below (n + 1) rows) ≡ count_by test (rows_below n rows) + count_by test (shard_rows n shards rows)
  count_step n [] = omega arith
  count_step n (row ∷ rows) =
      let k : ℕ = row.0 % shards in
      let more = counted row (rows_below (n + 1) rows) (nat_lt k (n + 1)) in
      let fewer = counted row (rows_below n rows) (nat_lt k n) in
      let there = counted row (shard_rows n shards rows) (k == n) in
      omega (arith, count_step n rows, below_or_there k n (mark row), more, fewer, there)

  count_none : (rows : List (ℕ × List ℕ)) → count_by test (rows_below 0 rows) ≡ 0
  count_none [] = refl
  count_none (row ∷ rows) =
      ap (λ keep. count_by test (cond keep (row ∷ rows_below 0 rows) (rows_below 0 rows))) (le-ltb (row.0 % shards) 0 (omega arith)) ∙ count_none rows

  all_below : 0 < shards → (rows : List (ℕ × List ℕ)) → rows_below shards rows ≡ rows
  all_below some [] = refl
  all_below some (row ∷ rows) =
      ap (λ keep. cond keep (row ∷ rows_below shards rows) (rows_below shards rows)) (lt-ltb (row.0 % shards) shards (mod-lt row.0 some))
      ∙ ap (λ rest. row ∷ rest) (all_below some rows)

  -- what items of each shard, from one on, count adds up to the count of the rows up to the last
  shard_sums : {X : Type 0} (count : X → ℕ) (first : ℕ) (items : List X) (rows : List (ℕ × List ℕ))
      → ((k : ℕ) (other : X) → k < length items → count (get_or items k other) ≡ count_by test (shard_rows (first + k) shards rows))
      → count_by test (rows_below first rows) + sum_by count items ≡ count_by test (rows_below (first + length items) rows)
  shard_sums count first [] rows each =
      let same : first ≡ first + 0 = omega arith in
      let here : count_by test (rows_below first rows) ≡ count_by test (rows_below (first + 0) rows) = ap (λ n. count_by test (rows_below n rows)) same in
      omega (arith, here)
  shard_sums count first (item ∷ items) rows each =
      let same : first ≡ first + 0 = omega arith in
      let here : count item ≡ count_by test (shard_rows first shards rows) =
      each 0 item (omega arith) ∙ ap (λ n. count_by test (shard_rows n shards rows)) (sym same) in
      let later = shard_sums count (first + 1) items rows (λ k other below.
      each (suc k) other (omega arith) ∙ ap (λ n. count_by test (shard_rows n shards rows)) (let e : first + suc k ≡ (first + 1) + k = omega arith in e)) in
      let end : (first + 1) + length items ≡ first + suc (length items) = omega arith in
      let last : count_by test (rows_below ((first + 1) + length items) rows) ≡ count_by test (rows_below (first + suc (length items)) rows) =
      ap (λ n. count_by test (rows_below n rows)) end in
      omega (arith, here, later, last, count_step first rows, sum_by-cons count item items)

  -- of all shards: the count of all rows
  pub sums_of_shards : {X : Type 0} (count : X → ℕ) (items : List X) (rows : List (ℕ × List ℕ)) → 0 < shards → length items ≡ shards
      → ((k : ℕ) (other : X) → k < shards → count (get_or items k other) ≡ count_by test (shard_rows k shards rows))
      → sum_by count items ≡ count_by test rows
  sums_of_shards count items rows some number each =
      let sums = shard_sums count 0 items rows (λ k other below.
      each k other (omega (arith, number, below)) ∙ ap (λ n. count_by test (shard_rows n shards rows)) (let e : k ≡ 0 + k = omega arith in e)) in
      let end : 0 + length items ≡ shards = omega (arith, number) in
      let all : count_by test (rows_below (0 + length items) rows) ≡ count_by test rows =
      ap (λ n. count_by test (rows_below n rows)) end ∙ ap (count_by test) (all_below some rows) in
      omega (arith, sums, all, count_none rows)

-- ---- the merge
found_in_each : (hit : Hit) (scans : List (List Hit)) → occurrences hit (flat_map (λ each. each) scans) ≡ sum_by (occurrences hit) scans
found_in_each hit [] = refl
found_in_each hit (scan ∷ scans) =
    let both = sum_by-append (λ other. cond (is_same_hit hit other) 1 0) scan (flat_map (λ each. each) scans) in
    omega (arith, both, found_in_each hit scans, sum_by-cons (occurrences hit) scan scans)

-- the scans of all shards, in order, are the scan of all rows
pub merged_is_scan : (shards : ℕ) (rows : List (ℕ × List ℕ)) (query : List ℕ) (radius : ℕ) (scans : List (List Hit))
    → AreShardScans shards rows query radius scans → in_order (flat_map (λ each. each) scans) ≡ scan rows query radius
merged_is_scan shards rows query radius scans are =
    one_order (in_order joined) (scan rows query radius) (ascends_in_order joined) (ascends_in_order (hits_within rows query radius)) (λ hit.
    sum_of_in_order _ joined ∙ found_in_each hit scans
    ∙ sums_of_shards shards (is_hit_row hit query radius) (occurrences hit) scans rows are.some are.number (λ k other below.
    ap (occurrences hit) (are.each k other below) ∙ scan_counted (shard_rows k shards rows) query radius hit)
    ∙ sym (scan_counted rows query radius hit))
  where
    joined : List Hit
    joined = flat_map (λ each. each) scans

all_counted : (rows : List (ℕ × List ℕ)) → count_by (λ row. true) rows ≡ length rows
all_counted [] = refl
all_counted (row ∷ rows) = omega (arith, sum_by-cons (λ (each : ℕ × List ℕ). 1) row rows, all_counted rows)

-- each row is of one shard
pub numbers_add_up : (shards : ℕ) (rows : List (ℕ × List ℕ)) (numbers : List ℕ) → AreShardNumbers shards rows numbers → sum numbers ≡ length rows
numbers_add_up shards rows numbers are =
    sums_of_shards shards (λ row. true) (λ number. number) numbers rows are.some are.number (λ k other below.
    are.each k other below ∙ sym (all_counted (shard_rows k shards rows)))
    ∙ all_counted rows

-- ---- the radius of all bits
distance_few : (code query : List ℕ) → distance code query ≤ length code
distance_few [] query = omega arith
distance_few (a ∷ code) [] = omega arith
distance_few (a ∷ code) (b ∷ query) = elim (cases_Bool (a == b)) [
  | inl same ↦ (let e : difference a b ≡ 0 = rw same refl in omega (arith, e, distance_few code query))
  | inr other ↦ (let e : difference a b ≡ 1 = rw other refl in omega (arith, e, distance_few code query))
]

all_within : (bits : ℕ) (rows : List (ℕ × List ℕ)) (query : List ℕ) → AreCodeRows bits rows → length (hits_within rows query bits) ≡ length rows
all_within bits [] query codes = refl
all_within bits (row ∷ rows) query codes =
    let near : nat_le (distance row.1 query) bits ≡ true = le-leb (distance row.1 query) bits (omega (arith, distance_few row.1 query, codes.0.size)) in
    ap (λ keep. length (cond keep (hit_of query row ∷ hits_within rows query bits) (hits_within rows query bits))) near
    ∙ ap suc (all_within bits rows query codes.1)

length_placed : (hit : Hit) (hits : List Hit) → length (placed hit hits) ≡ length hits + 1
length_placed hit [] = refl
length_placed hit (other ∷ hits) = go (length_placed hit hits) (is_gt (hit_cmp hit other))
  where
    go : length (placed hit hits) ≡ length hits + 1 → (after : Bool)
        → length (cond after (other ∷ placed hit hits) (hit ∷ other ∷ hits)) ≡ length (other ∷ hits) + 1
    go rest true = omega (arith, rest)
    go rest false = omega arith

length_in_order : (hits : List Hit) → length (in_order hits) ≡ length hits
length_in_order [] = refl
length_in_order (hit ∷ hits) = omega (arith, length_placed hit (in_order hits), length_in_order hits)

-- at the radius of all bits every row is a hit
pub near_has_all : (bits : ℕ) (rows : List (ℕ × List ℕ)) (query : List ℕ) → AreCodeRows bits rows → length (scan rows query bits) ≡ length rows
near_has_all bits rows query codes = length_in_order (hits_within rows query bits) ∙ all_within bits rows query codes

-- so a near answer is cut at the lesser of its number and of the rows
pub nearest : (bits number : ℕ) (rows : List (ℕ × List ℕ)) (query : List ℕ) → AreCodeRows bits rows
    → take (min number (length rows)) (scan rows query bits) ≡ answer bits rows (Near number query)
nearest bits number rows query codes =
    ap (λ n. take (min number n) (scan rows query bits)) (sym (near_has_all bits rows query codes)) ∙ take_min number (scan rows query bits)
