-- The rows of a version in buckets that others may have too.
use Rattle.std.proofs.Common.{◌≡◌, ℕ, zero, suc, ◌+◌, ◌-◌, ◌%◌, ◌<◌, ◌≤◌, true, List, [], ◌∷◌, ◌++◌, length, set, get_or, replicate, take, refl, sym, ap, subst, ◌∙◌, arith, Global}
use Rattle.std.specs.Prelude.{None, is_some}
use Rattle.std.specs.Arc.{arc_value}
use Rattle.std.specs.declared.sync.Arc.{Arc}
use Rattle.std.specs.List.{AllByRecursion}
use Rattle.std.specs.List.Sorted.{IsStrictlySortedBy}
use Rattle.std.specs.BTreeMap.{insert_entry, is_at}
use Rattle.std.specs.Map.{keys_of, remove_entry}
use Rattle.std.specs.Ordering.{nat_cmp}
use Rattle.std.proofs.lemmas.List.{get_or-map, length-map, length-replicate, map-append, map-set, take_more}
use Rattle.std.proofs.Math.Seq.{map-set_same}
use Rattle.hamming_model.specs.History.{code_at}
use Rattle.hamming_model.proofs.RowLemmas.{length_inserted, length_removed}
use Rattle.shard_version.specs.KeptRows.{AreKeyedRows, AreRowBuckets, bucket_at, row_buckets_of, rows_in}
use Rattle.shard_version.proofs.BucketLemmas.{are_added, are_removed, code_in, rows_added, rows_removed}

-- the bucket of a key
pub record IsBucketOf (number : ℕ) (shared : List (Arc (List (ℕ × List ℕ)) Global)) (self : List (ℕ × List ℕ)) (key : ℕ)
    (own : Arc (List (ℕ × List ℕ)) Global) : Type 0 where
  pub kept : AreKeyedRows number (row_buckets_of shared)
  pub seen : rows_in (row_buckets_of shared) ≡ self
  pub stands : own ≡ get_or shared (key % 256) own

pub bucket_of_key : {number key : ℕ} {shared : List (Arc (List (ℕ × List ℕ)) Global)} {self : List (ℕ × List ℕ)}
    {own : Arc (List (ℕ × List ℕ)) Global} → AreKeyedRows number (row_buckets_of shared) → rows_in (row_buckets_of shared) ≡ self
    → own ≡ get_or shared (key % 256) own → IsBucketOf number shared self key own
bucket_of_key kept seen stands = record { kept = kept; seen = seen; stands = stands }

module _ {number : ℕ} {shared : List (Arc (List (ℕ × List ℕ)) Global)} {self : List (ℕ × List ℕ)} {key : ℕ} {own : Arc (List (ℕ × List ℕ)) Global}
    (is : IsBucketOf number shared self key own) where
  pub in_shared : key % 256 < length shared
  in_shared =
      let long = length-map shared (λ bucket. arc_value bucket) in
      let all = is.kept.each.number in
      omega arith

  own_bucket : bucket_at (row_buckets_of shared) (key % 256) ≡ arc_value own
  own_bucket = get_or-map (λ bucket. arc_value bucket) shared (key % 256) own [] in_shared ∙ ap (λ bucket. arc_value bucket) (sym is.stands)

  -- its rows ascend
  pub own_ascend : IsStrictlySortedBy nat_cmp (keys_of (arc_value own))
  own_ascend = subst (λ (rows : List (ℕ × List ℕ)). IsStrictlySortedBy nat_cmp (keys_of rows)) own_bucket (is.kept.each.ascend (key % 256) (omega arith))

  -- and have the key's code
  pub own_code : code_at (arc_value own) key ≡ code_at self key
  own_code =
      ap (λ (rows : List (ℕ × List ℕ)). code_at rows key) (sym own_bucket) ∙ sym (code_in (row_buckets_of shared) is.kept.each key)
      ∙ ap (λ (rows : List (ℕ × List ℕ)). code_at rows key) is.seen

  module _ (new : Arc (List (ℕ × List ℕ)) Global) where
    new_buckets : row_buckets_of (set shared (key % 256) new) ≡ set (row_buckets_of shared) (key % 256) (arc_value new)
    new_buckets = map-set (λ bucket. arc_value bucket) shared (key % 256) new

    -- a bucket that is as it was changes nothing
    pub kept_same : arc_value new ≡ arc_value own → AreKeyedRows number (row_buckets_of (set shared (key % 256) new))
    kept_same same =
        let all : row_buckets_of (set shared (key % 256) new) ≡ row_buckets_of shared =
        map-set_same (λ bucket. arc_value bucket) shared (key % 256) new own (same ∙ ap (λ bucket. arc_value bucket) is.stands) in
        subst (λ (buckets : List (List (ℕ × List ℕ))). AreKeyedRows number buckets) (sym all) is.kept

    module _ (code : List ℕ) (added : arc_value new ≡ insert_entry nat_cmp (arc_value own) key code) where
      with_row : row_buckets_of (set shared (key % 256) new)
          ≡ set (row_buckets_of shared) (key % 256) (insert_entry nat_cmp (bucket_at (row_buckets_of shared) (key % 256)) key code)
      with_row = new_buckets ∙ ap (set (row_buckets_of shared) (key % 256))
          (added ∙ ap (λ (rows : List (ℕ × List ℕ)). insert_entry nat_cmp rows key code) (sym own_bucket))

      -- a row put into the bucket is one more row
      pub seen_added : rows_in (row_buckets_of (set shared (key % 256) new)) ≡ insert_entry nat_cmp self key code
      seen_added = ap (λ (buckets : List (List (ℕ × List ℕ))). rows_in buckets) with_row ∙ rows_added (row_buckets_of shared) is.kept.each key code
          ∙ ap (λ (rows : List (ℕ × List ℕ)). insert_entry nat_cmp rows key code) is.seen

      pub kept_added : code_at self key ≡ None → AreKeyedRows (number + 1) (row_buckets_of (set shared (key % 256) new))
      kept_added absent = record {
        each = subst (λ (buckets : List (List (ℕ × List ℕ))). AreRowBuckets buckets) (sym with_row) (are_added (row_buckets_of shared) is.kept.each key code);
        counted =
            let long = ap (λ (rows : List (ℕ × List ℕ)). length rows) seen_added in
            let more = length_inserted self key code absent in
            let before = ap (λ (rows : List (ℕ × List ℕ)). length rows) is.seen in
            let count = is.kept.counted in
            omega arith;
      }

    module _ (removed : arc_value new ≡ remove_entry (is_at (nat_cmp key)) (arc_value own)) where
      without_row : row_buckets_of (set shared (key % 256) new)
          ≡ set (row_buckets_of shared) (key % 256)
          (remove_entry (is_at (nat_cmp key)) (bucket_at (row_buckets_of shared) (key % 256)))
      without_row = new_buckets ∙ ap (set (row_buckets_of shared) (key % 256))
          (removed ∙ ap (λ (rows : List (ℕ × List ℕ)). remove_entry (is_at (nat_cmp key)) rows) (sym own_bucket))

      -- a row taken out of it is one row less
      pub seen_removed : rows_in (row_buckets_of (set shared (key % 256) new)) ≡ remove_entry (is_at (nat_cmp key)) self
      seen_removed = ap (λ (buckets : List (List (ℕ × List ℕ))). rows_in buckets) without_row ∙ rows_removed (row_buckets_of shared) is.kept.each key
          ∙ ap (λ (rows : List (ℕ × List ℕ)). remove_entry (is_at (nat_cmp key)) rows) is.seen

      pub kept_removed : is_some (code_at self key) ≡ true → AreKeyedRows (number - 1) (row_buckets_of (set shared (key % 256) new))
      kept_removed present = record {
        each = subst (λ (buckets : List (List (ℕ × List ℕ))). AreRowBuckets buckets) (sym without_row) (are_removed (row_buckets_of shared) is.kept.each key);
        counted =
            let long = ap (λ (rows : List (ℕ × List ℕ)). length rows) seen_removed in
            let fewer = length_removed self key present in
            let before = ap (λ (rows : List (ℕ × List ℕ)). length rows) is.seen in
            let count = is.kept.counted in
            omega arith;
      }

      -- so there was one
      pub some_row : is_some (code_at self key) ≡ true → 1 ≤ number
      some_row present =
          let fewer = length_removed self key present in
          let before = ap (λ (rows : List (ℕ × List ℕ)). length rows) is.seen in
          let count = is.kept.counted in
          omega arith

-- ---- no rows

none_in : (number : ℕ) → rows_in (replicate number []) ≡ []
none_in zero = refl
none_in (suc number) = none_in number

none_at : (number at : ℕ) → bucket_at (replicate number []) at ≡ []
none_at zero at = refl
none_at (suc number) zero = refl
none_at (suc number) (suc at) = none_at number at

module _ (shared : List (Arc (List (ℕ × List ℕ)) Global)) (number : ℕ) (all : number ≡ 256) (made : row_buckets_of shared ≡ replicate number []) where
  -- empty buckets have no rows
  pub seen_none : rows_in (row_buckets_of shared) ≡ []
  seen_none = ap (λ (buckets : List (List (ℕ × List ℕ))). rows_in buckets) made ∙ none_in number

  pub kept_none : AreKeyedRows 0 (row_buckets_of shared)
  unfolding IsStrictlySortedBy
  kept_none = record {
    each = subst (λ (buckets : List (List (ℕ × List ℕ))). AreRowBuckets buckets) (sym made) (record {
      number = length-replicate number [] ∙ all;
      ascend = λ at below. subst (λ (rows : List (ℕ × List ℕ)). IsStrictlySortedBy nat_cmp (keys_of rows)) (sym (none_at number at)) tt;
      own = λ at below. subst (λ (rows : List (ℕ × List ℕ)). AllByRecursion (λ row. row.0 % 256 ≡ at) rows) (sym (none_at number at)) tt;
    });
    counted = sym (ap (λ (rows : List (ℕ × List ℕ)). length rows) seen_none);
  }

-- one bucket more is copied
pub shared_more : (xs done : List (Arc (List (ℕ × List ℕ)) Global)) (i : ℕ) (own new : Arc (List (ℕ × List ℕ)) Global) → i < length xs → own ≡ get_or xs i own
    → arc_value new ≡ arc_value own → row_buckets_of done ≡ take i (row_buckets_of xs) → row_buckets_of (done ++ new ∷ []) ≡ take (i + 1) (row_buckets_of xs)
shared_more xs done i own new below is same before =
    let long = length-map xs (λ bucket. arc_value bucket) in
    let inside : i < length (row_buckets_of xs) = omega arith in
    let item : arc_value new ≡ get_or (row_buckets_of xs) i [] =
    same ∙ ap (λ bucket. arc_value bucket) is ∙ sym (get_or-map (λ bucket. arc_value bucket) xs i own [] below) in
    rw (map-append (λ bucket. arc_value bucket) done (new ∷ []), before, take_more (row_buckets_of xs) i [] inside, item) refl
