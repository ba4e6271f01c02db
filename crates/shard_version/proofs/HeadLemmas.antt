-- The rows of least key, taken one by one from the heads of the buckets.
use Rattle.std.proofs.Common.{◌≡◌, ◌≢◌, ℕ, zero, suc, ◌+◌, ◌%◌, ◌^◌, ◌<◌, ◌≤◌, ◌==◌, inl, inr, ◌⊎◌, nat_lt, Bool, true, false, cond, List, [], ◌∷◌, ◌++◌, length, take, drop, set, get_or, replicate, refl, sym, ap, subst, ◌∙◌, arith, eq-eqb, take-append-drop, length-append, length-take, Global}
use Rattle.std.specs.Arc.{arc_value}
use Rattle.std.specs.declared.sync.Arc.{Arc}
use Rattle.std.specs.List.{AllByRecursion}
use Rattle.std.specs.List.Sorted.{IsStrictlySortedBy}
use Rattle.std.specs.Map.{keys_of}
use Rattle.std.specs.Ordering.{nat_cmp}
use Rattle.std.proofs.lemmas.Bool.{cases_eq, lt-ltb, le-ltb, ne_eqb}
use Rattle.std.proofs.lemmas.List.{get_or-map, get_or-set_same, get_or-set_other, length-replicate, length-set, take_more}
use Rattle.std.proofs.lemmas.List.Elements.{filter-append}
use Rattle.std.proofs.lemmas.List.Filters.{length-filter_more}
use Rattle.hamming_model.specs.History.{shard_rows}
use Rattle.shard_version.specs.KeptRows.{AreNone, AreRowBuckets, AreTaken, IsLeastHead, bucket_at, head_key, key_from, row_buckets_of, rows_in}
use Rattle.shard_version.proofs.PlaceLemmas.{above_first, ascend_from, drop_here}
use Rattle.shard_version.proofs.PartLemmas.{filter_short}
use Rattle.shard_version.proofs.HistoryLemmas.{all_of_shard}
use Rattle.shard_version.proofs.BucketLemmas.{bucket_of_rows, up_in}

zero_at : (number at : ℕ) → get_or (replicate {A = ℕ} number 0) at 0 ≡ 0
zero_at zero at = refl
zero_at (suc number) zero = refl
zero_at (suc number) (suc at) = zero_at number at

-- no row is taken
pub none_taken : (heads : List ℕ) (number : ℕ) → number ≡ 256 → heads ≡ replicate number 0 → AreNone heads
none_taken heads number all is = record {
  number = ap (λ (h : List ℕ). length h) is ∙ length-replicate number 0 ∙ all;
  none = λ at. rw is (zero_at number at);
}

-- a bucket as it is lent
pub bucket_seen : (shared : List (Arc (List (ℕ × List ℕ)) Global)) (at : ℕ) (own : Arc (List (ℕ × List ℕ)) Global)
    → at < length shared → own ≡ get_or shared at own
    → (lent : List (ℕ × List ℕ)) → lent ≡ arc_value own → lent ≡ bucket_at (row_buckets_of shared) at
bucket_seen shared at own below is lent same = same ∙ ap (λ bucket. arc_value bucket) is ∙ sym (get_or-map (λ bucket. arc_value bucket) shared at own [] below)

module _ (buckets : List (List (ℕ × List ℕ))) (heads : List ℕ) (at best : ℕ) (before : IsLeastHead buckets heads at best) (below : at < 256)
    (small : get_or heads at 0 < length (bucket_at buckets at) → head_key buckets heads at < 2 ^ 64) where
  small_more : (other : ℕ) → other < at + 1 → get_or heads other 0 < length (bucket_at buckets other) → head_key buckets heads other < 2 ^ 64
  small_more other low = elim (cases_eq other at) [
    | inl same ↦ subst (λ (n : ℕ). get_or heads n 0 < length (bucket_at buckets n) → head_key buckets heads n < 2 ^ 64) (sym same) small
    | inr apart ↦ before.small other (omega arith)
  ]

  -- a head that is less is the least so far
  pub better : head_key buckets heads at < head_key buckets heads best → IsLeastHead buckets heads (at + 1) at
  better less = record {
    inside = below;
    below = λ other low. elim (cases_eq other at) [
      | inl same ↦ subst (λ (n : ℕ). head_key buckets heads at ≤ head_key buckets heads n) (sym same) (omega arith)
      | inr apart ↦ let before_it = before.below other (omega arith) in omega arith
    ];
    small = small_more;
  }

  -- one that isn't leaves the least
  pub no_better : head_key buckets heads best ≤ head_key buckets heads at → IsLeastHead buckets heads (at + 1) best
  no_better more = record {
    inside = before.inside;
    below = λ other low. elim (cases_eq other at) [
      | inl same ↦ subst (λ (n : ℕ). head_key buckets heads best ≤ head_key buckets heads n) (sym same) more
      | inr apart ↦ before.below other (omega arith)
    ];
    small = small_more;
  }

pub taken_none : (rows : List (ℕ × List ℕ)) (heads : List ℕ) → AreNone heads → AreTaken rows [] heads 0
taken_none rows heads none = record { taken = refl; number = none.number; each = λ at below. none.none at }

behind : (front back : List (ℕ × List ℕ)) (row other : ℕ × List ℕ) → get_or (front ++ row ∷ back) (length front) other ≡ row
behind [] back row other = refl
behind (first ∷ front) back row other = behind front back row other

-- what follows the first so many of a list
at_behind : (front back : List (ℕ × List ℕ)) (row other : ℕ × List ℕ) (head : ℕ) → head ≡ length front → get_or (front ++ row ∷ back) head other ≡ row
at_behind front back row other head is = rw is (behind front back row other)

-- and its key
key_behind : (front back : List (ℕ × List ℕ)) (row : ℕ × List ℕ) (head : ℕ) → head ≡ length front → key_from (front ++ row ∷ back) head ≡ row.0
key_behind front back row head is =
    let less : nat_lt head (length (front ++ row ∷ back)) ≡ true =
    lt-ltb head (length (front ++ row ∷ back)) (omega (arith, is, length-append front (row ∷ back))) in
    rw less (ap (λ (one : ℕ × List ℕ). one.0) (at_behind front back row (0, []) head is))

key_past : (rows : List (ℕ × List ℕ)) (head : ℕ) → length rows ≤ head → key_from rows head ≡ 2 ^ 64
key_past rows head past = rw (le-ltb head (length rows) past) refl

module _ (buckets : List (List (ℕ × List ℕ))) (are : AreRowBuckets buckets) (count : ℕ) (within : count < length (rows_in buckets)) where
  abbrev rows : List (ℕ × List ℕ)
  rows = rows_in buckets

  abbrev row : ℕ × List ℕ
  row = get_or rows count (0, [])

  abbrev past : List (ℕ × List ℕ)
  past = drop (suc count) rows

  -- a bucket is what is taken of it, and what is left
  split : (at : ℕ) → at < 256 → bucket_at buckets at ≡ shard_rows at 256 (take count rows) ++ shard_rows at 256 (row ∷ past)
  split at below =
      sym (bucket_of_rows buckets are at below)
      ∙ ap (λ (all : List (ℕ × List ℕ)). shard_rows at 256 all) (sym (take-append-drop count rows))
      ∙ filter-append (λ (one : ℕ × List ℕ). one.0 % 256 == at) (take count rows) (drop count rows)
      ∙ ap (λ (left : List (ℕ × List ℕ)). shard_rows at 256 (take count rows) ++ shard_rows at 256 left) (drop_here count rows (0, []) within)

  -- no key that is left is below the next row's
  above : AllByRecursion (λ other. row.0 < other.0) past
  above = above_first row past
      (subst (λ (left : List (ℕ × List ℕ)). IsStrictlySortedBy nat_cmp (keys_of left)) (drop_here count rows (0, []) within)
      (ascend_from count rows (up_in buckets)))

  module _ (heads : List ℕ) (each : (at : ℕ) → at < 256 → get_or heads at 0 ≡ length (shard_rows at 256 (take count rows))) where
    -- the next row is the head of its bucket
    own_head : bucket_at buckets (row.0 % 256) ≡ shard_rows (row.0 % 256) 256 (take count rows) ++ row ∷ shard_rows (row.0 % 256) 256 past
    own_head =
        let own : (row.0 % 256 == row.0 % 256) ≡ true = eq-eqb (row.0 % 256) (row.0 % 256) refl in
        split (row.0 % 256) (omega arith)
        ∙ ap (λ (keep : Bool). shard_rows (row.0 % 256) 256 (take count rows) ++ cond keep (row ∷ shard_rows (row.0 % 256) 256 past)
        (shard_rows (row.0 % 256) 256 past)) own

    own_key : head_key buckets heads (row.0 % 256) ≡ row.0
    own_key = rw own_head (key_behind (shard_rows (row.0 % 256) 256 (take count rows)) (shard_rows (row.0 % 256) 256 past) row
        (get_or heads (row.0 % 256) 0) (each (row.0 % 256) (omega arith)))

    -- the head of another bucket is above it
    other_key : (at : ℕ) → at < 256 → at ≢ row.0 % 256 → row.0 < 2 ^ 64 → row.0 < head_key buckets heads at
    other_key at below apart small = go (shard_rows at 256 past) refl (all_of_shard (λ other. row.0 < other.0) (λ other. other.0 % 256 == at) past above)
      where
        none : (row.0 % 256 == at) ≡ false
        none = ne_eqb (row.0 % 256) at (λ (e : row.0 % 256 ≡ at). apart (sym e))

        left_is : bucket_at buckets at ≡ shard_rows at 256 (take count rows) ++ shard_rows at 256 past
        left_is = split at below
            ∙ ap (λ (keep : Bool). shard_rows at 256 (take count rows) ++ cond keep (row ∷ shard_rows at 256 past)
            (shard_rows at 256 past)) none

        go : (left : List (ℕ × List ℕ)) → shard_rows at 256 past ≡ left → AllByRecursion (λ other. row.0 < other.0) left → row.0 < head_key buckets heads at
        go [] e all =
            let whole : bucket_at buckets at ≡ shard_rows at 256 (take count rows) ++ [] =
            left_is ∙ ap (λ (l : List (ℕ × List ℕ)). shard_rows at 256 (take count rows) ++ l) e in
            let long = ap (λ (l : List (ℕ × List ℕ)). length l) whole in
            let sum = length-append (shard_rows at 256 (take count rows)) [] in
            let head = each at below in
            let key = key_past (bucket_at buckets at) (get_or heads at 0) (omega arith) in
            omega arith
        go (next ∷ left) e all =
            let whole : bucket_at buckets at ≡ shard_rows at 256 (take count rows) ++ next ∷ left =
            left_is ∙ ap (λ (l : List (ℕ × List ℕ)). shard_rows at 256 (take count rows) ++ l) e in
            let key : head_key buckets heads at ≡ next.0 =
            rw whole (key_behind (shard_rows at 256 (take count rows)) left next (get_or heads at 0) (each at below)) in
            let low = all.0 in
            omega arith

    -- no more are taken of a bucket than of all
    pub head_low : (at : ℕ) → at < 256 → get_or heads at 0 ≤ count
    head_low at below =
        omega (arith, each at below, filter_short (λ (one : ℕ × List ℕ). one.0 % 256 == at) (take count rows), length-take count rows)

    own_inside : get_or heads (row.0 % 256) 0 < length (bucket_at buckets (row.0 % 256))
    own_inside =
        let long = ap (λ (l : List (ℕ × List ℕ)). length l) own_head in
        let sum = length-append (shard_rows (row.0 % 256) 256 (take count rows)) (row ∷ shard_rows (row.0 % 256) 256 past) in
        let head = each (row.0 % 256) (omega arith) in
        omega arith

    -- so the least head is the next row's
    pub least_own : (least : ℕ) → IsLeastHead buckets heads 256 least → least ≡ row.0 % 256
    least_own least is = elim (cases_eq least (row.0 % 256)) [
      | inl same ↦ same
      | inr apart ↦ absurd (
          let own = own_key in
          let small = is.small (row.0 % 256) (omega arith) own_inside in
          let high = other_key least is.inside apart (omega arith) in
          let low = is.below (row.0 % 256) (omega arith) in
          omega arith)
    ]

    module _ (least : ℕ) (same : least ≡ row.0 % 256) where
      -- there it stands
      pub head_inside : get_or heads least 0 < length (bucket_at buckets least)
      head_inside = rw same own_inside

      pub head_row : (other : ℕ × List ℕ) → get_or (bucket_at buckets least) (get_or heads least 0) other ≡ row
      head_row other = rw (same, own_head) (at_behind (shard_rows (row.0 % 256) 256 (take count rows)) (shard_rows (row.0 % 256) 256 past) row other
          (get_or heads (row.0 % 256) 0) (each (row.0 % 256) (omega arith)))

      -- and is taken
      pub taken_more : (first : List (ℕ × List ℕ)) → AreTaken rows first heads count → (taken : ℕ × List ℕ) → taken ≡ row
          → AreTaken rows (first ++ taken ∷ []) (set heads least (get_or heads least 0 + 1)) (count + 1)
      taken_more first before taken is = record {
        taken = ap (λ (one : ℕ × List ℕ). first ++ one ∷ []) is ∙ ap (λ (l : List (ℕ × List ℕ)). l ++ row ∷ []) before.taken
            ∙ sym (take_more rows count (0, []) within);
        number = length-set heads least (get_or heads least 0 + 1) ∙ before.number;
        each = λ at below. one_more at below (cases_eq at least);
      }
        where
          counted : (at : ℕ) → length (shard_rows at 256 (take (count + 1) rows)) ≡ length (shard_rows at 256 (take count rows)) + cond (row.0 % 256 == at) 1 0
          counted at = length-filter_more (λ (one : ℕ × List ℕ). one.0 % 256 == at) rows count (0, []) within

          one_more : (at : ℕ) → at < 256 → (at ≡ least) ⊎ (at ≢ least)
              → get_or (set heads least (get_or heads least 0 + 1)) at 0 ≡ length (shard_rows at 256 (take (count + 1) rows))
          one_more at below (inl here) =
              let own : ◌≡◌ {A = ℕ} (cond (row.0 % 256 == at) 1 0) 1 = ap (λ (b : Bool). cond b 1 0) (eq-eqb (row.0 % 256) at (sym (here ∙ same))) in
              let number = before.number in
              let inside : least < length heads = omega arith in
              ap (λ (n : ℕ). get_or (set heads least (get_or heads least 0 + 1)) n 0) here ∙ get_or-set_same heads least (get_or heads least 0 + 1) 0 inside
              ∙ ap (λ (n : ℕ). get_or heads n 0 + 1) (sym here) ∙ omega (arith, each at below, counted at, own)
          one_more at below (inr apart) =
              let other : ◌≡◌ {A = ℕ} (cond (row.0 % 256 == at) 1 0) 0 =
              ap (λ (b : Bool). cond b 1 0) (ne_eqb (row.0 % 256) at (λ (e : row.0 % 256 ≡ at). apart (sym (same ∙ e)))) in
              get_or-set_other heads least at (get_or heads least 0 + 1) 0 apart ∙ omega (arith, each at below, counted at, other)
