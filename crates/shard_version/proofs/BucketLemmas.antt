-- Rows in buckets by the rest of their keys: the rows of all buckets are the one list that ascends.
use Rattle.std.proofs.Common.{◌≡◌, ◌≢◌, ℕ, zero, suc, ◌+◌, ◌%◌, ◌<◌, ◌==◌, inl, inr, nat_lt, Bool, true, false, cond, List, [], ◌∷◌, ◌++◌, length, take, drop, set, get_or, refl, sym, ap, subst, ◌∙◌, arith, eq-eqb, eqb-true, take-append-drop}
use Rattle.std.specs.Prelude.{None, Some, is_some}
use Rattle.std.specs.List.{AllByRecursion}
use Rattle.std.specs.List.Sorted.{IsStrictlySortedBy}
use Rattle.std.specs.BTreeMap.{insert_entry, is_at}
use Rattle.std.specs.Map.{keys_of, remove_entry}
use Rattle.std.specs.Ordering.{nat_cmp, is_eq, match_ordering}
use Rattle.std.specs.declared.cmp.Ordering.{Ordering}
use Rattle.std.specs.declared.cmp.Ordering.TheVariants.{Less, Equal, Greater}
use Rattle.std.proofs.lemmas.Bool.{cases_eq, ltb-true, ltb-false, ne_eqb}
use Rattle.std.proofs.lemmas.List.{get_or-set_same, get_or-set_other, length-set}
use Rattle.std.proofs.lemmas.Map.Entries.{lookup_tail}
use Rattle.hamming_model.specs.History.{code_at, shard_rows}
use Rattle.hamming_model.proofs.RowLemmas.{ascends_inserted, ascends_removed}
use Rattle.shard_version.specs.Kept.{IsPlace}
use Rattle.shard_version.specs.KeptRows.{AreRowBuckets, bucket_at, put_all, rows_in}
use Rattle.shard_version.proofs.PlaceLemmas.{above_absent, all_above, code_before, code_behind, code_split, cut_here, inserted_between, is_equal, is_greater, is_less, removed_between, stands_here, stands_nowhere}
use Rattle.shard_version.proofs.HistoryLemmas.{code_of_shard, keys_above, other_inserted, other_removed, own_inserted, own_removed}

-- ---- one bucket

module _ (rows : List (ℕ × List ℕ)) (key place : ℕ) (at : IsPlace rows key place) where
  -- a row is put in at its place
  pub placed_added : (code : List ℕ) → code_at rows key ≡ None → take place rows ++ (key, code) ∷ drop place rows ≡ insert_entry nat_cmp rows key code
  placed_added code absent =
      let above = above_absent (drop place rows) key (sym (code_split place rows key at.before) ∙ absent) at.after in
      sym (ap (λ (all : List (ℕ × List ℕ)). insert_entry nat_cmp all key code) (sym (take-append-drop place rows))
      ∙ inserted_between (take place rows) (drop place rows) key code at.before above)

  module _ (up : IsStrictlySortedBy nat_cmp (keys_of rows)) (present : is_some (code_at rows key) ≡ true) where
    -- a key that is there stands at its place
    pub placed_inside : place < length rows
    placed_inside = go (nat_lt place (length rows)) refl
      where
        go : (inside : Bool) → nat_lt place (length rows) ≡ inside → place < length rows
        go true e = ltb-true place (length rows) e
        go false e = absurd (let none = stands_nowhere rows key place at (ltb-false place (length rows) e) in cc)

    module _ (row : ℕ × List ℕ) (is : row ≡ get_or rows place row) where
      own_key : row.0 ≡ key
      own_key = eqb-true row.0 key (ap (λ (one : ℕ × List ℕ). one.0 == key) is ∙ stands_here rows key place row up at placed_inside ∙ present)

      cut : take place rows ++ (key, row.1) ∷ drop (suc place) rows ≡ rows
      cut =
          let whole : (key, row.1) ≡ get_or rows place row = ap (λ (first : ℕ). (first, row.1)) (sym own_key) ∙ is in
          ap (λ (one : ℕ × List ℕ). take place rows ++ one ∷ drop (suc place) rows) whole ∙ cut_here place rows row placed_inside

      -- its row is taken out from there
      pub placed_removed : take place rows ++ drop (suc place) rows ≡ remove_entry (is_at (nat_cmp key)) rows
      placed_removed = sym (ap (λ (all : List (ℕ × List ℕ)). remove_entry (is_at (nat_cmp key)) all) (sym cut)
          ∙ removed_between (take place rows) (drop (suc place) rows) key row.1 at.before)

      -- and has its code
      pub placed_code : code_at rows key ≡ Some row.1
      placed_code =
          let first : code_at ((key, row.1) ∷ drop (suc place) rows) key ≡ Some row.1 = rw (is_equal key key refl) refl in
          ap (λ (all : List (ℕ × List ℕ)). code_at all key) (sym cut)
          ∙ code_behind (take place rows) ((key, row.1) ∷ drop (suc place) rows) key at.before ∙ first

-- the same of rows as callers see them, and as a search finds the place
module _ (inside self : List (ℕ × List ℕ)) (seen : inside ≡ self) (key place : ℕ) (lent : List (ℕ × List ℕ)) (same : lent ≡ inside)
    (found : IsPlace lent key place) where
  at : IsPlace self key place
  at = subst (λ (rows : List (ℕ × List ℕ)). IsPlace rows key place) (same ∙ seen) found

  pub added_in_place : (code : List ℕ) → code_at self key ≡ None → take place inside ++ (key, code) ∷ drop place inside ≡ insert_entry nat_cmp self key code
  added_in_place code absent = rw seen (placed_added self key place at code absent)

  module _ (up : IsStrictlySortedBy nat_cmp (keys_of self)) (present : is_some (code_at self key) ≡ true) where
    pub inside_in_place : place < length inside
    inside_in_place = rw seen (placed_inside self key place at up present)

    pub code_in_place : (row : ℕ × List ℕ) → row ≡ get_or inside place row → code_at self key ≡ Some row.1
    code_in_place row is = placed_code self key place at up present row (rw seen at is)

    pub removed_in_place : (row : ℕ × List ℕ) → row ≡ get_or inside place row
        → take place inside ++ drop (suc place) inside ≡ remove_entry (is_at (nat_cmp key)) self
    removed_in_place row is = rw seen (placed_removed self key place at up present row (rw seen at is))

-- ---- rows that ascend are told by their codes

apart_key : (a b : ℕ) → a ≢ b → is_eq (nat_cmp a b) ≡ false
apart_key a b apart = go (nat_lt a b) refl
  where
    go : (less : Bool) → nat_lt a b ≡ less → is_eq (nat_cmp a b) ≡ false
    go true e = rw (is_less a b (ltb-true a b e)) refl
    go false e = let low = ltb-false a b e in rw (is_greater a b (omega (arith, low, apart))) refl

first_code : (row : ℕ × List ℕ) (rows : List (ℕ × List ℕ)) → code_at (row ∷ rows) row.0 ≡ Some row.1
first_code row rows = rw (is_equal row.0 row.0 refl) refl

-- a key below the first is in no row
none_below : (key : ℕ) (row : ℕ × List ℕ) (rows : List (ℕ × List ℕ)) → key < row.0 → AllByRecursion (λ y. nat_cmp row.0 y ≡ Less) (keys_of rows)
    → code_at (row ∷ rows) key ≡ None
none_below key row rows low up = code_before (row ∷ rows) key (low, keys_above key row.0 rows low (all_above row.0 rows up))

same_first : (x : ℕ × List ℕ) (xs : List (ℕ × List ℕ)) (y : ℕ × List ℕ) (ys : List (ℕ × List ℕ)) → AllByRecursion (λ k. nat_cmp x.0 k ≡ Less) (keys_of xs)
    → AllByRecursion (λ k. nat_cmp y.0 k ≡ Less) (keys_of ys) → ((key : ℕ) → code_at (x ∷ xs) key ≡ code_at (y ∷ ys) key) → x.0 ≡ y.0
same_first x xs y ys up up' same = go (nat_lt x.0 y.0) (nat_lt y.0 x.0) refl refl
  where
    go : (less more : Bool) → nat_lt x.0 y.0 ≡ less → nat_lt y.0 x.0 ≡ more → x.0 ≡ y.0
    go true more e e' = absurd (
        let none = none_below x.0 y ys (ltb-true x.0 y.0 e) up' in
        let here = first_code x xs in
        let both = same x.0 in cc)
    go false true e e' = absurd (
        let none = none_below y.0 x xs (ltb-true y.0 x.0 e') up in
        let here = first_code y ys in
        let both = same y.0 in cc)
    go false false e e' = let low = ltb-false x.0 y.0 e in let high = ltb-false y.0 x.0 e' in omega arith

same_code : (x : ℕ × List ℕ) (xs : List (ℕ × List ℕ)) (y : ℕ × List ℕ) (ys : List (ℕ × List ℕ)) → x.0 ≡ y.0
    → ((key : ℕ) → code_at (x ∷ xs) key ≡ code_at (y ∷ ys) key) → x.1 ≡ y.1
same_code x xs y ys keys same =
    let here = first_code x xs in
    let there : code_at (y ∷ ys) x.0 ≡ Some y.1 = ap (λ (key : ℕ). code_at (y ∷ ys) key) keys ∙ first_code y ys in
    let both = same x.0 in cc

same_later : (x : ℕ × List ℕ) (xs : List (ℕ × List ℕ)) (y : ℕ × List ℕ) (ys : List (ℕ × List ℕ)) → AllByRecursion (λ k. nat_cmp x.0 k ≡ Less) (keys_of xs)
    → AllByRecursion (λ k. nat_cmp y.0 k ≡ Less) (keys_of ys) → x.0 ≡ y.0 → ((key : ℕ) → code_at (x ∷ xs) key ≡ code_at (y ∷ ys) key)
    → (key : ℕ) → code_at xs key ≡ code_at ys key
same_later x xs y ys up up' keys same key = elim (cases_eq key x.0) [
  | inl here ↦
      let own : AllByRecursion (λ other. key < other.0) xs = subst (λ (n : ℕ). AllByRecursion (λ other. n < other.0) xs) (sym here) (all_above x.0 xs up) in
      let other : AllByRecursion (λ other. key < other.0) ys =
      subst (λ (n : ℕ). AllByRecursion (λ other. n < other.0) ys) (sym (here ∙ keys)) (all_above y.0 ys up') in
      code_before xs key own ∙ sym (code_before ys key other)
  | inr apart ↦
      sym (lookup_tail (is_at (nat_cmp key)) x xs (apart_key key x.0 apart)) ∙ same key
      ∙ lookup_tail (is_at (nat_cmp key)) y ys (apart_key key y.0 (λ (e : key ≡ y.0). apart (e ∙ sym keys)))
]

-- two lists that ascend and have the same codes are one
pub same_rows : (xs ys : List (ℕ × List ℕ)) → IsStrictlySortedBy nat_cmp (keys_of xs) → IsStrictlySortedBy nat_cmp (keys_of ys)
    → ((key : ℕ) → code_at xs key ≡ code_at ys key) → xs ≡ ys
unfolding IsStrictlySortedBy
same_rows [] [] up up' same = refl
same_rows [] (y ∷ ys) up up' same = absurd (let here = first_code y ys in let both = same y.0 in cc)
same_rows (x ∷ xs) [] up up' same = absurd (let here = first_code x xs in let both = same x.0 in cc)
same_rows (x ∷ xs) (y ∷ ys) up up' same =
    let keys = same_first x xs y ys up.0 up'.0 same in
    let codes = same_code x xs y ys keys same in
    ap (λ (first : ℕ). (first, x.1) ∷ xs) keys ∙ ap (λ (code : List ℕ). (y.0, code) ∷ xs) codes
    ∙ ap (λ (more : List (ℕ × List ℕ)). y ∷ more) (same_rows xs ys up.1 up'.1 (same_later x xs y ys up.0 up'.0 keys same))

-- ---- the rows of all buckets

up_put : (bucket rows : List (ℕ × List ℕ)) → IsStrictlySortedBy nat_cmp (keys_of rows) → IsStrictlySortedBy nat_cmp (keys_of (put_all bucket rows))
up_put [] rows up = up
up_put (row ∷ bucket) rows up = ascends_inserted (put_all bucket rows) row.0 row.1 (up_put bucket rows up)

-- they ascend
pub up_in : (buckets : List (List (ℕ × List ℕ))) → IsStrictlySortedBy nat_cmp (keys_of (rows_in buckets))
unfolding IsStrictlySortedBy
up_in [] = tt
up_in (bucket ∷ buckets) = up_put bucket (rows_in buckets) (up_in buckets)

module _ (at : ℕ) where
  own_put : (bucket rows : List (ℕ × List ℕ)) → AllByRecursion (λ row. row.0 % 256 ≡ at) bucket → IsStrictlySortedBy nat_cmp (keys_of rows)
      → shard_rows at 256 (put_all bucket rows) ≡ put_all bucket (shard_rows at 256 rows)
  own_put [] rows own up = refl
  own_put (row ∷ bucket) rows own up =
      own_inserted at 256 row.0 (put_all bucket rows) row.1 (eq-eqb (row.0 % 256) at own.0) (up_put bucket rows up)
      ∙ ap (λ (more : List (ℕ × List ℕ)). insert_entry nat_cmp more row.0 row.1) (own_put bucket rows own.1 up)

  other_put : (other : ℕ) → other ≢ at → (bucket rows : List (ℕ × List ℕ)) → AllByRecursion (λ row. row.0 % 256 ≡ at) bucket
      → shard_rows other 256 (put_all bucket rows) ≡ shard_rows other 256 rows
  other_put other apart [] rows own = refl
  other_put other apart (row ∷ bucket) rows own =
      other_inserted other 256 row.0 (put_all bucket rows) row.1 (ne_eqb (row.0 % 256) other (λ (e : row.0 % 256 ≡ other). apart (sym e ∙ own.0)))
      ∙ other_put other apart bucket rows own.1

-- a bucket alone is itself
put_alone : (bucket : List (ℕ × List ℕ)) → IsStrictlySortedBy nat_cmp (keys_of bucket) → put_all bucket [] ≡ bucket
unfolding IsStrictlySortedBy
put_alone [] up = refl
put_alone (row ∷ bucket) up =
    ap (λ (rows : List (ℕ × List ℕ)). insert_entry nat_cmp rows row.0 row.1) (put_alone bucket up.1)
    ∙ inserted_between [] bucket row.0 row.1 tt (all_above row.0 bucket up.0)

-- buckets of the rests from one on
record AreFrom (first : ℕ) (buckets : List (List (ℕ × List ℕ))) : Type 0 where
  ascend : (at : ℕ) → at < length buckets → IsStrictlySortedBy nat_cmp (keys_of (bucket_at buckets at))
  own : (at : ℕ) → at < length buckets → AllByRecursion (λ row. row.0 % 256 ≡ first + at) (bucket_at buckets at)

from_next : (first : ℕ) (bucket : List (ℕ × List ℕ)) (buckets : List (List (ℕ × List ℕ))) → AreFrom first (bucket ∷ buckets) → AreFrom (first + 1) buckets
from_next first bucket buckets from = record {
  ascend = λ at below. from.ascend (suc at) (omega arith);
  own = λ at below. subst (λ (n : ℕ). AllByRecursion (λ row. row.0 % 256 ≡ n) (bucket_at buckets at)) (omega arith) (from.own (suc at) (omega arith));
}

none_before : (first : ℕ) (buckets : List (List (ℕ × List ℕ))) → AreFrom first buckets → (at : ℕ) → at < first → shard_rows at 256 (rows_in buckets) ≡ []
none_before first [] from at below = refl
none_before first (bucket ∷ buckets) from at below =
    other_put (first + 0) at (omega arith) bucket (rows_in buckets) (from.own 0 (omega arith))
    ∙ none_before (first + 1) buckets (from_next first bucket buckets from) at (omega arith)

each_bucket : (first : ℕ) (buckets : List (List (ℕ × List ℕ))) → AreFrom first buckets → (at : ℕ) → at < length buckets
    → shard_rows (first + at) 256 (rows_in buckets) ≡ bucket_at buckets at
each_bucket first [] from at below = absurd (omega arith)
each_bucket first (bucket ∷ buckets) from zero below =
    own_put (first + 0) bucket (rows_in buckets) (from.own 0 (omega arith)) (up_in buckets)
    ∙ ap (λ (rows : List (ℕ × List ℕ)). put_all bucket rows) (none_before (first + 1) buckets (from_next first bucket buckets from) (first + 0) (omega arith))
    ∙ put_alone bucket (from.ascend 0 (omega arith))
each_bucket first (bucket ∷ buckets) from (suc at) below =
    other_put (first + 0) (first + suc at) (omega arith) bucket (rows_in buckets) (from.own 0 (omega arith))
    ∙ ap (λ (n : ℕ). shard_rows n 256 (rows_in buckets)) (let next : first + suc at ≡ first + 1 + at = omega arith in next)
    ∙ each_bucket (first + 1) buckets (from_next first bucket buckets from) at (omega arith)

module _ (buckets : List (List (ℕ × List ℕ))) (are : AreRowBuckets buckets) where
  -- the rows of a rest are its bucket's
  pub bucket_of_rows : (at : ℕ) → at < 256 → shard_rows at 256 (rows_in buckets) ≡ bucket_at buckets at
  bucket_of_rows at below =
      let number = are.number in
      let from : AreFrom 0 buckets = record {
        ascend = λ one low. are.ascend one (omega arith);
        own = λ one low. subst (λ (n : ℕ). AllByRecursion (λ row. row.0 % 256 ≡ n) (bucket_at buckets one)) (omega arith) (are.own one (omega arith));
      } in
      ap (λ (n : ℕ). shard_rows n 256 (rows_in buckets)) (let same : at ≡ 0 + at = omega arith in same) ∙ each_bucket 0 buckets from at (omega arith)

  -- a key's code is that in its bucket
  pub code_in : (key : ℕ) → code_at (rows_in buckets) key ≡ code_at (bucket_at buckets (key % 256)) key
  code_in key =
      sym (code_of_shard (key % 256) 256 (rows_in buckets) key refl)
      ∙ ap (λ (rows : List (ℕ × List ℕ)). code_at rows key) (bucket_of_rows (key % 256) (omega arith))

  -- rows that ascend and have the buckets' rows of each rest are theirs
  pub rows_are : (rows : List (ℕ × List ℕ)) → IsStrictlySortedBy nat_cmp (keys_of rows) → ((at : ℕ) → at < 256 → shard_rows at 256 rows ≡ bucket_at buckets at)
      → rows_in buckets ≡ rows
  rows_are rows up same = same_rows (rows_in buckets) rows (up_in buckets) up
      (λ key. code_in key ∙ ap (λ (some : List (ℕ × List ℕ)). code_at some key) (sym (same (key % 256) (omega arith)))
      ∙ code_of_shard (key % 256) 256 rows key refl)

-- ---- one bucket changed

-- the keys of rows with one more
all_inserted : (at : ℕ) (rows : List (ℕ × List ℕ)) (key : ℕ) (code : List ℕ) → key % 256 ≡ at → AllByRecursion (λ row. row.0 % 256 ≡ at) rows
    → AllByRecursion (λ row. row.0 % 256 ≡ at) (insert_entry nat_cmp rows key code)
all_inserted at [] key code own all = (own, tt)
all_inserted at (row ∷ rows) key code own all = go (nat_cmp key row.0) (all_inserted at rows key code own all.1)
  where
    go : (o : Ordering) → AllByRecursion (λ row. row.0 % 256 ≡ at) (insert_entry nat_cmp rows key code)
        → AllByRecursion (λ row. row.0 % 256 ≡ at)
        (match_ordering o ((key, code) ∷ row ∷ rows) ((row.0, code) ∷ rows) (row ∷ insert_entry nat_cmp rows key code))
    go Less rest = (own, all)
    go Equal rest = all
    go Greater rest = (all.0, rest)

-- and with one less
all_removed : (at : ℕ) (rows : List (ℕ × List ℕ)) (test : ℕ → Bool) → AllByRecursion (λ row. row.0 % 256 ≡ at) rows
    → AllByRecursion (λ row. row.0 % 256 ≡ at) (remove_entry test rows)
all_removed at [] test all = tt
all_removed at (row ∷ rows) test all = go (test row.0) (all_removed at rows test all.1)
  where
    go : (here : Bool) → AllByRecursion (λ row. row.0 % 256 ≡ at) (remove_entry test rows)
        → AllByRecursion (λ row. row.0 % 256 ≡ at) (cond here rows (row ∷ remove_entry test rows))
    go true rest = all.1
    go false rest = (all.0, rest)

module _ (buckets : List (List (ℕ × List ℕ))) (are : AreRowBuckets buckets) (key : ℕ) where
  bucket_there : key % 256 < length buckets
  bucket_there = let number = are.number in omega arith

  changed_here : (new : List (ℕ × List ℕ)) (at : ℕ) → at ≡ key % 256 → bucket_at (set buckets (key % 256) new) at ≡ new
  changed_here new at same = ap (λ (n : ℕ). bucket_at (set buckets (key % 256) new) n) same ∙ get_or-set_same buckets (key % 256) new [] bucket_there

  changed_not : (new : List (ℕ × List ℕ)) (at : ℕ) → at ≢ key % 256 → bucket_at (set buckets (key % 256) new) at ≡ bucket_at buckets at
  changed_not new at apart = get_or-set_other buckets (key % 256) at new [] apart

  -- buckets of which one has other rows of its rest
  pub are_changed : (new : List (ℕ × List ℕ)) → IsStrictlySortedBy nat_cmp (keys_of new) → AllByRecursion (λ row. row.0 % 256 ≡ key % 256) new
      → AreRowBuckets (set buckets (key % 256) new)
  are_changed new up own = record {
    number = length-set buckets (key % 256) new ∙ are.number;
    ascend = λ at below. elim (cases_eq at (key % 256)) [
      | inl same ↦ subst (λ (rows : List (ℕ × List ℕ)). IsStrictlySortedBy nat_cmp (keys_of rows)) (sym (changed_here new at same)) up
      | inr apart ↦ subst (λ (rows : List (ℕ × List ℕ)). IsStrictlySortedBy nat_cmp (keys_of rows)) (sym (changed_not new at apart)) (are.ascend at below)
    ];
    own = λ at below. elim (cases_eq at (key % 256)) [
      | inl same ↦ subst (λ (rows : List (ℕ × List ℕ)). AllByRecursion (λ row. row.0 % 256 ≡ at) rows) (sym (changed_here new at same))
          (subst (λ (n : ℕ). AllByRecursion (λ row. row.0 % 256 ≡ n) new) (sym same) own)
      | inr apart ↦ subst (λ (rows : List (ℕ × List ℕ)). AllByRecursion (λ row. row.0 % 256 ≡ at) rows) (sym (changed_not new at apart)) (are.own at below)
    ];
  }

  abbrev own_rows : List (ℕ × List ℕ)
  own_rows = bucket_at buckets (key % 256)

  own_up : IsStrictlySortedBy nat_cmp (keys_of own_rows)
  own_up = are.ascend (key % 256) (omega arith)

  own_keys : AllByRecursion (λ row. row.0 % 256 ≡ key % 256) own_rows
  own_keys = are.own (key % 256) (omega arith)

  module _ (code : List ℕ) where
    -- a row put into its bucket is put among the rows
    pub are_added : AreRowBuckets (set buckets (key % 256) (insert_entry nat_cmp (bucket_at buckets (key % 256)) key code))
    are_added = are_changed (insert_entry nat_cmp own_rows key code) (ascends_inserted own_rows key code own_up)
        (all_inserted (key % 256) own_rows key code refl own_keys)

    pub rows_added : rows_in (set buckets (key % 256) (insert_entry nat_cmp (bucket_at buckets (key % 256)) key code))
        ≡ insert_entry nat_cmp (rows_in buckets) key code
    rows_added = rows_are (set buckets (key % 256) (insert_entry nat_cmp own_rows key code)) are_added (insert_entry nat_cmp (rows_in buckets) key code)
        (ascends_inserted (rows_in buckets) key code (up_in buckets)) (λ at below. elim (cases_eq at (key % 256)) [
          | inl same ↦
              own_inserted at 256 key (rows_in buckets) code (eq-eqb (key % 256) at (sym same)) (up_in buckets)
              ∙ ap (λ (rows : List (ℕ × List ℕ)). insert_entry nat_cmp rows key code)
              (bucket_of_rows buckets are at below ∙ ap (λ (n : ℕ). bucket_at buckets n) same)
              ∙ sym (changed_here (insert_entry nat_cmp own_rows key code) at same)
          | inr apart ↦
              other_inserted at 256 key (rows_in buckets) code (ne_eqb (key % 256) at (λ (e : key % 256 ≡ at). apart (sym e)))
              ∙ bucket_of_rows buckets are at below ∙ sym (changed_not (insert_entry nat_cmp own_rows key code) at apart)
        ])

  -- a row taken out of its bucket is taken out of the rows
  pub are_removed : AreRowBuckets (set buckets (key % 256) (remove_entry (is_at (nat_cmp key)) (bucket_at buckets (key % 256))))
  are_removed = are_changed (remove_entry (is_at (nat_cmp key)) own_rows) (ascends_removed own_rows key own_up)
      (all_removed (key % 256) own_rows (is_at (nat_cmp key)) own_keys)

  pub rows_removed : rows_in (set buckets (key % 256) (remove_entry (is_at (nat_cmp key)) (bucket_at buckets (key % 256))))
      ≡ remove_entry (is_at (nat_cmp key)) (rows_in buckets)
  rows_removed = rows_are (set buckets (key % 256) (remove_entry (is_at (nat_cmp key)) own_rows)) are_removed
      (remove_entry (is_at (nat_cmp key)) (rows_in buckets))
      (ascends_removed (rows_in buckets) key (up_in buckets)) (λ at below. elim (cases_eq at (key % 256)) [
        | inl same ↦
            own_removed at 256 key (rows_in buckets) (eq-eqb (key % 256) at (sym same))
            ∙ ap (λ (rows : List (ℕ × List ℕ)). remove_entry (is_at (nat_cmp key)) rows)
            (bucket_of_rows buckets are at below ∙ ap (λ (n : ℕ). bucket_at buckets n) same)
            ∙ sym (changed_here (remove_entry (is_at (nat_cmp key)) own_rows) at same)
        | inr apart ↦
            other_removed at 256 key (rows_in buckets) (ne_eqb (key % 256) at (λ (e : key % 256 ≡ at). apart (sym e)))
            ∙ bucket_of_rows buckets are at below ∙ sym (changed_not (remove_entry (is_at (nat_cmp key)) own_rows) at apart)
      ])
