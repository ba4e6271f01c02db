-- Posting lists: a key looked for, an entry taken out, and the lists of all values in their buckets.
use Rattle.std.proofs.Common.{◌≡◌, ◌≢◌, ℕ, zero, suc, ◌+◌, ◌-◌, ◌/◌, ◌%◌, ◌^◌, ◌<◌, ◌≤◌, ◌==◌, inl, inr, min, true, false, List, [], ◌∷◌, ◌++◌, length, take, set, get_or, replicate, refl, sym, ap, subst, ◌∙◌, arith, eq-eqb, length-append, All, Global, Result, Ok, Err}
use Rattle.std.specs.Prelude.{OnErr, OnOk}
use Rattle.std.specs.Arc.{arc_value}
use Rattle.std.specs.declared.sync.Arc.{Arc}
use Rattle.std.specs.List.{swap_remove}
use Rattle.std.specs.List.Sorted.{IsPermutation}
use Rattle.std.proofs.lemmas.Bool.{cases_eq, ne_eqb, or_left, or_right}
use Rattle.std.proofs.lemmas.List.{get_or-map, get_or-replicate, get_or-set_same, get_or-set_other, length-map, length-set, length-replicate, map-set, take_more}
use Rattle.std.proofs.lemmas.List.Elements.{All-replicate, All-set}
use Rattle.std.proofs.lemmas.List.Folds.{list_any-append}
use Rattle.std.proofs.lemmas.List.FromFn.{fill_by_all, get_or-map-range_with_len, length-map-range_with_len}
use Rattle.std.proofs.lemmas.List.Sorted.{IsPermutation-swap_remove, length_permutation}
use Rattle.std.proofs.Math.Seq.{map-set_same}
use Rattle.posting_table.specs.Kept.{AreBuckets, buckets_of, list_in, all_lists, kept_table, with_list_in}
use Rattle.posting_table.specs.Shared.{LosesAt}
use Rattle.posting_table.specs.Tables.{Loses, Table, no_postings, has_key, key_at, posting_list, with_posting, with_list}

-- ---- a key among entries

-- a key looked for in one entry more
pub has_key-more : (entries : List (ℕ × List ℕ)) (place key : ℕ) (entry : ℕ × List ℕ) → place < length entries
    → entry ≡ get_or entries place entry → entry.0 ≢ key → has_key (take place entries) key ≡ false
    → has_key (take (place + 1) entries) key ≡ false
has_key-more entries place key entry below is other before =
    let test : (entry.0 == key) ≡ false = ne_eqb entry.0 key other in
    rw (take_more entries place entry below, ← is, list_any-append (λ (each : ℕ × List ℕ). each.0 == key) (take place entries) (entry ∷ []), before, test) refl

-- an entry of the key is found
pub has_key-at : (entries : List (ℕ × List ℕ)) (place key : ℕ) → key_at entries place key → has_key entries key ≡ true
has_key-at [] place key at = absurd (omega (arith, at.0))
has_key-at (entry ∷ entries) zero key at = or_left (entry.0 == key) (has_key entries key) (eq-eqb entry.0 key (at.1 entry))
has_key-at (entry ∷ entries) (suc place) key at =
    let below : place < length entries = omega (arith, at.0) in
    or_right (entry.0 == key) (has_key entries key) (has_key-at entries place key (below, at.1))

-- the entry of a key is taken out
pub loses : (key place : ℕ) (entries : List (ℕ × List ℕ)) (gone : ℕ × List ℕ) → key_at entries place key → gone ≡ get_or entries place gone
    → Loses key entries (swap_remove entries place gone)
loses key place entries gone at is =
    let own : gone.0 ≡ key = ap (λ (entry : ℕ × List ℕ). entry.0) is ∙ at.1 gone in
    let whole : gone ≡ (key, gone.1) = ap (λ (first : ℕ). (first, gone.1)) own in
    record {
      code = gone.1;
      others_stay =
          subst (λ (entry : ℕ × List ℕ). IsPermutation entries (entry ∷ swap_remove entries place gone)) whole
          (IsPermutation-swap_remove entries place gone at.0 is);
    }

-- whatever its key is
pub loses_at : (place : ℕ) (entries : List (ℕ × List ℕ)) (gone : ℕ × List ℕ) → gone ≡ get_or entries place gone
    → LosesAt entries (swap_remove entries place gone) place
loses_at place entries gone is = record { of = λ key at. loses key place entries gone at is }

-- a list that loses an entry is shorter
pub loses_one : (key : ℕ) (old new : List (ℕ × List ℕ)) → Loses key old new → length new ≤ length old
loses_one key old new lost =
    let one = length_permutation old ((key, lost.code) ∷ new) lost.others_stay in
    omega arith

-- ---- lists in buckets

module _ (width value : ℕ) (buckets : List (List (List (ℕ × List ℕ)))) (kept : AreBuckets width buckets) (below : value < 2 ^ width) where
  -- the bucket of a value is there
  pub bucket_there : value % 256 < length buckets
  bucket_there = let number = kept.number in omega arith

  -- and the value's list in it
  pub list_there : value / 256 < length (get_or buckets (value % 256) [])
  list_there =
      let enough = kept.enough in
      let sized : length (get_or buckets (value % 256) []) ≡ kept.each = kept.sized (value % 256) [] bucket_there in
      omega arith

  -- the list of a value is that of the table
  pub list_of_value : get_or (all_lists buckets (2 ^ width)) value [] ≡ list_in buckets value
  list_of_value = get_or-map-range_with_len (list_in buckets) 0 (2 ^ width) value value [] below (omega arith)

  module _ (list : List (ℕ × List ℕ)) where
    changed_bucket : get_or (with_list_in buckets value list) (value % 256) [] ≡ set (get_or buckets (value % 256) []) (value / 256) list
    changed_bucket = get_or-set_same buckets (value % 256) (set (get_or buckets (value % 256) []) (value / 256) list) [] bucket_there

    own_changed : list_in (with_list_in buckets value list) value ≡ list
    own_changed =
        ap (λ (bucket : List (List (ℕ × List ℕ))). get_or bucket (value / 256) []) changed_bucket
        ∙ get_or-set_same (get_or buckets (value % 256) []) (value / 256) list [] list_there

    other_same : (other : ℕ) → other ≢ value → list_in (with_list_in buckets value list) other ≡ list_in buckets other
    other_same other apart = elim (cases_eq (other % 256) (value % 256)) [
      | inr elsewhere ↦
          ap (λ (bucket : List (List (ℕ × List ℕ))). get_or bucket (other / 256) [])
          (get_or-set_other buckets (value % 256) (other % 256) (set (get_or buckets (value % 256) []) (value / 256) list) [] elsewhere)
      | inl here ↦
          let round : other / 256 ≢ value / 256 = λ same. apart (omega (arith, here, same)) in
          ap (λ (place : ℕ). get_or (get_or (with_list_in buckets value list) place []) (other / 256) []) here
          ∙ ap (λ (bucket : List (List (ℕ × List ℕ))). get_or bucket (other / 256) []) changed_bucket
          ∙ get_or-set_other (get_or buckets (value % 256) []) (value / 256) (other / 256) list [] round
          ∙ ap (λ (place : ℕ). get_or (get_or buckets place []) (other / 256) []) (sym here)
    ]

    each_changed : (other : ℕ) → other < 2 ^ width
        → get_or (set (all_lists buckets (2 ^ width)) value list) other [] ≡ list_in (with_list_in buckets value list) other
    each_changed other low = elim (cases_eq other value) [
      | inl same ↦
          let inside : value < length (all_lists buckets (2 ^ width)) = omega (arith, below, length-map-range_with_len (list_in buckets) 0 (2 ^ width)) in
          ap (λ (place : ℕ). get_or (set (all_lists buckets (2 ^ width)) value list) place []) same
          ∙ get_or-set_same (all_lists buckets (2 ^ width)) value list [] inside
          ∙ sym (ap (list_in (with_list_in buckets value list)) same ∙ own_changed)
      | inr apart ↦
          get_or-set_other (all_lists buckets (2 ^ width)) value other list [] apart
          ∙ get_or-map-range_with_len (list_in buckets) 0 (2 ^ width) other other [] low (omega arith) ∙ sym (other_same other apart)
    ]

    -- the list of one value changes the lists there
    pub lists_changed : all_lists (with_list_in buckets value list) (2 ^ width) ≡ set (all_lists buckets (2 ^ width)) value list
    lists_changed =
        let long = length-set (all_lists buckets (2 ^ width)) value list ∙ length-map-range_with_len (list_in buckets) 0 (2 ^ width) in
        sym (fill_by_all (list_in (with_list_in buckets value list)) (set (all_lists buckets (2 ^ width)) value list) (2 ^ width) [] long each_changed)

    -- and the buckets are kept
    pub kept_with_list : length list ≤ 1048576 → AreBuckets width (with_list_in buckets value list)
    kept_with_list short = record {
      some = kept.some;
      narrow = kept.narrow;
      number = length-set buckets (value % 256) (set (get_or buckets (value % 256) []) (value / 256) list) ∙ kept.number;
      each = kept.each;
      enough = kept.enough;
      sized =
          All-set (λ bucket. length bucket ≡ kept.each) buckets (value % 256) (set (get_or buckets (value % 256) []) (value / 256) list)
          (length-set (get_or buckets (value % 256) []) (value / 256) list ∙ kept.sized (value % 256) [] bucket_there) kept.sized;
      short =
          subst (λ (lists : List (List (ℕ × List ℕ))). All (λ each. length each ≤ 1048576) lists) (sym lists_changed)
          (All-set (λ each. length each ≤ 1048576) (all_lists buckets (2 ^ width)) value list short kept.short);
    }

-- ---- empty buckets

-- no list of no entries has one
none_listed : (number value : ℕ) → get_or (replicate {A = List (ℕ × List ℕ)} number []) value [] ≡ []
none_listed zero value = refl
none_listed (suc number) zero = refl
none_listed (suc number) (suc value) = none_listed number value

none_in : (number each value : ℕ) → value % 256 < number → list_in (replicate number (replicate each [])) value ≡ []
none_in number each value below =
    ap (λ (bucket : List (List (ℕ × List ℕ))). get_or bucket (value / 256) []) (get_or-replicate number (value % 256) (replicate each []) [] below)
    ∙ none_listed each (value / 256)

module _ (width number values : ℕ) (all : values ≡ 2 ^ width) (is : number ≡ min values 256) where
  abbrev each : ℕ
  each = (values + 256 - 1) / 256

  rest_below : (value : ℕ) → value < 2 ^ width → value % 256 < number
  rest_below value below = omega arith

  none_in_buckets : all_lists (replicate number (replicate each [])) (2 ^ width) ≡ replicate (2 ^ width) []
  none_in_buckets = sym (fill_by_all (list_in (replicate number (replicate each []))) (replicate (2 ^ width) []) (2 ^ width) []
      (length-replicate (2 ^ width) []) (λ value below. none_listed (2 ^ width) value ∙ sym (none_in number each value (rest_below value below))))

  module _ (shared : List (Arc (List (List (ℕ × List ℕ))) Global)) (made : buckets_of shared ≡ replicate number (replicate ((values + 256 - 1) / 256) [])) where
    -- empty buckets have empty lists
    pub none_of : kept_table width shared ≡ no_postings width
    none_of = ap (λ (lists : List (List (ℕ × List ℕ))). let t : Table = record { width = width; lists = lists } in t)
        (ap (λ (buckets : List (List (List (ℕ × List ℕ)))). all_lists buckets (2 ^ width)) made ∙ none_in_buckets)

    -- and are kept
    pub kept_none : 1 ≤ width → width ≤ 12 → AreBuckets width (buckets_of shared)
    kept_none some narrow = subst (λ (buckets : List (List (List (ℕ × List ℕ)))). AreBuckets width buckets) (sym made) (record {
      some = some;
      narrow = narrow;
      number = length-replicate number (replicate each []) ∙ omega arith;
      each = each;
      enough = omega arith;
      sized = All-replicate (λ bucket. length bucket ≡ each) number (replicate each []) (length-replicate each []);
      short =
          subst (λ (lists : List (List (ℕ × List ℕ))). All (λ list. length list ≤ 1048576) lists) (sym none_in_buckets)
          (All-replicate (λ list. length list ≤ 1048576) (2 ^ width) [] (omega arith));
    })

-- ---- a table in shared buckets

-- the bucket of a value of a table
pub record IsBucketOf (width : ℕ) (shared : List (Arc (List (List (ℕ × List ℕ))) Global)) (table : Table) (value : ℕ)
    (own : Arc (List (List (ℕ × List ℕ))) Global) : Type 0 where
  pub kept : AreBuckets width (buckets_of shared)
  pub seen : kept_table width shared ≡ table
  pub below : value < 2 ^ table.width
  pub stands : own ≡ get_or shared (value % 256) own

pub bucket_of_value : {width : ℕ} {shared : List (Arc (List (List (ℕ × List ℕ))) Global)} {table : Table} {value : ℕ}
    {own : Arc (List (List (ℕ × List ℕ))) Global} → AreBuckets width (buckets_of shared) → kept_table width shared ≡ table
    → value < 2 ^ table.width → own ≡ get_or shared (value % 256) own → IsBucketOf width shared table value own
bucket_of_value kept seen below stands = record { kept = kept; seen = seen; below = below; stands = stands }

module _ {width : ℕ} {shared : List (Arc (List (List (ℕ × List ℕ))) Global)} {table : Table} {value : ℕ} {own : Arc (List (List (ℕ × List ℕ))) Global}
    (is : IsBucketOf width shared table value own) where
  within : value < 2 ^ width
  within =
      let same : 2 ^ width ≡ 2 ^ table.width = ap (λ (t : Table). 2 ^ t.width) is.seen in
      let below = is.below in
      omega arith

  in_lists : value < length (all_lists (buckets_of shared) (2 ^ width))
  in_lists = omega (arith, within, length-map-range_with_len (list_in (buckets_of shared)) 0 (2 ^ width))

  in_shared : value % 256 < length shared
  in_shared =
      let long = length-map shared (λ bucket. arc_value bucket) in
      omega (arith, long, bucket_there width value (buckets_of shared) is.kept within)

  own_bucket : get_or (buckets_of shared) (value % 256) [] ≡ arc_value own
  own_bucket = get_or-map (λ bucket. arc_value bucket) shared (value % 256) own [] in_shared ∙ ap (λ bucket. arc_value bucket) (sym is.stands)

  -- the value's list is there
  pub in_own : value / 256 < length (arc_value own)
  in_own = omega (arith, ap length own_bucket, list_there width value (buckets_of shared) is.kept within)

  -- and is the table's
  pub own_list : get_or (arc_value own) (value / 256) [] ≡ posting_list table value
  own_list =
      ap (λ (bucket : List (List (ℕ × List ℕ))). get_or bucket (value / 256) []) (sym own_bucket)
      ∙ sym (list_of_value width value (buckets_of shared) is.kept within) ∙ ap (λ (t : Table). posting_list t value) is.seen

  -- a bucket as it is lent has it
  pub list_lent : (bucket : List (List (ℕ × List ℕ))) → bucket ≡ arc_value own → get_or bucket (value / 256) [] ≡ posting_list table value
  list_lent bucket same = ap (λ (one : List (List (ℕ × List ℕ))). get_or one (value / 256) []) same ∙ own_list

  -- it is short
  pub own_short : length (get_or (arc_value own) (value / 256) []) ≤ 1048576
  own_short =
      let inside = in_lists in
      subst (λ (list : List (ℕ × List ℕ)). length list ≤ 1048576) (sym own_list)
      (subst (λ (t : Table). length (posting_list t value) ≤ 1048576) is.seen (is.kept.short value [] inside))

  module _ (new : Arc (List (List (ℕ × List ℕ))) Global) (list : List (ℕ × List ℕ)) (changed : arc_value new ≡ set (arc_value own) (value / 256) list) where
    new_buckets : buckets_of (set shared (value % 256) new) ≡ with_list_in (buckets_of shared) value list
    new_buckets =
        map-set (λ bucket. arc_value bucket) shared (value % 256) new
        ∙ ap (set (buckets_of shared) (value % 256)) (changed ∙ ap (λ (bucket : List (List (ℕ × List ℕ))). set bucket (value / 256) list) (sym own_bucket))

    -- a bucket with another list of the value changes the table there
    pub table_changed : kept_table width (set shared (value % 256) new) ≡ with_list table value list
    table_changed =
        ap (λ (lists : List (List (ℕ × List ℕ))). let t : Table = record { width = width; lists = lists } in t)
        (ap (λ (buckets : List (List (List (ℕ × List ℕ)))). all_lists buckets (2 ^ width)) new_buckets
        ∙ lists_changed width value (buckets_of shared) is.kept within list)
        ∙ ap (λ (t : Table). with_list t value list) is.seen

    -- where the list is short it is kept
    pub kept_changed : length list ≤ 1048576 → AreBuckets width (buckets_of (set shared (value % 256) new))
    kept_changed short =
        subst (λ (buckets : List (List (List (ℕ × List ℕ)))). AreBuckets width buckets) (sym new_buckets)
        (kept_with_list width value (buckets_of shared) is.kept within list short)

    -- and the list is the value's
    pub list_changed : posting_list (kept_table width (set shared (value % 256) new)) value ≡ list
    list_changed =
        ap (λ (t : Table). posting_list t value) table_changed
        ∙ ap (λ (t : Table). posting_list (with_list t value list) value) (sym is.seen)
        ∙ get_or-set_same (all_lists (buckets_of shared) (2 ^ width)) value list [] in_lists

    -- the table is the old one with what is now the value's list
    pub only_list_changed : kept_table width (set shared (value % 256) new)
        ≡ with_list table value (posting_list (kept_table width (set shared (value % 256) new)) value)
    only_list_changed = table_changed ∙ ap (with_list table value) (sym list_changed)

    -- what is told of the list in the bucket is so of the value's
    pub list_told : (relation : List (ℕ × List ℕ) → List (ℕ × List ℕ) → Type 0) → relation (get_or (arc_value own) (value / 256) []) list
        → relation (posting_list table value) (posting_list (kept_table width (set shared (value % 256) new)) value)
    list_told relation told = rw (← own_list, list_changed) told

  module _ (new : Arc (List (List (ℕ × List ℕ))) Global) (same : arc_value new ≡ arc_value own) where
    same_buckets : buckets_of (set shared (value % 256) new) ≡ buckets_of shared
    same_buckets = map-set_same (λ bucket. arc_value bucket) shared (value % 256) new own (same ∙ ap (λ bucket. arc_value bucket) is.stands)

    -- a bucket that is as it was changes nothing
    pub table_same : kept_table width (set shared (value % 256) new) ≡ table
    table_same =
        ap (λ (buckets : List (List (List (ℕ × List ℕ)))). let t : Table = record { width = width; lists = all_lists buckets (2 ^ width) } in t) same_buckets
        ∙ is.seen

    -- and is kept
    pub kept_same : AreBuckets width (buckets_of (set shared (value % 256) new))
    kept_same = subst (λ (buckets : List (List (List (ℕ × List ℕ)))). AreBuckets width buckets) (sym same_buckets) is.kept

  -- a bucket in which an entry was added, or which is as it was
  module _ (new : Arc (List (List (ℕ × List ℕ))) Global) (entry : ℕ × List ℕ) where
    abbrev pushed : List (ℕ × List ℕ)
    pushed = get_or (arc_value own) (value / 256) [] ++ entry ∷ []

    -- adds it to the table
    pub entry_added : arc_value new ≡ set (arc_value own) (value / 256) pushed
        → kept_table width (set shared (value % 256) new) ≡ with_posting table value entry
    entry_added changed = table_changed new pushed changed ∙ ap (λ (list : List (ℕ × List ℕ)). with_list table value (list ++ entry ∷ [])) own_list

    -- and is kept
    pub pushed_kept : {E : Type 0} (result : Result (Unit {0}) E) → length (posting_list table value) < 1048576
        → OnOk result (arc_value new ≡ set (arc_value own) (value / 256) pushed) → OnErr result (arc_value new ≡ arc_value own)
        → AreBuckets width (buckets_of (set shared (value % 256) new))
    pushed_kept (Ok done) room added same =
        kept_changed new pushed added (omega (arith, length-append (get_or (arc_value own) (value / 256) []) (entry ∷ []), ap length own_list, room))
    pushed_kept (Err refused) room added same = kept_same new same
