-- The tables of one part, when a row comes or goes.
use Rattle.std.proofs.Common.{◌≡◌, ◌≢◌, ℕ, ◌+◌, ◌^◌, ◌<◌, ◌≤◌, ◌==◌, Bool, true, false, cond, List, [], ◌∷◌, ◌++◌, length, map, filter, count_by, nat_lt, sum_by, take, refl, sym, ap, subst, ◌∙◌, arith, eq-eqb, eqb-true, All}
use Rattle.std.specs.List.{AllByRecursion}
use Rattle.std.specs.List.Sorted.{IsPermutation}
use Rattle.std.proofs.lemmas.Bool.{ne_eqb, eqb-false}
use Rattle.std.proofs.lemmas.List.{get_or-set_same, get_or-set_other, length-map, map-append}
use Rattle.std.proofs.lemmas.List.Elements.{All-tail, All-from_recursion, recursion_from_All}
use Rattle.std.proofs.lemmas.List.Sorted.{All-permutation, IsPermutation-sym, sum_by-IsPermutation}
use Rattle.std.proofs.lemmas.List.Sums.{sum_by-cons, sum_by-append}
use Rattle.hamming_model.specs.Codes.{StandsFor, IsCode}
use Rattle.hamming_model.specs.Layouts.{part_count, part_distance, part_value}
use Rattle.hamming_model.specs.Stored.{AreCodeRows}
use Rattle.ball_walk.specs.Balls.{is_near}
use Rattle.part_layout.specs.Laid.{part_at}
use Rattle.posting_table.specs.Tables.{Table, LosesEntry, has_key, posting_list, with_posting, with_list}
use Rattle.count_table.specs.Copies.{copies_at, table_of, with_one, without_one}
use Rattle.search_model.specs.Reading.{HasSame, rows_with, unpadded}
use Rattle.search_model.proofs.PostingLemmas.{near_at_part, value_below}
use Rattle.search_model.proofs.SameLemmas.{same_length, sum_agrees, sum_map}
use Rattle.shard_version.specs.Contents.{Contents}
use Rattle.shard_version.specs.Tables.{ArePostings, AreStored, counts_of, part_values}
use Rattle.shard_version.specs.Kept.{next_with}
use Rattle.shard_version.proofs.PlaceLemmas.{all_append, all_weaker}
use Rattle.shard_version.proofs.SumLemmas.{sum_with, of_key, none_of_key, lacks_key, holds_key, same_without}

all_filter : {X : Type 0} (P : X → Type 0) (test : X → Bool) (xs : List X) → AllByRecursion P xs → AllByRecursion P (filter test xs)
all_filter P test [] all = tt
all_filter P test (x ∷ xs) all = go (test x) (all_filter P test xs all.1)
  where
    go : (keep : Bool) → AllByRecursion P (filter test xs) → AllByRecursion P (cond keep (x ∷ filter test xs) (filter test xs))
    go true rest = (all.0, rest)
    go false rest = rest

-- what is true of each element is so of those that stay
all_left : {X : Type 0} (P : X → Type 0) (xs ys : List X) (x : X) → IsPermutation xs (x ∷ ys) → AllByRecursion P xs → AllByRecursion P ys
all_left P xs ys x stay all =
    recursion_from_All P ys (All-tail P x ys (All-permutation P xs (x ∷ ys) stay (All-from_recursion P xs all)))

-- a test lets through no more than all
pub filter_short : {X : Type 0} (test : X → Bool) (xs : List X) → length (filter test xs) ≤ length xs
filter_short test [] = omega arith
filter_short test (x ∷ xs) = go (test x) (filter_short test xs)
  where
    go : (keep : Bool) → length (filter test xs) ≤ length xs → length (cond keep (x ∷ filter test xs) (filter test xs)) ≤ length (x ∷ xs)
    go true rest = omega arith
    go false rest = omega arith

-- the values of rows of codes at a part are below its bound
pub values_in_width : (bits : ℕ) (rows : List (ℕ × List ℕ)) (part : List ℕ) → AreCodeRows bits rows
    → All (λ value. value < 2 ^ length part) (part_values rows part)
values_in_width bits rows part codes = All-from_recursion (λ value. value < 2 ^ length part) (part_values rows part) (go rows codes)
  where
    go : (rows : List (ℕ × List ℕ)) → AreCodeRows bits rows → AllByRecursion (λ value. value < 2 ^ length part) (part_values rows part)
    go [] codes = tt
    go (row ∷ rows) codes = (value_below bits row.1 part codes.0, go rows codes.1)

-- values near the query's are of the rows near it at the part
pub near_counted : (bits units : ℕ) (rows : List (ℕ × List ℕ)) (part query : List ℕ) → AreCodeRows bits rows → IsCode bits query
    → count_by (is_near (part_value query part) units) (part_values rows part) ≡ part_count rows part query units
near_counted bits units rows part query codes is_query =
    let pv : ℕ × List ℕ → ℕ = λ row. part_value row.1 part in
    let one : ℕ → ℕ = λ value. cond (is_near (part_value query part) units value) 1 0 in
    let near : ℕ × List ℕ → ℕ = λ row. cond (nat_lt (part_distance part row.1 query) units) 1 0 in
    sum_map one pv rows ∙ sum_agrees (λ row. one (pv row)) near rows
    (all_weaker (λ row. IsCode bits row.1) (λ row. one (pv row) ≡ near row)
    (λ row code. ap (λ near. cond near 1 0) (near_at_part bits units row.1 query part code is_query)) rows codes)

-- what the laws of count tables say of a value more
abbrev pub AddsValue : Type 0
AddsValue = (width value : ℕ) (front back : List ℕ) → value < 2 ^ width → with_one (table_of width (front ++ back)) value
    ≡ table_of width (front ++ value ∷ back)

-- of a value less
abbrev pub RemovesValue : Type 0
RemovesValue = (width value : ℕ) (front back : List ℕ) → value < 2 ^ width
    → without_one (table_of width (front ++ value ∷ back)) value ≡ table_of width (front ++ back)

-- and of a value that is there
abbrev pub CountsValue : Type 0
CountsValue = (width value : ℕ) (front back : List ℕ) → value < 2 ^ width → 0 < copies_at (table_of width (front ++ value ∷ back)) value

module _ {W : ℕ} (version : Contents) (front back : List (ℕ × List ℕ)) (key : ℕ) (stored : List ℕ) (part : ℕ)
    (stands : StandsFor W version.layout.bits stored (take version.layout.bits stored)) where
  abbrev bits : ℕ
  bits = version.layout.bits

  abbrev positions : List ℕ
  positions = part_at version.layout part

  abbrev value : ℕ
  value = part_value (take version.layout.bits stored) (part_at version.layout part)

  abbrev row : ℕ × List ℕ
  row = (key, take version.layout.bits stored)

  -- the row's value is below the part's bound
  pub value_fits : part_value (take version.layout.bits stored) (part_at version.layout part) < 2 ^ length (part_at version.layout part)
  value_fits = value_below version.layout.bits (take version.layout.bits stored) (part_at version.layout part) stands.is_code

  -- the posting list of a value, of rows with one row more
  one_more : (v : ℕ) (f : ℕ × List ℕ → ℕ)
      → sum_by f (rows_with (front ++ row ∷ back) positions v)
      ≡ cond (value == v) (f row) 0 + sum_by f (rows_with (front ++ back) positions v)
  one_more v f = sum_with f (λ other. part_value other.1 positions == v) front back row

  own_more : (f : ℕ × List ℕ → ℕ) → sum_by f (rows_with (front ++ row ∷ back) positions value) ≡ f row + sum_by f (rows_with (front ++ back) positions value)
  own_more f = one_more value f ∙ ap (λ same. cond same (f row) 0 + sum_by f (rows_with (front ++ back) positions value)) (eq-eqb value value refl)

  other_more : (v : ℕ) → v ≢ value → (f : ℕ × List ℕ → ℕ)
      → sum_by f (rows_with (front ++ row ∷ back) positions v) ≡ sum_by f (rows_with (front ++ back) positions v)
  other_more v other f =
      let none : cond (value == v) (f row) 0 ≡ 0 = ap (λ same. cond same (f row) 0) (ne_eqb value v (λ (e : value ≡ v). other (sym e))) in
      omega (arith, one_more v f, none)

  module _ (table : Table) (rows_are : version.rows ≡ front ++ back) (postings : ArePostings W version part table)
      (size : length table.lists ≡ 2 ^ table.width) where
    in_lists : value < length table.lists
    in_lists =
        let fits = value_fits in
        let bound : 2 ^ table.width ≡ 2 ^ length positions = ap (λ n. 2 ^ n) postings.width in
        omega arith

    old_sums : (v : ℕ) → v < 2 ^ length positions → (f : ℕ × List ℕ → ℕ)
        → sum_by f (map (unpadded bits) (posting_list table v)) ≡ sum_by f (rows_with (front ++ back) positions v)
    old_sums v below f = (postings.lists.each v below).sums f ∙ ap (λ (rows : List (ℕ × List ℕ)). sum_by f (rows_with rows positions v)) rows_are

    new_lists : (v : ℕ) → v < 2 ^ length positions → (same : Bool) → (v == value) ≡ same
        → HasSame (map (unpadded bits) (posting_list (with_posting table value (key, stored)) v)) (rows_with (front ++ row ∷ back) positions v)
    new_lists v below false e =
        let other = eqb-false v value e in
        let here = get_or-set_other table.lists value v (posting_list table value ++ (key, stored) ∷ []) [] other in
        record { sums = λ f. ap (λ (list : List (ℕ × List ℕ)). sum_by f (map (unpadded bits) list)) here ∙ old_sums v below f ∙ sym (other_more v other f) }
    new_lists v below true e =
        let own : v ≡ value = eqb-true v value e in
        let list = posting_list table value in
        let here = get_or-set_same table.lists value (list ++ (key, stored) ∷ []) [] in_lists in
        let sums : (f : ℕ × List ℕ → ℕ)
        → sum_by f (map (unpadded bits) (posting_list (with_posting table value (key, stored)) value))
        ≡ sum_by f (rows_with (front ++ row ∷ back) positions value) = λ f. (
        let mapped = ap (λ (entries : List (ℕ × List ℕ)). sum_by f (map (unpadded bits) entries)) here
        ∙ ap (sum_by f) (map-append (unpadded bits) list ((key, stored) ∷ [])) in
        let split = sum_by-append f (map (unpadded bits) list) (row ∷ []) in
        let one = sum_by-cons f row [] in
        let before = old_sums value value_fits f in
        let after = own_more f in
        omega arith) in
        record {
          sums = λ f.
              subst
              (λ (u : ℕ). sum_by f (map (unpadded bits) (posting_list (with_posting table value (key, stored)) u))
              ≡ sum_by f (rows_with (front ++ row ∷ back) positions u)) (sym own) (sums f);
        }

    new_codes : (v : ℕ) → (same : Bool) → (v == value) ≡ same → AreStored W bits (posting_list (with_posting table value (key, stored)) v)
    new_codes v false e =
        subst (λ (list : List (ℕ × List ℕ)). AreStored W bits list)
        (sym (get_or-set_other table.lists value v (posting_list table value ++ (key, stored) ∷ []) [] (eqb-false v value e)))
        (postings.codes v)
    new_codes v true e =
        let list = posting_list table value in
        let more : AreStored W bits (list ++ (key, stored) ∷ []) = all_append
        (λ entry. StandsFor W bits entry.1 (take bits entry.1)) list ((key, stored) ∷ []) (postings.codes value) (stands, tt) in
        let own : AreStored W bits (posting_list (with_posting table value (key, stored)) value) = subst
        (λ (entries : List (ℕ × List ℕ)). AreStored W bits entries)
        (sym (get_or-set_same table.lists value (list ++ (key, stored) ∷ []) [] in_lists)) more in
        subst (λ (u : ℕ). AreStored W bits (posting_list (with_posting table value (key, stored)) u)) (sym (eqb-true v value e)) own

    -- the posting lists with the row's entry are those of the rows with the row
    pub postings_taken : ArePostings W (next_with version (front ++ (key, take version.layout.bits stored) ∷ back)) part
        (with_posting table (part_value (take version.layout.bits stored) (part_at version.layout part)) (key, stored))
    postings_taken = record {
      width = postings.width;
      lists = record { each = λ v below. new_lists v below (v == value) refl };
      codes = λ v. new_codes v (v == value) refl;
    }

    -- a key that no row has is in no posting list
    pub key_absent : AllByRecursion (λ other. other.0 ≢ key) (front ++ back)
        → has_key (posting_list table (part_value (take version.layout.bits stored) (part_at version.layout part))) key ≡ false
    key_absent apart =
        let none = none_of_key key (rows_with (front ++ back) positions value)
        (all_filter (λ other. other.0 ≢ key) (λ other. part_value other.1 positions == value) (front ++ back) apart) in
        lacks_key bits key (posting_list table value) (old_sums value value_fits (of_key key) ∙ none)

    -- a posting list is no longer than the rows
    pub list_short : length (posting_list table (part_value (take version.layout.bits stored) (part_at version.layout part))) ≤ length version.rows
    list_short =
        let lists = same_length (map (unpadded bits) (posting_list table value)) (rows_with version.rows positions value)
        (postings.lists.each value value_fits) in
        let mapped = length-map (posting_list table value) (unpadded bits) in
        let few = filter_short (λ other. part_value other.1 positions == value) version.rows in
        omega arith

  -- the counts with the row's value are those of the rows with the row
  pub counts_taken : AddsValue → version.rows ≡ front ++ back
      → with_one (counts_of version part) (part_value (take version.layout.bits stored) (part_at version.layout part))
      ≡ counts_of (next_with version (front ++ (key, take version.layout.bits stored) ∷ back)) part
  counts_taken added rows_are =
      let pv : ℕ × List ℕ → ℕ = λ other. part_value other.1 positions in
      let old : part_values version.rows positions ≡ map pv front ++ map pv back =
      ap (λ (rows : List (ℕ × List ℕ)). map pv rows) rows_are ∙ map-append pv front back in
      let new : part_values (front ++ row ∷ back) positions ≡ map pv front ++ value ∷ map pv back = map-append pv front (row ∷ back) in
      ap (λ (items : List ℕ). with_one (table_of (length positions) items) value) old ∙ added (length positions) value (map pv front) (map pv back) value_fits
      ∙ ap (λ (items : List ℕ). table_of (length positions) items) (sym new)

  -- and without it those of the rows without it
  pub counts_lost : RemovesValue → version.rows ≡ front ++ (key, take version.layout.bits stored) ∷ back
      → without_one (counts_of version part) (part_value (take version.layout.bits stored) (part_at version.layout part))
      ≡ counts_of (next_with version (front ++ back)) part
  counts_lost removed rows_are =
      let pv : ℕ × List ℕ → ℕ = λ other. part_value other.1 positions in
      let old : part_values version.rows positions ≡ map pv front ++ value ∷ map pv back =
      ap (λ (rows : List (ℕ × List ℕ)). map pv rows) rows_are ∙ map-append pv front (row ∷ back) in
      let new : part_values (front ++ back) positions ≡ map pv front ++ map pv back = map-append pv front back in
      ap (λ (items : List ℕ). without_one (table_of (length positions) items) value) old ∙ removed (length positions) value
      (map pv front) (map pv back) value_fits
      ∙ ap (λ (items : List ℕ). table_of (length positions) items) (sym new)

  -- a row's value has a copy
  pub counted_row : CountsValue → version.rows ≡ front ++ (key, take version.layout.bits stored) ∷ back
      → 0 < copies_at (counts_of version part) (part_value (take version.layout.bits stored) (part_at version.layout part))
  counted_row present rows_are =
      let pv : ℕ × List ℕ → ℕ = λ other. part_value other.1 positions in
      let old : part_values version.rows positions ≡ map pv front ++ value ∷ map pv back =
      ap (λ (rows : List (ℕ × List ℕ)). map pv rows) rows_are ∙ map-append pv front (row ∷ back) in
      subst (λ (items : List ℕ). 0 < copies_at (table_of (length positions) items) value) (sym old)
      (present (length positions) value (map pv front) (map pv back) value_fits)

  module _ (table : Table) (rows_are : version.rows ≡ front ++ (key, take version.layout.bits stored) ∷ back)
      (postings : ArePostings W version part table) (size : length table.lists ≡ 2 ^ table.width) where
    full_sums : (v : ℕ) → v < 2 ^ length positions → (f : ℕ × List ℕ → ℕ)
        → sum_by f (map (unpadded bits) (posting_list table v)) ≡ sum_by f (rows_with (front ++ row ∷ back) positions v)
    full_sums v below f = (postings.lists.each v below).sums f ∙ ap (λ (rows : List (ℕ × List ℕ)). sum_by f (rows_with rows positions v)) rows_are

    -- the key of a row is in the posting list of its value
    pub key_present : has_key (posting_list table (part_value (take version.layout.bits stored) (part_at version.layout part))) key ≡ true
    key_present =
        let counted = full_sums value value_fits (of_key key) ∙ own_more (of_key key) in
        let one : of_key key row ≡ 1 = rw (eq-eqb key key refl) refl in
        holds_key bits key (posting_list table value) (omega arith)

    module _ (new : Table) (apart : AllByRecursion (λ other. other.0 ≢ key) (front ++ back))
        (loses : LosesEntry table new (part_value (take version.layout.bits stored) (part_at version.layout part)) key)
        (others : new ≡ with_list table (part_value (take version.layout.bits stored) (part_at version.layout part))
        (posting_list new (part_value (take version.layout.bits stored) (part_at version.layout part)))) where
      other_list : (v : ℕ) → v ≢ value → posting_list new v ≡ posting_list table v
      other_list v other = ap (λ (t : Table). posting_list t v) others ∙ get_or-set_other table.lists value v (posting_list new value) [] other

      without_it : (f : ℕ × List ℕ → ℕ) → sum_by f (posting_list table value) ≡ f (key, loses.code) + sum_by f (posting_list new value)
      without_it f = sum_by-IsPermutation f ((key, loses.code) ∷ posting_list new value) (posting_list table value)
          (IsPermutation-sym _ _ loses.others_stay) ∙ sum_by-cons f (key, loses.code) (posting_list new value)

      own_list : HasSame (map (unpadded bits) (posting_list new value)) (rows_with (front ++ back) positions value)
      own_list = same_without key (unpadded bits (key, loses.code)) row (map (unpadded bits) (posting_list new value))
          (rows_with (front ++ back) positions value) refl refl
          (all_filter (λ other. other.0 ≢ key) (λ other. part_value other.1 positions == value) (front ++ back) apart)
          (λ f. (
          let counted = without_it (λ entry. f (unpadded bits entry)) in
          let before = sum_map f (unpadded bits) (posting_list table value) in
          let after = sum_map f (unpadded bits) (posting_list new value) in
          let full = full_sums value value_fits f in
          let more = own_more f in
          omega arith))

      left_lists : (v : ℕ) → v < 2 ^ length positions → (same : Bool) → (v == value) ≡ same
          → HasSame (map (unpadded bits) (posting_list new v)) (rows_with (front ++ back) positions v)
      left_lists v below true e = subst
          (λ (u : ℕ). HasSame (map (unpadded bits) (posting_list new u)) (rows_with (front ++ back) positions u))
          (sym (eqb-true v value e)) own_list
      left_lists v below false e =
          let other = eqb-false v value e in
          record {
            sums = λ f. ap (λ (list : List (ℕ × List ℕ)). sum_by f (map (unpadded bits) list)) (other_list v other)
                ∙ full_sums v below f ∙ other_more v other f;
          }

      left_codes : (v : ℕ) → (same : Bool) → (v == value) ≡ same → AreStored W bits (posting_list new v)
      left_codes v false e = subst (λ (list : List (ℕ × List ℕ)). AreStored W bits list) (sym (other_list v (eqb-false v value e))) (postings.codes v)
      left_codes v true e =
          let own : AreStored W bits (posting_list new value) =
          all_left (λ entry. StandsFor W bits entry.1 (take bits entry.1)) (posting_list table value) (posting_list new value)
          (key, loses.code) loses.others_stay (postings.codes value) in
          subst (λ (u : ℕ). AreStored W bits (posting_list new u)) (sym (eqb-true v value e)) own

      -- the posting lists without the row's entry are those of the rows without the row
      pub postings_lost : ArePostings W (next_with version (front ++ back)) part new
      postings_lost = record {
        width = ap (λ (t : Table). t.width) others ∙ postings.width;
        lists = record { each = λ v below. left_lists v below (v == value) refl };
        codes = λ v. left_codes v (v == value) refl;
      }
