-- One part of a version that is made: its counts, and its lists row by row.
use Rattle.std.proofs.Common.{◌≡◌, ℕ, zero, suc, ◌+◌, ◌^◌, ◌<◌, ◌≤◌, ◌==◌, Bool, cond, true, false, List, [], ◌∷◌, ◌++◌, All, length}
use Rattle.std.proofs.Common.{map, filter, take, get_or, set, count_by, sum_by, refl, sym, ◌∙◌, ap, arith, subst, inl, inr}
use Rattle.std.specs.List.Sorted.{IsStrictlySortedBy}
use Rattle.std.specs.Map.{keys_of}
use Rattle.std.specs.Ordering.{nat_cmp}
use Rattle.std.proofs.lemmas.Bool.{cases_eq, ne_eqb, eq-eqb}
use Rattle.std.proofs.lemmas.List.{append-nil, get_or-map, get_or-set_other, get_or-set_same, get_or-take, length-set, length-map}
use Rattle.std.proofs.lemmas.List.{length-take-le, map-append, take_all, take_more}
use Rattle.std.proofs.lemmas.List.Elements.{All-filter, filter-append, All-from_recursion, recursion_from_All}
use Rattle.std.proofs.lemmas.List.FromFn.{get_or-map-range_with_len}
use Rattle.std.proofs.lemmas.List.Folds.{list_any_none}
use Rattle.std.proofs.lemmas.List.Sums.{sum_by-cons, sum_by_more_le, length-filter}
use Rattle.std.proofs.lemmas.Map.Keys.{below_from_sorted}
use Rattle.ball_walk.specs.Balls.{values}
use Rattle.hamming_model.specs.Codes.{StandsFor}
use Rattle.hamming_model.specs.Layouts.{part_value}
use Rattle.hamming_model.specs.Stored.{AreCodeRows}
use Rattle.search_model.specs.Reading.{unpadded, rows_with}
use Rattle.part_layout.specs.Laid.{Laid, IsValue, part_at}
use Rattle.count_table.specs.Copies.{CopyTable, table_of, total_of, with_one}
use Rattle.posting_table.specs.Reserved.{HasSpace, Reserved, entry_placed}
use Rattle.posting_table.specs.Tables.{has_key, posting_list}
use Rattle.shard_version.specs.Contents.{Contents}
use Rattle.shard_version.specs.Relaid.{IsPartTable}
use Rattle.shard_version.specs.Tables.{AreStored, part_values}
use Rattle.shard_version.proofs.PartLemmas.{AddsValue, values_in_width}
use Rattle.version_draft.specs.PartDrafts.{IsPartDraft, stored_with, tables_of}
use Rattle.version_draft.specs.declared.part_draft.PartDraft.{PartDraft}

-- the codes of the first rows
pub codes_taken : (W bits : ℕ) (rows : List (ℕ × List ℕ)) (k : ℕ) → AreStored W bits rows → AreCodeRows bits (map (unpadded bits) (take k rows))
codes_taken W bits rows zero stored = tt
codes_taken W bits [] (suc k) stored = tt
codes_taken W bits (row ∷ rows) (suc k) stored = (stored.0.is_code, codes_taken W bits rows k stored.1)

-- the value of a kept row
pub row_value : (W : ℕ) (layout : Laid) (rows : List (ℕ × List ℕ)) (k part value : ℕ) (other : ℕ × List ℕ) → k < length rows → AreStored W layout.bits rows
    → IsValue W layout (get_or rows k other).1 part value → value ≡ part_value (take layout.bits (get_or rows k other).1) (part_at layout part)
row_value W layout rows k part value other below stored valued =
    valued _ (All-from_recursion (λ (entry : ℕ × List ℕ). StandsFor W layout.bits entry.1 (take layout.bits entry.1)) rows stored k other below)

-- the values of one row more
pub values_more : (bits : ℕ) (rows : List (ℕ × List ℕ)) (k : ℕ) (part : List ℕ) (other : ℕ × List ℕ) → k < length rows
    → part_values (map (unpadded bits) (take (k + 1) rows)) part ≡ part_values (map (unpadded bits) (take k rows)) part ++ part_value (take bits
    (get_or rows k other).1) part ∷ []
values_more bits rows k part other below =
    ap (λ rs. part_values (map (unpadded bits) rs) part) (take_more rows k other below)
    ∙ ap (λ rs. part_values rs part) (map-append (unpadded bits) (take k rows) (get_or rows k other ∷ []))
    ∙ map-append (λ (row : ℕ × List ℕ). part_value row.1 part) (map (unpadded bits) (take k rows)) (unpadded bits (get_or rows k other) ∷ [])

-- the counts of one row more
pub counts_more : (adds : AddsValue) (bits : ℕ) (rows : List (ℕ × List ℕ)) (k value : ℕ) (part : List ℕ) (other : ℕ × List ℕ) (old new : CopyTable)
    → k < length rows → value < 2 ^ length part
    → value ≡ part_value (take bits (get_or rows k other).1) part → old ≡ table_of (length part) (part_values (map (unpadded bits) (take k rows)) part)
    → new ≡ with_one old value → new ≡ table_of (length part) (part_values (map (unpadded bits) (take (k + 1) rows)) part)
counts_more adds bits rows k value part other old new below small is before added =
    let front = part_values (map (unpadded bits) (take k rows)) part in
    added ∙ ap (λ t. with_one t value) (before ∙ ap (table_of (length part)) (sym (append-nil front)))
    ∙ adds (length part) value front [] small
    ∙ ap (table_of (length part)) (ap (λ v. front ++ v ∷ []) is ∙ sym (values_more bits rows k part other below))

-- how many are counted
pub counts_total : (total : (width : ℕ) (items : List ℕ) → All (λ item. item < 2 ^ width) items → total_of (table_of width items) ≡ length items)
    (W bits : ℕ) (rows : List (ℕ × List ℕ)) (k : ℕ) (part : List ℕ) (table : CopyTable) → k ≤ length rows → AreStored W bits rows
    → table ≡ table_of (length part) (part_values (map (unpadded bits) (take k rows)) part) → total_of table ≡ k
counts_total total W bits rows k part table below stored is =
    let items = part_values (map (unpadded bits) (take k rows)) part in
    let small = values_in_width bits (map (unpadded bits) (take k rows)) part (codes_taken W bits rows k stored) in
    let long = length-map (map (unpadded bits) (take k rows)) (λ (row : ℕ × List ℕ). part_value row.1 part) in
    let longer = length-map (take k rows) (unpadded bits) in
    let taken = length-take-le k rows below in
    ap total_of is ∙ total (length part) items small ∙ long ∙ longer ∙ taken

-- ---- placing a row

-- a table of a list's values has as many copies of a value as the list has items with it
pub copies_of : (width value : ℕ) (items : List ℕ) → value < 2 ^ width
    → get_or (table_of width items).copies value 0 ≡ count_by (λ item. item == value) items
unfolding table_of values
copies_of width value items below = get_or-map-range_with_len (λ v. count_by (λ item. item == v) items) 0 (2 ^ width) value value 0 below (omega arith)

-- the values of rows counted are the rows counted
count_values : (bits value : ℕ) (part : List ℕ) (rows : List (ℕ × List ℕ))
    → count_by (λ item. item == value) (part_values (map (unpadded bits) rows) part) ≡ count_by (λ (row : ℕ
    × List ℕ). part_value (take bits row.1) part == value) rows
count_values bits value part [] = refl
count_values bits value part (row ∷ rows) =
    let one = sum_by-cons (λ item. cond (item == value) 1 0) (part_value (take bits row.1) part) (part_values (map (unpadded bits) rows) part) in
    let two = sum_by-cons (λ (row : ℕ × List ℕ). cond (part_value (take bits row.1) part == value) 1 0) row rows in
    let rest = count_values bits value part rows in
    omega arith

-- the rows before one have other keys
pub keys_differ : (rows : List (ℕ × List ℕ)) (next : ℕ) (other : ℕ × List ℕ) (test : ℕ × List ℕ → Bool) → next < length rows
    → IsStrictlySortedBy nat_cmp (keys_of rows)
    → has_key (filter test (take next rows)) (get_or rows next other).0 ≡ false
keys_differ rows next other test below up =
    let long = length-map rows (λ (row : ℕ × List ℕ). row.0) in
    list_any_none (λ (entry : ℕ × List ℕ). entry.0 == (get_or rows next other).0) (filter test (take next rows))
    (All-filter test (λ (entry : ℕ × List ℕ). (entry.0 == (get_or rows next other).0) ≡ false) (take next rows)
    (λ k d short.
    let taken = length-take-le next rows (omega arith) in
    let inside : k < next = omega arith in
    let rises = below_from_sorted (keys_of rows) k next 0 up inside (omega arith) in
    let a = get_or-map (λ (row : ℕ × List ℕ). row.0) rows k d 0 (omega arith) in
    let b = get_or-map (λ (row : ℕ × List ℕ). row.0) rows next other 0 below in
    let same = ap (λ (row : ℕ × List ℕ). row.0) (get_or-take next rows k d inside) in
    ne_eqb (get_or (take next rows) k d).0 (get_or rows next other).0 (λ (e : (get_or (take next rows) k d).0 ≡ (get_or rows next other).0). omega arith)))

-- there is room for the next row
pub next_fits : {W : ℕ} (bits : ℕ) (part : List ℕ) (rows : List (ℕ × List ℕ)) (next value : ℕ) (other : ℕ × List ℕ) (draft : PartDraft W)
    → next < length rows
    → value ≡ part_value (take bits (get_or rows next other).1) part → value < 2 ^ length part → IsStrictlySortedBy nat_cmp (keys_of rows)
    → IsPartDraft bits part rows next draft → HasSpace draft.lists value (get_or rows next other).0
next_fits {W} bits part rows next value other draft below is small up are =
    let test : ℕ × List ℕ → Bool = λ row. part_value (take bits row.1) part == value in
    let placed = are.placed value in
    let number = ap length placed ∙ length-filter test (take next rows) in
    let more = sum_by_more_le (λ (row : ℕ × List ℕ). cond (test row) 1 0) rows next other below in
    let serves : test (get_or rows next other) ≡ true = eq-eqb (part_value (take bits (get_or rows next other).1) part) value (sym is) in
    let one : cond (test (get_or rows next other)) 1 0 ≡ suc zero = ap (λ b. cond b 1 0) serves in
    let room = ap (λ rs. get_or rs value 0) (are.room ∙ ap (λ (t : CopyTable). t.copies) are.counts)
    ∙ copies_of (length part) value (part_values (map (unpadded bits) rows) part) small
    ∙ count_values bits value part rows in
    record {
      in_width = subst (λ n. value < 2 ^ n) (sym are.width) small;
      space = omega arith;
      absent = ap (λ entries. has_key entries (get_or rows next other).0) placed ∙ keys_differ rows next other test below up;
    }

-- one row more with a value, or of another
kept_more : (bits : ℕ) (part : List ℕ) (rows : List (ℕ × List ℕ)) (next v : ℕ) (other : ℕ × List ℕ) → next < length rows
    → stored_with bits part v (take (next + 1) rows) ≡ stored_with bits part v (take next rows) ++ stored_with bits part v (get_or rows next other ∷ [])
kept_more bits part rows next v other below =
    ap (stored_with bits part v) (take_more rows next other below)
    ∙ filter-append (λ (row : ℕ × List ℕ). part_value (take bits row.1) part == v) (take next rows) (get_or rows next other ∷ [])

-- the next row is placed
pub row_placed : {W : ℕ} (bits : ℕ) (part : List ℕ) (rows : List (ℕ × List ℕ)) (next value : ℕ) (other : ℕ × List ℕ) (draft new : PartDraft W)
    → next < length rows
    → value ≡ part_value (take bits (get_or rows next other).1) part → value < 2 ^ length part
    → IsPartDraft bits part rows next draft → new.counts ≡ draft.counts → new.lists ≡ entry_placed draft.lists value (get_or rows next other)
    → IsPartDraft bits part rows (next + 1) new
row_placed {W} bits part rows next value other draft new below is small are same_counts is_lists =
    let row = get_or rows next other in
    let lists = draft.lists.table.lists in
    let entries = posting_list draft.lists.table value ++ row ∷ [] in
    let size = are.size in
    record {
      counts = same_counts ∙ are.counts;
      width = ap (λ (l : Reserved). l.table.width) is_lists ∙ are.width;
      size = ap (λ (l : Reserved). length l.table.lists) is_lists ∙ length-set lists value entries ∙ are.size;
      room = ap (λ (l : Reserved). l.room) is_lists ∙ are.room ∙ ap (λ (t : CopyTable). t.copies) (sym same_counts);
      placed = λ v.
          ap (λ (l : Reserved). posting_list l.table v) is_lists
          ∙ elim (cases_eq v value) [
            | inl same ↦ subst (λ n. get_or (set lists value entries) n [] ≡ stored_with bits part n (take (next + 1) rows)) (sym same)
                (get_or-set_same lists value entries [] (omega arith)
                ∙ ap (λ es. es ++ row ∷ []) (are.placed value)
                ∙ ap (λ es. stored_with bits part value (take next rows) ++ es) (sym (ap (λ b. cond b (row ∷ []) []) (eq-eqb (part_value
                (take bits row.1) part) value (sym is))))
                ∙ sym (kept_more bits part rows next value other below))
            | inr differs ↦ get_or-set_other lists value v entries [] differs ∙ are.placed v
                ∙ sym (append-nil (stored_with bits part v (take next rows)))
                ∙ ap (λ es. stored_with bits part v (take next rows) ++ es) (sym (ap (λ b. cond b (row ∷ []) []) (ne_eqb (part_value
                (take bits row.1) part) v (λ (e : part_value (take bits row.1) part ≡ v). differs (sym e ∙ sym is)))))
                ∙ sym (kept_more bits part rows next v other below)
          ];
    }

one_kept : (bits : ℕ) (row : ℕ × List ℕ) (kept plain : List (ℕ × List ℕ)) (b : Bool) → map (unpadded bits) kept ≡ plain
    → map (unpadded bits) (cond b (row ∷ kept) kept) ≡ cond b (unpadded bits row ∷ plain) plain
one_kept bits row kept plain true same = ap (λ rs. unpadded bits row ∷ rs) same
one_kept bits row kept plain false same = same

-- the rows of a value, with and without the zeros after their codes
kept_rows : (bits v : ℕ) (part : List ℕ) (rows : List (ℕ × List ℕ))
    → map (unpadded bits) (stored_with bits part v rows) ≡ rows_with (map (unpadded bits) rows) part v
kept_rows bits v part [] = refl
kept_rows bits v part (row ∷ rows) =
    one_kept bits row (stored_with bits part v rows) (rows_with (map (unpadded bits) rows) part v) (part_value (take bits row.1) part == v)
    (kept_rows bits v part rows)

-- once all rows are placed, the tables are those of the rows
pub part_done : {W : ℕ} (version : Contents) (part : ℕ) (rows : List (ℕ × List ℕ)) (draft : PartDraft W)
    → map (unpadded version.layout.bits) rows ≡ version.rows
    → AreStored W version.layout.bits rows → IsPartDraft version.layout.bits (part_at version.layout part) rows (length rows) draft
    → IsPartTable version part (tables_of draft)
part_done {W} version part rows draft same stored are =
    let bits = version.layout.bits in
    let positions = part_at version.layout part in
    let all = λ (v : ℕ). are.placed v ∙ ap (stored_with bits positions v) (take_all (length rows) rows (omega arith)) in
    record {
      postings = record {
        width = are.width;
        lists = record {
          each = λ v below. record {
            sums = λ f.
                ap (sum_by f) (ap (map (unpadded bits)) (all v) ∙ kept_rows bits v positions rows ∙ ap (λ rs. rows_with rs positions v) same);
          };
        };
        codes = λ v. subst (AreStored W bits) (sym (all v))
            (recursion_from_All (λ (entry : ℕ × List ℕ). StandsFor W bits entry.1 (take bits entry.1)) (stored_with bits positions v rows)
            (All-filter (λ (row : ℕ × List ℕ). part_value (take bits row.1) positions == v) (λ (entry : ℕ
            × List ℕ). StandsFor W bits entry.1 (take bits entry.1)) rows
            (All-from_recursion (λ (entry : ℕ × List ℕ). StandsFor W bits entry.1 (take bits entry.1)) rows stored)));
      };
      size = are.size ∙ ap (λ n. 2 ^ n) (sym are.width);
      counts = are.counts ∙ ap (λ rs. table_of (length positions) (part_values rs positions)) same;
    }
