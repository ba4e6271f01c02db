-- Rows: what entries make of them, and rows whose codes are kept with zeros after them.
use Rattle.std.proofs.Common.{◌≡◌, ℕ, ◌+◌, ◌-◌, List, [], ◌∷◌, ◌++◌, length, replicate, map, refl, sym, ap, ◌∙◌, arith, true, false, Bool, cond}
use Rattle.std.specs.Prelude.{nat_le, filter, None, Some, is_some, option_map}
use Rattle.std.specs.List.{AllByRecursion}
use Rattle.std.specs.declared.cmp.Ordering.{Ordering}
use Rattle.std.specs.declared.cmp.Ordering.TheVariants.{Less, Equal, Greater}
use Rattle.std.specs.List.Sorted.{IsStrictlySortedBy}
use Rattle.std.specs.Ordering.{nat_cmp, is_eq, match_ordering, ordering_reverse}
use Rattle.std.specs.BTreeMap.{insert_entry, is_at}
use Rattle.std.specs.Map.{keys_of, remove_entry}
use Rattle.std.proofs.lemmas.Cmp.{nat_cmp_total}
use Rattle.std.proofs.lemmas.Bool.{eq-eqb}
use Rattle.hamming_model.specs.declared.hit.Hit.{Hit}
use Rattle.hamming_model.specs.Codes.{IsCode, difference, distance, padded}
use Rattle.hamming_model.specs.Scan.{hit_of, in_order, scan}
use Rattle.hamming_model.specs.History.{Operation, JournalEntry, Add, Delete, code_at, changed, rows_from, rows_of}
use Rattle.hamming_model.specs.Stored.{stored_rows, AreCodeRows, AddsCode, AreCodes}

-- ---- distances of padded codes
distance_itself : (code : List ℕ) → distance code code ≡ 0
distance_itself [] = refl
distance_itself (bit ∷ code) =
    let none : difference bit bit ≡ 0 = rw (eq-eqb bit bit refl) in
    omega (arith, distance_itself code)

distance_joined : (a b z : List ℕ) → length a ≡ length b → distance (a ++ z) (b ++ z) ≡ distance a b
distance_joined [] [] z same = distance_itself z
distance_joined [] (y ∷ b) z same = absurd (omega arith)
distance_joined (x ∷ a) [] z same = absurd (omega arith)
distance_joined (x ∷ a) (y ∷ b) z same = ap (λ n. difference x y + n) (distance_joined a b z (omega arith))

-- padding keeps the distance of codes of one length
pub distance_of_padded : (positions : ℕ) (a b : List ℕ) → length a ≡ length b → distance (padded positions a) (padded positions b) ≡ distance a b
distance_of_padded positions a b same = rw same (distance_joined a b (replicate (positions - length b) 0) same)

-- ---- stored rows
same_hits : (positions : ℕ) (rows : List (ℕ × List ℕ)) (query : List ℕ) → AllByRecursion (λ row. length row.1 ≡ length query) rows
    → map (hit_of (padded positions query)) (stored_rows positions rows) ≡ map (hit_of query) rows
same_hits positions [] query same = refl
same_hits positions (row ∷ rows) query same =
    ap (λ (n : ℕ). let hit : Hit = record { dist = n; key = row.0 } in hit ∷ map (hit_of (padded positions query))
    (stored_rows positions rows)) (distance_of_padded positions row.1 query same.0)
    ∙ ap (λ hits. hit_of query row ∷ hits) (same_hits positions rows query same.1)

-- a scan of stored rows is a scan of the rows, where the codes have the query's length
pub scan_of_stored_rows : (positions : ℕ) (rows : List (ℕ × List ℕ)) (query : List ℕ) (radius : ℕ)
    → AllByRecursion (λ row. length row.1 ≡ length query) rows
    → scan (stored_rows positions rows) (padded positions query) radius ≡ scan rows query radius
scan_of_stored_rows positions rows query radius same = ap (λ hits. in_order (filter (λ hit. nat_le hit.dist radius) hits)) (same_hits positions rows query same)

code_lengths : (bits : ℕ) (rows : List (ℕ × List ℕ)) (query : List ℕ) → AreCodeRows bits rows → length query ≡ bits
    → AllByRecursion (λ row. length row.1 ≡ length query) rows
code_lengths bits [] query codes same = tt
code_lengths bits (row ∷ rows) query codes same = (codes.0.size ∙ sym same, code_lengths bits rows query codes.1 same)

-- the same of rows of codes
pub scan_of_stored_codes : (bits positions : ℕ) (rows : List (ℕ × List ℕ)) (query : List ℕ) (radius : ℕ) → AreCodeRows bits rows
    → IsCode bits query → scan (stored_rows positions rows) (padded positions query) radius ≡ scan rows query radius
scan_of_stored_codes bits positions rows query radius codes code =
    scan_of_stored_rows positions rows query radius (code_lengths bits rows query codes code.size)

-- the code of a key in stored rows
pub code_at_stored : (positions : ℕ) (rows : List (ℕ × List ℕ)) (key : ℕ)
    → code_at (stored_rows positions rows) key ≡ option_map (padded positions) (code_at rows key)
code_at_stored positions [] key = refl
code_at_stored positions (row ∷ rows) key = go (code_at_stored positions rows key) (is_at (nat_cmp key) row.0)
  where
    go : code_at (stored_rows positions rows) key ≡ option_map (padded positions) (code_at rows key) → (b : Bool)
        → cond b (Some (padded positions row.1)) (code_at (stored_rows positions rows) key)
        ≡ option_map (padded positions) (cond b (Some row.1) (code_at rows key))
    go rest true = refl
    go rest false = rest

-- a row added to stored rows
pub insert_stored : (positions : ℕ) (rows : List (ℕ × List ℕ)) (key : ℕ) (code : List ℕ)
    → insert_entry nat_cmp (stored_rows positions rows) key (padded positions code)
    ≡ stored_rows positions (insert_entry nat_cmp rows key code)
insert_stored positions [] key code = refl
insert_stored positions (row ∷ rows) key code = go (insert_stored positions rows key code) (nat_cmp key row.0)
  where
    go : insert_entry nat_cmp (stored_rows positions rows) key (padded positions code)
        ≡ stored_rows positions (insert_entry nat_cmp rows key code) → (o : Ordering)
        → match_ordering o ((key, padded positions code) ∷ (row.0, padded positions row.1) ∷ stored_rows positions rows)
        ((row.0, padded positions code) ∷ stored_rows positions rows) ((row.0, padded positions row.1) ∷ insert_entry nat_cmp
        (stored_rows positions rows) key (padded positions code))
        ≡ stored_rows positions (match_ordering o ((key, code) ∷ row ∷ rows) ((row.0, code) ∷ rows)
        (row ∷ insert_entry nat_cmp rows key code))
    go rest Less = refl
    go rest Equal = refl
    go rest Greater = ap (λ (more : List (ℕ × List ℕ)). (row.0, padded positions row.1) ∷ more) rest

-- a row taken from stored rows
pub remove_stored : (positions : ℕ) (rows : List (ℕ × List ℕ)) (key : ℕ)
    → remove_entry (is_at (nat_cmp key)) (stored_rows positions rows)
    ≡ stored_rows positions (remove_entry (is_at (nat_cmp key)) rows)
remove_stored positions [] key = refl
remove_stored positions (row ∷ rows) key = go (remove_stored positions rows key) (is_at (nat_cmp key) row.0)
  where
    go : remove_entry (is_at (nat_cmp key)) (stored_rows positions rows)
        ≡ stored_rows positions (remove_entry (is_at (nat_cmp key)) rows) → (b : Bool)
        → cond b (stored_rows positions rows) ((row.0, padded positions row.1) ∷ remove_entry (is_at (nat_cmp key))
        (stored_rows positions rows)) ≡ stored_rows positions (cond b rows (row ∷ remove_entry (is_at (nat_cmp key)) rows))
    go rest true = refl
    go rest false = ap (λ (more : List (ℕ × List ℕ)). (row.0, padded positions row.1) ∷ more) rest

-- ---- how many rows
-- a row with an absent key is one more
pub length_inserted : (rows : List (ℕ × List ℕ)) (key : ℕ) (code : List ℕ) → code_at rows key ≡ None
    → length (insert_entry nat_cmp rows key code) ≡ length rows + 1
length_inserted [] key code absent = refl
length_inserted (row ∷ rows) key code absent = go (length_inserted rows key code) (nat_cmp key row.0) absent
  where
    go : (code_at rows key ≡ None → length (insert_entry nat_cmp rows key code) ≡ length rows + 1) → (o : Ordering)
        → cond (is_eq o) (Some row.1) (code_at rows key) ≡ None
        → length (match_ordering o ((key, code) ∷ row ∷ rows) ((row.0, code) ∷ rows) (row ∷ insert_entry nat_cmp rows key code))
        ≡ length (row ∷ rows) + 1
    go rest Less h = omega arith
    go rest Equal h = cc
    go rest Greater h = let more = rest h in omega arith

-- a row taken is one fewer
pub length_removed : (rows : List (ℕ × List ℕ)) (key : ℕ) → is_some (code_at rows key) ≡ true
    → length (remove_entry (is_at (nat_cmp key)) rows) + 1 ≡ length rows
length_removed [] key present = cc
length_removed (row ∷ rows) key present = go (length_removed rows key) (is_at (nat_cmp key) row.0) present
  where
    go : (is_some (code_at rows key) ≡ true → length (remove_entry (is_at (nat_cmp key)) rows) + 1 ≡ length rows) → (b : Bool)
        → is_some (cond b (Some row.1) (code_at rows key)) ≡ true
        → length (cond b rows (row ∷ remove_entry (is_at (nat_cmp key)) rows)) + 1 ≡ length (row ∷ rows)
    go rest true h = omega arith
    go rest false h = let fewer = rest h in omega arith

-- ---- histories
-- the rows after more entries
pub rows_from_append : (rows : List (ℕ × List ℕ)) (history more : List JournalEntry)
    → rows_from rows (history ++ more) ≡ rows_from (rows_from rows history) more
rows_from_append rows [] more = refl
rows_from_append rows (entry ∷ history) more = rows_from_append (changed rows entry.operation) history more

-- the rows of a history with more entries
pub rows_of_append : (history more : List JournalEntry) → rows_of (history ++ more) ≡ rows_from (rows_of history) more
rows_of_append history more = rows_from_append [] history more

-- rows of codes with a code more
pub codes_inserted : (bits : ℕ) (rows : List (ℕ × List ℕ)) (key : ℕ) (code : List ℕ) → AreCodeRows bits rows → IsCode bits code
    → AreCodeRows bits (insert_entry nat_cmp rows key code)
codes_inserted bits [] key code codes one = (one, tt)
codes_inserted bits (row ∷ rows) key code codes one = go (codes_inserted bits rows key code codes.1 one) (nat_cmp key row.0)
  where
    go : AreCodeRows bits (insert_entry nat_cmp rows key code) → (o : Ordering)
        → AreCodeRows bits (match_ordering o ((key, code) ∷ row ∷ rows) ((row.0, code) ∷ rows)
        (row ∷ insert_entry nat_cmp rows key code))
    go rest Less = (one, codes)
    go rest Equal = (one, codes.1)
    go rest Greater = (codes.0, rest)

-- rows of codes with a code fewer
pub codes_removed : (bits : ℕ) (rows : List (ℕ × List ℕ)) (key : ℕ) → AreCodeRows bits rows → AreCodeRows bits (remove_entry (is_at (nat_cmp key)) rows)
codes_removed bits [] key codes = tt
codes_removed bits (row ∷ rows) key codes = go (codes_removed bits rows key codes.1) (is_at (nat_cmp key) row.0)
  where
    go : AreCodeRows bits (remove_entry (is_at (nat_cmp key)) rows) → (b : Bool)
        → AreCodeRows bits (cond b rows (row ∷ remove_entry (is_at (nat_cmp key)) rows))
    go rest true = codes.1
    go rest false = (codes.0, rest)

codes_changed : (bits : ℕ) (rows : List (ℕ × List ℕ)) (operation : Operation) → AreCodeRows bits rows → AddsCode bits operation
    → AreCodeRows bits (changed rows operation)
codes_changed bits rows (Add key code) codes adds = codes_inserted bits rows key code codes adds
codes_changed bits rows (Delete key) codes adds = codes_removed bits rows key codes

-- entries that add codes leave rows of codes
pub codes_from : (bits : ℕ) (rows : List (ℕ × List ℕ)) (entries : List JournalEntry) → AreCodeRows bits rows → AreCodes bits entries
    → AreCodeRows bits (rows_from rows entries)
codes_from bits rows [] codes adds = codes
codes_from bits rows (entry ∷ entries) codes adds =
    codes_from bits (changed rows entry.operation) entries (codes_changed bits rows entry.operation codes adds.0) adds.1

-- a history of codes leaves rows of codes
pub codes_of_history : (bits : ℕ) (history : List JournalEntry) → AreCodes bits history → AreCodeRows bits (rows_of history)
codes_of_history bits history adds = codes_from bits [] history tt adds

-- ---- the order of the keys
all_inserted : (P : ℕ → Type 0) (rows : List (ℕ × List ℕ)) (key : ℕ) (code : List ℕ) → AllByRecursion P (keys_of rows) → P key
    → AllByRecursion P (keys_of (insert_entry nat_cmp rows key code))
all_inserted P [] key code all one = (one, tt)
all_inserted P (row ∷ rows) key code all one = go (all_inserted P rows key code all.1 one) (nat_cmp key row.0)
  where
    go : AllByRecursion P (keys_of (insert_entry nat_cmp rows key code)) → (o : Ordering)
        → AllByRecursion P
        (keys_of (match_ordering o ((key, code) ∷ row ∷ rows) ((row.0, code) ∷ rows) (row ∷ insert_entry nat_cmp rows key code)))
    go rest Less = (one, all)
    go rest Equal = all
    go rest Greater = (all.0, rest)

all_removed : (P : ℕ → Type 0) (rows : List (ℕ × List ℕ)) (key : ℕ) → AllByRecursion P (keys_of rows)
    → AllByRecursion P (keys_of (remove_entry (is_at (nat_cmp key)) rows))
all_removed P [] key all = tt
all_removed P (row ∷ rows) key all = go (all_removed P rows key all.1) (is_at (nat_cmp key) row.0)
  where
    go : AllByRecursion P (keys_of (remove_entry (is_at (nat_cmp key)) rows)) → (b : Bool)
        → AllByRecursion P (keys_of (cond b rows (row ∷ remove_entry (is_at (nat_cmp key)) rows)))
    go rest true = all.1
    go rest false = (all.0, rest)

above_all : (key low : ℕ) (keys : List ℕ) → nat_cmp key low ≡ Less → AllByRecursion (λ other. nat_cmp low other ≡ Less) keys
    → AllByRecursion (λ other. nat_cmp key other ≡ Less) keys
above_all key low [] below all = tt
above_all key low (other ∷ keys) below all = (nat_cmp_total.trans key low other below all.0, above_all key low keys below all.1)

-- rows that ascend by key, with a row more
pub ascends_inserted : (rows : List (ℕ × List ℕ)) (key : ℕ) (code : List ℕ) → IsStrictlySortedBy nat_cmp (keys_of rows)
    → IsStrictlySortedBy nat_cmp (keys_of (insert_entry nat_cmp rows key code))
unfolding IsStrictlySortedBy
ascends_inserted [] key code up = (tt, tt)
ascends_inserted (row ∷ rows) key code up = go (ascends_inserted rows key code up.1) (nat_cmp key row.0) refl
  where
    go : IsStrictlySortedBy nat_cmp (keys_of (insert_entry nat_cmp rows key code)) → (o : Ordering) → nat_cmp key row.0 ≡ o
        → IsStrictlySortedBy nat_cmp
        (keys_of (match_ordering o ((key, code) ∷ row ∷ rows) ((row.0, code) ∷ rows) (row ∷ insert_entry nat_cmp rows key code)))
    go rest Less e = ((e, above_all key row.0 (keys_of rows) e up.0), up)
    go rest Equal e = up
    go rest Greater e =
        let above : nat_cmp row.0 key ≡ Less = nat_cmp_total.antisymm row.0 key ∙ ap ordering_reverse e in
        (all_inserted (λ other. nat_cmp row.0 other ≡ Less) rows key code up.0 above, rest)

-- rows that ascend by key, with a row fewer
pub ascends_removed : (rows : List (ℕ × List ℕ)) (key : ℕ) → IsStrictlySortedBy nat_cmp (keys_of rows)
    → IsStrictlySortedBy nat_cmp (keys_of (remove_entry (is_at (nat_cmp key)) rows))
unfolding IsStrictlySortedBy
ascends_removed [] key up = tt
ascends_removed (row ∷ rows) key up = go (ascends_removed rows key up.1) (is_at (nat_cmp key) row.0)
  where
    go : IsStrictlySortedBy nat_cmp (keys_of (remove_entry (is_at (nat_cmp key)) rows)) → (b : Bool)
        → IsStrictlySortedBy nat_cmp (keys_of (cond b rows (row ∷ remove_entry (is_at (nat_cmp key)) rows)))
    go rest true = up.1
    go rest false = (all_removed (λ other. nat_cmp row.0 other ≡ Less) rows key up.0, rest)

ascends_changed : (rows : List (ℕ × List ℕ)) (operation : Operation) → IsStrictlySortedBy nat_cmp (keys_of rows)
    → IsStrictlySortedBy nat_cmp (keys_of (changed rows operation))
ascends_changed rows (Add key code) up = ascends_inserted rows key code up
ascends_changed rows (Delete key) up = ascends_removed rows key up

-- entries leave rows that ascend by key
pub ascends_from : (rows : List (ℕ × List ℕ)) (entries : List JournalEntry) → IsStrictlySortedBy nat_cmp (keys_of rows)
    → IsStrictlySortedBy nat_cmp (keys_of (rows_from rows entries))
ascends_from rows [] up = up
ascends_from rows (entry ∷ entries) up = ascends_from (changed rows entry.operation) entries (ascends_changed rows entry.operation up)

-- the rows of a history ascend by key
pub rows_ascend : (history : List JournalEntry) → IsStrictlySortedBy nat_cmp (keys_of (rows_of history))
unfolding IsStrictlySortedBy
rows_ascend history = ascends_from [] history tt
