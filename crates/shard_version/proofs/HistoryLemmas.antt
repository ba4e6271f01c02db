-- The rows of one shard change with each entry as the shard's own do.
use Rattle.std.proofs.Common.{◌≡◌, ℕ, ◌+◌, ◌%◌, ◌<◌, ◌≤◌, ◌==◌, nat_lt, Bool, true, false, cond, List, [], ◌∷◌, ◌++◌, length, filter, refl, sym, ap, subst, ◌∙◌, arith, eq-eqb, eqb-true, length-append, append_assoc}
use Rattle.std.specs.Prelude.{is_some}
use Rattle.std.specs.List.{AllByRecursion}
use Rattle.std.specs.List.Sorted.{IsStrictlySortedBy}
use Rattle.std.specs.declared.cmp.Ordering.{Ordering}
use Rattle.std.specs.declared.cmp.Ordering.TheVariants.{Less, Equal, Greater}
use Rattle.std.specs.Ordering.{nat_cmp, is_eq, match_ordering}
use Rattle.std.specs.BTreeMap.{insert_entry, is_at}
use Rattle.std.specs.Map.{keys_of, remove_entry}
use Rattle.std.proofs.lemmas.List.{append-nil}
use Rattle.std.proofs.lemmas.Map.Entries.{lookup-filter-keys}
use Rattle.hamming_model.specs.History.{Operation, JournalEntry, Add, Delete, Fits, changed, code_at, rows_from, rows_of, shard_rows}
use Rattle.hamming_model.proofs.RowLemmas.{rows_of_append, rows_ascend}
use Rattle.entry_log.specs.Meaning.{operation_key}
use Rattle.part_layout.specs.Laid.{Laid}
use Rattle.shard_version.specs.Contents.{Contents, changed_in, after_entry, empty_of}
use Rattle.shard_version.specs.Prefixes.{after_entries, prefix_of}
use Rattle.shard_version.proofs.PartLemmas.{filter_short}
use Rattle.shard_version.proofs.PlaceLemmas.{all_above, all_weaker, inserted_between, less_below}

pub same_key : (a b : ℕ) → nat_cmp a b ≡ Equal → a ≡ b
same_key a b e = go (nat_lt a b) (a == b) refl refl
  where
    go : (less same : Bool) → nat_lt a b ≡ less → (a == b) ≡ same → a ≡ b
    go less true is_less is_same = eqb-true a b is_same
    go true false is_less is_same = absurd (let less : nat_cmp a b ≡ Less = rw is_less refl in cc)
    go false false is_less is_same = absurd (let above : nat_cmp a b ≡ Greater = rw (is_less, is_same) refl in cc)

pub equal_key : (a b : ℕ) → is_eq (nat_cmp a b) ≡ true → nat_cmp a b ≡ Equal
equal_key a b e = go (nat_cmp a b) e
  where
    go : (o : Ordering) → is_eq o ≡ true → o ≡ Equal
    go Less e = cc
    go Equal e = refl
    go Greater e = cc

-- what is below all keys of rows is below those of one shard
pub all_of_shard : (P : ℕ × List ℕ → Type 0) (test : ℕ × List ℕ → Bool) (rows : List (ℕ × List ℕ)) → AllByRecursion P rows → AllByRecursion P (filter test rows)
all_of_shard P test [] all = tt
all_of_shard P test (row ∷ rows) all = go (test row) (all_of_shard P test rows all.1)
  where
    go : (keep : Bool) → AllByRecursion P (filter test rows) → AllByRecursion P (cond keep (row ∷ filter test rows) (filter test rows))
    go true rest = (all.0, rest)
    go false rest = rest

pub keys_above : (key low : ℕ) (rows : List (ℕ × List ℕ)) → key < low → AllByRecursion (λ other. low < other.0) rows
    → AllByRecursion (λ other. key < other.0) rows
keys_above key low rows below all = all_weaker (λ other. low < other.0) (λ other. key < other.0) (λ other h. omega arith) rows all

module _ (shard shards key : ℕ) where
  -- a row of the shard goes to its place among the shard's
  pub own_inserted : (rows : List (ℕ × List ℕ)) (code : List ℕ) → (key % shards == shard) ≡ true → IsStrictlySortedBy nat_cmp (keys_of rows)
      → shard_rows shard shards (insert_entry nat_cmp rows key code) ≡ insert_entry nat_cmp (shard_rows shard shards rows) key code
  unfolding IsStrictlySortedBy
  own_inserted [] code own up = rw own refl
  own_inserted (row ∷ rows) code own up = go (nat_cmp key row.0) (row.0 % shards == shard) refl refl (own_inserted rows code own up.1)
    where
      go : (o : Ordering) (keep : Bool) → nat_cmp key row.0 ≡ o → (row.0 % shards == shard) ≡ keep
          → (shard_rows shard shards (insert_entry nat_cmp rows key code) ≡ insert_entry nat_cmp (shard_rows shard shards rows) key code)
          → shard_rows shard shards (match_ordering o ((key, code) ∷ row ∷ rows) ((row.0, code) ∷ rows) (row ∷ insert_entry nat_cmp rows key code))
          ≡ insert_entry nat_cmp (shard_rows shard shards (row ∷ rows)) key code
      go Less keep e k rest =
          let low = less_below key row.0 e in
          let above : AllByRecursion (λ other. key < other.0) (row ∷ rows) = (low, keys_above key row.0 rows low (all_above row.0 rows up.0)) in
          let new = inserted_between [] (shard_rows shard shards (row ∷ rows)) key code tt
          (all_of_shard (λ other. key < other.0) (λ other. other.0 % shards == shard) (row ∷ rows) above) in
          ap (λ own. cond own ((key, code) ∷ shard_rows shard shards (row ∷ rows)) (shard_rows shard shards (row ∷ rows))) own ∙ sym new
      go Equal keep e k rest =
          let mine : (row.0 % shards == shard) ≡ true = subst (λ (n : ℕ). (n % shards == shard) ≡ true) (same_key key row.0 e) own in
          ap (λ keep. cond keep ((row.0, code) ∷ shard_rows shard shards rows) (shard_rows shard shards rows)) mine
          ∙ sym (ap (λ keep. insert_entry nat_cmp (cond keep (row ∷ shard_rows shard shards rows) (shard_rows shard shards rows)) key code) mine
          ∙ ap
          (λ o. match_ordering o ((key, code) ∷ row ∷ shard_rows shard shards rows)
          ((row.0, code) ∷ shard_rows shard shards rows) (row ∷ insert_entry nat_cmp (shard_rows shard shards rows) key code))
          e)
      go Greater true e k rest =
          ap
          (λ keep. cond keep (row ∷ shard_rows shard shards (insert_entry nat_cmp rows key code))
          (shard_rows shard shards (insert_entry nat_cmp rows key code))) k
          ∙ ap (λ (more : List (ℕ × List ℕ)). row ∷ more) rest
          ∙ sym (ap (λ keep. insert_entry nat_cmp (cond keep (row ∷ shard_rows shard shards rows) (shard_rows shard shards rows)) key code) k
          ∙ ap
          (λ o. match_ordering o ((key, code) ∷ row ∷ shard_rows shard shards rows)
          ((row.0, code) ∷ shard_rows shard shards rows) (row ∷ insert_entry nat_cmp (shard_rows shard shards rows) key code))
          e)
      go Greater false e k rest =
          ap
          (λ keep. cond keep (row ∷ shard_rows shard shards (insert_entry nat_cmp rows key code))
          (shard_rows shard shards (insert_entry nat_cmp rows key code))) k
          ∙ rest
          ∙ sym (ap (λ keep. insert_entry nat_cmp (cond keep (row ∷ shard_rows shard shards rows) (shard_rows shard shards rows)) key code) k)

  -- a row of another shard changes none of the shard's
  pub other_inserted : (rows : List (ℕ × List ℕ)) (code : List ℕ) → (key % shards == shard) ≡ false
      → shard_rows shard shards (insert_entry nat_cmp rows key code) ≡ shard_rows shard shards rows
  other_inserted [] code other = rw other refl
  other_inserted (row ∷ rows) code other = go (nat_cmp key row.0) refl (other_inserted rows code other)
    where
      go : (o : Ordering) → nat_cmp key row.0 ≡ o → (shard_rows shard shards (insert_entry nat_cmp rows key code) ≡ shard_rows shard shards rows)
          → shard_rows shard shards
          (match_ordering o ((key, code) ∷ row ∷ rows) ((row.0, code) ∷ rows) (row ∷ insert_entry nat_cmp rows key code))
          ≡ shard_rows shard shards (row ∷ rows)
      go Less e rest = ap (λ own. cond own ((key, code) ∷ shard_rows shard shards (row ∷ rows)) (shard_rows shard shards (row ∷ rows))) other
      go Equal e rest =
          let none : (row.0 % shards == shard) ≡ false = subst (λ (n : ℕ). (n % shards == shard) ≡ false) (same_key key row.0 e) other in
          ap (λ keep. cond keep ((row.0, code) ∷ shard_rows shard shards rows) (shard_rows shard shards rows)) none
          ∙ sym (ap (λ keep. cond keep (row ∷ shard_rows shard shards rows) (shard_rows shard shards rows)) none)
      go Greater e rest = ap (λ (more : List (ℕ × List ℕ)). cond (row.0 % shards == shard) (row ∷ more) more) rest

  -- a row of the shard is taken out of the shard's
  pub own_removed : (rows : List (ℕ × List ℕ)) → (key % shards == shard) ≡ true
      → shard_rows shard shards (remove_entry (is_at (nat_cmp key)) rows) ≡ remove_entry (is_at (nat_cmp key)) (shard_rows shard shards rows)
  own_removed [] own = refl
  own_removed (row ∷ rows) own = go (is_eq (nat_cmp key row.0)) (row.0 % shards == shard) refl refl (own_removed rows own)
    where
      go : (here keep : Bool) → is_eq (nat_cmp key row.0) ≡ here → (row.0 % shards == shard) ≡ keep
          → (shard_rows shard shards (remove_entry (is_at (nat_cmp key)) rows) ≡ remove_entry (is_at (nat_cmp key)) (shard_rows shard shards rows))
          → shard_rows shard shards (cond here rows (row ∷ remove_entry (is_at (nat_cmp key)) rows))
          ≡ remove_entry (is_at (nat_cmp key)) (shard_rows shard shards (row ∷ rows))
      go true keep e k rest =
          let mine : (row.0 % shards == shard) ≡ true = subst (λ (n : ℕ). (n % shards == shard) ≡ true) (same_key key row.0 (equal_key key row.0 e)) own in
          sym (ap (λ keep. remove_entry (is_at (nat_cmp key)) (cond keep (row ∷ shard_rows shard shards rows) (shard_rows shard shards rows))) mine
          ∙ ap (λ here. cond here (shard_rows shard shards rows) (row ∷ remove_entry (is_at (nat_cmp key)) (shard_rows shard shards rows))) e)
      go false true e k rest =
          ap
          (λ keep. cond keep (row ∷ shard_rows shard shards (remove_entry (is_at (nat_cmp key)) rows))
          (shard_rows shard shards (remove_entry (is_at (nat_cmp key)) rows))) k
          ∙ ap (λ (more : List (ℕ × List ℕ)). row ∷ more) rest
          ∙ sym (ap (λ keep. remove_entry (is_at (nat_cmp key)) (cond keep (row ∷ shard_rows shard shards rows) (shard_rows shard shards rows))) k
          ∙ ap (λ here. cond here (shard_rows shard shards rows) (row ∷ remove_entry (is_at (nat_cmp key)) (shard_rows shard shards rows))) e)
      go false false e k rest =
          ap
          (λ keep. cond keep (row ∷ shard_rows shard shards (remove_entry (is_at (nat_cmp key)) rows))
          (shard_rows shard shards (remove_entry (is_at (nat_cmp key)) rows))) k
          ∙ rest
          ∙ sym (ap (λ keep. remove_entry (is_at (nat_cmp key)) (cond keep (row ∷ shard_rows shard shards rows) (shard_rows shard shards rows))) k)

  -- and one of another shard out of none
  pub other_removed : (rows : List (ℕ × List ℕ)) → (key % shards == shard) ≡ false
      → shard_rows shard shards (remove_entry (is_at (nat_cmp key)) rows) ≡ shard_rows shard shards rows
  other_removed [] other = refl
  other_removed (row ∷ rows) other = go (is_eq (nat_cmp key row.0)) refl (other_removed rows other)
    where
      go : (here : Bool) → is_eq (nat_cmp key row.0) ≡ here → (shard_rows shard shards (remove_entry (is_at (nat_cmp key)) rows) ≡ shard_rows shard shards rows)
          → shard_rows shard shards (cond here rows (row ∷ remove_entry (is_at (nat_cmp key)) rows)) ≡ shard_rows shard shards (row ∷ rows)
      go true e rest =
          let none : (row.0 % shards == shard) ≡ false = subst (λ (n : ℕ). (n % shards == shard) ≡ false) (same_key key row.0 (equal_key key row.0 e)) other in
          sym (ap (λ keep. cond keep (row ∷ shard_rows shard shards rows) (shard_rows shard shards rows)) none)
      go false e rest = ap (λ (more : List (ℕ × List ℕ)). cond (row.0 % shards == shard) (row ∷ more) more) rest

-- an operation on ascending rows changes the shard's as it changes those of a version
rows_changed : (shard shards : ℕ) (rows : List (ℕ × List ℕ)) (operation : Operation) → IsStrictlySortedBy nat_cmp (keys_of rows)
    → shard_rows shard shards (changed rows operation) ≡ changed_in shard shards (shard_rows shard shards rows) operation
rows_changed shard shards rows (Add key code) up = go (key % shards == shard) refl
  where
    go : (own : Bool) → (key % shards == shard) ≡ own → shard_rows shard shards (changed rows (Add key code))
        ≡ cond own (changed (shard_rows shard shards rows) (Add key code)) (shard_rows shard shards rows)
    go true e = own_inserted shard shards key rows code e up
    go false e = other_inserted shard shards key rows code e
rows_changed shard shards rows (Delete key) up = go (key % shards == shard) refl
  where
    go : (own : Bool) → (key % shards == shard) ≡ own → shard_rows shard shards (changed rows (Delete key))
        ≡ cond own (changed (shard_rows shard shards rows) (Delete key)) (shard_rows shard shards rows)
    go true e = own_removed shard shards key rows e
    go false e = other_removed shard shards key rows e

-- one entry more
pub rows_step : (shard shards : ℕ) (history : List JournalEntry) (entry : JournalEntry) → shard_rows shard shards (rows_of (history ++ entry ∷ []))
    ≡ changed_in shard shards (shard_rows shard shards (rows_of history)) entry.operation
rows_step shard shards history entry =
    ap (shard_rows shard shards) (rows_of_append history (entry ∷ [])) ∙ rows_changed shard shards (rows_of history) entry.operation (rows_ascend history)

-- a version after the entries of two lists
entries_append : (version : Contents) (history more : List JournalEntry)
    → after_entries version (history ++ more) ≡ after_entries (after_entries version history) more
entries_append version [] more = refl
entries_append version (entry ∷ history) more = entries_append (after_entry version entry) history more

-- the version that comes after that of a history
pub prefix_step : (shard shards : ℕ) (layout : Laid) (history : List JournalEntry) (entry : JournalEntry)
    → after_entry (prefix_of shard shards layout history) entry ≡ prefix_of shard shards layout (history ++ entry ∷ [])
prefix_step shard shards layout history entry =
    let long : length history + 1 ≡ length (history ++ entry ∷ []) = sym (length-append history (entry ∷ [])) in
    ap (λ (n : ℕ). let version : Contents = record {
      shard = shard;
      shards = shards;
      at = n;
      layout = layout;
      rows = changed_in shard shards (shard_rows shard shards (rows_of history)) entry.operation;
    } in version) long
    ∙ ap
    (λ (rows : List (ℕ × List ℕ)). let version : Contents = record {
      shard = shard;
      shards = shards;
      at = length (history ++ entry ∷ []);
      layout = layout;
      rows = rows;
    } in version)
    (sym (rows_step shard shards history entry))

prefix_from : (shard shards : ℕ) (layout : Laid) (history more : List JournalEntry)
    → after_entries (prefix_of shard shards layout history) more ≡ prefix_of shard shards layout (history ++ more)
prefix_from shard shards layout history [] = ap (prefix_of shard shards layout) (sym (append-nil history))
prefix_from shard shards layout history (entry ∷ more) =
    ap (λ (version : Contents). after_entries version more) (prefix_step shard shards layout history entry)
    ∙ prefix_from shard shards layout (history ++ entry ∷ []) more ∙ ap (prefix_of shard shards layout) (append_assoc history (entry ∷ []) more)

-- entries from the first on leave the version of their history
pub prefix_reached : (shard shards : ℕ) (layout : Laid) (history : List JournalEntry)
    → after_entries (empty_of shard shards layout) history ≡ prefix_of shard shards layout history
prefix_reached shard shards layout history = prefix_from shard shards layout [] history

-- a row more or a code changed
few_inserted : (rows : List (ℕ × List ℕ)) (key : ℕ) (code : List ℕ) → length (insert_entry nat_cmp rows key code) ≤ length rows + 1
few_inserted [] key code = omega arith
few_inserted (row ∷ rows) key code = go (nat_cmp key row.0) (few_inserted rows key code)
  where
    go : (o : Ordering) → length (insert_entry nat_cmp rows key code) ≤ length rows + 1
        → length (match_ordering o ((key, code) ∷ row ∷ rows) ((row.0, code) ∷ rows) (row ∷ insert_entry nat_cmp rows key code)) ≤ length (row ∷ rows) + 1
    go Less rest = omega arith
    go Equal rest = omega arith
    go Greater rest = omega arith

-- a row less or none
few_removed : (rows : List (ℕ × List ℕ)) (test : ℕ → Bool) → length (remove_entry test rows) ≤ length rows
few_removed [] test = omega arith
few_removed (row ∷ rows) test = go (test row.0) (few_removed rows test)
  where
    go : (here : Bool) → length (remove_entry test rows) ≤ length rows → length (cond here rows (row ∷ remove_entry test rows)) ≤ length (row ∷ rows)
    go true rest = omega arith
    go false rest = omega arith

few_changed : (rows : List (ℕ × List ℕ)) (operation : Operation) → length (changed rows operation) ≤ length rows + 1
few_changed rows (Add key code) = few_inserted rows key code
few_changed rows (Delete key) = omega (arith, few_removed rows (is_at (nat_cmp key)))

few_from : (rows : List (ℕ × List ℕ)) (history : List JournalEntry) → length (rows_from rows history) ≤ length rows + length history
few_from rows [] = omega arith
few_from rows (entry ∷ history) = omega (arith, few_changed rows entry.operation, few_from (changed rows entry.operation) history)

-- a history has at most one row of a shard for each entry
pub few_rows : (shard shards : ℕ) (history : List JournalEntry) → length (shard_rows shard shards (rows_of history)) ≤ length history
few_rows shard shards history = omega (arith, filter_short (λ (row : ℕ × List ℕ). row.0 % shards == shard) (rows_of history), few_from [] history)

-- the shard's rows have the codes of its keys
pub code_of_shard : (shard shards : ℕ) (rows : List (ℕ × List ℕ)) (key : ℕ) → key % shards ≡ shard
    → code_at (shard_rows shard shards rows) key ≡ code_at rows key
code_of_shard shard shards rows key own =
    lookup-filter-keys (is_at (nat_cmp key)) (λ other. other % shards == shard) true
    (λ other here. subst (λ (n : ℕ). (n % shards == shard) ≡ true) (same_key key other (equal_key key other here)) (eq-eqb (key % shards) shard own)) rows

-- what fits all rows fits those of its shard
pub fits_shard : (shard shards : ℕ) (rows : List (ℕ × List ℕ)) (operation : Operation) → Fits rows operation
    → operation_key operation % shards ≡ shard → Fits (shard_rows shard shards rows) operation
fits_shard shard shards rows (Add key code) fits own = code_of_shard shard shards rows key own ∙ fits
fits_shard shard shards rows (Delete key) fits own = ap (λ found. is_some found) (code_of_shard shard shards rows key own) ∙ fits
