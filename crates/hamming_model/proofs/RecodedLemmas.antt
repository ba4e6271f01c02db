-- Rows and histories whose codes are changed one by one.
use Rattle.std.proofs.Common.{◌≡◌, ◌↔◌, ℕ, zero, suc, ◌++◌, ◌*◌, ◌-◌, ◌<◌, ◌%◌, ◌==◌, Bool, true, false, cond, List, [], ◌∷◌, length, get_or, take, refl, sym, ap, subst, ◌∙◌, arith}
use Rattle.std.specs.Prelude.{Option, None, Some, is_some, nat_le, option_map, replicate}
use Rattle.std.specs.declared.cmp.Ordering.{Ordering}
use Rattle.std.specs.declared.cmp.Ordering.TheVariants.{Less, Equal, Greater}
use Rattle.std.specs.Ordering.{nat_cmp, match_ordering}
use Rattle.std.specs.BTreeMap.{insert_entry, is_at}
use Rattle.std.specs.Map.{remove_entry}
use Rattle.std.proofs.lemmas.List.{get_or-map, length-map, take-map}
use Rattle.std.proofs.Math.Seq.{take-append_seam}
use Rattle.hamming_model.specs.Codes.{padded}
use Rattle.hamming_model.specs.History.{Operation, JournalEntry, Decision, Add, Delete, Fits, IsLegal, after_decision, is_accepted, changed, code_at, decide, decision_on, rows_from, rows_of, shard_rows}
use Rattle.hamming_model.specs.History as journal
use Rattle.hamming_model.specs.Recoded.{AreStoredEntries, IsStoredOperation, cut_history, recoded_entry, recoded_history, recoded_operation, recoded_rows}
use Rattle.hamming_model.specs.Stored.{AddsCode, AreCodes}

present_alike : (change : List ℕ → List ℕ) (found : Option (List ℕ)) → is_some (option_map change found) ≡ is_some found
present_alike change None = refl
present_alike change (Some code) = refl

absent_alike : (change : List ℕ → List ℕ) (found : Option (List ℕ)) → option_map change found ≡ None → found ≡ None
absent_alike change None none = refl
absent_alike change (Some code) none = cc

module _ (change : List ℕ → List ℕ) where
  -- the code of a key
  pub code_recoded : (rows : List (ℕ × List ℕ)) (key : ℕ) → code_at (recoded_rows change rows) key ≡ option_map change (code_at rows key)
  code_recoded [] key = refl
  code_recoded (row ∷ rows) key = go (code_recoded rows key) (is_at (nat_cmp key) row.0)
    where
      go : code_at (recoded_rows change rows) key ≡ option_map change (code_at rows key) → (here : Bool)
          → cond here (Some (change row.1)) (code_at (recoded_rows change rows) key) ≡ option_map change (cond here (Some row.1) (code_at rows key))
      go rest true = refl
      go rest false = rest

  -- a row that is added
  insert_recoded : (rows : List (ℕ × List ℕ)) (key : ℕ) (code : List ℕ)
      → insert_entry nat_cmp (recoded_rows change rows) key (change code) ≡ recoded_rows change (insert_entry nat_cmp rows key code)
  insert_recoded [] key code = refl
  insert_recoded (row ∷ rows) key code = go (insert_recoded rows key code) (nat_cmp key row.0)
    where
      before : List (ℕ × List ℕ)
      before = insert_entry nat_cmp (recoded_rows change rows) key (change code)

      after : List (ℕ × List ℕ)
      after = insert_entry nat_cmp rows key code

      go : before ≡ recoded_rows change after → (o : Ordering)
          → match_ordering o ((key, change code) ∷ (row.0, change row.1) ∷ recoded_rows change rows)
          ((row.0, change code) ∷ recoded_rows change rows) ((row.0, change row.1) ∷ before)
          ≡ recoded_rows change (match_ordering o ((key, code) ∷ row ∷ rows) ((row.0, code) ∷ rows) (row ∷ after))
      go rest Less = refl
      go rest Equal = refl
      go rest Greater = ap (λ (more : List (ℕ × List ℕ)). (row.0, change row.1) ∷ more) rest

  -- a row that is taken out
  remove_recoded : (rows : List (ℕ × List ℕ)) (key : ℕ)
      → remove_entry (is_at (nat_cmp key)) (recoded_rows change rows) ≡ recoded_rows change (remove_entry (is_at (nat_cmp key)) rows)
  remove_recoded [] key = refl
  remove_recoded (row ∷ rows) key = go (remove_recoded rows key) (is_at (nat_cmp key) row.0)
    where
      before : List (ℕ × List ℕ)
      before = remove_entry (is_at (nat_cmp key)) (recoded_rows change rows)

      after : List (ℕ × List ℕ)
      after = remove_entry (is_at (nat_cmp key)) rows

      go : before ≡ recoded_rows change after → (here : Bool)
          → cond here (recoded_rows change rows) ((row.0, change row.1) ∷ before) ≡ recoded_rows change (cond here rows (row ∷ after))
      go rest true = refl
      go rest false = ap (λ (more : List (ℕ × List ℕ)). (row.0, change row.1) ∷ more) rest

  -- the rows after an operation
  pub changed_recoded : (rows : List (ℕ × List ℕ)) (operation : Operation)
      → changed (recoded_rows change rows) (recoded_operation change operation) ≡ recoded_rows change (changed rows operation)
  changed_recoded rows (Add key code) = insert_recoded rows key code
  changed_recoded rows (Delete key) = remove_recoded rows key

  -- the rows of a shard
  pub shard_recoded : (shard shards : ℕ) (rows : List (ℕ × List ℕ))
      → shard_rows shard shards (recoded_rows change rows) ≡ recoded_rows change (shard_rows shard shards rows)
  shard_recoded shard shards [] = refl
  shard_recoded shard shards (row ∷ rows) = go (shard_recoded shard shards rows) (row.0 % shards == shard)
    where
      before : List (ℕ × List ℕ)
      before = shard_rows shard shards (recoded_rows change rows)

      after : List (ℕ × List ℕ)
      after = shard_rows shard shards rows

      go : before ≡ recoded_rows change after → (own : Bool)
          → cond own ((row.0, change row.1) ∷ before) before ≡ recoded_rows change (cond own (row ∷ after) after)
      go rest true = ap (λ (more : List (ℕ × List ℕ)). (row.0, change row.1) ∷ more) rest
      go rest false = rest

  -- the same operations fit
  pub fits_recoded : (rows : List (ℕ × List ℕ)) (operation : Operation)
      → Fits (recoded_rows change rows) (recoded_operation change operation) ↔ Fits rows operation
  fits_recoded rows (Add key code) =
      ((λ fits. absent_alike change (code_at rows key) (sym (code_recoded rows key) ∙ fits)), (λ fits. code_recoded rows key ∙ ap (option_map change) fits))
  fits_recoded rows (Delete key) =
      let same = ap is_some (code_recoded rows key) ∙ present_alike change (code_at rows key) in
      ((λ fits. sym same ∙ fits), (λ fits. same ∙ fits))

  -- the rows after the entries of a list
  rows_from_recoded : (rows : List (ℕ × List ℕ)) (history : List JournalEntry)
      → rows_from (recoded_rows change rows) (recoded_history change history) ≡ recoded_rows change (rows_from rows history)
  rows_from_recoded rows [] = refl
  rows_from_recoded rows (entry ∷ history) =
      ap (λ (each : List (ℕ × List ℕ)). rows_from each (recoded_history change history)) (changed_recoded rows entry.operation)
      ∙ rows_from_recoded (changed rows entry.operation) history

  -- the rows of a history
  pub rows_recoded : (history : List JournalEntry) → rows_of (recoded_history change history) ≡ recoded_rows change (rows_of history)
  rows_recoded history = rows_from_recoded [] history

  -- the rows of its first entries
  rows_recoded_at : (history : List JournalEntry) (i : ℕ) → rows_of (take i (recoded_history change history)) ≡ recoded_rows change (rows_of (take i history))
  rows_recoded_at history i = ap rows_of (take-map (recoded_entry change) i history) ∙ rows_recoded (take i history)

  -- each entry fits where it fitted
  fits_at : (history : List JournalEntry) (i : ℕ) (other : JournalEntry)
      → Fits (rows_of (take i (recoded_history change history))) (recoded_operation change (get_or history i other).operation)
      ↔ Fits (rows_of (take i history)) (get_or history i other).operation
  fits_at history i other =
      subst (λ (rows : List (ℕ × List ℕ)). Fits rows (recoded_operation change (get_or history i other).operation)
      ↔ Fits (rows_of (take i history)) (get_or history i other).operation)
      (sym (rows_recoded_at history i)) (fits_recoded (rows_of (take i history)) (get_or history i other).operation)

  entry_at : (history : List JournalEntry) (i : ℕ) (other one : JournalEntry) → i < length history
      → (get_or (recoded_history change history) i other).operation ≡ recoded_operation change (get_or history i one).operation
  entry_at history i other one below = ap (λ (entry : JournalEntry). entry.operation) (get_or-map (recoded_entry change) history i one other below)

  -- the history is as legal
  pub legal_recoded : (history : List JournalEntry) → IsLegal (recoded_history change history) ↔ IsLegal history
  legal_recoded history = (back, forth)
    where
      long : length (recoded_history change history) ≡ length history
      long = length-map history (recoded_entry change)

      back : IsLegal (recoded_history change history) → IsLegal history
      back legal = record {
        each = λ i other below. (fits_at history i other).0
            (subst (Fits (rows_of (take i (recoded_history change history)))) (entry_at history i other other below)
            (legal.each i other (omega (arith, long, below))));
      }

      forth : IsLegal history → IsLegal (recoded_history change history)
      forth legal = record {
        each = λ i other below.
            let inside : i < length history = omega (arith, long, below) in
            subst (Fits (rows_of (take i (recoded_history change history)))) (sym (entry_at history i other other inside))
            ((fits_at history i other).1 (legal.each i other inside));
      }

  -- and decides as it did
  present_recoded : (history : List JournalEntry) (key : ℕ)
      → is_some (code_at (rows_of (recoded_history change history)) key) ≡ is_some (code_at (rows_of history) key)
  present_recoded history key =
      ap (λ (rows : List (ℕ × List ℕ)). is_some (code_at rows key)) (rows_recoded history)
      ∙ ap is_some (code_recoded (rows_of history) key) ∙ present_alike change (code_at (rows_of history) key)

  decided_recoded : (history : List JournalEntry) (entries limit : ℕ) (operation : Operation)
      → decide (rows_of (recoded_history change history)) entries limit (recoded_operation change operation) ≡ decide (rows_of history) entries limit operation
  decided_recoded history entries limit (Add key code) =
      ap (λ (present : Bool). cond present journal.Taken (cond (nat_le limit entries) journal.Full journal.Added)) (present_recoded history key)
  decided_recoded history entries limit (Delete key) =
      ap (λ (present : Bool). cond present (cond (nat_le limit entries) journal.Full journal.Deleted) journal.Absent) (present_recoded history key)

  pub decision_recoded : (history : List JournalEntry) (limit : ℕ) (operation : Operation)
      → decision_on (recoded_history change history) limit (recoded_operation change operation) ≡ decision_on history limit operation
  decision_recoded history limit operation =
      ap (λ (entries : ℕ). decide (rows_of (recoded_history change history)) entries limit (recoded_operation change operation))
      (length-map history (recoded_entry change))
      ∙ decided_recoded history (length history) limit operation

-- the first so many entries
pub first_recoded : (change : List ℕ → List ℕ) (position : ℕ) (history : List JournalEntry)
    → recoded_history change (take position history) ≡ take position (recoded_history change history)
first_recoded change position history = sym (take-map (recoded_entry change) position history)

-- ---- what words keep, cut to so many bits
same_entry : (one other : JournalEntry) → one.who ≡ other.who → one.operation ≡ other.operation → one ≡ other
same_entry one other who operation =
    ap (λ (n : ℕ). let entry : JournalEntry = record { who = n; operation = one.operation } in entry) who
    ∙ ap (λ (each : Operation). let entry : JournalEntry = record { who = other.who; operation = each } in entry) operation

cut_is_code : (words bits : ℕ) (operation : Operation) → IsStoredOperation words bits operation → AddsCode bits (recoded_operation (take bits) operation)
cut_is_code words bits (Add key code) stored = stored.is_code
cut_is_code words bits (Delete key) stored = tt

-- the cut history is one of codes
pub codes_cut : (words bits : ℕ) (history : List JournalEntry) → AreStoredEntries words bits history → AreCodes bits (cut_history bits history)
codes_cut words bits [] stored = tt
codes_cut words bits (entry ∷ history) stored = (cut_is_code words bits entry.operation stored.0, codes_cut words bits history stored.1)

padded_again : (words bits : ℕ) (operation : Operation) → IsStoredOperation words bits operation
    → recoded_operation (padded (64 * words)) (recoded_operation (take bits) operation) ≡ operation
padded_again words bits (Add key code) stored = ap (Add key) (sym stored.is_padded)
padded_again words bits (Delete key) stored = refl

-- and with zeros after its codes it is what the words keep
pub stored_again : (words bits : ℕ) (history : List JournalEntry) → AreStoredEntries words bits history
    → recoded_history (padded (64 * words)) (cut_history bits history) ≡ history
stored_again words bits [] stored = refl
stored_again words bits (entry ∷ history) stored =
    let here = same_entry (recoded_entry (padded (64 * words)) (recoded_entry (take bits) entry)) entry refl
    (padded_again words bits entry.operation stored.0) in
    ap (λ (one : JournalEntry). one ∷ recoded_history (padded (64 * words)) (cut_history bits history)) here
    ∙ ap (λ (more : List JournalEntry). entry ∷ more) (stored_again words bits history stored.1)

cut_of_padded : (bits positions : ℕ) (operation : Operation) → AddsCode bits operation
    → recoded_operation (take bits) (recoded_operation (padded positions) operation) ≡ operation
cut_of_padded bits positions (Add key code) adds =
    ap (Add key) (ap (λ (n : ℕ). take n (padded positions code)) (sym adds.size) ∙ take-append_seam code (replicate (positions - length code) 0))
cut_of_padded bits positions (Delete key) adds = refl

-- cutting takes zeros after the codes away
pub cut_again : (bits positions : ℕ) (history : List JournalEntry) → AreCodes bits history
    → cut_history bits (recoded_history (padded positions) history) ≡ history
cut_again bits positions [] codes = refl
cut_again bits positions (entry ∷ history) codes =
    let here = same_entry (recoded_entry (take bits) (recoded_entry (padded positions) entry)) entry refl
    (cut_of_padded bits positions entry.operation codes.0) in
    ap (λ (one : JournalEntry). one ∷ cut_history bits (recoded_history (padded positions) history)) here
    ∙ ap (λ (more : List JournalEntry). entry ∷ more) (cut_again bits positions history codes.1)

-- what words keep of the first entries is kept as that of all
pub stored_first : (words bits position : ℕ) (history : List JournalEntry) → AreStoredEntries words bits history
    → AreStoredEntries words bits (take position history)
stored_first words bits zero history all = tt
stored_first words bits (suc position) [] all = tt
stored_first words bits (suc position) (entry ∷ history) all = (all.0, stored_first words bits position history all.1)

stored_more : (words bits : ℕ) (history : List JournalEntry) (entry : JournalEntry) → AreStoredEntries words bits history
    → IsStoredOperation words bits entry.operation → AreStoredEntries words bits (history ++ entry ∷ [])
stored_more words bits [] entry all one = (one, tt)
stored_more words bits (first ∷ history) entry all one = (all.0, stored_more words bits history entry all.1 one)

stored_if : (words bits : ℕ) (history : List JournalEntry) (entry : JournalEntry) (accepted : Bool) → AreStoredEntries words bits history
    → IsStoredOperation words bits entry.operation → AreStoredEntries words bits (cond accepted (history ++ entry ∷ []) history)
stored_if words bits history entry true all one = stored_more words bits history entry all one
stored_if words bits history entry false all one = all

-- and so is that of the history after a decision
pub stored_decided : (words bits : ℕ) (history : List JournalEntry) (entry : JournalEntry) (decision : Decision)
    → AreStoredEntries words bits history → IsStoredOperation words bits entry.operation
    → AreStoredEntries words bits (after_decision history entry decision)
stored_decided words bits history entry decision = stored_if words bits history entry (is_accepted decision)
