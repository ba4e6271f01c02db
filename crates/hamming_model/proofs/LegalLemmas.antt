-- Legal histories, entry by entry.
use Rattle.std.proofs.Common.{◌≡◌, ◌↔◌, ◌⊎◌, inl, inr, ℕ, ◌<◌, ◌≤◌, Bool, true, false, cond, List, [], ◌∷◌, ◌++◌, length, get_or, take, refl, subst, arith, length-append}
use Rattle.std.specs.Prelude.{Option, None, Some, is_some, nat_le}
use Rattle.std.proofs.lemmas.Bool.{cases_lt, leb-false, leb-true}
use Rattle.std.proofs.lemmas.List.{get_or-take, get_or_append_left, take-append-le, take-take, length-take}
use Rattle.std.proofs.Math.Seq.{take-append_seam, get_or-append_seam}
use Rattle.hamming_model.specs.History.{Operation, JournalEntry, Add, Delete, Fits, IsLegal, after_decision, code_at, decide, decision_on, is_accepted, rows_of}
use Rattle.hamming_model.specs.History as journal

-- no entry
pub legal_empty : IsLegal []
legal_empty = record { each = λ i other below. absurd (omega arith) }

module _ (history : List JournalEntry) (entry : JournalEntry) where
  -- one entry more
  pub legal_more : IsLegal history → Fits (rows_of history) entry.operation → IsLegal (history ++ entry ∷ [])
  legal_more legal fits = record { each = λ i other below. go i other below (cases_lt i (length history)) }
    where
      FitsAt : ℕ → JournalEntry → Type 0
      FitsAt i other = Fits (rows_of (take i (history ++ entry ∷ []))) (get_or (history ++ entry ∷ []) i other).operation

      before : (i : ℕ) (other : JournalEntry) → i < length history → FitsAt i other
      before i other low =
          rw (take-append-le i history (entry ∷ []) (omega (arith, low)), get_or_append_left history (entry ∷ []) other i low) (legal.each i other low)

      last : (other : JournalEntry) → FitsAt (length history) other
      last other = rw (take-append_seam history (entry ∷ []), get_or-append_seam history entry [] other) fits

      go : (i : ℕ) (other : JournalEntry) → i < length (history ++ entry ∷ []) → (i < length history) ⊎ (length history ≤ i) → FitsAt i other
      go i other below (inl low) = before i other low
      go i other below (inr high) =
          subst (λ (n : ℕ). FitsAt n other) (let e : length history ≡ i = omega (arith, below, high, length-append history (entry ∷ [])) in e) (last other)

  -- the last entry of a legal history
  pub legal_last : IsLegal (history ++ entry ∷ []) → Fits (rows_of history) entry.operation
  legal_last legal =
      rw (take-append_seam history (entry ∷ []), get_or-append_seam history entry [] entry) at
      (legal.each (length history) entry (omega (arith, length-append history (entry ∷ []))))

-- the first so many entries
pub legal_first : (position : ℕ) (history : List JournalEntry) → IsLegal history → IsLegal (take position history)
legal_first position history legal = record {
  each = λ i other below.
      let few : i < position = omega (arith, below, length-take position history) in
      let inside : i < length history = omega (arith, below, length-take position history) in
      rw (take-take i position history (omega (arith, few)), get_or-take position history i other few) (legal.each i other inside);
}

-- ---- decisions
module _ (entries limit : ℕ) where
  -- an addition
  added_fits : (found : Option (List ℕ)) (full : Bool) → nat_le limit entries ≡ full
      → (is_accepted (cond (is_some found) journal.Taken (cond full journal.Full journal.Added)) ≡ true) ↔ ((found ≡ None) × (entries < limit))
  added_fits None true e = ((λ h. cc), (λ both. absurd (let no_room = leb-true limit entries e in omega (arith, both.1, no_room))))
  added_fits None false e = ((λ h. (refl, leb-false limit entries e)), (λ both. refl))
  added_fits (Some code) full e = ((λ h. cc), (λ both. cc))

  -- a deletion
  deleted_fits : (present : Bool) (full : Bool) → nat_le limit entries ≡ full
      → (is_accepted (cond present (cond full journal.Full journal.Deleted) journal.Absent) ≡ true) ↔ ((present ≡ true) × (entries < limit))
  deleted_fits true true e = ((λ h. cc), (λ both. absurd (let no_room = leb-true limit entries e in omega (arith, both.1, no_room))))
  deleted_fits true false e = ((λ h. (refl, leb-false limit entries e)), (λ both. refl))
  deleted_fits false full e = ((λ h. cc), (λ both. cc))

-- accepted exactly where the operation fits and there is room
pub accepted_fits : (history : List JournalEntry) (limit : ℕ) (operation : Operation)
    → (is_accepted (decision_on history limit operation) ≡ true) ↔ (Fits (rows_of history) operation × (length history < limit))
accepted_fits history limit (Add key code) = added_fits (length history) limit (code_at (rows_of history) key) (nat_le limit (length history)) refl
accepted_fits history limit (Delete key) = deleted_fits (length history) limit (is_some (code_at (rows_of history) key)) (nat_le limit (length history)) refl

-- the history after a decision
pub legal_decided : (history : List JournalEntry) (limit : ℕ) (entry : JournalEntry) → IsLegal history
    → IsLegal (after_decision history entry (decision_on history limit entry.operation))
legal_decided history limit entry legal = go (is_accepted (decision_on history limit entry.operation))
    (λ accepted. ((accepted_fits history limit entry.operation).0 accepted).0)
  where
    go : (accepted : Bool) → (accepted ≡ true → Fits (rows_of history) entry.operation) → IsLegal (cond accepted (history ++ entry ∷ []) history)
    go true fits = legal_more history entry legal (fits refl)
    go false fits = legal
