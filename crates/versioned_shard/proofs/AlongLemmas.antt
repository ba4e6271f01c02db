-- Versions along a history, its beginnings and what comes after it.
use Rattle.std.proofs.Common.{◌≡◌, ℕ, zero, suc, ◌≤◌, List, [], ◌∷◌, ◌++◌, length, take, refl, sym, ap, ◌∙◌, arith}
use Rattle.std.proofs.lemmas.List.{length-map, length-take}
use Rattle.hamming_model.specs.History.{JournalEntry, rows_of, shard_rows}
use Rattle.hamming_model.specs.Recoded.{cut_entry, cut_history}
use Rattle.part_layout.specs.Laid.{Laid}
use Rattle.shard_version.specs.Contents.{Contents}
use Rattle.shard_version.specs.Prefixes.{prefix_of}
use Rattle.versioned_shard.specs.Along.{Follows, version_at}

same_begin : (bits p n : ℕ) (history : List JournalEntry) → p ≤ n → take p (cut_history bits (take n history)) ≡ take p (cut_history bits history)
same_begin bits zero n history le = refl
same_begin bits (suc p) zero history le = absurd (omega arith)
same_begin bits (suc p) (suc n) [] le = refl
same_begin bits (suc p) (suc n) (entry ∷ history) le =
    ap (λ (each : List JournalEntry). cut_entry bits entry ∷ each) (same_begin bits p n history (omega arith))

same_more : (bits p : ℕ) (history more : List JournalEntry) → p ≤ length history
    → take p (cut_history bits (history ++ more)) ≡ take p (cut_history bits history)
same_more bits zero history more le = refl
same_more bits (suc p) [] more le = absurd (omega arith)
same_more bits (suc p) (entry ∷ history) more le =
    ap (λ (each : List JournalEntry). cut_entry bits entry ∷ each) (same_more bits p history more (omega arith))

module _ (from : Contents) where
  abbrev of_entries : List JournalEntry → Contents
  of_entries entries = prefix_of from.shard from.shards from.layout entries

  -- a version is the same along a history and a beginning of it that goes so far
  pub version_begin : (history : List JournalEntry) (p n : ℕ) → p ≤ n → version_at (take n history) from p ≡ version_at history from p
  version_begin history p n le = ap of_entries (same_begin from.layout.bits p n history le)

  -- and along a longer history
  pub version_more : (history more : List JournalEntry) (p : ℕ) → p ≤ length history → version_at (history ++ more) from p ≡ version_at history from p
  version_more history more p le = ap of_entries (same_more from.layout.bits p history more le)

  -- it stands at its position
  pub position_is : (history : List JournalEntry) (p : ℕ) → p ≤ length history → (version_at history from p).at ≡ p
  position_is history p le =
      let long = length-map history (cut_entry from.layout.bits) in
      let cut = length-take p (cut_history from.layout.bits history) in
      omega (arith, le, long, cut)

  -- and follows the history
  pub version_follows : (history : List JournalEntry) (p : ℕ) → p ≤ length history → Follows history (version_at history from p)
  version_follows history p le = record { is = sym (ap (version_at history from) (position_is history p le)) }

-- a version follows a longer history
pub follows_longer : (history more : List JournalEntry) (version : Contents) → version.at ≤ length history → Follows history version
    → Follows (history ++ more) version
follows_longer history more version le follows = record { is = follows.is ∙ sym (version_more version history more version.at le) }

relaid : (version : Contents) (layout : Laid) (at : ℕ) (rows : List (ℕ × List ℕ)) → version.at ≡ at → version.rows ≡ rows
    → record version { layout = layout } ≡ (let one : Contents = record version { at = at; layout = layout; rows = rows } in one)
relaid version layout at rows same_at same_rows =
    ap (λ (n : ℕ). let one : Contents = record version { at = n; layout = layout } in one) same_at
    ∙ ap (λ (each : List (ℕ × List ℕ)). let one : Contents = record version { at = at; layout = layout; rows = each } in one) same_rows

-- a version in another layout of the same bits
pub follows_relaid : (history : List JournalEntry) (version : Contents) (layout : Laid) → layout.bits ≡ version.layout.bits → Follows history version
    → Follows history (record version { layout = layout })
follows_relaid history version layout same follows = record { is = relaid version layout (length (first layout.bits)) (held layout.bits) at rows }
  where
    first : ℕ → List JournalEntry
    first bits = take version.at (cut_history bits history)

    held : ℕ → List (ℕ × List ℕ)
    held bits = shard_rows version.shard version.shards (rows_of (first bits))

    at : version.at ≡ length (first layout.bits)
    at = ap (λ (each : Contents). each.at) follows.is ∙ ap (λ (bits : ℕ). length (first bits)) (sym same)

    rows : version.rows ≡ held layout.bits
    rows = ap (λ (each : Contents). each.rows) follows.is ∙ ap held (sym same)
