-- The history of entries, the rows that the entries of a prefix leave,
-- and what becomes of an operation behind it.
use Rattle.std.specs.Prelude.{◌≡◌, ℕ, ◌%◌, ◌==◌, ◌<◌, nat_le, if◌then◌else◌, Bool, true, false, List, [], ◌∷◌, ◌++◌, length, take, filter, slice_index_or, Option, None, is_some}
use Rattle.std.specs.Ordering.{nat_cmp}
use Rattle.std.specs.BTreeMap.{insert_entry, is_at}
use Rattle.std.specs.Map.{lookup, remove_entry}

-- an operation: adds a row with a key and a code, or deletes the row of a key
pub data Operation : Type 0 where
  Add : ℕ → List ℕ → Operation
  Delete : ℕ → Operation

-- an operation with the number of the session that made it
pub record JournalEntry : Type 0 where
  pub who : ℕ
  pub operation : Operation

-- the code of a key, in rows that ascend by key
abbrev pub code_at : List (ℕ × List ℕ) → ℕ → Option (List ℕ)
code_at rows key = lookup (is_at (nat_cmp key)) rows

-- the rows after an operation
abbrev pub changed : List (ℕ × List ℕ) → Operation → List (ℕ × List ℕ)
changed rows (Add key code) = insert_entry nat_cmp rows key code
changed rows (Delete key) = remove_entry (is_at (nat_cmp key)) rows

-- the rows after the entries of a list, from these rows on
abbrev pub rows_from : List (ℕ × List ℕ) → List JournalEntry → List (ℕ × List ℕ)
rows_from rows [] = rows
rows_from rows (entry ∷ entries) = rows_from (changed rows entry.operation) entries

-- the rows of a history: key and code, ascending by key
abbrev pub rows_of : List JournalEntry → List (ℕ × List ℕ)
rows_of history = rows_from [] history

-- the rows that one shard of so many holds
abbrev pub shard_rows : ℕ → ℕ → List (ℕ × List ℕ) → List (ℕ × List ℕ)
shard_rows shard shards rows = filter (λ row. row.0 % shards == shard) rows

-- what becomes of an operation
pub data Decision : Type 0 where
  Added : Decision
  Taken : Decision
  Deleted : Decision
  Absent : Decision
  Full : Decision

-- the decision on these rows, where so many entries stand and so many may stand
abbrev pub decide : List (ℕ × List ℕ) → ℕ → ℕ → Operation → Decision
decide rows entries limit (Add key code) =
    if is_some (code_at rows key) then Taken else if nat_le limit entries then Full else Added
decide rows entries limit (Delete key) =
    if is_some (code_at rows key) then (if nat_le limit entries then Full else Deleted) else Absent

-- an operation that these rows allow: an added key is absent, a deleted one present
abbrev pub Fits : List (ℕ × List ℕ) → Operation → Type 0
Fits rows (Add key code) = code_at rows key ≡ None
Fits rows (Delete key) = is_some (code_at rows key) ≡ true

-- each entry of a history fits the rows of those before it
pub record IsLegal (history : List JournalEntry) : Type 0 where
  pub each : (i : ℕ) (other : JournalEntry) → i < length history
      → Fits (rows_of (take i history)) (slice_index_or history i other).operation

-- the decision behind a history, where so many entries may stand
abbrev pub decision_on : List JournalEntry → ℕ → Operation → Decision
decision_on history limit operation = decide (rows_of history) (length history) limit operation

-- whether the operation is taken into the history
abbrev pub is_accepted : Decision → Bool
is_accepted Added = true
is_accepted Deleted = true
is_accepted Taken = false
is_accepted Absent = false
is_accepted Full = false

-- the history after an entry on which this was decided
abbrev pub after_decision : List JournalEntry → JournalEntry → Decision → List JournalEntry
after_decision history entry decision =
    if is_accepted decision then history ++ entry ∷ [] else history
