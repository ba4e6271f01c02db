-- How a journal is kept. No public clause cites this module.
use Rattle.std.specs.Prelude.{◌≡◌, ◌==◌, ◌||◌, ℕ, ◌<◌, ◌≤◌, List}
use Rattle.std.specs.FinMap as map
use Rattle.std.specs.List.{AllByRecursion}
use Rattle.slab.specs.Slab.{Slab, entries}
use Rattle.hamming_model.specs.History.{JournalEntry, rows_of}
use Rattle.hamming_model.specs.declared.limits.TheConstants.{WORDS_MOST}
use Rattle.commit_journal.specs.Fronts.{ArePositionsInOrder, Live, has_position}
use Rattle.commit_journal.specs.Journals.{IsJournal, JournalState}

-- the live fronts of a slab
abbrev pub live_of : Slab (ℕ × ℕ) → Live
live_of slab = map.from_entries (entries slab)

-- the journal that callers see
abbrev pub journal_of : List JournalEntry → Slab (ℕ × ℕ) → ℕ → ℕ → JournalState
journal_of history live next limit =
    record { history = history; live = live_of live; next = next; limit = limit }

-- the rows by key are those of the history
pub record IsKeptJournal (words : ℕ) (state : JournalState)
    (rows : List (ℕ × List ℕ)) : Type 0 where
  pub few_words : words ≤ WORDS_MOST
  pub sound : IsJournal state
  pub same_rows : rows ≡ rows_of state.history

-- the positions with one more, at its place
pub record AddsPosition (old : List ℕ) (position : ℕ) (new : List ℕ) : Type 0 where
  pub ascending : ArePositionsInOrder new
  pub has : (other : ℕ) → has_position new other ≡ (has_position old other || (position == other))
  pub below : (bound : ℕ) → AllByRecursion (λ other. other < bound) old → position < bound
      → AllByRecursion (λ other. other < bound) new
