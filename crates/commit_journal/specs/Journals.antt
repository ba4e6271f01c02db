-- What a contract sees of a journal, and what its calls make of it.
use Rattle.std.specs.Prelude.{◌≡◌, ℕ, ◌<◌, ◌≤◌, true, List, [], ◌∷◌, ◌++◌, length, take, Option, Some, None, refl}
use Rattle.std.specs.Coded.{Coded, code_by, coded×, coded_ℕ}
use Rattle.std.specs.FinMap as map
use Rattle.hamming_model.specs.Coding.{history_code}
use Rattle.hamming_model.specs.History.{JournalEntry, IsLegal, after_decision, decision_on}
use Rattle.hamming_model.specs.declared.limits.TheConstants.{ENTRIES_MOST, SESSIONS_MOST}
use Rattle.entry_log.specs.Decisions.{decision_of}
use Rattle.entry_log.specs.Entries.{kept_operation}
use Rattle.entry_log.specs.declared.op.Op.{Op}
use Rattle.commit_journal.specs.Fronts.{AreOlder, FrontState, Live, StandsAt, has_position, live_at, position_of, positions_of}
use Rattle.commit_journal.specs.declared.decided.Decided.{Decided}

-- the history, its codes as words keep them; the live fronts; the number of the next session;
-- how many entries there may be
pub record JournalState : Type 0 where
  pub history : List JournalEntry
  pub live : Live
  pub next : ℕ
  pub limit : ℕ

-- a journal as a tuple
abbrev pub journal_code : Coded JournalState
journal_code =
    code_by (List JournalEntry × (Live × (ℕ × ℕ)))
    (coded× history_code
    (coded× (map.code coded_ℕ (coded× coded_ℕ coded_ℕ)) (coded× coded_ℕ coded_ℕ)))
    (λ j. (j.history, (j.live, (j.next, j.limit))))
    (λ t. record { history = t.0; live = t.1.0; next = t.1.1.0; limit = t.1.1.1 }) (λ _. refl)

-- no entries, no live front, and no session so far
abbrev pub empty_journal : ℕ → JournalState
empty_journal limit = record { history = []; live = map.empty; next = 0; limit = limit }

-- what is true of every journal: its history is legal, and no live front is beyond it
pub record IsJournal (state : JournalState) : Type 0 where
  pub legal : IsLegal state.history
  pub few : length state.history ≤ state.limit
  pub limited : state.limit ≤ ENTRIES_MOST
  pub numbered : state.next ≤ SESSIONS_MOST
  pub none_beyond : (position : ℕ) → StandsAt (positions_of state.live) position
      → position ≤ length state.history

-- the entry of an operation of a session, with all bits that the words of its code keep
abbrev pub entry_by : {W : ℕ} → ℕ → Op W → JournalEntry
entry_by session op = record { who = session; operation = kept_operation op }

-- the journal with one entry more
abbrev pub with_entry : JournalState → JournalEntry → JournalState
with_entry state entry = record state { history = state.history ++ entry ∷ [] }

-- a commit: decided on the rows of the history and its length,
-- the entry appended where it is accepted
pub record Commits (old new : JournalState) (entry : JournalEntry)
    (decided : Decided) : Type 0 where
  pub decision : decision_of decided.decision ≡ decision_on old.history old.limit entry.operation
  pub after : new
      ≡ record old { history = after_decision old.history entry (decision_of decided.decision) }
  pub position : decided.position ≡ length new.history

-- the front is a live one of the journal
abbrev pub IsLive : JournalState → FrontState → Type 0
IsLive state front = live_at state.live front.id ≡ Some (front.who, position_of front)

-- a front was opened at the present length, under a number that no live front had
pub record Opens (old new : JournalState) (session : ℕ) (front : FrontState) : Type 0 where
  pub fresh : live_at old.live front.id ≡ None
  pub who : front.who ≡ session
  pub entries : front.entries ≡ old.history
  pub older : AreOlder old.live (length old.history) front.older
  pub after : new ≡ record old { live = map.insert old.live front.id (session, length old.history) }

-- the journal without the live front of a number
abbrev pub without_front : JournalState → ℕ → JournalState
without_front state id = record state { live = map.remove state.live id }

-- what is known of a front at every later moment, where the live fronts have these positions: its
-- entries are the first of the history, and each such position strictly below it stands in its
-- list
pub record IsKnown (live : ℕ → Option ℕ) (history : List JournalEntry)
    (front : FrontState) : Type 0 where
  pub begins : front.entries ≡ take (position_of front) history
  pub within : position_of front ≤ length history
  pub older : (position : ℕ) → StandsAt live position → position < position_of front
      → has_position front.older position ≡ true

-- what a journal knows of a front that it opened
abbrev pub KnowsFront : JournalState → FrontState → Type 0
KnowsFront state front = IsKnown (positions_of state.live) state.history front

-- every front that the first journal knows the second knows
abbrev pub KeepsFronts : JournalState → JournalState → Type 0
KeepsFronts old new = (front : FrontState) → KnowsFront old front → KnowsFront new front
