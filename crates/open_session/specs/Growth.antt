-- How the history of a session goes on where others may commit, and what then holds of a line.
use Rattle.std.specs.Prelude.{◌≡◌, ◌≢◌, ℕ, Bool, true, List, [], ◌++◌}
use Rattle.std.specs.List.{AllByRecursion}
use Rattle.hamming_model.specs.History.{JournalEntry}
use Rattle.part_layout.specs.declared.config.Config.{Config}
use Rattle.session_model.specs.State.{State}
use Rattle.session_model.specs.Entries.{Exchange}
use Rattle.session_model.specs.Run.{IsAlone}

-- a history goes on by entries of others, of which there are none where the session is alone, and
-- then by what the session with this number commits
pub record HistoryGrows (alone : Bool) (who : ℕ) (before committed after : List JournalEntry)
    : Type 0 where
  pub more : List JournalEntry
  pub others : AllByRecursion (λ entry. entry.who ≢ who) more
  pub none : alone ≡ true → more ≡ []
  pub after_is : after ≡ (before ++ more) ++ committed

-- others may commit and give shards other layouts, unless the session is alone
abbrev pub IsAside : Bool → Config → State → Exchange → Type 0
IsAside alone config s e = alone ≡ true → IsAlone config s e
