-- What a session commits, and how many lines it answers, by its lines and replies.
use Rattle.std.specs.Prelude.{ℕ, ◌==◌, Bool, true, false, List, [], ◌∷◌, map, filter, count_by}
use Rattle.std.specs.Prelude.{Option, Some, None, Result, Ok}
use Rattle.std.specs.List.{flat_map}
use Rattle.hamming_model.specs.History.{JournalEntry, Operation}
use Rattle.hamming_model.specs.History as journal
use Rattle.part_layout.specs.declared.config.Config.{Config}
use Rattle.query_protocol.specs.Requests.{LineRequest, Add, Del}
use Rattle.query_protocol.specs.declared.bad.Bad.{Bad}
use Rattle.query_protocol.specs.Replies.{LineReply}
use Rattle.query_protocol.specs.Replies as reply
use Rattle.session_model.specs.Entries.{Exchange}
use Rattle.session_model.specs.Step.{asked_by}

-- the operations that were accepted, by what a line asked and what it was told
abbrev pub accepted : Result (Option LineRequest) Bad → List LineReply → List Operation
accepted (Ok (Some (Add key code))) (reply.Added added at ∷ []) = journal.Add key code ∷ []
accepted (Ok (Some (Del key))) (reply.Deleted deleted at ∷ []) = journal.Delete key ∷ []
accepted asked replies = []

-- what the session with this number committed, by what a line asked and what it was told
abbrev pub committed : ℕ → Result (Option LineRequest) Bad → List LineReply → List JournalEntry
committed who asked replies =
    map (λ operation. record { who = who; operation = operation }) (accepted asked replies)

-- the entry that an exchange of a session committed, if it did
abbrev pub commit_of : ℕ → Config → Exchange → List JournalEntry
commit_of who config e = committed who (asked_by config e.line) e.replies

-- all that the exchanges of a session committed
abbrev pub commits : ℕ → Config → List Exchange → List JournalEntry
commits who config exchanges = flat_map (commit_of who config) exchanges

-- the entries of a session
abbrev pub entries_by : ℕ → List JournalEntry → List JournalEntry
entries_by who history = filter (λ entry. entry.who == who) history

-- a line is answered unless it asks nothing: one with no word is skipped
abbrev pub is_answered : Result (Option LineRequest) Bad → Bool
is_answered (Ok None) = false
is_answered asked = true

-- how many of the exchanges answer a line
abbrev pub requests_of : Config → List Exchange → ℕ
requests_of config exchanges =
    count_by (λ e. is_answered (asked_by config e.line)) exchanges
