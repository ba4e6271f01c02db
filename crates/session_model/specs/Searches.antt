-- The samples of a session, and what a line that searches a layout is told.
use Rattle.std.specs.Prelude.{◌≡◌, ℕ, ◌-◌, ◌≤◌, nat_le, if◌then◌else◌}
use Rattle.std.specs.Prelude.{List, [], ◌∷◌, length, take, drop}
use Rattle.std.specs.List.{flat_map}
use Rattle.hamming_model.specs.History.{JournalEntry, rows_of, shard_rows}
use Rattle.hamming_model.specs.Scan.{Ask}
use Rattle.hamming_model.specs.Scan as ask
use Rattle.exchange_model.specs.Rounds.{IsSearchEnd, PlainSample}
use Rattle.exchange_model.specs.declared.limits.TheConstants.{SAMPLES_MOST, SAMPLE_RADIUS_MOST}
use Rattle.part_layout.specs.declared.config.Config.{Config}
use Rattle.part_layout.specs.Text.{layout_text}
use Rattle.query_protocol.specs.Replies as reply
use Rattle.session_model.specs.State.{Query, State}
use Rattle.session_model.specs.Ledger.{layout_at}
use Rattle.session_model.specs.Entries.{Exchange}

-- the sample that a question is, where it is one: a range query of a small radius
abbrev pub sample_of : Ask → List PlainSample
sample_of (ask.Range tau code) =
    if nat_le tau SAMPLE_RADIUS_MOST then record { query = code; tau = tau } ∷ [] else []
sample_of (ask.Near number code) = []

-- the last of a list, so many at most
abbrev pub newest_of : {A : Type 0} → ℕ → List A → List A
newest_of number list = drop (length list - number) list

-- the samples of a session that opened these queries: the last of those that are samples, the
-- oldest first
abbrev pub samples_of : List Query → List PlainSample
samples_of queries = newest_of SAMPLES_MOST (flat_map (λ query. sample_of query.ask) queries)

-- a layout was searched for a shard, from the one that the line saw on, over the shard's rows at a
-- prefix that is no shorter than the last
pub record SearchesLayout (config : Config) (history : List JournalEntry) (shard rounds : ℕ)
    (s : State) (e : Exchange) (t : State) : Type 0 where
  pub not_before : s.position ≤ e.position
  pub within : e.position ≤ length history
  pub found : List (List ℕ)
  pub before : ℕ
  pub after : ℕ
  pub swaps : ℕ
  pub ends : IsSearchEnd (shard_rows shard config.shards (rows_of (take e.position history)))
      (samples_of s.queries) rounds (layout_at e.layouts shard) found before after swaps
  pub said_is : e.replies
      ≡ reply.Searched shard before after swaps e.position (layout_text found) ∷ []
  pub position : t ≡ record s { position = e.position }
