-- What a session is told by the lines of a workload: a function of its words, but for the reads.
use Rattle.std.specs.Prelude.{◌≡◌, ℕ, ◌+◌, ◌<◌, ◌≤◌, List, [], ◌∷◌, length, slice_index, sum_by}
use Rattle.std.specs.List.{flat_map}
use Rattle.hamming_model.specs.History.{shard_rows}
use Rattle.hamming_model.specs.Scan.{Ask, answer}
use Rattle.threshold_model.specs.Bounds.{IsBoundOf, last_distance}
use Rattle.part_layout.specs.Contiguous.{contiguous}
use Rattle.part_layout.specs.declared.config.Config.{Config}
use Rattle.query_protocol.specs.Replies.{LineReply}
use Rattle.session_model.specs.Entries.{Exchange}
use Rattle.session_model.specs.Ledger.{sum_of}
use Rattle.load_sums.specs.Sums.{hits_of, told_bound, reads_of}
use Rattle.load_model.specs.Workload.{rows_drawn, questions_drawn, hits_drawn}

-- all replies of exchanges
abbrev pub replies_of : List Exchange → List LineReply
replies_of exchanges = flat_map (λ e. e.replies) exchanges

-- the most postings that a question may read for all its hits, in the starting layout of each shard
pub record IsBoundDrawn (config : Config) (rows : List (ℕ × List ℕ)) (asked : Ask) (bound : ℕ)
    : Type 0 where
  pub bounds : List ℕ
  pub number : length bounds ≡ config.shards
  pub each : (shard : ℕ) → shard < config.shards →
      IsBoundOf asked (shard_rows shard config.shards rows) (contiguous config.bits config.parts)
      (last_distance (answer config.bits rows asked)) (slice_index bounds shard)
  pub all : bound ≡ sum_of bounds

-- so many postings are the bounds of these questions, added up
abbrev pub AreBoundsDrawn : Config → List (ℕ × List ℕ) → List Ask → ℕ → Type 0
AreBoundsDrawn config rows [] sum = sum ≡ 0
AreBoundsDrawn config rows (asked ∷ others) sum =
    (bound : ℕ) × (rest : ℕ) × IsBoundDrawn config rows asked bound
    × AreBoundsDrawn config rows others rest × (sum ≡ bound + rest)

-- the hits and the bound are those of the workload, and the reads lie between them
pub record IsToldOfLoad (config : Config) (number keys hits bound reads : ℕ) : Type 0 where
  pub hits_are : hits ≡ hits_drawn config.bits number keys
  pub bound_is : AreBoundsDrawn config (rows_drawn config.bits number keys)
      (questions_drawn config.bits number keys) bound
  pub no_fewer : hits ≤ reads
  pub within : reads ≤ bound

-- what the replies of a session to the lines of a workload add up to
abbrev pub AddUpToLoad : Config → ℕ → ℕ → List LineReply → Type 0
AddUpToLoad config number keys replies =
    IsToldOfLoad config number keys (sum_by hits_of replies) (sum_by told_bound replies)
    (sum_by reads_of replies)
