-- How many steps of upkeep a session may take.
use Rattle.std.specs.Prelude.{ℕ, ◌+◌, ◌-◌, ◌*◌, List, [], ◌∷◌, map}
use Rattle.exchange_model.specs.declared.limits.TheConstants.{SEARCH_ROWS_MOST}
use Rattle.query_protocol.specs.Replies.{LineReply}
use Rattle.query_protocol.specs.Replies as reply
use Rattle.session_model.specs.Entries.{Exchange}
use Rattle.session_model.specs.Ledger.{sum_of}

-- how many entries up to a position are beyond each of these positions, all together
abbrev pub entries_beyond : List ℕ → ℕ → ℕ
entries_beyond positions position = sum_of (map (λ other. position - other) positions)

-- the steps that a request answered so may have taken beside those for entries and builds: a search
-- reads some rows, and what found no memory took steps in vain, where so many entries were seen
abbrev pub other_steps : ℕ → List LineReply → ℕ → ℕ
other_steps shards (reply.Searched shard before after swaps at text ∷ []) seen = SEARCH_ROWS_MOST
other_steps shards (reply.NoMemory ∷ []) seen = (shards + 2) * seen + SEARCH_ROWS_MOST
other_steps shards replies seen = 0

-- the steps that these exchanges may have taken so
abbrev pub all_other_steps : ℕ → List Exchange → ℕ
all_other_steps shards exchanges = sum_of (map (λ e. other_steps shards e.replies e.seen) exchanges)

-- the steps that a request answered so may have taken for a build that stood at a position: twice
-- the rows at its start, and the entries that it followed
abbrev pub build_steps : ℕ → List LineReply → ℕ
build_steps from (reply.Building shard left at ∷ []) = 2 * left
build_steps from (reply.Swapped shard at ∷ []) = at - from
build_steps from (reply.Moved shard front at ∷ []) = front - from
build_steps from replies = 0

-- where the build stands then
abbrev pub build_at : ℕ → List LineReply → ℕ
build_at from (reply.Building shard left at ∷ []) = at
build_at from (reply.Moved shard front at ∷ []) = front
build_at from replies = from

-- where the build stands after exchanges before which it stood at a position
abbrev pub build_after : ℕ → List Exchange → ℕ
build_after from [] = from
build_after from (e ∷ exchanges) = build_after (build_at from e.replies) exchanges

-- the steps that they may have taken for builds
abbrev pub all_build_steps : ℕ → List Exchange → ℕ
all_build_steps from [] = 0
all_build_steps from (e ∷ exchanges) =
    build_steps from e.replies + all_build_steps (build_at from e.replies) exchanges

-- the most steps of upkeep of exchanges that end at a position, where the shards had been pinned at
-- these positions: an entry is followed once on each shard and once by a build, and a build reads
-- and places each row, and a search reads some, but for requests that found no memory
abbrev pub most_upkeep : ℕ → List ℕ → ℕ → List Exchange → ℕ
most_upkeep shards pins position exchanges =
    entries_beyond pins position + all_build_steps 0 exchanges + all_other_steps shards exchanges
