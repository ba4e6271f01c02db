-- What a line on builds is told, and the build and the layouts that it leaves.
use Rattle.std.specs.Prelude.{◌≡◌, ℕ, ◌-◌, ◌<◌, ◌≤◌, ◌⊎◌, nat_lt, Bool, true, false}
use Rattle.std.specs.Prelude.{List, [], ◌∷◌, length, take, slice_set, Option, Some, None, count_by}
use Rattle.hamming_model.specs.History.{JournalEntry, rows_of, shard_rows}
use Rattle.part_layout.specs.declared.config.Config.{Config}
use Rattle.query_protocol.specs.Requests.{bad}
use Rattle.query_protocol.specs.Replies.{LineReply}
use Rattle.query_protocol.specs.Replies as reply
use Rattle.session_model.specs.State.{Build, State}
use Rattle.session_model.specs.Entries.{Exchange, Stays, Refuses}

-- a build was started at a prefix that is no shorter than the last: all rows that the shard has
-- there are left to place
pub record OpensBuild (config : Config) (history : List JournalEntry) (shard : ℕ)
    (layout : List (List ℕ)) (s : State) (e : Exchange) (t : State) : Type 0 where
  pub not_before : s.position ≤ e.position
  pub within : e.position ≤ length history
  pub left : ℕ
  pub left_is : left
      ≡ length (shard_rows shard config.shards (rows_of (take e.position history)))
  pub said_is : e.replies ≡ reply.Building shard left e.position ∷ []
  pub started : t ≡ record s {
    position = e.position;
    build = Some (record { shard = shard; layout = layout; left = left });
  }

-- a start, where a build goes on already or none does
abbrev pub StartsUnlessBuilding : Option Build → Config → List JournalEntry → ℕ
    → List (List ℕ) → State → Exchange → State → Type 0
StartsUnlessBuilding (Some build) config history shard layout s e t =
    Stays (reply.Bad (bad 10) ∷ []) s e t
StartsUnlessBuilding None config history shard layout s e t =
    Refuses s e t ⊎ OpensBuild config history shard layout s e t

-- an answer on the build that goes on, where one does
abbrev pub IfBuilding : Option Build → (Build → State → Exchange → State → Type 0)
    → State → Exchange → State → Type 0
IfBuilding None Answered s e t = Stays (reply.Bad (bad 10) ∷ []) s e t
IfBuilding (Some build) Answered s e t = Answered build s e t

-- a build of which so many rows more were placed, or all that were left
abbrev pub build_placed : Build → ℕ → Build
build_placed build number = record build { left = build.left - number }

-- rows of the build were placed
pub record PlacesMoreRows (number : ℕ) (build : Build) (s : State) (e : Exchange) (t : State)
    : Type 0 where
  pub said_is : e.replies ≡ reply.Built build.shard (build.left - number) ∷ []
  pub position : e.position ≡ s.position
  pub placed : t ≡ record s { build = Some (build_placed build number) }

-- the build is put in place at a prefix that is no shorter than the last: the shard has its layout
pub record PutsInPlace (history : List JournalEntry) (build : Build) (s : State) (e : Exchange)
    (t : State) : Type 0 where
  pub not_before : s.position ≤ e.position
  pub within : e.position ≤ length history
  pub said_is : e.replies ≡ reply.Swapped build.shard e.position ∷ []
  pub swapped : t ≡ record s {
    position = e.position;
    layouts = slice_set s.layouts build.shard build.layout;
    build = None;
  }

-- the shard stands beyond the prefix at which the build was to be put in place: the build stays
pub record FindsShardBeyond (history : List JournalEntry) (build : Build) (s : State)
    (e : Exchange) (t : State) : Type 0 where
  pub not_before : s.position ≤ e.position
  pub within : e.position ≤ length history
  pub shard_at : ℕ
  pub beyond : e.position < shard_at
  pub said_is : e.replies ≡ reply.Moved build.shard e.position shard_at ∷ []
  pub stays : t ≡ record s { position = e.position }

-- a swap, where rows of the build are left to place or none is
abbrev pub SwapsUnlessLeft
    : Bool → List JournalEntry → Build → State → Exchange → State → Type 0
SwapsUnlessLeft true history build s e t = Stays (reply.Bad (bad 11) ∷ []) s e t
SwapsUnlessLeft false history build s e t =
    Refuses s e t ⊎ (PutsInPlace history build s e t ⊎ FindsShardBeyond history build s e t)

-- a swap of the build that goes on
abbrev pub SwapsIfPlaced : List JournalEntry → Build → State → Exchange → State → Type 0
SwapsIfPlaced history build s e t = SwapsUnlessLeft (nat_lt 0 build.left) history build s e t

-- a build found its shard beyond it
abbrev pub was_moved : List LineReply → Bool
was_moved (reply.Moved shard front at ∷ []) = true
was_moved replies = false

-- a build was put in place
abbrev pub was_swapped : List LineReply → Bool
was_swapped (reply.Swapped shard at ∷ []) = true
was_swapped replies = false

-- how many of the exchanges put a build in place
abbrev pub swaps_of : List Exchange → ℕ
swaps_of exchanges = count_by (λ e. was_swapped e.replies) exchanges
