-- Which lines pin shards, and the layouts that are told of queries beside those of the desk's last pins.
use Rattle.std.specs.Prelude.{◌≡◌, ℕ, ◌<◌, ◌&&◌, not, Bool, true, false, Option, Some, None, Ok}
use Rattle.std.specs.Prelude.{List, [], ◌∷◌, reverse, slice_index_or}
use Rattle.std.specs.List.{find}
use Rattle.part_layout.specs.declared.config.Config.{Config}
use Rattle.part_layout.specs.Text.{layout_text}
use Rattle.query_protocol.specs.Requests.{LineReading, Range, Near, Repart, Swap, Search}
use Rattle.query_protocol.specs.Replies.{LineReply}
use Rattle.query_protocol.specs.Replies as reply
use Rattle.session_desk.specs.Desks.{DeskState}
use Rattle.session_model.specs.Entries.{Exchange}
use Rattle.session_model.specs.Step.{asked_by}
use Rattle.session_model.specs.Told.{ToldLayout, last_told}
use Rattle.open_session.specs.Pinned.{PinnedSoFar}

-- a line may pin shards: one that opens a query, starts a build or puts one in place, or searches
abbrev pub may_pin : LineReading → Bool
may_pin (Ok (Some (Range tag tau code))) = true
may_pin (Ok (Some (Near tag number code))) = true
may_pin (Ok (Some (Repart shard layout))) = true
may_pin (Ok (Some Swap)) = true
may_pin (Ok (Some (Search shard rounds))) = true
may_pin asked = false

-- a line was refused as a bad one
abbrev pub met_bad : List LineReply → Bool
met_bad (reply.Bad fault ∷ []) = true
met_bad replies = false

-- a query was opened
abbrev pub was_opened : List LineReply → Bool
was_opened (reply.Open tag at ∷ []) = true
was_opened replies = false

-- a line that was answered so pins shards
abbrev pub pins_shards : LineReading → List LineReply → Bool
pins_shards asked replies = may_pin asked && not (met_bad replies)

-- the last of the exchanges that pins shards, if there is one
abbrev pub last_pinning : Config → List Exchange → Option Exchange
last_pinning config exchanges =
    find (λ e. pins_shards (asked_by config e.line) e.replies) (reverse exchanges)

-- the desk's last pin of a shard is at this position, and of the layout that is told last of it
pub record IsPinTold (desk : DeskState) (told : List ToldLayout) (at shard : ℕ) : Type 0 where
  pub layout : List (List ℕ)
  pub told_last : last_told shard told ≡ Some layout
  pub pinned_last : slice_index_or desk.pins shard None ≡ Some (at, layout_text layout)

-- so is its last pin of each shard
abbrev pub ArePinsTold : DeskState → List ToldLayout → ℕ → Type 0
ArePinsTold desk told at = (shard : ℕ) → shard < desk.config.shards → IsPinTold desk told at shard

-- where the last of the exchanges that pins shards opened a query, the layouts told of it are those
-- of the desk's last pins, at the query's position
abbrev pub TellsLastPins : Config → List Exchange → DeskState → List ToldLayout → Type 0
TellsLastPins config exchanges desk told =
    (e : Exchange) → last_pinning config exchanges ≡ Some e → was_opened e.replies ≡ true
    → ArePinsTold desk told e.position

-- the desk's last pins, and the layouts that are told, are as before
pub record KeepsPins (old new : DeskState) (before after : PinnedSoFar) : Type 0 where
  pub pins : new.pins ≡ old.pins
  pub told : after ≡ before

-- what a line that was answered so at a position makes of both: nothing where it pins no shard, and
-- the same layouts where it opens a query
pub record LeavesPins (asked : LineReading) (replies : List LineReply) (at : ℕ)
    (old new : DeskState) (before after : PinnedSoFar) : Type 0 where
  pub kept : pins_shards asked replies ≡ false → KeepsPins old new before after
  pub opened : (may_pin asked && was_opened replies) ≡ true → ArePinsTold new after.told at
