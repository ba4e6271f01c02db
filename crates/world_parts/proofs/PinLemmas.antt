-- The last version of a query is pinned, and its sources begin.
use Rattle.std.proofs.Common.{◌≡◌, ℕ, ◌≤◌, length, None, Some, sym, ap, subst, inr}
use Rattle.std.specs.Prelude.{Option, Vec, slice_get}
use Rattle.std.specs.List.{sum_by}
use Rattle.std.specs.declared.alloc.Global.{Global}
use Rattle.std.specs.declared.sync.Arc.{Arc}
use Rattle.hamming_model.specs.declared.limits.TheConstants.{SHARDS_MOST}
use Rattle.shard_version.specs.Tables.{Tabled}
use Rattle.commit_journal.specs.Journals.{JournalState, KeepsFronts}
use Rattle.scatter_gather.specs.Gathering.{Gathered}
use Rattle.world_parts.specs.Cancels.{without_held}
use Rattle.world_parts.specs.Gathers.{with_gather}
use Rattle.world_parts.specs.Pinned.{BeginsGather, MayOpenEach, PinsHeld, VersionPins, missing, pinned_with, rows_pinned}
use Rattle.world_parts.specs.Sources.{QuerySource}
use Rattle.world_parts.specs.Whole.{IsWhole}
use Rattle.world_parts.specs.declared.ask.Ask.{Ask}
use Rattle.world_parts.specs.declared.held.Held.{Held}

-- a vector of pins
abbrev pub PinVec : Type 0
PinVec = Vec (Option (Arc Tabled Global)) Global

-- what the sources ask for holds of the pins as they are read
pub begins_on : {W : ℕ} (ask : Ask W) (pins own : VersionPins) (shard : ℕ) (version : Arc Tabled Global) → own ≡ pins → length pins ≤ SHARDS_MOST
    → slice_get pins shard ≡ Some None → MayOpenEach ask (pinned_with pins shard version)
    → (length own ≤ SHARDS_MOST) × ((slice_get own shard ≡ Some None) × MayOpenEach ask (pinned_with own shard version))
begins_on ask pins own shard version same few free may =
    subst (λ (p : VersionPins). (length p ≤ SHARDS_MOST) × ((slice_get p shard ≡ Some None) × MayOpenEach ask (pinned_with p shard version)))
    (sym same) (few, (free, may))

-- those that it has with one more are those that are known with one more
pub known_with : {W : ℕ} (held : Held W) (shard : ℕ) (version : Arc Tabled Global) → IsWhole held
    → pinned_with held.pins.items shard version ≡ pinned_with held.pinned.value.items shard version
known_with held shard version whole = ap (λ (pins : PinVec). pinned_with pins.items shard version) whole.pins

-- the last version was pinned
pub last_held : {W : ℕ} (room : ℕ) (from to : JournalState) (old new : Held W) (shard : ℕ) (version : Arc Tabled Global) (own : VersionPins)
    (gather : Gathered (QuerySource W)) → own ≡ old.pinned.value.items → missing new.pinned.value.items ≡ 0
    → new.pinned.value.items ≡ pinned_with old.pinned.value.items shard version
    → BeginsGather room old.ask (pinned_with own shard version) (sum_by rows_pinned (pinned_with own shard version)) gather new.limit
    → (let after : Held W = record old { pins = new.pins; pinned = new.pinned; front = None; limit = new.limit } in new ≡ with_gather after (Some gather))
    → IsWhole new
    → to ≡ without_held from old.front → KeepsFronts from to → PinsHeld room from to old new shard version
last_held room from to old new shard version own gather same all pins begins rest whole journal fronts = inr (record {
  all = all;
  pins = pins;
  gather = gather;
  begins = subst (λ (p : VersionPins). BeginsGather room old.ask (pinned_with p shard version) (sum_by rows_pinned (pinned_with p shard version))
      gather new.limit) same begins;
  rest = rest;
  whole = whole;
  journal = journal;
  fronts = fronts;
})
