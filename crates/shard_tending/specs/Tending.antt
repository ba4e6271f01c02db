-- What a turn makes of a desk.
use Rattle.std.specs.Prelude.{◌≡◌, ◌≢◌, ℕ, zero, suc, ◌+◌, ◌<◌, ◌≤◌, ◌==◌, Bool, true, false, if◌then◌else◌, List, [], ◌∷◌, ◌++◌, length}
use Rattle.part_layout.specs.Laid.{Laid}
use Rattle.session_desk.specs.Calls.{Learns}
use Rattle.session_desk.specs.Desks.{DeskState}
use Rattle.shard_tending.specs.Searched.{is_improvable, layout_in, tended_in}
use Rattle.shard_tending.specs.declared.tended.Tended.{Tended}

-- others may have added entries, and the desk has its number, board, Config and live fronts
pub record KeepsOwnDesk (old new : DeskState) : Type 0 where
  pub learns : Learns old new.seen
  pub board : new.board ≡ old.board
  pub who : new.who ≡ old.who
  pub config : new.config ≡ old.config
  pub fronts : new.fronts ≡ old.fronts
  pub alone : new.alone ≡ old.alone

-- a count rose by so much, unless it stands at the greatest number, at which it stays
pub record IsCountRise (before number after : ℕ) : Type 0 where
  pub exact : after ≢ 18446744073709551615 → after ≡ before + number
  pub full : before ≡ 18446744073709551615 → after ≡ 18446744073709551615
  pub never_back : before ≤ after
  pub never_more : after ≤ before + number

-- whether a shard is among some
abbrev pub is_among : List ℕ → ℕ → Bool
is_among [] shard = false
is_among (other ∷ others) shard = if other == shard then true else is_among others shard

-- those of the first so many shards that a search finds a cheaper layout for
abbrev pub improvable_shards : DeskState → ℕ → List ℕ
improvable_shards desk zero = []
improvable_shards desk (suc shard) =
    if is_improvable desk shard then improvable_shards desk shard ++ shard ∷ []
    else improvable_shards desk shard

-- the layout of a shard once some shards are swapped
abbrev pub layout_after : DeskState → List ℕ → ℕ → Laid
layout_after desk swapped shard =
    if is_among swapped shard then tended_in desk shard else layout_in desk shard

-- what a turn makes of the first so many shards of a desk that is alone: the shards swapped have
-- the layouts that were found, and all others keep theirs; where memory sufficed, those swapped are
-- just those with a cheaper one, and each shard has the layout where its search ends
pub record TendsAlone (old new : DeskState) (tended : Tended) (shards : ℕ) : Type 0 where
  pub swapped : List ℕ
  pub number : length swapped ≡ tended.swapped
  pub none_moved : tended.moved ≡ 0
  pub own : (shard : ℕ) → shards ≤ shard → is_among swapped shard ≡ false
  pub layouts : (shard : ℕ) → layout_in new shard ≡ layout_after old swapped shard
  pub improvable : tended.nomem ≡ 0 → swapped ≡ improvable_shards old shards
  pub each : tended.nomem ≡ 0 → (shard : ℕ) → shard < shards
      → layout_in new shard ≡ tended_in old shard
