-- The layouts that a session has in memory, as those that its queries pinned.
use Rattle.std.specs.Prelude.{◌≡◌, ℕ, min, Bool, false, if◌then◌else◌, Some, None}
use Rattle.std.specs.Prelude.{List, [], ◌∷◌, ◌++◌, length, map}
use Rattle.std.specs.List.{AllByRecursion}
use Rattle.std.specs.Arc.{arc_value}
use Rattle.shard_version.specs.Contents.{Contents}
use Rattle.session_model.specs.Told.{ShardLayouts, ToldLayout, is_same_layout, last_told, layout_from, told_from}
use Rattle.open_session.specs.declared.pinned_layouts.LayoutFrom.{LayoutFrom}
use Rattle.open_session.specs.declared.pinned_layouts.PinnedLayouts.{PinnedLayouts}

-- what a layout in memory tells
abbrev pub told_layout : LayoutFrom → ToldLayout
told_layout item = layout_from item.query item.shard (arc_value item.layout).parts

-- how many queries were opened, at most the greatest u64, and what is told of the layouts that they
-- pinned
pub record PinnedSoFar : Type 0 where
  pub opened : ℕ
  pub told : List ToldLayout

-- what the layouts in memory tell
abbrev pub pinned_in : PinnedLayouts → PinnedSoFar
pinned_in pinned =
    record { opened = pinned.opened; told = map told_layout pinned.told.items }

-- the layouts of versions
abbrev pub layouts_in : List Contents → ShardLayouts
layouts_in versions = map (λ version. version.layout.parts) versions

-- the last layout that is told of a shard is this one
abbrev pub has_told : List ToldLayout → ℕ → List (List ℕ) → Bool
has_told items shard layout =
    elim (last_told shard items) [ None ↦ false | Some last ↦ is_same_layout last layout ]

-- what is told of a layout that a query pinned on a shard, behind this
abbrev pub told_next : List ToldLayout → ℕ → ℕ → List (List ℕ) → List ToldLayout
told_next items query shard layout =
    if has_told items shard layout then [] else layout_from query shard layout ∷ []

-- these queries, which pinned so many layouts each, were opened, and their layouts are told
pub record TellsPinned (shards : ℕ) (now : PinnedSoFar) (pinned : List ShardLayouts) : Type 0 where
  pub each : AllByRecursion (λ layouts. length layouts ≡ shards) pinned
  pub opened : now.opened ≡ min (length pinned) 18446744073709551615
  pub told : now.told ≡ told_from 0 [] pinned

-- one query more pinned these layouts, whatever those before it did
abbrev pub PinsMore : PinnedSoFar → PinnedSoFar → ShardLayouts → Type 0
PinsMore old new layouts =
    (pinned : List ShardLayouts) → TellsPinned (length layouts) old pinned →
    TellsPinned (length layouts) new (pinned ++ layouts ∷ [])
