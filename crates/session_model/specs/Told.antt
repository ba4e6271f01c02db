-- Which layouts the queries of a session pinned, as its report tells them.
use Rattle.std.specs.Prelude.{◌≡◌, ℕ, suc, ◌==◌, ◌<◌, min, nat_le, if◌then◌else◌, Bool}
use Rattle.std.specs.Prelude.{List, [], ◌∷◌, ◌++◌, length, map, filter, slice_index_or, Option, Some, None}
use Rattle.std.specs.Option.{option_or}
use Rattle.std.specs.Cmp.Lexicographic.{pointwise}
use Rattle.std.specs.Str.{bytes_eq}
use Rattle.session_model.specs.Ledger.{layout_at}
use Rattle.session_model.specs.State.{Query}

-- from the query of this number on, counted from 0 in the order of opening and at most to the
-- greatest u64, queries pinned this layout on this shard
pub record ToldLayout : Type 0 where
  pub query : ℕ
  pub shard : ℕ
  pub layout : List (List ℕ)

-- the layout of each shard
abbrev pub ShardLayouts : Type 0
ShardLayouts = List (List (List ℕ))

-- two layouts are the same
abbrev pub is_same_layout : List (List ℕ) → List (List ℕ) → Bool
is_same_layout = pointwise bytes_eq

-- what is told of a layout that a query pinned on a shard
abbrev pub layout_from : ℕ → ℕ → List (List ℕ) → ToldLayout
layout_from query shard layout = record { query = query; shard = shard; layout = layout }

-- of the layouts that a query pinned on the shards from one on, those that the query before it
-- didn't pin there, or all where none was before it
abbrev pub pinned_anew : ℕ → ℕ → ShardLayouts → ShardLayouts → List ToldLayout
pinned_anew query shard before [] = []
pinned_anew query shard [] (layout ∷ layouts) =
    layout_from query shard layout ∷ pinned_anew query (suc shard) [] layouts
pinned_anew query shard (last ∷ before) (layout ∷ layouts) =
    (if is_same_layout last layout then [] else layout_from query shard layout ∷ [])
    ++ pinned_anew query (suc shard) before layouts

-- what is told of queries that pinned these layouts, from a number on, behind one that pinned those
abbrev pub told_from : ℕ → ShardLayouts → List ShardLayouts → List ToldLayout
told_from number before [] = []
told_from number before (layouts ∷ later) =
    pinned_anew (min number 18446744073709551615) 0 before layouts
    ++ told_from (suc number) layouts later

-- the layouts that queries pinned
abbrev pub pinned_by : List Query → List ShardLayouts
pinned_by queries = map (λ query. query.pinned) queries

-- what is told of the layouts that queries pinned: each where the query before pinned another
abbrev pub layouts_told : List Query → List ToldLayout
layouts_told queries = told_from 0 [] (pinned_by queries)

-- the last layout that is told of a shard
abbrev pub last_told : ℕ → List ToldLayout → Option (List (List ℕ))
last_told shard [] = None
last_told shard (item ∷ items) =
    option_or (last_told shard items) (if item.shard == shard then Some item.layout else None)

-- the last layout that is told of a shard up to a query
abbrev pub told_at : List ToldLayout → ℕ → ℕ → Option (List (List ℕ))
told_at items number shard = last_told shard (filter (λ item. nat_le item.query number) items)

-- each of these queries, as far as their numbers are told, pinned on each of so many shards the last
-- layout that is told of the shard up to it
abbrev pub ArePinnedAsTold : ℕ → List Query → Type 0
ArePinnedAsTold shards queries =
    (number shard : ℕ) → number < length queries → number < 18446744073709551615
    → shard < shards → told_at (layouts_told queries) number shard
    ≡ Some (layout_at (slice_index_or (pinned_by queries) number []) shard)
