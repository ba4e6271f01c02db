-- How a desk and the cursors mean a state.
use Rattle.std.specs.Prelude.{◌≡◌, ℕ, ◌<◌, ◌≤◌, true, false, List, [], ◌∷◌, length}
use Rattle.std.specs.Prelude.{slice_index_or, take, Option, IfSome}
use Rattle.std.specs.List.{AllByRecursion}
use Rattle.hamming_model.specs.declared.limits.TheConstants.{ENTRIES_MOST, WORDS_MOST}
use Rattle.hamming_model.specs.History.{JournalEntry, rows_of}
use Rattle.hamming_model.specs.Scan.{Ask, scan}
use Rattle.hit_source.specs.Sources.{Asked}
use Rattle.threshold_model.specs.Bounds.{IsBoundOf, IsPlanOf}
use Rattle.part_layout.specs.declared.config.Config.{Config}
use Rattle.part_layout.specs.Ranges.{IsConfig}
use Rattle.gph_codes.specs.Allowed.{IsAllowed}
use Rattle.query_protocol.specs.declared.request.Request.{Request}
use Rattle.query_protocol.specs.declared.request.Request.TheVariants as request
use Rattle.session_desk.specs.Desks.{DeskState, seen_history}
use Rattle.session_model.specs.State.{Query, State}
use Rattle.session_model.specs.Step.{AreLayouts}
use Rattle.session_model.specs.Ledger.{IsBounded, layout_at, rows_at}
use Rattle.open_session.specs.Questions.{asked_code, radius_in, limit_in}
use Rattle.open_session.specs.Cursors.{ShardSource, Cursor, asks, reads_in}
use Rattle.open_session.specs.KeptDesk.{layouts_of}

-- a source is asked this question on the rows of a shard, in a layout of their codes
pub record AsksOn (bits : ℕ) (asked : Ask) (rows : List (ℕ × List ℕ)) (layout : List (List ℕ))
    (a : Asked) : Type 0 where
  pub radius : radius_in bits asked ≤ bits
  pub hits : a.hits ≡ scan rows (asked_code asked) (radius_in bits asked)
  pub rows_are : a.rows ≡ length rows
  pub few : length rows ≤ ENTRIES_MOST
  pub plan : (last : Option ℕ) → IfSome last (λ distance. distance ≤ bits) →
      IsPlanOf asked rows layout last (a.plan last).0 (a.plan last).1
  pub bound : (last : Option ℕ) → IfSome last (λ distance. distance ≤ bits) →
      IsBoundOf asked rows layout last (a.bound last)

-- a cursor is this open query of the state, in a history
pub record Keeps {W : ℕ} (config : Config) (history : List JournalEntry) (cursor : Cursor W)
    (query : Query) : Type 0 where
  pub tag : cursor.tag ≡ query.tag
  pub within : query.position ≤ length history
  pub pinned : AreLayouts config query.pinned
  pub sources : length cursor.gather.sources ≡ config.shards
  pub each_asks : (shard : ℕ) (d : ShardSource W) → shard < config.shards →
      AsksOn config.bits query.ask (rows_at config history query shard)
      (layout_at query.pinned shard) (asks (slice_index_or cursor.gather.sources shard d))
  pub limit : cursor.gather.limit
      ≡ limit_in query.ask (length (rows_of (take query.position history)))
  pub given : cursor.gather.given ≡ query.given
  pub done : cursor.done ≡ query.done
  pub reads : query.reads ≡ reads_in cursor
  pub opened : query.closed ≡ false

-- the cursors are these queries, in their order
abbrev pub AllKeep : {W : ℕ} → Config → List JournalEntry → List (Cursor W) → List Query → Type 0
AllKeep config history [] [] = Unit {0}
AllKeep config history [] (query ∷ queries) = ⊥
AllKeep config history (cursor ∷ cursors) [] = ⊥
AllKeep config history (cursor ∷ cursors) (query ∷ queries) =
    Keeps config history cursor query × AllKeep config history cursors queries

-- a query, open or closed, stands in the history and has read within its bounds
pub record IsSettled (config : Config) (history : List JournalEntry) (query : Query) : Type 0 where
  pub within : query.position ≤ length history
  pub bounded : IsBounded config history query

-- a desk means a state of its session, in the history so far; where it is alone, the state's
-- position is the length of the whole history and its layouts are those of the shards
pub record Means (config : Config) (desk : DeskState) (history : List JournalEntry) (s : State)
    : Type 0 where
  pub config_is : desk.config ≡ config
  pub history_is : history ≡ seen_history desk
  pub within : s.position ≤ length history
  pub whole : desk.alone ≡ true → s.position ≡ length history
  pub who : s.who ≡ desk.who
  pub layouts : desk.alone ≡ true → s.layouts ≡ layouts_of desk
  pub are_layouts : AreLayouts config s.layouts

-- what a session was asked to be fits its words
pub record IsReady (W : ℕ) (config : Config) : Type 0 where
  pub few_words : W ≤ WORDS_MOST
  pub allowed : IsAllowed W config.bits
  pub is_config : IsConfig config

-- a source stands behind each cursor for each shard
abbrev pub HaveShards : {W : ℕ} → ℕ → List (Cursor W) → Type 0
HaveShards {W} shards cursors =
    AllByRecursion (λ cursor. length cursor.gather.sources ≡ shards) cursors

-- a request that has an answer: all but `quit`
abbrev pub IsAnswered : {W : ℕ} → Request W → Type 0
IsAnswered request.Quit = ⊥
IsAnswered other = Unit {0}

-- a request that has an answer and isn't on builds
abbrev pub IsPlain : {W : ℕ} → Request W → Type 0
IsPlain request.Quit = ⊥
IsPlain (request.Repart shard layout) = ⊥
IsPlain (request.Build n) = ⊥
IsPlain request.Swap = ⊥
IsPlain other = Unit {0}
