-- A session between two lines: the desk, the queries, the ledgers and the report so far.
use Rattle.std.specs.Prelude.{◌≡◌, ℕ, ◌+◌, ◌<◌, ◌≤◌, List, length, slice_index}
use Rattle.std.specs.declared.option.Option.{Option}
use Rattle.byte_lines.specs.Cut.{CutterState}
use Rattle.session_desk.specs.Desks.{DeskState}
use Rattle.layout_search.specs.declared.sample.Sample.{Sample}
use Rattle.session_model.specs.State.{Query}
use Rattle.session_model.specs.Ledger.{Ledgers, ledgers, column, readings_of}
use Rattle.session_model.specs.Upkeep.{entries_beyond}
use Rattle.open_session.specs.KeptDesk.{pins_of}
use Rattle.open_session.specs.declared.open_session.Session.{Session}
use Rattle.open_session.specs.Pinned.{PinnedSoFar, pinned_in}
use Rattle.open_session.specs.declared.shard_build.ShardBuild.{ShardBuild}
use Rattle.open_session.specs.Cursors.{Cursor}

-- the desk, the open queries, the layouts that queries pinned, the samples, the build and the
-- ledgers, how many requests were answered, and the last position
pub record Moment (W : ℕ) : Type 0 where
  pub desk : DeskState
  pub cursors : List (Cursor W)
  pub pinned : PinnedSoFar
  pub samples : List (Sample W)
  pub build : Option (ShardBuild W)
  pub ledgers : Ledgers
  pub requests : ℕ
  pub position : ℕ

-- each ledger of the queries rose by what they have read on its shard since they had read less
pub record ReadsTo (from to : List ℕ) (before after : List Query) : Type 0 where
  pub number : length to ≡ length from
  pub each : (ledger : ℕ) → ledger < length from →
      slice_index to ledger + column ledger (readings_of before)
      ≡ slice_index from ledger + column ledger (readings_of after)

-- upkeep rose by no more than the entries by which the shards were pinned further, whichever
-- position they are counted to, and the steps beside those
pub record Spends (old new : DeskState) (from to beside : ℕ) : Type 0 where
  pub longer : length old.seen ≤ length new.seen
  pub within : (most : ℕ) → length new.seen ≤ most →
      to + entries_beyond (pins_of new) most ≤ from + entries_beyond (pins_of old) most + beside

-- the moment at which a session stands, with its desk and its ledgers
abbrev pub moment_of : {W : ℕ} → DeskState → Session W → List ℕ → ℕ → Moment W
moment_of {W} desk session reads upkeep = record {
  desk = desk;
  cursors = session.queries;
  pinned = pinned_in session.pinned;
  samples = session.samples;
  build = session.build;
  ledgers = ledgers reads upkeep;
  requests = session.requests;
  position = session.position;
}

-- a session between two pieces of its input: its moment, what it holds of a line, and what the sink
-- holds
pub record Point (W : ℕ) : Type 0 where
  pub moment : Moment W
  pub cutter : CutterState
  pub written : Option (List ℕ)

-- the point at which a session stands, with its desk, its ledgers and its sink
abbrev pub point_of : {W : ℕ} → DeskState → Session W → List ℕ → ℕ → Option (List ℕ) → Point W
point_of {W} desk session reads upkeep written = record {
  moment = moment_of desk session reads upkeep;
  cutter = session.cutter;
  written = written;
}
