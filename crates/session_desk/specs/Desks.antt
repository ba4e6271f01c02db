-- What a contract sees of a session's desk.
use Rattle.std.specs.Prelude.{◌≡◌, ℕ, ◌*◌, ◌<◌, ◌≤◌, Bool, true, List, [], length, take, replicate, Option, Some, None, slice_index, slice_index_or}
use Rattle.std.specs.FinMap as map
use Rattle.hamming_model.specs.History.{JournalEntry, IsLegal, rows_of, shard_rows}
use Rattle.hamming_model.specs.Recoded.{AreStoredEntries, cut_history}
use Rattle.hamming_model.specs.declared.limits.TheConstants.{WORDS_MOST}
use Rattle.part_layout.specs.Contiguous.{contiguous}
use Rattle.part_layout.specs.Laid.{Laid, IsLaid}
use Rattle.part_layout.specs.Ranges.{IsConfig}
use Rattle.part_layout.specs.declared.config.Config.{Config}
use Rattle.shard_version.specs.Contents.{Contents, IsVersion}
use Rattle.commit_journal.specs.Fronts.{FrontState, Live, live_at, position_of}

-- a pin: the position of its front, and the text of the layout of the version that it gave
abbrev pub Pin : Type 0
Pin = ℕ × List ℕ

-- where a shard stands, and in which layout
abbrev pub ShardPlace : Type 0
ShardPlace = ℕ × Laid

-- a desk: its board, empty where it has none; its number; the Config; the entries that it has seen,
-- their codes as words keep them;
-- its live fronts; the position of the front that it opened last; by shard its last pin that gave a
-- version, and the position at
-- which it left the shard; how many swaps were done, and how many came late; whether it is alone,
-- and then by shard its place
pub record DeskState : Type 0 where
  pub board : List ℕ
  pub who : ℕ
  pub config : Config
  pub seen : List JournalEntry
  pub fronts : Live
  pub last : ℕ
  pub pins : List (Option Pin)
  pub left : List ℕ
  pub done : ℕ
  pub late : ℕ
  pub alone : Bool
  pub places : List ShardPlace

-- the contiguous layout that a Config asks for
abbrev pub starting_layout : Config → Laid
starting_layout config = record { bits = config.bits; parts = contiguous config.bits config.parts }

-- a desk that is alone, before all its calls: nothing seen, no front, no pin, each shard before the
-- first entry in the starting layout
abbrev pub new_desk : Config → DeskState
new_desk config = record {
  board = [];
  who = 0;
  config = config;
  seen = [];
  fronts = map.empty;
  last = 0;
  pins = replicate config.shards None;
  left = replicate config.shards 0;
  done = 0;
  late = 0;
  alone = true;
  places = replicate config.shards (0, starting_layout config);
}

-- no place: that of a shard which there isn't
abbrev pub no_place : ShardPlace
no_place = (0, record { bits = 0; parts = [] })

-- the position of a pin, 0 where there is none
abbrev pub pin_position : Option Pin → ℕ
pin_position None = 0
pin_position (Some pin) = pin.0

-- the position of the last pin of a shard that gave a version, 0 where there was none
abbrev pub pinned_at : DeskState → ℕ → ℕ
pinned_at desk shard = pin_position (slice_index_or desk.pins shard None)

-- the position at which the desk left a shard
abbrev pub left_at : DeskState → ℕ → ℕ
left_at desk shard = slice_index desk.left shard

-- where a shard of a desk that is alone stands, and in which layout
abbrev pub place_at : DeskState → ℕ → ShardPlace
place_at desk shard = slice_index_or desk.places shard no_place

-- the entries that the desk has seen, in codes of its bits
abbrev pub seen_history : DeskState → List JournalEntry
seen_history desk = cut_history desk.config.bits desk.seen

-- a live front of the desk
abbrev pub IsOwnFront : DeskState → FrontState → Type 0
IsOwnFront desk front = live_at desk.fronts front.id ≡ Some (front.who, position_of front)

-- a shard of a desk that is alone doesn't stand beyond what was seen, it was left where it stands,
-- and its layout is of the desk's bits
pub record IsShardPlace (desk : DeskState) (shard : ℕ) : Type 0 where
  pub within : (place_at desk shard).0 ≤ length desk.seen
  pub left : left_at desk shard ≡ (place_at desk shard).0
  pub laid : IsLaid (place_at desk shard).1
  pub bits : (place_at desk shard).1.bits ≡ desk.config.bits

-- what is true of every desk whose codes have so many words
pub record IsDesk (words : ℕ) (desk : DeskState) : Type 0 where
  pub config : IsConfig desk.config
  pub few_words : words ≤ WORDS_MOST
  pub room : desk.config.bits ≤ 64 * words
  pub legal : IsLegal desk.seen
  pub few : length desk.seen ≤ desk.config.entries
  pub codes : AreStoredEntries words desk.config.bits desk.seen
  pub pins : length desk.pins ≡ desk.config.shards
  pub left : length desk.left ≡ desk.config.shards
  pub pinned : (shard : ℕ) → shard < desk.config.shards → pinned_at desk shard ≤ left_at desk shard
  pub pinned_within : (shard : ℕ) → shard < desk.config.shards
      → pinned_at desk shard ≤ length desk.seen
  pub places : desk.alone ≡ true → length desk.places ≡ desk.config.shards
  pub each : desk.alone ≡ true → (shard : ℕ) → shard < desk.config.shards → IsShardPlace desk shard

-- a version of a shard at a position of what the desk has seen: the shard's rows of so many
-- entries, in codes of the desk's bits
pub record IsVersionOf (desk : DeskState) (shard position : ℕ) (version : Contents) : Type 0 where
  pub sound : IsVersion version
  pub shard_is : version.shard ≡ shard
  pub shards_are : version.shards ≡ desk.config.shards
  pub bits_are : version.layout.bits ≡ desk.config.bits
  pub at : version.at ≡ position
  pub rows : version.rows ≡ shard_rows shard desk.config.shards
      (rows_of (take position (seen_history desk)))
