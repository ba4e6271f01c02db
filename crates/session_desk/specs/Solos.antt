-- How a desk that is alone is kept: its journal and its shards. Public clauses see it as `desk_of`
-- does.
use Rattle.std.specs.Prelude.{◌≡◌, ℕ, ◌*◌, ◌<◌, ◌≤◌, true, List, [], length, map, Option, None, slice_index_or, refl}
use Rattle.std.specs.Coded.{Coded, code_by, coded×, coded_list, coded_option, coded_ℕ}
use Rattle.hamming_model.specs.History.{JournalEntry}
use Rattle.hamming_model.specs.Recoded.{AreStoredEntries}
use Rattle.hamming_model.specs.declared.limits.TheConstants.{WORDS_MOST}
use Rattle.part_layout.specs.Ranges.{IsConfig}
use Rattle.part_layout.specs.declared.config.Config.{Config}
use Rattle.shard_version.specs.Contents.{Contents, IsVersion, empty_of}
use Rattle.commit_journal.specs.Journals.{JournalState, journal_code}
use Rattle.versioned_shard.specs.Along.{version_at}
use Rattle.versioned_shard.specs.Rule.{KeepsJournalRule}
use Rattle.versioned_shard.specs.Shards.{ShardState, shard_code, shard_with}
use Rattle.session_desk.specs.Desks.{DeskState, Pin, ShardPlace, no_place, pin_position, starting_layout}

-- the Config, the journal, the position of the front that was opened last, the shards with their
-- last pins, and the two counts
pub record SoloState : Type 0 where
  pub config : Config
  pub journal : JournalState
  pub last : ℕ
  pub shards : List ShardState
  pub pins : List (Option Pin)
  pub done : ℕ
  pub late : ℕ

-- a solo desk of these parts
abbrev pub solo_of : Config → JournalState → ℕ → List ShardState → List (Option Pin) → ℕ → ℕ
    → SoloState
solo_of config journal last shards pins done late =
    record {
      config = config;
      journal = journal;
      last = last;
      shards = shards;
      pins = pins;
      done = done;
      late = late;
    }

-- a Config as a tuple
abbrev pub config_code : Coded Config
config_code =
    code_by (ℕ × (ℕ × (ℕ × (ℕ × (ℕ × ℕ)))))
    (coded× coded_ℕ (coded× coded_ℕ (coded× coded_ℕ (coded× coded_ℕ (coded× coded_ℕ coded_ℕ)))))
    (λ c. (c.bits, (c.parts, (c.shards, (c.room, (c.entries, c.input))))))
    (λ t. record {
      bits = t.0;
      parts = t.1.0;
      shards = t.1.1.0;
      room = t.1.1.1.0;
      entries = t.1.1.1.1.0;
      input = t.1.1.1.1.1;
    }) (λ _. refl)

-- a solo desk as a tuple
abbrev pub solo_code : Coded SoloState
solo_code =
    code_by (Config × (JournalState × (ℕ × (List ShardState × (List (Option Pin) × (ℕ × ℕ))))))
    (coded× config_code (coded× journal_code (coded× coded_ℕ (coded× (coded_list shard_code)
    (coded× (coded_list (coded_option (coded× coded_ℕ (coded_list coded_ℕ))))
    (coded× coded_ℕ coded_ℕ))))))
    (λ s. (s.config, (s.journal, (s.last, (s.shards, (s.pins, (s.done, s.late)))))))
    (λ t. solo_of t.0 t.1.0 t.1.1.0 t.1.1.1.0 t.1.1.1.1.0 t.1.1.1.1.1.0 t.1.1.1.1.1.1) (λ _. refl)

-- where a shard stands, and in which layout
abbrev pub place_of : ShardState → ShardPlace
place_of shard = (shard.current.at, shard.current.layout)

-- a solo desk has seen the whole history of its journal, and left each shard where it stands
abbrev pub desk_of : SoloState → DeskState
desk_of s = record {
  board = [];
  who = 0;
  config = s.config;
  seen = s.journal.history;
  fronts = s.journal.live;
  last = s.last;
  pins = s.pins;
  left = map (λ shard. shard.current.at) s.shards;
  done = s.done;
  late = s.late;
  alone = true;
  places = map place_of s.shards;
}

-- no shard: that of a number which none has
abbrev pub no_shard : ShardState
no_shard = shard_with (record {
  shard = 0;
  shards = 0;
  at = no_place.0;
  layout = no_place.1;
  rows = [];
}) []

-- a shard of a number keeps the rule of the journal, is one of those that the Config asks for, and
-- was pinned no later than it stands
pub record IsShardOf (config : Config) (journal : JournalState) (number : ℕ) (shard : ShardState)
    (pin : Option Pin) : Type 0 where
  pub rule : KeepsJournalRule journal shard
  pub shard_is : shard.current.shard ≡ number
  pub shards_are : shard.current.shards ≡ config.shards
  pub bits_are : shard.current.layout.bits ≡ config.bits
  pub pinned : pin_position pin ≤ shard.current.at

-- what is true of every solo desk whose codes have so many words
pub record IsSoloDesk (words : ℕ) (s : SoloState) : Type 0 where
  pub config : IsConfig s.config
  pub few_words : words ≤ WORDS_MOST
  pub room : s.config.bits ≤ 64 * words
  pub limit : s.journal.limit ≡ s.config.entries
  pub codes : AreStoredEntries words s.config.bits s.journal.history
  pub shards : length s.shards ≡ s.config.shards
  pub pins : length s.pins ≡ s.config.shards
  pub each : (number : ℕ) → number < s.config.shards
      → IsShardOf s.config s.journal number (slice_index_or s.shards number no_shard)
      (slice_index_or s.pins number None)

-- a shard that came to a position or nearer, in the layout in which it stood
pub record ComesTo (journal : JournalState) (position : ℕ) (old new : ShardState) : Type 0 where
  pub rule : KeepsJournalRule journal new
  pub shard_is : new.current.shard ≡ old.current.shard
  pub shards_are : new.current.shards ≡ old.current.shards
  pub layout_is : new.current.layout ≡ old.current.layout
  pub never_back : old.current.at ≤ new.current.at

-- a version that a shard gives at a position of a history, which at the end of that has the layout
-- in which the shard stands
pub record GivesVersion (history : List JournalEntry) (position : ℕ) (shard : ShardState)
    (version : Contents) : Type 0 where
  pub sound : IsVersion version
  pub shard_is : version.shard ≡ shard.current.shard
  pub shards_are : version.shards ≡ shard.current.shards
  pub bits_are : version.layout.bits ≡ shard.current.layout.bits
  pub at : version.at ≡ position
  pub rows : version ≡ version_at history version position
  pub layout_is : position ≡ length history → version.layout ≡ shard.current.layout

-- a shard after a swap, or as before
pub record IsSwapped (journal : JournalState) (old new : ShardState) : Type 0 where
  pub rule : KeepsJournalRule journal new
  pub shard_is : new.current.shard ≡ old.current.shard
  pub shards_are : new.current.shards ≡ old.current.shards
  pub bits_are : new.current.layout.bits ≡ old.current.layout.bits
  pub at_is : new.current.at ≡ old.current.at

-- the shard of a number before the first entry
abbrev pub first_shard_of : Config → ℕ → ShardState
first_shard_of config number =
    shard_with (empty_of number config.shards (starting_layout config)) []

-- the first so many shards before the first entry, none of them pinned
pub record AreFirstShards (config : Config) (shards : List ShardState) (pins : List (Option Pin))
    (number : ℕ) : Type 0 where
  pub shards_are : length shards ≡ number
  pub pins_are : length pins ≡ number
  pub each : (i : ℕ) → i < number → slice_index_or shards i no_shard ≡ first_shard_of config i
  pub none : (i : ℕ) → slice_index_or pins i None ≡ None
