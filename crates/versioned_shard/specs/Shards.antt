-- What a contract sees of a shard, and how it goes along a front.
use Rattle.std.specs.Prelude.{◌≡◌, ◌==◌, ◌⊎◌, ℕ, nat_le, nat_lt, Bool, true, if◌then◌else◌, List, ◌++◌, map, filter, refl}
use Rattle.std.specs.Arc.{arc_value}
use Rattle.std.specs.Coded.{Coded, code_by, coded×, coded_list}
use Rattle.std.specs.List.{IsAmong, list_any}
use Rattle.std.specs.declared.sync.Arc.{Arc}
use Rattle.std.specs.declared.alloc.Global.{Global}
use Rattle.hamming_model.specs.History.{JournalEntry}
use Rattle.part_layout.specs.Laid.{Laid}
use Rattle.shard_version.specs.Contents.{Contents, contents_code}
use Rattle.shard_version.specs.Tables.{Tabled}
use Rattle.commit_journal.specs.Fronts.{FrontState, has_position, position_of}
use Rattle.versioned_shard.specs.Along.{version_at}

-- the contents of a shared version
abbrev pub contents_at : Arc Tabled Global → Contents
contents_at version = (arc_value version).contents

-- the current version, and the kept ones
pub record ShardState : Type 0 where
  pub current : Contents
  pub kept : List Contents

-- a shard of these versions
abbrev pub shard_with : Contents → List Contents → ShardState
shard_with current kept = record { current = current; kept = kept }

-- a shard as a pair
abbrev pub shard_code : Coded ShardState
shard_code =
    code_by (Contents × List Contents) (coded× contents_code (coded_list contents_code))
    (λ s. (s.current, s.kept)) (λ t. record { current = t.0; kept = t.1 }) (λ _. refl)

-- those of the versions that stand at these positions
abbrev pub staying : List ℕ → List Contents → List Contents
staying older versions = filter (λ version. has_position older version.at) versions

-- a version at each of these positions that isn't below that of a version
abbrev pub made : List JournalEntry → Contents → List ℕ → List Contents
made history from older =
    map (version_at history from) (filter (λ position. nat_le from.at position) older)

-- a shard that is behind a front, brought to it
abbrev pub further : FrontState → ShardState → ShardState
further front shard =
    shard_with (version_at front.entries shard.current (position_of front))
    (staying front.older shard.kept ++ made front.entries shard.current front.older)

-- a shard after it advanced to a front: as before where it isn't behind
abbrev pub advanced : FrontState → ShardState → ShardState
advanced front shard =
    if nat_lt shard.current.at (position_of front) then further front shard else shard

-- whether a version stands at a position
abbrev pub has_version : List Contents → ℕ → Bool
has_version versions position = list_any (λ version. version.at == position) versions

-- the current version or a kept one stands at a position
abbrev pub HasVersion : ShardState → ℕ → Type 0
HasVersion shard position = (shard.current.at ≡ position) ⊎ (has_version shard.kept position ≡ true)

-- a version of a shard that stands at a position: the current one where that does
pub record IsOneOf (shard : ShardState) (position : ℕ) (version : Contents) : Type 0 where
  pub at : version.at ≡ position
  pub among : (version ≡ shard.current) ⊎ IsAmong shard.kept version
  pub first : shard.current.at ≡ position → version ≡ shard.current

-- a version of the same shard and bits, with the same rows where it stands at the same position
pub record MayStandIn (shard : ShardState) (version : Contents) : Type 0 where
  pub shard_is : version.shard ≡ shard.current.shard
  pub shards_is : version.shards ≡ shard.current.shards
  pub bits_are : version.layout.bits ≡ shard.current.layout.bits
  pub rows_are : version.at ≡ shard.current.at → version.rows ≡ shard.current.rows

-- a shard whose current version has this layout
abbrev pub with_layout : ShardState → Laid → ShardState
with_layout shard layout = record shard { current = record shard.current { layout = layout } }
