-- What a contract sees of a build, and of its refusals.
use Rattle.std.specs.Prelude.{◌≡◌}
use Rattle.shard_version.specs.Contents.{Contents}
use Rattle.version_draft.specs.Unfinished.{Unfinished}
use Rattle.commit_journal.specs.Fronts.{FrontState, position_of}
use Rattle.versioned_shard.specs.Along.{version_at}
use Rattle.versioned_shard.specs.Shards.{ShardState}

-- a build with nothing left to place
abbrev pub placed_all : Contents → Unfinished
placed_all version = record { contents = version; left = 0 }

-- a build that has taken in all entries of a front
abbrev pub followed : FrontState → Unfinished → Unfinished
followed front build = placed_all (version_at front.entries build.contents (position_of front))

-- a version of a shard, in a layout of its bits
pub record IsOfShard (shard : ShardState) (version : Contents) : Type 0 where
  pub shard_is : version.shard ≡ shard.current.shard
  pub shards_are : version.shards ≡ shard.current.shards
  pub bits_are : version.layout.bits ≡ shard.current.layout.bits
