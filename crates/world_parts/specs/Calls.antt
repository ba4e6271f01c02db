-- What calls do to a shard.
use Rattle.std.specs.Prelude.{ℕ}
use Rattle.commit_journal.specs.Fronts.{FrontState}
use Rattle.versioned_shard.specs.Shards.{advanced}
use Rattle.world_parts.specs.declared.place.Place.{Place}

-- a shard that came to a front
abbrev pub come_to : {W : ℕ} → FrontState → Place W → Place W
come_to front place = record place { shard = advanced front place.shard }
