-- A version on its way along a history. No public clause cites this module.
use Rattle.std.specs.Prelude.{◌≡◌, ℕ, ◌≤◌, List, ◌++◌, map, take, drop}
use Rattle.std.specs.List.{AllByRecursion}
use Rattle.std.specs.declared.sync.Arc.{Arc}
use Rattle.std.specs.declared.alloc.Global.{Global}
use Rattle.shard_version.specs.Contents.{Contents}
use Rattle.shard_version.specs.Tables.{Tabled}
use Rattle.commit_journal.specs.Fronts.{FrontState, position_of}
use Rattle.versioned_shard.specs.Along.{Reaches}
use Rattle.versioned_shard.specs.Shards.{contents_at, made}

-- the versions of the first so many positions are made, and the last of them is at hand
pub record MadeSoFar (front : FrontState) (from : Contents) (old new : List (Arc Tabled Global))
    (version : Contents) (index : ℕ) : Type 0 where
  pub reaches : Reaches front.entries from version.at version
  pub next : AllByRecursion (λ position. from.at ≤ position → version.at ≤ position)
      (drop index front.older)
  pub within : version.at ≤ position_of front
  pub are_made : map contents_at new ≡ map contents_at old ++ made front.entries from
      (take index front.older)
