-- How far a build is. No public clause cites this module.
use Rattle.std.specs.Prelude.{ℕ}
use Rattle.version_draft.specs.Unfinished.{Unfinished}
use Rattle.versioned_shard.specs.Shards.{contents_at}
use Rattle.repartitioner.specs.Builds.{placed_all}
use Rattle.repartitioner.specs.declared.stage.Stage.{Stage}
use Rattle.repartitioner.specs.declared.stage.Stage.TheVariants.{Placing, Following}

-- the build that callers see: the draft, or a version with nothing left
abbrev pub unfinished_in : {W : ℕ} → Stage W → Unfinished
unfinished_in (Placing draft) = draft
unfinished_in (Following version) = placed_all (contents_at version)
