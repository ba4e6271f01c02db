-- What a source of either kind is asked, and where it stands.
use Rattle.std.specs.Prelude.{ℕ}
use denote.Param.{number}
use Rattle.hit_source.specs.Sources.{Asked, Standing}
use Rattle.shard_query.specs.contracts.range_task.RangeTaskHitSource.TheImpl as range
use Rattle.shard_query.specs.declared.range_task.RangeTask.{RangeTask}
use Rattle.knn_task.specs.contracts.near_task.NearTaskHitSource.TheImpl as near
use Rattle.knn_task.specs.declared.near_task.NearTask.{NearTask}
use Rattle.scatter_gather.specs.Either.{of_either}
use Rattle.scatter_gather.specs.Gathering.{Gathered, Gathering, seen}
use Rattle.scatter_gather.specs.declared.either.Either.{Either}

-- a source of either kind
abbrev pub QuerySource : ℕ → Type 0
QuerySource W = Either (RangeTask W) (NearTask W)

-- what a source is asked
abbrev pub question_asked : {W : ℕ} → QuerySource W → Asked
question_asked {W} source =
    of_either (range.ghosts (number W)).asked (near.ghosts (number W)).asked source

-- where a source stands
abbrev pub standing_told : {W : ℕ} → QuerySource W → Standing
standing_told {W} source =
    of_either (range.ghosts (number W)).standing (near.ghosts (number W)).standing source

-- a gathering of such sources, by what they are seen as
abbrev pub gathering_seen : {W : ℕ} → Gathered (QuerySource W) → Gathering
gathering_seen g = seen question_asked standing_told g
