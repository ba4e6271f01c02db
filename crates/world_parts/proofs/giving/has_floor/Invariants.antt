-- What the loop keeps: no source so far has a floor.
use Rattle.std.proofs.Common.{◌≡◌, take, false}
use Rattle.std.specs.Prelude.{is_some}
use Rattle.std.specs.List.{list_any}
use Rattle.world_parts.proofs.giving.has_floor.Given as goal

abbrev pub invariant-loop-shard : goal.invariant-loop-shard
invariant-loop-shard g l = list_any (λ source. is_some (g.H.HitSource.standing source).floor) (take l.shard l.gather.sources) ≡ false
