-- The sources so far are marked.
use Rattle.std.proofs.Common.{◌≡◌, ◌<◌, ℕ, get_or, false, length}
use Rattle.scatter_gather.specs.Gathering.{Source, sources_of}
use Rattle.scatter_gather.specs.Due.{may_have_next}
use Rattle.scatter_gather.proofs.round.mark.Given as goal

abbrev pub invariant-loop-shard : goal.invariant-loop-shard
invariant-loop-shard g l =
    (length l.marks ≡ length l.sources)
    × ((i : ℕ) (d : Source) → i < l.shard
    → get_or l.marks i false ≡ may_have_next l.least
    (get_or (sources_of g.H.HitSource.asked g.H.HitSource.standing l.sources) i d))
