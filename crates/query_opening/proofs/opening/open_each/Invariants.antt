-- What the loop keeps: the first versions have a source each.
use Rattle.query_opening.specs.Opening.{AreSourcesOn}
use Rattle.query_opening.specs.Pinning.{contents_of_all}
use Rattle.query_opening.specs.Sources.{source_asked, source_standing}
use Rattle.query_opening.proofs.opening.open_each.Given as goal

abbrev pub invariant-loop-shard : goal.invariant-loop-shard
invariant-loop-shard g l = AreSourcesOn source_asked source_standing (contents_of_all l.versions) l.wanted l.query l.room l.sources.items l.shard
