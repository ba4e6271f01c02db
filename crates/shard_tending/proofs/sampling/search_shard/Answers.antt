-- What a search over the samples of a version finds.
use Rattle.std.proofs.Common.{ap, sym, ◌∙◌, subst}
use Rattle.std.specs.Prelude.{IfOk}
use Rattle.shard_tending.proofs.SampleLemmas.{found_all}
use Rattle.shard_tending.proofs.sampling.search_shard.Goals as goal

pub returns-clause-found : goal.returns-clause-found
returns-clause-found g c = found_all c.args.version.now.contents c.in_ok-samples.samples.items c.as_slice.result.now c.as_slice.ensures.value
    c.in_ok-samples.ensures.plain c.improve.result c.improve.ensures.found c.improve.ensures.laid c.improve.ensures.bits
