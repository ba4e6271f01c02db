-- Each version may be asked, and its source is one more.
use Rattle.std.proofs.Common.{◌≡◌, ◌+◌, List, length, subst, sym, arith, rules}
use Rattle.versioned_shard.specs.Shards.{contents_at}
use Rattle.shard_query.specs.declared.range_task.RangeTask.{RangeTask}
use Rattle.knn_task.specs.declared.near_task.NearTask.{NearTask}
use Rattle.scatter_gather.specs.declared.either.Either.{Either}
use Rattle.query_opening.specs.Opening.{AreSourcesOn, MayBeAsked}
use Rattle.query_opening.specs.Pinning.{contents_of_all}
use Rattle.query_opening.specs.Sources.{source_asked, source_standing}
use Rattle.query_opening.proofs.OpenLemmas.{low_contents, shared_found, sources_more, sources_none}
use Rattle.query_opening.proofs.opening.open_each.Goals as goal

pub open_source-requires : goal.open_source-requires
open_source-requires g c =
    let version = contents_at c.in_ok-version.version in
    let here = shared_found c.args.versions.now c.loop-shard.shard c.index-versions-shard.result c.in_ok-version.version c.loop-shard-test.true
    c.index-versions-shard.is
    c.in_ok-version.ensures.cases in
    let may : MayBeAsked g.row.W c.args.query c.args.wanted version =
    subst (MayBeAsked g.row.W c.args.query c.args.wanted) (sym here) (c.requires.each c.loop-shard.shard version c.loop-shard-test.true) in
    (omega arith, (search rules, (search rules, (search rules, (c.requires.few_words, (may, (c.requires.some_room, c.requires.small_room)))))))

pub loop-shard-preserved : goal.loop-shard-preserved
loop-shard-preserved g c =
    let here = shared_found c.args.versions.now c.loop-shard.shard c.index-versions-shard.result c.in_ok-version.version c.loop-shard-test.true
    c.index-versions-shard.is
    c.in_ok-version.ensures.cases in
    subst (λ (sources : List (Either (RangeTask g.row.W) (NearTask g.row.W))). AreSourcesOn source_asked source_standing
    (contents_of_all c.args.versions.now) c.args.wanted c.args.query c.args.room sources
    (c.loop-shard.shard + 1)) (sym c.in_ok-push.ensures.items)
    (sources_more source_asked source_standing
    (contents_of_all c.args.versions.now) c.args.wanted c.args.query c.args.room c.loop-shard.sources.items c.loop-shard.shard
    c.in_ok-source.source (contents_at c.in_ok-version.version)
    (low_contents c.args.versions.now c.loop-shard.shard c.loop-shard-test.true) c.loop-shard.invariant here
    c.in_ok-source.ensures)

pub loop-shard-init : goal.loop-shard-init
loop-shard-init g c =
    subst (λ (sources : List (Either (RangeTask g.row.W) (NearTask g.row.W))). AreSourcesOn source_asked source_standing
    (contents_of_all c.args.versions.now) c.args.wanted c.args.query c.args.room sources 0) (sym c.new-sources.ensures.items)
    (sources_none source_asked source_standing (contents_of_all c.args.versions.now) c.args.wanted c.args.query c.args.room)

pub returns : goal.returns
returns g c =
    let all : c.loop-shard.shard ≡ length c.args.versions.now = omega (arith, c.loop-shard-test.false, c.loop-shard.auto.shard-end) in
    subst (AreSourcesOn source_asked source_standing
    (contents_of_all c.args.versions.now) c.args.wanted c.args.query c.args.room c.loop-shard.sources.items) all
    c.loop-shard.invariant
