-- Each shard adds what is told of it, and the query is one more.
use Rattle.std.proofs.Common.{◌≡◌, suc, ◌+◌, ◌++◌, ◌∷◌, [], map, drop, min, sym, ap, ◌∙◌, subst, append-nil, arith}
use Rattle.std.specs.Arc.{arc_value}
use Rattle.part_layout.specs.Laid.{Laid}
use Rattle.shard_version.specs.Tables.{Tabled}
use Rattle.versioned_shard.specs.Shards.{contents_at}
use Rattle.query_opening.specs.Pinning.{contents_of_all}
use Rattle.open_session.specs.Pinned.{layouts_in, pinned_in, told_layout, told_next}
use Rattle.open_session.proofs.PinnedLemmas.{layouts_from, no_layouts_from, pins_more, told_of_all, told_shard}
use Rattle.open_session.proofs.pinned_layouts.PinnedLayouts.add.Goals as goal

pub loop-shard-preserved : goal.loop-shard-preserved
loop-shard-preserved g c =
    let i = c.loop-shard.invariant in
    let added = c.in_default.ensures in
    let items = map told_layout c.loop-shard.self.told.items in
    let first = map told_layout c.args.self.now.told.items in
    let query = c.args.self.now.opened in
    let shard = c.loop-shard.shard in
    let versions = c.args.versions.now in
    let all = layouts_in (contents_of_all versions) in
    let version = c.index-versions-shard.result in
    let here : drop shard all ≡ (contents_at version).layout.parts ∷ drop (suc shard) all =
    layouts_from versions shard version c.loop-shard-test.true
    ∙ ap (λ v. (contents_at v).layout.parts ∷ drop (suc shard) all) (sym c.index-versions-shard.is) in
    let layout = (arc_value c.layout.result.now).parts in
    let same : layout ≡ (contents_at version).layout.parts =
    ap (λ (l : Laid). l.parts) (c.layout.ensures.layout ∙ ap (λ (t : Tabled). t.contents.layout) c.deref.ensures) in
    let next : suc shard ≡ shard + 1 = omega arith in
    let more = told_shard (map told_layout c.add_one-added.new.self.told.items) items first query shard
    (contents_at version).layout.parts (drop (suc shard) all) (drop shard all) here
    (added.added
    ∙ ap (λ l. items ++ told_next (map told_layout l) c.loop-shard.self.opened shard layout) i.front
    ∙ ap (λ n. items ++ told_next first n shard layout) i.opened
    ∙ ap (λ l. items ++ told_next first query shard l) same) in
    record {
      known = i.known;
      front = added.front ∙ i.front;
      longer = omega (arith, i.longer, added.longer);
      opened = added.opened ∙ i.opened;
      told = subst (λ n. map told_layout c.add_one-added.new.self.told.items ++ told_of_all first query n (drop n all)
          ≡ first ++ told_of_all first query 0 all) next (more ∙ i.told);
    }

pub returns-clause-added : goal.returns-clause-added
returns-clause-added g c =
    let i = c.loop-shard.invariant in
    let items = map told_layout c.loop-shard.self.told.items in
    let first = map told_layout c.args.self.now.told.items in
    let query = c.args.self.now.opened in
    let shard = c.loop-shard.shard in
    let versions = c.args.versions.now in
    let all = layouts_in (contents_of_all versions) in
    let none : drop shard all ≡ [] =
    no_layouts_from versions shard (omega (arith, c.loop-shard-test.false, c.loop-shard.auto.shard-end)) in
    pins_more (pinned_in c.args.self.now) (record { opened = c.saturating_add-self.result; told = items }) all
    (c.saturating_add-self.ensures ∙ ap (λ n. min (n + 1) 18446744073709551615) i.opened)
    (sym (append-nil items) ∙ ap (λ l. items ++ told_of_all first query shard l) (sym none) ∙ i.told)
