-- The samples of all rows that were read.
use Rattle.std.proofs.Common.{◌≡◌, map, ap, sym, subst, ◌∙◌, arith}
use Rattle.std.proofs.lemmas.List.{take_all}
use Rattle.layout_search.specs.Improves.{AreSamples}
use Rattle.shard_tending.specs.Searched.{row_sample}
use Rattle.shard_tending.proofs.SampleLemmas.{are_samples, plain_all, stored_sample}
use Rattle.shard_tending.proofs.sampling.samples_of.Goals as goal

pub returns-clause-plain : goal.returns-clause-plain
returns-clause-plain g c =
    let bits = c.args.version.now.contents.layout.bits in
    let rows = c.in_ok-rows.rows.items in
    ap (map _) (c.loop-at.invariant ∙ ap (map stored_sample) (take_all c.loop-at.at rows (omega (arith, c.loop-at-test.false, c.len-at-end.ensures))))
    ∙ plain_all g.row.W bits rows ∙ ap (map row_sample) c.in_ok-rows.ensures.rows

pub returns-clause-samples : goal.returns-clause-samples
returns-clause-samples g c =
    let bits = c.args.version.now.contents.layout.bits in
    let rows = c.in_ok-rows.rows.items in
    subst (AreSamples bits)
    (sym (c.loop-at.invariant ∙ ap (map stored_sample) (take_all c.loop-at.at rows (omega (arith, c.loop-at-test.false, c.len-at-end.ensures)))))
    (are_samples g.row.W bits rows c.args.version.now.contents.rows c.in_ok-rows.ensures.rows c.in_ok-rows.ensures.codes)
