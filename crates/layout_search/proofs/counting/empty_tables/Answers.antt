use Rattle.std.proofs.Common.{◌+◌, ◌∙◌, ap, arith, get_or, length, List, subst, sym}
use Rattle.std.proofs.lemmas.List.{get_or_default, length_push}
use Rattle.sample_table.specs.Levels.{PairTable}
use Rattle.layout_search.specs.Inside.{HaveParts}
use Rattle.layout_search.specs.Seen.{levels_in}
use Rattle.layout_search.specs.declared.sample.Sample.{Sample}
use Rattle.layout_search.proofs.CountingLemmas.{parts_pushed, radii_pushed}
use Rattle.layout_search.proofs.counting.empty_tables.Goals as goal

pub loop-at-preserved : goal.loop-at-preserved
loop-at-preserved g c =
    let at = c.loop-at.at in
    let inv = c.loop-at.invariant in
    let own = c.in_ok-table.table in
    let items = c.in-Ok-push.ensures.items in
    let tau = λ (sample : Sample g.row.W). c.in_ok-table.ensures.tau ∙ ap (λ (s : Sample g.row.W). s.tau)
    (get_or_default c.args.samples.now at c.index-samples-at.result sample (omega arith)) in (
      ap length items ∙ length_push c.loop-at.tables.items own ∙ ap (λ n. n + 1) inv.0,
      subst (HaveParts c.args.parts (at + 1)) (sym items) (parts_pushed at c.loop-at.tables.items own inv.0 c.args.parts c.in_ok-table.ensures.parts inv.1),
      λ k sample table less.
          ap (λ (ts : List PairTable). (levels_in (get_or ts k table)).tau) items
          ∙ radii_pushed at c.loop-at.tables.items own inv.0 c.args.samples.now tau inv.2 k sample table less,
    )
