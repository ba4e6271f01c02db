use Rattle.std.proofs.Common.{rules, length, ap, sym, ◌∙◌, subst}
use Rattle.std.proofs.lemmas.List.{with_items_is}
use Rattle.part_layout.specs.Laid.{Laid}
use Rattle.layout_search.specs.Inside.{IsSearchTask}
use Rattle.layout_search.proofs.search.Search.exchange.Goals as goal

pub exchange_parts-requires : goal.exchange_parts-requires
exchange_parts-requires g c =
    let few = c.requires.ready.task.few_words in
    let rows = c.as_slice.ensures.value in
    let samples = c.as_slice-2.ensures.value in
    let values = c.as_mut_slice.ensures.value in
    let tables = c.as_mut_slice-2.ensures.value in (
      search rules,
      (
        search rules,
        (
          c.requires.ready.laid,
          (
            c.requires.inside,
            (rw (rows, samples) c.requires.ready.task, (rw (rows, samples, tables) c.requires.ready.counted, rw (rows, values) c.requires.ready.sized)),
          ),
        ),
      ),
    )

pub returns-clause-ready : goal.returns-clause-ready
returns-clause-ready g c =
    let is = c.exchange_parts.ensures.layout in
    let rows = c.as_slice.ensures.value in
    let samples = c.as_slice-2.ensures.value in
    let tables_kept = c.exchange_parts.auto.tables in
    let tables_len = c.as_mut_slice-2.ensures.len in
    let values_kept = c.exchange_parts.auto.values in
    let values_len = c.as_mut_slice.ensures.len in
    let values_same = ap length c.as_mut_slice.ensures.value in
    let tables = with_items_is c.args.self.now.tables c.exchange_parts.new.tables (tables_kept ∙ tables_len) in
    let values = with_items_is c.args.self.now.values c.exchange_parts.new.values (values_kept ∙ values_len) in
    record {
      laid = c.exchange_parts.ensures.laid;
      task = subst (λ (l : Laid). IsSearchTask {W = g.row.W} l.bits c.args.self.now.rows.items c.args.self.now.samples.items) (sym is)
          c.requires.ready.task;
      counted = rw (tables, ← rows, ← samples) c.exchange_parts.ensures.counted;
      sized = ap length values ∙ values_kept ∙ values_same ∙ c.requires.ready.sized;
      next_sized = c.requires.ready.next_sized;
    }
