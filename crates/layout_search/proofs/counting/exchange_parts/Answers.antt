use Rattle.std.proofs.Common.{rules, ◌+◌, length, ap, sym, ◌∙◌, arith, subst}
use Rattle.part_layout.specs.Laid.{Laid, part_at}
use Rattle.layout_search.specs.Inside.{AreCounted, AreTables, IsSearchTask, HaveParts}
use Rattle.exchange_model.proofs.ExchangeLemmas.{length_exchanged}
use Rattle.layout_search.proofs.SearchLemmas.{counted_parts, counted_radii, tables_exchanged, tables_parts, tables_radii}
use Rattle.layout_search.proofs.counting.exchange_parts.Goals as goal

pub count_part-requires : goal.count_part-requires
count_part-requires g c =
    let old = c.args.layout.now in
    let is = c.exchange.ensures.exchanged in
    let task = subst (λ (l : Laid). IsSearchTask {W = g.row.W} l.bits c.args.rows.now c.args.samples.now) (sym is) c.requires.task in
    let number = ap (λ (l : Laid). length l.parts) is ∙ length_exchanged old.parts c.args.exchange in
    let inside = c.requires.inside.within in
    let few = c.requires.task.few_words in
    let wide = tables_parts old.bits c.args.rows.now c.args.samples.now old.parts c.args.tables.now c.requires.counted in (
      search rules,
      (
        search rules,
        (
          omega arith,
          (
            task,
            (
              c.requires.values,
              (
                c.requires.counted.number,
                (
                  subst (λ n. HaveParts n (length c.args.tables.now) c.args.tables.now) (sym number) wide,
                  tables_radii old.bits c.args.rows.now c.args.samples.now old.parts c.args.tables.now c.requires.counted,
                ),
              ),
            ),
          ),
        ),
      ),
    )

pub count_part-requires-2 : goal.count_part-requires-2
count_part-requires-2 g c =
    let old = c.args.layout.now in
    let is = c.exchange.ensures.exchanged in
    let task = subst (λ (l : Laid). IsSearchTask {W = g.row.W} l.bits c.args.rows.now c.args.samples.now) (sym is) c.requires.task in
    let number = ap (λ (l : Laid). length l.parts) is ∙ length_exchanged old.parts c.args.exchange in
    let inside = c.requires.inside.within in
    let few = c.requires.task.few_words in
    let wide = subst (λ n. HaveParts n (length c.args.tables.now) c.args.tables.now) (sym number)
    (tables_parts old.bits c.args.rows.now c.args.samples.now old.parts c.args.tables.now c.requires.counted) in
    let radii = tables_radii old.bits c.args.rows.now c.args.samples.now old.parts c.args.tables.now c.requires.counted in
    let one = c.count_part.ensures in (
      search rules,
      (
        search rules,
        (
          omega arith,
          (
            task,
            (
              c.count_part.auto.values ∙ c.requires.values,
              (
                one.size ∙ c.requires.counted.number,
                (
                  counted_parts c.exchange.new.self.bits c.args.rows.now c.args.samples.now c.args.exchange.part _ c.args.tables.now c.count_part.new.tables
                      (length c.exchange.new.self.parts) one wide,
                  counted_radii c.exchange.new.self.bits c.args.rows.now c.args.samples.now c.args.exchange.part _ c.args.tables.now c.count_part.new.tables one
                      c.requires.counted.number radii,
                ),
              ),
            ),
          ),
        ),
      ),
    )

pub returns-clause-counted : goal.returns-clause-counted
returns-clause-counted g c =
    let one = subst (λ (l : Laid). AreCounted {W = g.row.W} l.bits c.args.rows.now c.args.samples.now c.args.exchange.part
    (part_at l c.args.exchange.part) c.args.tables.now c.count_part.new.tables (length c.args.tables.now)) c.exchange.ensures.exchanged
    c.count_part.ensures in
    let two = subst (λ (l : Laid). AreCounted {W = g.row.W} l.bits c.args.rows.now c.args.samples.now (c.args.exchange.part + 1)
    (part_at l (c.args.exchange.part + 1)) c.count_part.new.tables c.count_part-2.new.tables (length c.count_part.new.tables))
    c.exchange.ensures.exchanged c.count_part-2.ensures in
    subst (λ (l : Laid). AreTables {W = g.row.W} l.bits c.args.rows.now c.args.samples.now l.parts c.count_part-2.new.tables)
    (sym c.exchange.ensures.exchanged)
    (tables_exchanged c.args.layout.now.bits c.args.rows.now c.args.samples.now c.args.layout.now.parts c.args.exchange c.args.tables.now
    c.count_part.new.tables c.count_part-2.new.tables c.requires.inside c.requires.counted one two)
