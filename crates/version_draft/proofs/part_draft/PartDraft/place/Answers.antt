use Rattle.std.proofs.Common.{rules, get_or, refl, ap, ◌∙◌}
use Rattle.std.proofs.lemmas.List.{get_or_default}
use Rattle.part_layout.specs.Laid.{part_at}
use Rattle.posting_table.specs.Reserved.{entry_placed}
use Rattle.version_draft.proofs.PartDraftLemmas.{next_fits, row_placed, row_value}
use Rattle.version_draft.proofs.part_draft.PartDraft.place.Goals as goal

pub place-requires : goal.place-requires
place-requires g c =
    let few = c.requires.few_words in
    let value = row_value g.row.W c.args.layout.now c.args.rows.now c.args.next c.args.part c.value-value.result c.index-rows-next.result c.requires.next
    c.requires.codes c.value-value.ensures.value in
    let same = get_or_default c.args.rows.now c.args.next c.index-rows-next.result c.index-rows-next-2.result c.requires.next in (
      search rules,
      (
        search rules,
        rw (← same)
            (next_fits c.args.layout.now.bits (part_at c.args.layout.now c.args.part) c.args.rows.now c.args.next c.value-value.result
            c.index-rows-next.result
            c.args.self.now c.requires.next value c.value-value.ensures.bound c.requires.ascending c.requires.draft),
      ),
    )

pub returns : goal.returns
returns g c =
    let value = row_value g.row.W c.args.layout.now c.args.rows.now c.args.next c.args.part c.value-value.result c.index-rows-next.result c.requires.next
    c.requires.codes c.value-value.ensures.value in
    let two = get_or_default c.args.rows.now c.args.next c.index-rows-next-2.result c.index-rows-next.result c.requires.next in
    let three = get_or_default c.args.rows.now c.args.next c.index-rows-next-3.result c.index-rows-next.result c.requires.next in
    row_placed c.args.layout.now.bits (part_at c.args.layout.now c.args.part) c.args.rows.now c.args.next c.value-value.result c.index-rows-next.result
    c.args.self.now (record { lists = c.place.new.self; counts = c.args.self.now.counts }) c.requires.next value c.value-value.ensures.bound
    c.requires.draft refl
    (c.place.ensures ∙ ap (λ row. entry_placed c.args.self.now.lists c.value-value.result (
      row.0,
      (get_or c.args.rows.now c.args.next c.index-rows-next-3.result).1,
    )) two
    ∙ ap (λ row. entry_placed c.args.self.now.lists c.value-value.result ((get_or c.args.rows.now c.args.next c.index-rows-next.result).0, row.1)) three)
