-- The table begins with the journal and its first shards.
use Rattle.std.proofs.Common.{◌≡◌, suc, length, ap, ◌∙◌, sym, subst, arith}
use Rattle.atomic_table.specs.Table.{opening}
use Rattle.commit_journal.specs.Journals.{IsJournal}
use Rattle.part_layout.specs.Laid.{IsLaid}
use Rattle.board_seats.specs.declared.rule.Opening.{Opening}
use Rattle.board_seats.specs.Rule.{IsShown}
use Rattle.board_seats.specs.Views.{first_view}
use Rattle.shared_board.specs.Boards.{IsAskedFor}
use Rattle.shared_board.proofs.StartLemmas.{laid_begins, laid_more, laid_slots, laid_words}
use Rattle.shared_board.proofs.board.Board.numbered_from.Goals as goal

pub loop-number-preserved : goal.loop-number-preserved
loop-number-preserved g c =
    laid_more (record { config = c.args.config.now; number = c.args.first }) c.loop-number.number
    c.loop-number.words.items _ c.loop-number.slots.items _ c.loop-number.pins.items _
    c.in_ok-shard.shard c.loop-number.invariant c.in_ok-shard.ensures c.in_ok-push-3.ensures.items
    c.in_ok-push-4.ensures.items c.in_ok-push-5.ensures.items

pub new-requires : goal.new-requires
new-requires g c =
    let asked : Opening = record { config = c.args.config.now; number = c.args.first } in
    let fits : IsAskedFor g.row.W asked.config = record {
      config_is = c.requires.config;
      few_words = c.requires.few_words;
      room = c.requires.room;
    } in
    subst (λ words. IsShown (opening words c.loop-number.slots.items (first_view asked)))
    (sym c.deref.ensures.value)
    (laid_begins asked c.loop-number.number fits
    (subst IsLaid c.in_ok-layout.ensures.layout c.in_ok-layout.ensures.laid)
    (subst IsJournal c.in_ok-journal.ensures.journal c.in_ok-journal.ensures.sound)
    c.shards_keep_the_rule.ensures.begins c.loop-number.words.items c.loop-number.slots.items
    c.loop-number.pins.items c.loop-number.invariant)

pub invariant_of-result : goal.invariant_of-result
invariant_of-result g c =
    let asked : Opening = record { config = c.args.config.now; number = c.args.first } in
    let all : c.loop-number.number ≡ c.args.config.now.shards =
    omega (arith, c.loop-number-test.false, c.loop-number.auto.number-end) in
    record {
      words = c.in-Ok.ensures.ok.0 ∙ ap length c.deref.ensures.value
          ∙ laid_words asked c.loop-number.number c.loop-number.words.items
          c.loop-number.slots.items c.loop-number.pins.items c.loop-number.invariant ∙ ap suc all;
      slots = c.in-Ok.ensures.ok.1
          ∙ laid_slots asked c.loop-number.number c.loop-number.words.items
          c.loop-number.slots.items c.loop-number.pins.items c.loop-number.invariant ∙ ap suc all;
    }
