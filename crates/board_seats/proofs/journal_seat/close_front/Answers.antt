-- The journal comes home with a front of the seat's own less.
use Rattle.std.proofs.Common.{◌≡◌, rules, ap, ◌∙◌, sym, subst}
use Rattle.commit_journal.specs.Journals.{IsLive, JournalState, without_front}
use Rattle.board_seats.specs.declared.rule.Cell.{Cell}
use Rattle.board_seats.specs.Told.{journal_in}
use Rattle.board_seats.specs.Views.{with_living}
use Rattle.board_seats.proofs.ReleaseLemmas.{has_slot, home, lies, visited}
use Rattle.board_seats.proofs.TakenLemmas.{closes, of_taken, same_word}
use Rattle.board_seats.proofs.journal_seat.close_front.Goals as goal

pub slot_mut-requires : goal.slot_mut-requires
slot_mut-requires g c =
    (search rules, has_slot c.args.me.now.me c.claim-word.new.me.me _ c.claim-word.ensures.taken)

pub close_in-requires : goal.close_in-requires
close_in-requires g c =
    let taken = c.claim-word.ensures.taken in
    let was = lies c.args.me.now.me c.claim-word.new.me.me _ taken c.slot_mut.result.now _
    c.slot_mut.ensures.value in (
      search rules,
      (
        search rules,
        (
          was ∙ ap (λ z. Cell.Journal (journal_in z)) (sym was),
          subst (λ j. IsLive j c.args.front) (sym (ap journal_in was))
              (taken.knows.fronts c.args.front c.requires.own).live,
        ),
      ),
    )

pub store-requires : goal.store-requires
store-requires g c =
    let before = c.args.me.now.me in
    let me = c.claim-word.new.me.me in
    let t = c.claim-word.ensures.taken in
    let new = journal_in c.close_in.new.cell in
    let front = c.args.front in
    let is = of_taken before me _ t c.slot_mut.result.now _ c.slot_mut.ensures.value
    (λ j. new ≡ without_front j front.id) c.close_in.ensures.closed in
    let moves = closes before me _ t c.slot_mut.result.now _ c.slot_mut.ensures.value new
    c.close_in.ensures.sound c.close_in.ensures.fronts front
    (c.journals_keep_the_rule.ensures.closes t.journal front.id) c.requires.own is in (
      search rules,
      search rules,
      home before me _ t new c.close_in.new.cell with_living c.close_in.ensures.cell moves
          _ c.claim-word.new.me.id c.claim-word.result
          (same_word before me _ t c.slot_mut.result.now _ c.slot_mut.ensures.value new
          (ap (λ (j : JournalState). j.history) is)),
    )

pub returns-clause-closed : goal.returns-clause-closed
returns-clause-closed g c =
    let before = c.args.me.now.me in
    let me = c.claim-word.new.me.me in
    let t = c.claim-word.ensures.taken in
    let new = journal_in c.close_in.new.cell in
    let front = c.args.front in
    let is = of_taken before me _ t c.slot_mut.result.now _ c.slot_mut.ensures.value
    (λ j. new ≡ without_front j front.id) c.close_in.ensures.closed in
    let moves = closes before me _ t c.slot_mut.result.now _ c.slot_mut.ensures.value new
    c.close_in.ensures.sound c.close_in.ensures.fronts front
    (c.journals_keep_the_rule.ensures.closes t.journal front.id) c.requires.own is in (
      visited before me _ t new c.close_in.new.cell with_living c.close_in.ensures.cell moves
          c.store.new.seat.me c.store.ensures.2,
      is,
    )
