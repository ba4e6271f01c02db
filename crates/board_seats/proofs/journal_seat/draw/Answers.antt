-- The journal comes home with the next number drawn, or as it was.
use Rattle.std.proofs.Common.{◌≡◌, ◌+◌, rules, ap, ◌∙◌, sym, refl}
use Rattle.commit_journal.specs.Journals.{JournalState}
use Rattle.board_seats.specs.Told.{journal_in}
use Rattle.board_seats.specs.Views.{with_number}
use Rattle.board_seats.proofs.MoveLemmas.{none_not_some}
use Rattle.board_seats.proofs.ReleaseLemmas.{has_slot, home, visited}
use Rattle.board_seats.proofs.TakenLemmas.{draws, home_as_taken, of_taken, same_word, visited_as_taken, was}
use Rattle.board_seats.proofs.journal_seat.draw.Goals as goal

pub slot_mut-requires : goal.slot_mut-requires
slot_mut-requires g c =
    (search rules, has_slot c.args.me.now.me c.claim-word.new.me.me _ c.claim-word.ensures.taken)

pub store-requires : goal.store-requires
store-requires g c =
    let before = c.args.me.now.me in
    let me = c.claim-word.new.me.me in
    let t = c.claim-word.ensures.taken in
    let new = journal_in c.enter_in.new.cell in
    let is = of_taken before me _ t c.slot_mut.result.now _ c.slot_mut.ensures.value
    (λ j. new ≡ record j { next = j.next + 1 }) c.in-Some.ensures.drawn in
    let moves = draws before me _ t c.slot_mut.result.now _ c.slot_mut.ensures.value new
    c.enter_in.ensures.sound c.enter_in.ensures.fronts c.requires.number is in (
      search rules,
      search rules,
      home before me _ t new c.enter_in.new.cell with_number c.enter_in.ensures.cell moves
          _ c.claim-word.new.me.id c.claim-word.result
          (same_word before me _ t c.slot_mut.result.now _ c.slot_mut.ensures.value new
          (ap (λ (j : JournalState). j.history) is)),
    )

pub returns-in-Some-clause-drawn : goal.returns-in-Some-clause-drawn
returns-in-Some-clause-drawn g c =
    let before = c.args.me.now.me in
    let me = c.claim-word.new.me.me in
    let t = c.claim-word.ensures.taken in
    let new = journal_in c.enter_in.new.cell in
    let is = of_taken before me _ t c.slot_mut.result.now _ c.slot_mut.ensures.value
    (λ j. new ≡ record j { next = j.next + 1 }) c.in-Some.ensures.drawn in
    let moves = draws before me _ t c.slot_mut.result.now _ c.slot_mut.ensures.value new
    c.enter_in.ensures.sound c.enter_in.ensures.fronts c.requires.number is in (
      visited before me _ t new c.enter_in.new.cell with_number c.enter_in.ensures.cell moves
          c.store.new.seat.me c.store.ensures.2,
      is,
      c.in-Some.ensures.number ∙ ap (λ z. (journal_in z).next)
          (was before me _ t c.slot_mut.result.now _ c.slot_mut.ensures.value),
      λ most. none_not_some c.enter_in.result c.in-Some.number
          (c.enter_in.ensures.none.1 (sym c.in-Some.ensures.number ∙ most)) c.in-Some.is,
    )

pub store-requires-in-None : goal.store-requires-in-None
store-requires-in-None g c = (
  search rules,
  search rules,
  home_as_taken c.args.me.now.me c.claim-word.new.me.me _ c.claim-word.ensures.taken
      c.slot_mut.result.now _ c.slot_mut.ensures.value c.enter_in.new.cell c.in-None.ensures.unchanged
      _ c.claim-word.new.me.id,
)

pub returns-in-None-clause-none : goal.returns-in-None-clause-none
returns-in-None-clause-none g c = (
  visited_as_taken c.args.me.now.me c.claim-word.new.me.me _ c.claim-word.ensures.taken
      c.slot_mut.result.now _ c.slot_mut.ensures.value c.enter_in.new.cell c.in-None.ensures.unchanged
      c.store-in-None.new.seat.me c.store-in-None.ensures.2,
  refl,
  ap (λ z. (journal_in z).next) (sym (was c.args.me.now.me c.claim-word.new.me.me _
      c.claim-word.ensures.taken c.slot_mut.result.now _ c.slot_mut.ensures.value))
      ∙ c.enter_in.ensures.none.0 c.in-None.is,
)
