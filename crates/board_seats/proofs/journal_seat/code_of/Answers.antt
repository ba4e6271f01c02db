-- The journal comes home as it was.
use Rattle.std.proofs.Common.{length, rules, ap, ◌∙◌, refl}
use Rattle.hamming_model.specs.History.{code_at, rows_of}
use Rattle.board_seats.specs.Told.{journal_in}
use Rattle.board_seats.proofs.ReleaseLemmas.{has_slot, lies}
use Rattle.board_seats.proofs.TakenLemmas.{home_as_taken, visited_as_taken}
use Rattle.board_seats.proofs.journal_seat.code_of.Goals as goal

pub slot_mut-requires : goal.slot_mut-requires
slot_mut-requires g c =
    (search rules, has_slot c.args.me.now.me c.claim-word.new.me.me _ c.claim-word.ensures.taken)

pub store-requires : goal.store-requires
store-requires g c = (
  search rules,
  search rules,
  home_as_taken c.args.me.now.me c.claim-word.new.me.me _ c.claim-word.ensures.taken
      c.slot_mut.result.now _ c.slot_mut.ensures.value c.look_up_in-found.new.cell c.look_up_in-found.ensures.cell
      _ c.claim-word.new.me.id,
)

pub returns-clause-visited : goal.returns-clause-visited
returns-clause-visited g c =
    let t = c.claim-word.ensures.taken in
    let was = lies c.args.me.now.me c.claim-word.new.me.me _ t c.slot_mut.result.now _
    c.slot_mut.ensures.value in (
      visited_as_taken c.args.me.now.me c.claim-word.new.me.me _ t c.slot_mut.result.now _
          c.slot_mut.ensures.value c.look_up_in-found.new.cell c.look_up_in-found.ensures.cell
          c.store.new.seat.me c.store.ensures.2,
      refl,
      c.look_up_in-found.ensures.code
          ∙ ap (λ z. code_at (rows_of (journal_in z).history) c.args.key) was,
      c.look_up_in-found.ensures.length ∙ ap (λ z. length (journal_in z).history) was,
    )
