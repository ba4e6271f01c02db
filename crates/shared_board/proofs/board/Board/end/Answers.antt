-- The journal lies in its slot where word 0 is even.
use Rattle.std.proofs.Common.{◌≡◌, ◌%◌, ap, subst}
use mathlib.Core.List.{IsPrefix}
use Rattle.board_seats.specs.Told.{journal_in}
use Rattle.shared_board.proofs.EndLemmas.{begins_there, is_end}
use Rattle.shared_board.proofs.board.Board.end.Goals as goal

pub invariant_of-result : goal.invariant_of-result
invariant_of-result g c =
    let seat = c.standing.inside.seat in
    is_end seat.id seat.me.0 _ _ c.word-word.result c.take-cell.result
    c.close_with-closed.ensures.values.2 c.word-word.ensures c.take-cell.ensures.value

pub returns : goal.returns
returns g c =
    let seat = c.standing.inside.seat in
    let history = (journal_in c.take-cell.result).history in
    let word = c.word-word.result in
    record {
      begins = subst (λ h. ¬ (word % 2 ≡ 1) → IsPrefix h history)
          (ap (λ s. s.1) c.standing.view_is)
          (begins_there seat.id seat.me.0 _ _ word c.take-cell.result
          c.close_with-closed.ensures.values.2 c.word-word.ensures c.take-cell.ensures.value);
    }
