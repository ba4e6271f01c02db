-- What a session leaves of its desk at a board, and that it comes to its end.
use Rattle.gph_serve.proofs.BoardLemmas.{completes, keeps_seat, no_fronts_left}
use Rattle.gph_serve.proofs.board_session.serve_one.Goals as goal

pub returns-clause-keeps : goal.returns-clause-keeps
returns-clause-keeps g c =
    let e = c.session-report.ensures in
    keeps_seat _ c.session-report.result _ _ _ e.done e.read_fault e.write_fault e.input_limit (λ is. (e.unread is).0)

pub returns-clause-no_fronts : goal.returns-clause-no_fronts
returns-clause-no_fronts g c =
    let e = c.session-report.ensures in
    let kept = keeps_seat _ c.session-report.result _ _ _ e.done e.read_fault e.write_fault e.input_limit (λ is. (e.unread is).0) in
    no_fronts_left _ _ kept.keeps.fronts

pub returns-clause-complete : goal.returns-clause-complete
returns-clause-complete g c =
    let e = c.session-report.ensures in
    completes _ c.session-report.result _ _ _ e.done e.read_fault e.write_fault e.input_limit
