-- The desk that a connection had is of the same board, and has no front.
use Rattle.std.proofs.Common.{rules, ap, sym, ◌∙◌}
use Rattle.shared_board.specs.Shared.{SharedState}
use Rattle.gph_serve.proofs.BoardLemmas.{no_fronts_left}
use Rattle.gph_server.proofs.visit.serve_visit.Goals as goal

pub leave-requires : goal.leave-requires
leave-requires g c =
    let kept = c.tend-tended.ensures.keeps in
    let own = ap (λ (d : SharedState). d.board) c.in-Ok-desk.ensures.desk in
    let same = c.desk.ensures.board in (
      search rules,
      (
        kept.board ∙ c.serve_connection-own.ensures.board ∙ own ∙ sym same,
        no_fronts_left _ _ kept.fronts c.serve_connection-own.ensures.fronts,
      ),
    )
