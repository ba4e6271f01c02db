-- A front that is live still has another number than the one that was closed.
use Rattle.shared_board.proofs.KnownLemmas.{known_without}
use Rattle.shared_board.proofs.as_desk.SharedDeskDesk.close_front.Goals as goal

pub returns-clause-known : goal.returns-clause-known
returns-clause-known g c =
    known_without c.close_front.new.self c.args.self.now.fronts c.close_front.new.self.fronts c.args.front.id
    c.close_front.ensures.fronts c.close_front.ensures.fronts
