-- The front is closed again.
use Rattle.std.proofs.Common.{◌∙◌}
use Rattle.world_parts.proofs.FrontLemmas.{closed_again}
use Rattle.world_parts.proofs.following.come_to_end.Goals as goal

pub returns-in_err-followed-clause-journal : goal.returns-in_err-followed-clause-journal
returns-in_err-followed-clause-journal g c = c.close_front.ensures.closed
    ∙ closed_again c.args.journal.now c.open_front.new.self 0 c.in_ok-front.front c.in_ok-front.ensures.opened

pub returns-clause-journal : goal.returns-clause-journal
returns-clause-journal g c = c.close_front.ensures.closed
    ∙ closed_again c.args.journal.now c.open_front.new.self 0 c.in_ok-front.front c.in_ok-front.ensures.opened
