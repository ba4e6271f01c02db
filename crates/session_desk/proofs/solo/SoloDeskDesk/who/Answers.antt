-- A solo desk is a desk.
use Rattle.std.proofs.Common.{subst}
use Rattle.session_desk.specs.Desks.{IsDesk}
use Rattle.session_desk.specs.Solos.{SoloState, desk_of}
use Rattle.session_desk.proofs.SoloLemmas.{solo_is_desk}
use Rattle.session_desk.proofs.solo.SoloDeskDesk.who.Goals as goal

pub returns-clause-desk : goal.returns-clause-desk
returns-clause-desk g c = subst (λ (s : SoloState). IsDesk g.row.W (desk_of s)) c.self.view_is
    (solo_is_desk g.row.W _ c.self.invariant c.length-length.ensures.journal)
