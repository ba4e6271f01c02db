-- The codes of the rows are kept as those of the entries.
use Rattle.std.proofs.Common.{List, Option, ℕ, subst, sym, take}
use Rattle.std.specs.Prelude.{IfSome}
use Rattle.hamming_model.specs.Codes.{StandsFor}
use Rattle.session_desk.specs.Solos.{SoloState}
use Rattle.session_desk.proofs.StartLemmas.{stored_code}
use Rattle.session_desk.proofs.solo.SoloDeskDesk.code_of.Goals as goal

pub returns-clause-stands : goal.returns-clause-stands
returns-clause-stands g c =
    subst (λ (s : SoloState). IfSome c.code_of.result (λ code. StandsFor g.row.W s.config.bits code (take s.config.bits code))) c.self.view_is
    (subst (λ (found : Option (List ℕ)). IfSome found (λ code. StandsFor g.row.W c.self.inside.config.bits code (take c.self.inside.config.bits code)))
    (sym c.code_of.ensures) (stored_code g.row.W c.self.inside.config.bits c.self.inside.journal.history c.args.key c.self.invariant.codes))
