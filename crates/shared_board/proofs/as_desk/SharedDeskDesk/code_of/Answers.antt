-- The codes of the rows are kept as those of the entries.
use Rattle.std.proofs.Common.{List, Option, ℕ, subst, sym, take}
use Rattle.std.specs.Prelude.{IfSome}
use Rattle.hamming_model.specs.Codes.{StandsFor}
use Rattle.session_desk.proofs.StartLemmas.{stored_code}
use Rattle.shared_board.proofs.as_desk.SharedDeskDesk.code_of.Goals as goal

pub returns-clause-stands : goal.returns-clause-stands
returns-clause-stands g c =
    let bits = c.code_of-found.new.self.config.bits in
    subst (λ (found : Option (List ℕ)). IfSome found (λ code. StandsFor g.row.W bits code (take bits code))) (sym c.code_of-found.ensures.code)
    (stored_code g.row.W bits c.code_of-found.new.self.seen c.args.key c.who-who.ensures.desk.codes)
