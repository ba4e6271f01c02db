use Rattle.std.proofs.Common.{List, ℕ, ap}
use Rattle.count_table.specs.Copies.{CopyTable, empty_table}
use Rattle.count_table.proofs.counts.Counts.new.Goals as goal

pub returns-clause-empty : goal.returns-clause-empty
unfolding empty_table
returns-clause-empty c =
    let table : List ℕ → CopyTable = λ copies. record { width = c.args.width; copies = copies } in
    ap table c.in_ok-copies.ensures
