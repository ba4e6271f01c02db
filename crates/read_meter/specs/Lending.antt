-- What sixteen ledgers end as, where a slice of them is lent.
use Rattle.std.specs.Prelude.{ℕ, List, ◌++◌, length, take, drop}
use Rattle.std.specs.Borrow.{Lends, MutBor, Fml, RattleType, Array}
use Rattle.read_meter.specs.contracts.meters.Meters.{the_row}
use Rattle.read_meter.specs.contracts.steps.Steps.{the_row as steps_row}

-- once the slice's borrow ends, the ledgers are what it shows last
abbrev pub LendsAll : RattleType → MutBor (List ℕ) → MutBor (List ℕ) → Fml
LendsAll L meters slice =
    Lends (the_row L) (Array (steps_row L) 0) meters slice
    (λ w. take (length meters.now) (w ++ drop (length w) meters.now))
