-- The line of a load.
use Rattle.std.specs.Prelude.{ℕ, List, [], ◌∷◌, ◌++◌, codes, decimal}
use Rattle.load_sums.specs.declared.sums.Sums.{Sums}

-- the line that a load of so many codes writes
abbrev pub load_line : ℕ → Sums → List ℕ
load_line entries sums =
    codes "load entries " ++ decimal entries ++ codes " queries 32 hits " ++ decimal sums.hits
    ++ codes " bound " ++ decimal sums.bound ++ codes " reads " ++ decimal sums.reads ++ 10 ∷ []
