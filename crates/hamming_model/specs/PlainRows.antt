-- The rows that the plain scan reads, as pairs of a key and a code.
use Rattle.std.specs.Prelude.{ℕ, List, map}
use Rattle.hamming_model.specs.declared.row.Row.{Row}

-- the rows as pairs of a key and a code
abbrev pub row_pairs : List Row → List (ℕ × List ℕ)
row_pairs rows = map {B = ℕ × List ℕ} (λ row. (row.key, row.code.items)) rows
