use Rattle.std.proofs.Common.{◌≡◌, ℕ, ◌<◌, length, get_or}
use Rattle.layout_search.specs.Inside.{HaveParts}
use Rattle.layout_search.specs.Seen.{levels_in}
use Rattle.layout_search.specs.declared.sample.Sample.{Sample}
use Rattle.sample_table.specs.Levels.{PairTable}
use Rattle.layout_search.proofs.counting.empty_tables.Given as goal

abbrev pub invariant-loop-at : goal.invariant-loop-at
invariant-loop-at g l =
    (length l.tables.items ≡ l.at) × HaveParts l.parts l.at l.tables.items
    × ((k : ℕ) (sample : Sample g.row.W) (table : PairTable) → k < l.at → (levels_in (get_or l.tables.items k table)).tau
    ≡ (get_or l.samples k sample).tau)
