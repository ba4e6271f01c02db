-- A search whose tables are those of its layout. No public clause cites this module.
use Rattle.std.specs.Prelude.{◌≡◌, ℕ, List, length, Option, MatchOption}
use Rattle.exchange_model.specs.Rounds.{Reached, improved}
use Rattle.exchange_model.specs.declared.position_exchange.PositionExchange.{PositionExchange}
use Rattle.part_layout.specs.Laid.{Laid}
use Rattle.layout_search.specs.Arranged.{exchanged_in}
use Rattle.layout_search.specs.Inside.{IsSearchOver, cost_at}
use Rattle.layout_search.specs.Trial.{AreTurned}
use Rattle.layout_search.specs.declared.search.Search.{Search}

-- the tables are those of the layout
abbrev pub IsSearchReady : {W : ℕ} → Search W → Type 0
IsSearchReady {W} search =
    IsSearchOver {W = W} search.layout search.rows.items search.samples.items search.tables.items
    search.values.items search.next_values.items

-- the cost of parts
abbrev pub cost_with : {W : ℕ} → Search W → List (List ℕ) → ℕ
cost_with search parts = cost_at search.layout.bits search.rows.items search.samples.items parts

-- where so many rounds of a search end
abbrev pub end_of : {W : ℕ} → Search W → ℕ → Reached
end_of search rounds = improved (cost_with search) rounds search.layout.parts

-- the rows and samples are as before, and so is the number of bits
pub record SameTask {W : ℕ} (old new : Search W) : Type 0 where
  pub bits : new.layout.bits ≡ old.layout.bits
  pub rows : new.rows.items ≡ old.rows.items
  pub samples : new.samples.items ≡ old.samples.items

-- the layout after the exchange that was found, and the same where none was
abbrev pub LeavesExchanged : Laid → Laid → Option PositionExchange → Type 0
LeavesExchanged old new found =
    MatchOption found (new ≡ old) (λ exchange. new ≡ exchanged_in old exchange)

-- the tables are turned to a part and the next
abbrev pub IsTurnedSearch : {W : ℕ} → ℕ → Search W → Type 0
IsTurnedSearch part search = AreTurned part (length search.tables.items) search.tables.items
