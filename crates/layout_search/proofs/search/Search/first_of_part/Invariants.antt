use Rattle.std.proofs.Common.{◌≡◌, None}
use Rattle.std.specs.List.{flat_map, range_with_len}
use Rattle.layout_search.specs.Ready.{IsSearchReady, IsTurnedSearch, SameTask, cost_with}
use Rattle.exchange_model.specs.Exchanges.{exchanges_of_place}
use Rattle.exchange_model.specs.Rounds.{first_below}
use Rattle.layout_search.proofs.search.Search.first_of_part.Given as goal

abbrev pub invariant-loop-place : goal.invariant-loop-place
invariant-loop-place g l =
    IsSearchReady l.self × SameTask l.fn.self l.self × (l.self.layout ≡ l.fn.self.layout)
    × (first_below (cost_with l.fn.self) l.fn.self.layout.parts l.bound
    (flat_map (exchanges_of_place l.fn.self.layout.parts l.part) (range_with_len 0 l.place)) ≡ None)
    × IsTurnedSearch l.part l.self
