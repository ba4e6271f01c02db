use Rattle.std.proofs.Common.{◌≡◌, map, None}
use Rattle.std.specs.List.{range_with_len}
use Rattle.layout_search.specs.Ready.{IsSearchReady, IsTurnedSearch, SameTask, cost_with}
use Rattle.exchange_model.specs.Exchanges.{exchange_of}
use Rattle.exchange_model.specs.Rounds.{first_below}
use Rattle.layout_search.proofs.search.Search.first_of_place.Given as goal

abbrev pub invariant-loop-other : goal.invariant-loop-other
invariant-loop-other g l =
    IsSearchReady l.self × SameTask l.fn.self l.self × (l.self.layout ≡ l.fn.self.layout)
    × (first_below (cost_with l.fn.self) l.fn.self.layout.parts l.bound (map (λ other. exchange_of l.part l.place other) (range_with_len 0 l.other)) ≡ None)
    × IsTurnedSearch l.part l.self
