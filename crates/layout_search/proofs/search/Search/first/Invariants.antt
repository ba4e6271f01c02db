use Rattle.std.proofs.Common.{◌≡◌, None}
use Rattle.std.specs.List.{flat_map, range_with_len}
use Rattle.layout_search.specs.Ready.{IsSearchReady, SameTask, cost_with}
use Rattle.exchange_model.specs.Exchanges.{exchanges_of_part}
use Rattle.exchange_model.specs.Rounds.{first_below}
use Rattle.layout_search.proofs.search.Search.first.Given as goal

abbrev pub invariant-loop-part : goal.invariant-loop-part
invariant-loop-part g l =
    IsSearchReady l.self × SameTask l.fn.self l.self × (l.self.layout ≡ l.fn.self.layout)
    × (first_below (cost_with l.fn.self) l.fn.self.layout.parts l.bound (flat_map (exchanges_of_part l.fn.self.layout.parts) (range_with_len 0 l.part))
    ≡ None)
