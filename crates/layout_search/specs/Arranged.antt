-- A layout after an exchange of two of its positions, and after the exchanges of a search.
use Rattle.part_layout.specs.Laid.{Laid}
use Rattle.exchange_model.specs.Exchanges.{exchanged}
use Rattle.exchange_model.specs.Rounds.{Reached}
use Rattle.exchange_model.specs.declared.position_exchange.PositionExchange.{PositionExchange}

-- the layout after an exchange
abbrev pub exchanged_in : Laid → PositionExchange → Laid
exchanged_in laid exchange = record { bits = laid.bits; parts = exchanged laid.parts exchange }

-- the layout that was reached
abbrev pub reached_in : Laid → Reached → Laid
reached_in laid reached = record { bits = laid.bits; parts = reached.parts }
