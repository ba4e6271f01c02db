-- Exchanges of two positions of neighbouring parts, and all exchanges of a layout in their order.
use Rattle.std.specs.Prelude.{ℕ, ◌+◌, ◌-◌, ◌<◌, List, [], map, length, slice_index, slice_index_or, slice_set}
use Rattle.std.specs.List.{flat_map, range_with_len}
use Rattle.exchange_model.specs.declared.position_exchange.PositionExchange.{PositionExchange}

-- the positions of the exchange's first part
abbrev pub first_part_of : List (List ℕ) → PositionExchange → List ℕ
first_part_of parts exchange = slice_index_or parts exchange.part []

-- the positions of the part after it
abbrev pub next_part_of : List (List ℕ) → PositionExchange → List ℕ
next_part_of parts exchange = slice_index_or parts (exchange.part + 1) []

-- the two places are in neighbouring parts
pub record IsInside (parts : List (List ℕ)) (exchange : PositionExchange) : Type 0 where
  pub within : exchange.part + 1 < length parts
  pub here : exchange.place < length (first_part_of parts exchange)
  pub there : exchange.other < length (next_part_of parts exchange)

-- the parts after the two positions have changed places
abbrev pub exchanged : List (List ℕ) → PositionExchange → List (List ℕ)
exchanged parts exchange =
    slice_set
    (slice_set parts exchange.part
    (slice_set (first_part_of parts exchange) exchange.place
    (slice_index (next_part_of parts exchange) exchange.other)))
    (exchange.part + 1)
    (slice_set (next_part_of parts exchange) exchange.other
    (slice_index (first_part_of parts exchange) exchange.place))

-- an exchange by its part and its two places
abbrev pub exchange_of : ℕ → ℕ → ℕ → PositionExchange
exchange_of part place other = record { part = part; place = place; other = other }

-- the exchanges of a place of a part with each place of the next part
abbrev pub exchanges_of_place : List (List ℕ) → ℕ → ℕ → List PositionExchange
exchanges_of_place parts part place =
    map (λ other. exchange_of part place other)
    (range_with_len 0 (length (slice_index_or parts (part + 1) [])))

-- the exchanges between a part and the next, by the place of the part
abbrev pub exchanges_of_part : List (List ℕ) → ℕ → List PositionExchange
exchanges_of_part parts part =
    flat_map (exchanges_of_place parts part)
    (range_with_len 0 (length (slice_index_or parts part [])))

-- all exchanges of a layout: by part, then by its place, then by the place of the next part
abbrev pub exchanges : List (List ℕ) → List PositionExchange
exchanges parts = flat_map (exchanges_of_part parts) (range_with_len 0 (length parts - 1))
