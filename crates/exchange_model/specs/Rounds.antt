-- The search for a cheaper layout: what a layout costs, the first exchange that makes it cheaper,
-- and the rounds.
use Rattle.std.specs.Prelude.{◌≡◌, ℕ, zero, suc, ◌+◌, nat_lt, List, length, take, sum_by, Option, None, Some}
use Rattle.std.specs.List.{find}
use Rattle.threshold_model.specs.Vectors.{row_counts}
use Rattle.exchange_model.specs.Exchanges.{exchanged, exchanges}
use Rattle.exchange_model.specs.Least.{least_cost}
use Rattle.exchange_model.specs.declared.limits.TheConstants.{SEARCH_ROWS_MOST}
use Rattle.exchange_model.specs.declared.position_exchange.PositionExchange.{PositionExchange}

-- a sample: the code of a range query, and its radius
pub record PlainSample : Type 0 where
  pub query : List ℕ
  pub tau : ℕ

-- the cost of a layout: the sum over the samples of the least cost of a vector over the rows
abbrev pub layout_cost : List (ℕ × List ℕ) → List PlainSample → List (List ℕ) → ℕ
layout_cost rows samples parts =
    sum_by (λ sample. least_cost (row_counts rows parts sample.query) sample.tau (length parts))
    samples

-- the cost by which a search judges: over the first of the rows, which are those of least key
abbrev pub search_cost : List (ℕ × List ℕ) → List PlainSample → List (List ℕ) → ℕ
search_cost rows samples parts = layout_cost (take SEARCH_ROWS_MOST rows) samples parts

-- the first exchange of a list after which the layout costs less than so much
abbrev pub first_below : (List (List ℕ) → ℕ) → List (List ℕ) → ℕ → List PositionExchange
    → Option PositionExchange
first_below cost parts bound list =
    find (λ exchange. nat_lt (cost (exchanged parts exchange)) bound) list

-- the first exchange of a layout that makes it cheaper
abbrev pub first_cheaper : (List (List ℕ) → ℕ) → List (List ℕ) → Option PositionExchange
first_cheaper cost parts = first_below cost parts (cost parts) (exchanges parts)

-- a layout, and the number of exchanges that led to it
pub record Reached : Type 0 where
  pub parts : List (List ℕ)
  pub swaps : ℕ

-- what was reached after one exchange more
abbrev pub one_swap_more : Reached → Reached
one_swap_more reached = record { parts = reached.parts; swaps = reached.swaps + 1 }

-- where an exchange was found what follows it, else the layout as it is
abbrev pub then_or_stay : List (List ℕ) → Option PositionExchange
    → (List (List ℕ) → Reached) → Reached
then_or_stay parts None follow = record { parts = parts; swaps = 0 }
then_or_stay parts (Some exchange) follow = one_swap_more (follow (exchanged parts exchange))

-- the layout after so many rounds: each takes the first exchange that makes it cheaper, and the
-- search ends where there is none
abbrev pub improved : (List (List ℕ) → ℕ) → ℕ → List (List ℕ) → Reached
improved cost zero parts = record { parts = parts; swaps = 0 }
improved cost (suc rounds) parts =
    then_or_stay parts (first_cheaper cost parts) (improved cost rounds)

-- a search over rows and samples comes from one layout to another: the costs of both, and the
-- number of exchanges between them
pub record IsSearchEnd (rows : List (ℕ × List ℕ)) (samples : List PlainSample) (rounds : ℕ)
    (parts found : List (List ℕ)) (before after swaps : ℕ) : Type 0 where
  pub layout : found ≡ (improved (search_cost rows samples) rounds parts).parts
  pub number : swaps ≡ (improved (search_cost rows samples) rounds parts).swaps
  pub cost_before : before ≡ search_cost rows samples parts
  pub cost_after : after ≡ search_cost rows samples found
