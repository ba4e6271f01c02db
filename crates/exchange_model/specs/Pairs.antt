-- The least cost of all parts by a part, the next one, and the least cost of all others at each
-- number of units.
use Rattle.std.specs.Prelude.{ℕ, zero, suc, ◌+◌, ◌-◌, nat_lt, if◌then◌else◌}
use Rattle.exchange_model.specs.Least.{least_cost}

-- the place of a part among all parts, where it is counted without a part and the next
abbrev pub place_beside : ℕ → ℕ → ℕ
place_beside pair part = if nat_lt part pair then part else part + 2

-- the counts of all parts but a part and the next
abbrev pub counts_beside : (ℕ → ℕ → ℕ) → ℕ → ℕ → ℕ → ℕ
counts_beside count pair part = count (place_beside pair part)

-- the least cost of all parts but a part and the next, at just so many units
abbrev pub least_beside : (ℕ → ℕ → ℕ) → ℕ → ℕ → ℕ → ℕ
least_beside count pair parts zero = 0
least_beside count pair parts (suc tau) = least_cost (counts_beside count pair) tau (parts - 2)

-- the counts of three parts: a part, the next, and one whose counts are given
abbrev pub counts_of_pair : (ℕ → ℕ → ℕ) → ℕ → (ℕ → ℕ) → ℕ → ℕ → ℕ
counts_of_pair count pair others zero = count pair
counts_of_pair count pair others (suc zero) = count (pair + 1)
counts_of_pair count pair others (suc (suc part)) = others
