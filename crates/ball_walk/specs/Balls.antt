-- Values of so many binary digits, how far two are apart, and the values within a radius of one.
use Rattle.std.specs.Prelude.{◌≡◌, ℕ, ◌+◌, ◌^◌, ◌<◌, ◌⊎◌, ◌==◌, nat_lt, Bool, List, filter, ℤ, pos, negsuc}
use Rattle.std.specs.Int.RustNames.{count_ones, bit_xor}
use Rattle.std.specs.List.{flat_map, range_with_len}

-- at how many binary digits two numbers differ
unfoldable pub value_distance : ℕ → ℕ → ℕ
value_distance a b = count_ones (bit_xor a b)

-- the values of a width, ascending
unfoldable pub values : ℕ → List ℕ
values width = range_with_len 0 (2 ^ width)

-- the values of a width at one distance from a value, ascending
unfoldable pub ring : ℕ → ℕ → ℕ → List ℕ
ring value width apart = filter (λ other. value_distance other value == apart) (values width)

-- the values of a width nearer to a value than so many units, by distance and then by value
unfoldable pub ball : ℕ → ℕ → ℕ → List ℕ
ball value width units = flat_map (ring value width) (range_with_len 0 units)

-- how many distances lie within a radius: of -1 none
abbrev pub radius_units : ℤ → ℕ
radius_units (pos radius) = radius + 1
radius_units (negsuc below) = 0

-- whether a number is nearer to a value than so many units
unfoldable pub is_near : ℕ → ℕ → ℕ → Bool
is_near value units other = nat_lt (value_distance other value) units

-- the values of a width nearer to a value than so many units, ascending
unfoldable pub values_near : ℕ → ℕ → ℕ → List ℕ
values_near value width units = filter (is_near value units) (values width)

-- one number comes before another: it is nearer to a value, or as near and smaller
abbrev pub IsBefore : ℕ → ℕ → ℕ → Type 0
IsBefore value one other =
    (value_distance one value < value_distance other value)
    ⊎ ((value_distance one value ≡ value_distance other value) × (one < other))
