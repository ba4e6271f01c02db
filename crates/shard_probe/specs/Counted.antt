-- Counts at the radii -1 to tau, those of one part behind those of another.
use Rattle.std.specs.Prelude.{◌≡◌, ℕ, ◌+◌, ◌*◌, ◌<◌, ◌≤◌, min, List, length, slice_index}
use Rattle.threshold_model.specs.Vectors.{NeverFalls}

-- the count at a part, where more units than tau + 1 count as many as these
abbrev pub count_in : List ℕ → ℕ → ℕ → ℕ → ℕ
count_in counts tau part units = slice_index counts (part * (tau + 2) + min units (tau + 1))

-- counts of so many parts that start at none and never fall
pub record IsTable (counts : List ℕ) (tau parts : ℕ) : Type 0 where
  pub size : length counts ≡ parts * (tau + 2)
  pub starts : (part : ℕ) → part < parts → count_in counts tau part 0 ≡ 0
  pub rises : (part : ℕ) → part < parts → NeverFalls (count_in counts tau part)

-- the counts at the first so many parts
abbrev pub HasCounts : List ℕ → ℕ → ℕ → (ℕ → ℕ → ℕ) → Type 0
HasCounts counts tau parts count =
    (part units : ℕ) → part < parts → units ≤ tau + 1 →
    count_in counts tau part units ≡ count part units
