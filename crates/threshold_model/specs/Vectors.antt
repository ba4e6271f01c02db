-- Threshold vectors: their set, their cost over a count function, and the first of the cheapest.
use Rattle.std.specs.Prelude.{◌≡◌, ℕ, suc, ◌+◌, ◌≤◌, ◌⊎◌, ℤ, pos, negsuc, ◌+ℤ◌, ◌≤ℤ◌, ◌<ℤ◌, List, [], ◌∷◌, length, slice_index_or, All}
use Rattle.hamming_model.specs.Layouts.{part_count}

-- the sum of whole numbers
abbrev pub total : List ℤ → ℤ
total [] = pos 0
total (t ∷ ts) = t +ℤ total ts

-- a threshold for each part, each at least -1, with the sum tau - parts + 1;
-- -1 is a part that isn't searched
pub record IsVector (tau parts : ℕ) (thresholds : List ℤ) : Type 0 where
  pub size : length thresholds ≡ parts
  pub entries : All (λ threshold. negsuc 0 ≤ℤ threshold) thresholds
  pub sum : total thresholds +ℤ pos parts ≡ pos (tau + 1)

-- how many distances a threshold allows: those up to it
abbrev pub units_of : ℤ → ℕ
units_of (pos n) = suc n
units_of (negsuc n) = 0

-- the cost of thresholds for the parts from this one on
abbrev pub cost_from : (ℕ → ℕ → ℕ) → ℕ → List ℤ → ℕ
cost_from count part [] = 0
cost_from count part (t ∷ ts) = count part (units_of t) + cost_from count (part + 1) ts

-- the cost of a vector: the sum over the parts of the count at the part's threshold
abbrev pub cost : (ℕ → ℕ → ℕ) → List ℤ → ℕ
cost count thresholds = cost_from count 0 thresholds

-- one vector stands before another: it is less at the first place where they differ
abbrev pub ComesBefore : List ℤ → List ℤ → Type 0
ComesBefore [] [] = ⊥
ComesBefore [] (u ∷ us) = Unit {0}
ComesBefore (t ∷ ts) [] = ⊥
ComesBefore (t ∷ ts) (u ∷ us) = (t <ℤ u) ⊎ ((t ≡ u) × ComesBefore ts us)

-- the least cost of a vector
pub record IsLeast (count : ℕ → ℕ → ℕ) (tau parts least : ℕ) : Type 0 where
  pub attained : (ts : List ℤ) × IsVector tau parts ts × (cost count ts ≡ least)
  pub none_cheaper : (ts : List ℤ) → IsVector tau parts ts → least ≤ cost count ts

-- the first of the cheapest vectors
pub record IsChoice (count : ℕ → ℕ → ℕ) (tau parts : ℕ) (thresholds : List ℤ) : Type 0 where
  pub vector : IsVector tau parts thresholds
  pub none_cheaper : (us : List ℤ) → IsVector tau parts us → cost count thresholds ≤ cost count us
  pub none_before : (us : List ℤ) → IsVector tau parts us → cost count us ≡ cost count thresholds
      → ComesBefore us thresholds → ⊥

-- the counts of rows at the parts of a layout round a query
abbrev pub row_counts : List (ℕ × List ℕ) → List (List ℕ) → List ℕ → ℕ → ℕ → ℕ
row_counts rows layout query part units =
    part_count rows (slice_index_or layout part []) query units

-- a count that never falls as the units rise
abbrev pub NeverFalls : (ℕ → ℕ) → Type 0
NeverFalls count = (fewer more : ℕ) → fewer ≤ more → count fewer ≤ count more
