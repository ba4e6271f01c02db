-- The contiguous layout: the positions in order, cut into parts as equal as can be.
use Rattle.std.specs.Prelude.{◌≡◌, ℕ, zero, suc, ◌+◌, ◌-◌, ◌*◌, ◌/◌, ◌%◌, ◌<◌, ◌⊎◌, ◌&&◌, nat_le, Bool, true, List, [], ◌∷◌, ◌++◌, length, slice_index_or}
use Rattle.std.specs.List.{range_with_len}
use Rattle.hamming_model.specs.declared.limits.TheConstants.{PARTS_MOST, PART_WIDTH_MOST}
use Rattle.part_layout.specs.declared.layout_fault.LayoutFault.{LayoutFault}
use Rattle.part_layout.specs.declared.layout_fault.LayoutFault.TheVariants.{Syntax, Range, Twice, Missing, Width, Parts, NoMemory}

-- so many parts of one width, the positions in order from the first on
abbrev pub runs : ℕ → ℕ → ℕ → List (List ℕ)
runs zero width first = []
runs (suc number) width first = range_with_len first width ∷ runs number width (first + width)

-- parts of one position more, as many as the division leaves over, and then the shorter ones
abbrev pub contiguous : ℕ → ℕ → List (List ℕ)
contiguous bits parts =
    runs (bits % parts) (bits / parts + 1) 0 ++ runs (parts - bits % parts) (bits / parts)
    (bits % parts * (bits / parts + 1))

-- a number of bits isn't cut into so many parts: none, over 64, or more than there are bits
abbrev pub IsNoNumber : ℕ → ℕ → Type 0
IsNoNumber bits parts = (parts ≡ 0) ⊎ ((PARTS_MOST < parts) ⊎ (bits < parts))

-- so many parts may be, and the first part of the contiguous layout has more than 12 positions
pub record IsWide (bits parts : ℕ) : Type 0 where
  pub number : IsNoNumber bits parts → ⊥
  pub wide : PART_WIDTH_MOST < length (slice_index_or (contiguous bits parts) 0 [])

-- this number of parts is told as none that may be
abbrev pub IsNumberFault : ℕ → ℕ → ℕ → Type 0
IsNumberFault bits parts count = (count ≡ parts) × IsNoNumber bits parts

-- this part, the first, is told as too wide
abbrev pub IsWidthFault : ℕ → ℕ → ℕ → Type 0
IsWidthFault bits parts part = (part ≡ 0) × IsWide bits parts

-- the faults that cutting bits into parts may have
abbrev pub IsCutFault : LayoutFault → Type 0
IsCutFault (Syntax at) = ⊥
IsCutFault (Range position) = ⊥
IsCutFault (Twice position) = ⊥
IsCutFault (Missing position) = ⊥
IsCutFault (Width part) = Unit {0}
IsCutFault (Parts count) = Unit {0}
IsCutFault NoMemory = Unit {0}

-- whether so many bits can be cut into so many parts: there are 1 to 64, none is empty,
-- and none has over 12 positions
abbrev pub can_be_cut : ℕ → ℕ → Bool
can_be_cut bits parts = nat_le 1 parts
    && (nat_le parts PARTS_MOST && (nat_le parts bits && nat_le bits (PART_WIDTH_MOST * parts)))

-- so many bits can be cut into so many parts
abbrev pub CanBeCut : ℕ → ℕ → Type 0
CanBeCut bits parts = can_be_cut bits parts ≡ true
