-- What is wrong with parts that a text spells, as a layout of so many bits: the first fault,
-- in their order.
use Rattle.std.specs.Prelude.{◌≡◌, ℕ, ◌==◌, not, nat_le, nat_lt, if◌then◌else◌, Bool, List, [], ◌∷◌, length, Option, Some, None}
use Rattle.std.specs.List.{find, flat_map, list_any, position_from, range_with_len}
use Rattle.std.specs.Option.{option_map}
use Rattle.hamming_model.specs.declared.limits.TheConstants.{PARTS_MOST, PART_WIDTH_MOST}
use Rattle.part_layout.specs.Grammar.{IsLayoutText, spelled}
use Rattle.part_layout.specs.Laid.{Laid}
use Rattle.part_layout.specs.Text.{layout_text}
use Rattle.part_layout.specs.declared.layout_fault.LayoutFault.{LayoutFault}
use Rattle.part_layout.specs.declared.layout_fault.LayoutFault.TheVariants.{Range, Twice, Missing, Width, Parts}

-- the numbers of all parts, in order
abbrev pub numbers_of : List (List ℕ) → List ℕ
numbers_of parts = flat_map (λ part. part) parts

-- whether a number stands among others
abbrev pub stands_in : List ℕ → ℕ → Bool
stands_in numbers number = list_any (λ other. other == number) numbers

-- the first number that is at least the number of bits
abbrev pub first_beyond : ℕ → List ℕ → Option ℕ
first_beyond bits numbers = find (λ number. nat_le bits number) numbers

-- the first of the numbers that stood already, in those before or among these
abbrev pub first_repeated : List ℕ → List ℕ → Option ℕ
first_repeated before [] = None
first_repeated before (number ∷ numbers) =
    if stands_in before number then Some number else first_repeated (number ∷ before) numbers

-- the least position below the number of bits that stands nowhere
abbrev pub least_missing : ℕ → List ℕ → Option ℕ
least_missing bits numbers =
    find (λ position. not (stands_in numbers position)) (range_with_len 0 bits)

-- the first part, from 0, of more than 12 positions
abbrev pub first_wide : List (List ℕ) → Option ℕ
first_wide parts = position_from (λ part. nat_lt PART_WIDTH_MOST (length part)) 0 parts

-- the number of parts, where it is over 64
abbrev pub too_many : List (List ℕ) → Option ℕ
too_many parts = if nat_lt PARTS_MOST (length parts) then Some (length parts) else None

-- the first of several faults that is there
abbrev pub first_there : List (Option LayoutFault) → Option LayoutFault
first_there [] = None
first_there (None ∷ others) = first_there others
first_there (Some fault ∷ others) = Some fault

-- the fault of parts as a layout of so many bits
abbrev pub fault_of : ℕ → List (List ℕ) → Option LayoutFault
fault_of bits parts =
    first_there (
    option_map Range (first_beyond bits (numbers_of parts))
    ∷ option_map Twice (first_repeated [] (numbers_of parts))
    ∷ option_map Missing (least_missing bits (numbers_of parts))
    ∷ option_map Width (first_wide parts)
    ∷ option_map Parts (too_many parts)
    ∷ []
    )

-- a text of the grammar spells parts with this fault
pub record IsFault (bits : ℕ) (text : List ℕ) (fault : LayoutFault) : Type 0 where
  pub text_of_grammar : IsLayoutText text
  pub faulty : fault_of bits (spelled text) ≡ Some fault

-- a text of the grammar spells parts with no fault
pub record IsFaultless (bits : ℕ) (text : List ℕ) : Type 0 where
  pub text_of_grammar : IsLayoutText text
  pub faultless : fault_of bits (spelled text) ≡ None

-- a layout's text is one of the grammar, spells its parts, and has no fault
pub record IsReadBack (layout : Laid) : Type 0 where
  pub faultless : IsFaultless layout.bits (layout_text layout.parts)
  pub same_parts : spelled (layout_text layout.parts) ≡ layout.parts
