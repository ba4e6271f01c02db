-- How often a hit stands in a list of hits, and among rows; and lists of hits that ascend.
use Rattle.std.specs.Prelude.{◌≡◌, ℕ, Bool, false, ◌==◌, ◌&&◌, nat_le, List, [], ◌∷◌, count_by}
use Rattle.std.specs.List.{AllByRecursion}
use Rattle.std.specs.Ordering.{is_gt}
use Rattle.hamming_model.specs.Codes.{distance}
use Rattle.hamming_model.specs.Scan.{hit_cmp}
use Rattle.hamming_model.specs.declared.hit.Hit.{Hit}

-- whether two hits have one distance and one key
abbrev pub is_same_hit : Hit → Hit → Bool
is_same_hit hit other = other.dist == hit.dist && other.key == hit.key

-- how often a hit stands in a list
abbrev pub occurrences : Hit → List Hit → ℕ
occurrences hit hits = count_by (is_same_hit hit) hits

-- whether a row is this hit of a query, within the radius
abbrev pub is_hit_row : Hit → List ℕ → ℕ → ℕ × List ℕ → Bool
is_hit_row hit query radius row =
    (distance row.1 query == hit.dist && row.0 == hit.key) && nat_le (distance row.1 query) radius

-- a hit is after none of these
abbrev pub IsFirst : Hit → List Hit → Type 0
IsFirst hit hits = AllByRecursion (λ other. is_gt (hit_cmp hit other) ≡ false) hits

-- each hit is after none of those that follow it
abbrev pub Ascends : List Hit → Type 0
Ascends [] = Unit {0}
Ascends (hit ∷ hits) = IsFirst hit hits × Ascends hits
