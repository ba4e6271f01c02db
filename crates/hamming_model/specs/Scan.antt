-- The answers: every row near enough, in order of distance and then of key.
use Rattle.std.specs.Prelude.{ℕ, nat_le, if◌then◌else◌, List, [], ◌∷◌, map, filter, take}
use Rattle.std.specs.declared.cmp.Ordering.{Ordering}
use Rattle.std.specs.Ordering.{nat_cmp, ordering_then, is_gt}
use Rattle.hamming_model.specs.Codes.{distance}
use Rattle.hamming_model.specs.declared.hit.Hit.{Hit}

-- hits stand by distance and then by key
abbrev pub hit_cmp : Hit → Hit → Ordering
hit_cmp a b = ordering_then (nat_cmp a.dist b.dist) (nat_cmp a.key b.key)

-- a row as a hit of a query
abbrev pub hit_of : List ℕ → ℕ × List ℕ → Hit
hit_of query row = record { dist = distance row.1 query; key = row.0 }

-- the hits of the rows at most so far from a query, in the order of the rows
abbrev pub hits_within : List (ℕ × List ℕ) → List ℕ → ℕ → List Hit
hits_within rows query radius = filter (λ hit. nat_le hit.dist radius) (map (hit_of query) rows)

-- a hit at its place in a list in order
abbrev pub placed : Hit → List Hit → List Hit
placed hit [] = hit ∷ []
placed hit (other ∷ hits) =
    if is_gt (hit_cmp hit other) then other ∷ placed hit hits else hit ∷ other ∷ hits

-- the hits of a list in order
abbrev pub in_order : List Hit → List Hit
in_order [] = []
in_order (hit ∷ hits) = placed hit (in_order hits)

-- all rows at most so far from the query, by distance and then by key
abbrev pub scan : List (ℕ × List ℕ) → List ℕ → ℕ → List Hit
scan rows query radius = in_order (hits_within rows query radius)

-- a question: all within a radius, or so many nearest
pub data Ask : Type 0 where
  Range : ℕ → List ℕ → Ask
  Near : ℕ → List ℕ → Ask

-- its answer on rows of codes of so many bits
abbrev pub answer : ℕ → List (ℕ × List ℕ) → Ask → List Hit
answer bits rows (Range radius query) = scan rows query radius
answer bits rows (Near number query) = take number (scan rows query bits)
