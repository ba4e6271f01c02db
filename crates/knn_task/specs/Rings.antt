-- What a near search sees of its rings: what it is asked, and where the ring of a radius stands.
use Rattle.std.specs.Prelude.{◌≡◌, ℕ, ◌+◌, ◌^◌, ◌<◌, ◌≤◌, Bool, ℤ, List, ◌++◌, length, map, sum, take}
use Rattle.std.specs.Prelude.{slice_index}
use Rattle.std.specs.List.{AllByRecursion}
use Rattle.hamming_model.specs.declared.hit.Hit.{Hit}
use Rattle.hamming_model.specs.Scan.{hit_of, in_order, scan}
use Rattle.search_model.specs.Reading.{HasSame}
use Rattle.ring_model.specs.Rings.{hits_nearer}

-- the rows, the query, the number of bits, for each radius the first of the cheapest vectors and
-- its cost, and how many values all parts have
pub record Search : Type 0 where
  pub rows : List (ℕ × List ℕ)
  pub query : List ℕ
  pub bits : ℕ
  pub vectors : List (List ℤ)
  pub leasts : List ℕ
  pub values : ℕ

-- the hits of all rows
abbrev pub all_hits : Search → List Hit
all_hits p = map (hit_of p.query) p.rows

-- the most that is read for so many radii: the least costs added up
abbrev pub bound_of : Search → ℕ → ℕ
bound_of p radii = sum (take radii p.leasts)

-- what is found once the ring is read, how many postings of it are left, the new hits among these,
-- its values that are left, and whether the list of a value has a posting left
pub record Ring : Type 0 where
  pub total : List Hit
  pub reads : ℕ
  pub hits : List Hit
  pub values : ℕ
  pub in_list : Bool

-- where so many radii were begun: what is found has every nearer row once, and is all rows where it
-- is as many
pub record IsRing (p : Search) (radii : ℕ) (w : Ring) : Type 0 where
  pub answer : scan p.rows p.query p.bits ≡ in_order (all_hits p)
  pub within : hits_nearer (all_hits p) (p.bits + 1) ≡ all_hits p
  pub leasts_are : length p.leasts ≡ p.bits + 1
  pub begun : radii ≤ p.bits + 1
  pub few : length w.total ≤ length p.rows
  pub all : length w.total ≡ length p.rows → HasSame w.total (all_hits p)
  pub near : HasSame (hits_nearer w.total radii) (hits_nearer (all_hits p) radii)
  pub few_new : length w.hits ≤ w.reads
  pub small : sum p.leasts < 2 ^ 63

-- the cheapest next ring is begun, after so many radii
pub record Begins (p : Search) (radii : ℕ) (old new : Ring) : Type 0 where
  pub found : HasSame (old.total ++ new.hits) new.total
  pub far : AllByRecursion (λ hit. radii ≤ hit.dist) new.hits
  pub least : new.reads ≤ slice_index p.leasts radii
  pub few_values : new.values ≤ p.values
