-- What a source of hits is asked, and where it stands.
use Rattle.std.specs.Prelude.{◌≡◌, ℕ, ◌+◌, ◌≤◌, ◌↔◌, Bool, true, false, List, [], ◌∷◌, length, take, drop, Option, Some, None, ℤ, IfSome, All}
use Rattle.std.specs.List.Sorted.{IsSorted}
use Rattle.hamming_model.specs.declared.hit.Hit.{Hit}
use Rattle.hamming_model.specs.Scan.{hit_cmp}

-- what no call changes: all hits in order, the number of rows, whether every row is a hit, how
-- many hits may wait, the farthest that a hit may be, and for each radius the first of the
-- cheapest threshold vectors with its cost, and the bound of the reads
pub record Asked : Type 0 where
  pub hits : List Hit
  pub rows : ℕ
  pub near : Bool
  pub room : ℕ
  pub farthest : ℕ
  pub plan : Option ℕ → List ℤ × ℕ
  pub bound : Option ℕ → ℕ

-- a range has one radius: its plan and its bound are the same, whatever radius is given
pub record HasOneRadius (a : Asked) : Type 0 where
  pub plan : (given : Option ℕ) → a.plan given ≡ a.plan None
  pub bound : (given : Option ℕ) → a.bound given ≡ a.bound None

-- a near query has every row as a hit, and its bound rises with the radius,
-- from 0 where none was begun
pub record HasAllRadii (a : Asked) : Type 0 where
  pub all_rows : length a.hits ≡ a.rows
  pub none : a.bound None ≡ 0
  pub rises : (low high : ℕ) → low ≤ high → high ≤ a.farthest
      → a.bound (Some low) ≤ a.bound (Some high)

-- what a source can be asked: its hits ascend by distance and then by key, within the farthest,
-- at most one for each row
pub record IsAsked (a : Asked) : Type 0 where
  pub ascends : IsSorted hit_cmp a.hits
  pub reached : All (λ hit. hit.dist ≤ a.farthest) a.hits
  pub few : length a.hits ≤ a.rows
  pub some_room : 1 ≤ a.room
  pub range : a.near ≡ false → HasOneRadius a
  pub near : a.near ≡ true → HasAllRadii a

-- where a source stands: how many hits were given, those that wait, the distance that no later
-- hit is below, the postings read, whether it has ended, the last radius that was begun, and how
-- many units of work are left at most
pub record Standing : Type 0 where
  pub given : ℕ
  pub waiting : List Hit
  pub floor : Option ℕ
  pub reads : ℕ
  pub ended : Bool
  pub begun : Option ℕ
  pub units : ℕ

-- how many hits were given or wait
abbrev pub reached : Standing → ℕ
reached s = s.given + length s.waiting

-- how many radii were begun: from 0 to the last one, each
abbrev pub radii_begun : Option ℕ → ℕ
radii_begun None = 0
radii_begun (Some radius) = radius + 1

-- nothing was given, waits, was read or was begun yet
pub record IsFresh (s : Standing) : Type 0 where
  pub given : s.given ≡ 0
  pub waiting : s.waiting ≡ []
  pub reads : s.reads ≡ 0
  pub begun : s.begun ≡ None

-- no hit that isn't given yet is nearer than the floor,
-- and there is no floor exactly where all hits were given and it has ended
pub record IsFloor (a : Asked) (s : Standing) : Type 0 where
  pub none_nearer : IfSome s.floor (λ floor. All (λ hit. floor ≤ hit.dist) (drop s.given a.hits))
  pub none_left : (s.floor ≡ None) ↔ ((s.given ≡ length a.hits) × (s.ended ≡ true))
  pub of_head : (head : Hit) (rest : List Hit) → s.waiting ≡ head ∷ rest → s.floor ≡ Some head.dist

-- a source has ended where every hit was given or waits and nothing more will be read:
-- a range has then read all that it will
pub record IsEnd (a : Asked) (s : Standing) : Type 0 where
  pub all_reached : s.ended ≡ true → reached s ≡ length a.hits
  pub all_read : s.ended ≡ true → a.near ≡ false → s.reads ≡ a.bound None
  pub of_range : a.near ≡ false → reached s ≡ length a.hits → s.reads ≡ a.bound None
      → s.ended ≡ true
  pub of_near : a.near ≡ true → reached s ≡ length a.hits → s.ended ≡ true

-- a range begins no radius, and a near query none above the farthest
pub record HasBegun (a : Asked) (s : Standing) : Type 0 where
  pub range : a.near ≡ false → s.begun ≡ None
  pub near : IfSome s.begun (λ radius. radius ≤ a.farthest)

-- what holds of a source at every moment
pub record IsLawful (a : Asked) (s : Standing) : Type 0 where
  pub asked : IsAsked a
  pub window : s.waiting ≡ take (length s.waiting) (drop s.given a.hits)
  pub within : reached s ≤ length a.hits
  pub room : length s.waiting ≤ a.room
  pub each_read : reached s ≤ s.reads
  pub begun : HasBegun a s
  pub bounded : s.reads ≤ a.bound s.begun
  pub floor : IsFloor a s
  pub end : IsEnd a s
