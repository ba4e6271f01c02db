-- What a near query on a version asks, and where it stands when it is opened.
use Rattle.std.specs.Prelude.{◌≡◌, ℕ, ◌≤◌, true, List, [], length, take, Option, IfSome}
use Rattle.hamming_model.specs.Scan.{Near, scan}
use Rattle.threshold_model.specs.Bounds.{IsBoundOf, IsPlanOf, IsUnitsOf}
use Rattle.shard_version.specs.Contents.{Contents}
use Rattle.hit_source.specs.Sources.{Asked, IsAsked, Standing, IsFresh}

-- the code that the words of a query keep
abbrev pub near_code : Contents → List ℕ → List ℕ
near_code version stored = take version.layout.bits stored

-- a near query's hits are all rows, nearest first; its plan at a radius is the first of the
-- cheapest vectors there, and its bound the least costs of all radii up to it, added up
pub record AsksNear (version : Contents) (query : List ℕ) (room : ℕ) (a : Asked) : Type 0 where
  pub asked : IsAsked a
  pub hits : a.hits ≡ scan version.rows query version.layout.bits
  pub rows : a.rows ≡ length version.rows
  pub near : a.near ≡ true
  pub room_is : a.room ≡ room
  pub farthest : a.farthest ≡ version.layout.bits
  pub plan : (number : ℕ) (given : Option ℕ) →
      IfSome given (λ radius. radius ≤ version.layout.bits) →
      IsPlanOf (Near number query) version.rows version.layout.parts given
      (a.plan given).0 (a.plan given).1
  pub bound : (number : ℕ) (given : Option ℕ) →
      IfSome given (λ radius. radius ≤ version.layout.bits) →
      IsBoundOf (Near number query) version.rows version.layout.parts given (a.bound given)

-- a near query that has read and given nothing: its units are those of all radii, and on no rows it
-- has ended
pub record BeginsNear (version : Contents) (query : List ℕ) (s : Standing) : Type 0 where
  pub fresh : IsFresh s
  pub units : (number : ℕ) →
      IsUnitsOf version.layout.bits (Near number query) version.rows version.layout.parts s.units
  pub ended : version.rows ≡ [] → s.ended ≡ true
