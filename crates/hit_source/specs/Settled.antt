-- Hits of which the first are settled: those nearer than so many units, in order.
use Rattle.std.specs.Prelude.{◌≡◌, ℕ, ◌≤◌, List, ◌++◌, length, take, drop}
use Rattle.std.specs.List.{AllByRecursion}
use Rattle.hamming_model.specs.declared.hit.Hit.{Hit}
use Rattle.hamming_model.specs.Scan.{in_order}
use Rattle.search_model.specs.Reading.{HasSame}
use Rattle.ring_model.specs.Rings.{hits_nearer, hits_from}
use Rattle.hit_source.specs.Windows.{Window}

-- the hits nearer than so many units stand in front of the others
pub record Gathers (units : ℕ) (old new : List Hit) (near : ℕ) : Type 0 where
  pub same : HasSame new old
  pub size : length new ≡ length old
  pub within : near ≤ length new
  pub front : take near new ≡ hits_nearer old units

-- the hits nearer than so many units stand in front of the others, in order
pub record OrdersNearer (units : ℕ) (old new : List Hit) (near : ℕ) : Type 0 where
  pub front : take near new ≡ in_order (hits_nearer old units)
  pub back : HasSame (drop near new) (hits_from old units)
  pub size : length new ≡ length old
  pub within : near ≤ length new

-- of the hits behind the first so many, those nearer than so many units are put in front of the
-- others, in order, and nothing else changes
pub record Settles (from units : ℕ) (old new : Window) (settled : ℕ) : Type 0 where
  pub front : take settled new.found
      ≡ take from old.found ++ in_order (hits_nearer (drop from old.found) units)
  pub back : HasSame (drop settled new.found) (hits_from (drop from old.found) units)
  pub far : AllByRecursion (λ hit. units ≤ hit.dist) (drop settled new.found)
  pub size : length new.found ≡ length old.found
  pub within : settled ≤ length new.found
  pub behind : from ≤ settled
  pub capacity : new.capacity ≡ old.capacity
  pub room : new.room ≡ old.room
  pub given : new.given ≡ old.given
  pub moved : new.moved ≡ old.moved
