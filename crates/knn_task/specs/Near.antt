-- What a near query keeps: hits of which the first, those nearer than so many units, are settled
-- and are given.
use Rattle.std.specs.Prelude.{◌≡◌, ℕ, ◌+◌, ◌-◌, ◌*◌, ◌<◌, ◌≤◌, ◌==◌, ◌⊎◌, nat_lt}
use Rattle.std.specs.Prelude.{if◌then◌else◌, List, ◌++◌, length, take, drop, sum, Option, Some, None, All}
use Rattle.hamming_model.specs.declared.hit.Hit.{Hit}
use Rattle.hamming_model.specs.Scan.{in_order}
use Rattle.search_model.specs.Reading.{HasSame}
use Rattle.ring_model.specs.Rings.{hits_nearer}
use Rattle.hit_source.specs.Moves.{AwaitsRadius}
use Rattle.hit_source.specs.Settled.{Settles}
use Rattle.hit_source.specs.Sources.{Asked, Standing}
use Rattle.hit_source.specs.Windows.{Window, IsWindow, left_of, waiting_of, first_distance}
use Rattle.hit_source.specs.Windows.{window_at}
use Rattle.hit_source.specs.Work.{IsStopped}
use Rattle.knn_task.specs.Rings.{Search, Ring, all_hits, bound_of}
use Rattle.knn_task.specs.declared.near_task.Mark.{Mark}

-- the last of so many radii
abbrev pub last_of : ℕ → Option ℕ
last_of radii = if radii == 0 then None else Some (radii - 1)

-- the distance of the next hit while a settled one is left; else how far, where not all are settled
abbrev pub floor_of : Search → Window → Mark → Option ℕ
floor_of p hits mark =
    if nat_lt hits.given mark.ready then first_distance (left_of hits)
    else if mark.ready == length p.rows then None else Some mark.settled

-- the units of work that are left at most: for each radius not begun a begin and all values, the
-- values of the ring, and for each posting of the bound a read and a move
abbrev pub search_units : Search → Ring → ℕ → Window → ℕ → ℕ
search_units p w radii hits reads =
    (p.bits + 1 - radii) * (p.values + 1) + w.values
    + (sum p.leasts - reads) + (sum p.leasts - hits.moved)

-- where a near query stands, with a floor
abbrev pub standing_with : Search → Ring → ℕ → Window → ℕ → Option ℕ → Standing
standing_with p w radii hits reads floor = record {
  given = hits.given;
  waiting = waiting_of hits;
  floor = floor;
  reads = reads;
  ended = hits.moved == length p.rows;
  begun = last_of radii;
  units = search_units p w radii hits reads;
}

-- where a near query stands after so many radii and reads
abbrev pub search_standing : Search → Ring → ℕ → Window → Mark → ℕ → Standing
search_standing p w radii hits mark reads =
    standing_with p w radii hits reads (floor_of p hits mark)

-- what is true also in the midst of a step
pub record KeepsHits (p : Search) (w : Ring) (radii : ℕ) (hits : Window) (mark : Mark) (reads : ℕ)
    : Type 0 where
  pub window : IsWindow hits
  pub some_room : 1 ≤ hits.room
  pub reserved : length p.rows ≤ hits.capacity
  pub moved : hits.moved ≤ mark.ready
  pub ready : mark.ready ≤ length hits.found
  pub few : length hits.found ≤ reads
  pub bounded : reads + w.reads ≤ bound_of p radii
  pub found : HasSame (hits.found ++ w.hits) w.total
  pub front : take mark.ready hits.found ≡ in_order (hits_nearer (all_hits p) mark.settled)
  pub back : All (λ hit. mark.settled ≤ hit.dist) (drop mark.ready hits.found)
  pub far : All (λ hit. mark.settled ≤ hit.dist) w.hits
  pub most : mark.settled ≤ p.bits + 1

-- while a ring is read every settled hit was given, and the rings before it are settled
pub record IsOpen (p : Search) (radii : ℕ) (hits : Window) (mark : Mark) : Type 0 where
  pub given : hits.given ≡ mark.ready
  pub more : mark.ready < length p.rows
  pub settled : mark.settled + 1 ≡ radii

-- what is true of a near query at every moment
pub record IsNear (p : Search) (w : Ring) (radii : ℕ) (hits : Window) (mark : Mark) (reads : ℕ)
    : Type 0 where
  pub kept : KeepsHits p w radii hits mark reads
  pub search : 0 < w.reads → IsOpen p radii hits mark
  pub rest : w.reads ≡ 0 → mark.ready < length p.rows → mark.settled ≡ radii

-- hits are settled at least up to a limit, and beyond it where one that is settled wasn't given
pub record IsUnder (limit : ℕ) (hits : Window) (mark : Mark) : Type 0 where
  pub most : limit ≤ mark.settled
  pub above : hits.given < mark.ready → limit < mark.settled

-- no unit of work can be done, or the next one would begin a radius above the limit
abbrev pub IsHeld : ℕ → Asked → Standing → Type 0
IsHeld limit a s = IsStopped a s ⊎ AwaitsRadius a (Some limit) s

-- how far the hits are settled at the end of a ring: all of them, where all rows were found
abbrev pub units_to_settle : Search → ℕ → Window → ℕ
units_to_settle p radii hits = if length hits.found == length p.rows then p.bits + 1 else radii

-- at its end a ring is settled
pub record SettlesRing (units left : ℕ) (old new : Window) (from to : Mark) : Type 0 where
  pub more : 0 < left → (new ≡ old) × (to ≡ from)
  pub done : left ≡ 0 → Settles from.ready units old new to.ready × (to.settled ≡ units)

-- the window after a run of postings was read, with the hits that were new of it
abbrev pub with_new : Window → List Hit → Window
with_new hits kept =
    window_at (hits.found ++ kept) hits.capacity hits.room hits.given hits.moved

-- of so many postings the new hits were put behind those that were found: they are the first of
-- those that were left of the ring
pub record KeepsNew (count : ℕ) (old new : Window) (left rest : List Hit) : Type 0 where
  pub kept : List Hit
  pub few : length kept ≤ count
  pub window : new ≡ with_new old kept
  pub hits : left ≡ kept ++ rest
