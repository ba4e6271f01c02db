-- What a range query keeps while it is answered: first it searches,
-- then it gives the hits that it found, all in order.
use Rattle.std.specs.Prelude.{◌≡◌, ℕ, ◌+◌, ◌-◌, ◌<◌, ◌≤◌, ◌==◌, ◌&&◌, if◌then◌else◌, Bool, false, List, ◌++◌, length, Option, Some, None}
use Rattle.hamming_model.specs.declared.hit.Hit.{Hit}
use Rattle.hamming_model.specs.Scan.{in_order, scan}
use Rattle.hit_source.specs.Sources.{Asked, Standing}
use Rattle.hit_source.specs.Windows.{Window, IsWindow, left_of, waiting_of, first_distance, window_at}
use Rattle.shard_walk.specs.Planned.{Planned, planned_query}
use Rattle.shard_walk.specs.Walks.{Place, IsWalkPlace, hits_left, reads_left, values_left}

-- the answer to a planned query
abbrev pub scan_of : Planned → List Hit
scan_of p = scan p.version.contents.rows (planned_query p) p.tau

-- what a planned query asks, where so many hits may wait
abbrev pub asked_of : Planned → ℕ → Asked
asked_of p room = record {
  hits = scan_of p;
  rows = length p.version.contents.rows;
  near = false;
  room = room;
  farthest = p.version.contents.layout.bits;
  plan = λ given. (p.thresholds, p.least);
  bound = λ given. p.least;
}

-- the units of work that are left at most: values of balls, postings and hits
abbrev pub units_left : Planned → Place → Window → ℕ → ℕ
units_left p w hits reads = values_left p w + (p.least - reads) + (p.least - hits.moved)

-- where the query stands, while it searches or when all is read
abbrev pub standing_at : Planned → Place → Window → ℕ → Bool → Standing
standing_at p w hits reads all_read = record {
  given = hits.given;
  waiting = waiting_of hits;
  floor = if all_read then first_distance (left_of hits) else Some 0;
  reads = reads;
  ended = all_read && (hits.moved == length hits.found);
  begun = None;
  units = units_left p w hits reads;
}

-- where the query stands after so many reads
abbrev pub standing_of : Planned → Place → Window → ℕ → Standing
standing_of p w hits reads = standing_at p w hits reads (reads == p.least)

-- a search that isn't at its end: what was found and what the rest will keep are the answer
pub record IsSearch (p : Planned) (w : Place) (hits : Window) (reads : ℕ) : Type 0 where
  pub place : IsWalkPlace p w
  pub left : reads + reads_left p w ≡ p.least
  pub answer : in_order (hits.found ++ hits_left p w) ≡ scan_of p
  pub none_moved : hits.moved ≡ 0

-- what is true of a range query at every moment
pub record IsTask (p : Planned) (w : Place) (hits : Window) (reads : ℕ) : Type 0 where
  pub window : IsWindow hits
  pub near : p.tau ≤ p.version.contents.layout.bits
  pub some_room : 1 ≤ hits.room
  pub reserved : p.least ≤ hits.capacity
  pub few : length hits.found ≤ reads
  pub bounded : reads ≤ p.least
  pub search : reads < p.least → IsSearch p w hits reads
  pub found_all : reads ≡ p.least → hits.found ≡ scan_of p

-- the window after a run of postings was read, with the hits that were kept of it
abbrev pub with_kept : Window → List Hit → Window
with_kept hits kept =
    window_at (hits.found ++ kept) hits.capacity hits.room hits.given hits.moved
