-- A walk over the rings of a version, as a near search sees it.
use Rattle.std.specs.Prelude.{◌≡◌, ℕ, ◌+◌, ◌≤◌, nat_lt, length}
use Rattle.hamming_model.specs.Codes.{IsCode}
use Rattle.hamming_model.specs.Layouts.{IsLayout}
use Rattle.hamming_model.specs.Stored.{AreCodeRows}
use Rattle.threshold_model.specs.Bounds.{values_of_parts}
use Rattle.threshold_dp.specs.Radii.{PlansRadii}
use Rattle.ring_walk.specs.NearPlanned.{NearPlanned, near_rows, near_bits, near_parts, near_query}
use Rattle.ring_walk.specs.NearPlanned.{near_counts}
use Rattle.ring_walk.specs.RingWalks.{RingPlace, IsRingPlace, rows_of_ring, hits_of_ring}
use Rattle.ring_walk.specs.RingWalks.{found_after, units_after}
use Rattle.hit_source.specs.Sources.{Asked, Standing}
use Rattle.hit_source.specs.Windows.{Window}
use Rattle.knn_task.specs.Asking.{search_asked}
use Rattle.knn_task.specs.Near.{IsNear, search_standing}
use Rattle.knn_task.specs.Rings.{Search, Ring, IsRing}
use Rattle.knn_task.specs.declared.near_task.Mark.{Mark}

-- what is asked
abbrev pub search_of : NearPlanned → Search
search_of plan = record {
  rows = near_rows plan;
  query = near_query plan;
  bits = near_bits plan;
  vectors = plan.plans.vectors;
  leasts = plan.plans.leasts;
  values = values_of_parts (near_parts plan);
}

-- where the ring stands
abbrev pub ring_at : NearPlanned → RingPlace → Ring
ring_at plan place = record {
  total = found_after plan place;
  reads = length (rows_of_ring plan place);
  hits = hits_of_ring plan place;
  values = length place.ball;
  in_list = nat_lt place.next place.size;
}

-- a code and rows of codes of as many bits, a layout of them, and the plans of all radii
pub record IsNearQuery (plan : NearPlanned) : Type 0 where
  pub layout : IsLayout (near_bits plan) (near_parts plan)
  pub codes : AreCodeRows (near_bits plan) (near_rows plan)
  pub query : IsCode (near_bits plan) (near_query plan)
  pub plans : PlansRadii (near_counts plan) (near_bits plan) (length (near_parts plan)) plan.plans

-- what the rings of a version keep: how many postings of the ring are left, and room for a vector
pub record IsWalked (plan : NearPlanned) (walk : RingPlace) (left room : ℕ) : Type 0 where
  pub ring : IsRing (search_of plan) walk.begun (ring_at plan walk)
  pub place : IsRingPlace plan walk
  pub left_is : left ≡ length (rows_of_ring plan walk)
  pub after : length (units_after walk) ≡ length walk.units
  pub begun : walk.begun ≤ near_bits plan + 1
  pub room_is : length (near_parts plan) ≤ room

-- what a near query on a version asks, where so many hits may wait
abbrev pub near_asked : NearPlanned → ℕ → Asked
near_asked plan room = search_asked (search_of plan) room

-- where it stands
abbrev pub near_standing : NearPlanned → RingPlace → Window → Mark → ℕ → Standing
near_standing plan place hits mark reads =
    search_standing (search_of plan) (ring_at plan place) place.begun hits mark reads

-- what is true of it at every moment
abbrev pub IsNearTask : NearPlanned → RingPlace → Window → Mark → ℕ → Type 0
IsNearTask plan place hits mark reads =
    IsNear (search_of plan) (ring_at plan place) place.begun hits mark reads
