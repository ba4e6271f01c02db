-- A walk over one ring of a part: where it stands, and what it still has to read.
use Rattle.std.specs.Prelude.{◌≡◌, ℕ, ◌+◌, ◌^◌, ◌<◌, ◌≤◌, ◌==◌, if◌then◌else◌, List, [], ◌++◌}
use Rattle.std.specs.Prelude.{length, take, drop, sum, slice_index, Option, Some, None, All}
use Rattle.std.specs.List.{flat_map}
use Rattle.hamming_model.specs.declared.hit.Hit.{Hit}
use Rattle.hamming_model.specs.declared.limits.TheConstants.{PARTS_MOST}
use Rattle.hamming_model.specs.Scan.{hit_of}
use Rattle.ring_model.specs.Rings.{is_met, hits_met, hits_new, units_raised, rows_apart}
use Rattle.ring_model.specs.Rings.{ring_cost, IsCheapest}
use Rattle.search_model.specs.Reading.{HasSame}
use Rattle.shard_probe.specs.Probed.{entry_rows}
use Rattle.ring_walk.specs.NearPlanned.{NearPlanned, near_rows, near_parts, near_part, near_query}
use Rattle.ring_walk.specs.NearPlanned.{near_list, near_counts, near_ring}

-- the units of the parts before this ring, the part of the ring and its width, its values that are
-- left, the posting list of a value, and how many rings were begun
pub record RingPlace : Type 0 where
  pub units : List ℕ
  pub part : ℕ
  pub width : ℕ
  pub ball : List ℕ
  pub value : ℕ
  pub next : ℕ
  pub size : ℕ
  pub begun : ℕ

-- the rows of the ring that are left to read
abbrev pub rows_of_ring : NearPlanned → RingPlace → List (ℕ × List ℕ)
rows_of_ring plan place =
    drop place.next (take place.size (near_list plan place.part place.value))
    ++ flat_map (near_list plan place.part) place.ball

-- the new hits among them
abbrev pub hits_of_ring : NearPlanned → RingPlace → List Hit
hits_of_ring plan place =
    hits_new (near_parts plan) place.units (near_query plan) (rows_of_ring plan place)

-- the units once this ring was read
abbrev pub units_after : RingPlace → List ℕ
units_after place =
    if place.begun == 0 then place.units else units_raised place.units place.part

-- what is found once this ring was read
abbrev pub found_after : NearPlanned → RingPlace → List Hit
found_after plan place =
    hits_met (near_rows plan) (near_parts plan) (units_after place) (near_query plan)

-- the hit of a row, if no part finds it at these units
abbrev pub new_hit : NearPlanned → List ℕ → ℕ × List ℕ → Option Hit
new_hit plan units row =
    if is_met (near_parts plan) units (near_query plan) row
    then None else Some (hit_of (near_query plan) row)

-- the hits of those rows of a run of postings that no part finds at these units
abbrev pub new_of : NearPlanned → List ℕ → List (ℕ × List ℕ) → List Hit
new_of plan units run =
    hits_new (near_parts plan) units (near_query plan) (entry_rows plan.version run)

-- a place in the ring of a part
pub record IsRingPlace (plan : NearPlanned) (place : RingPlace) : Type 0 where
  pub few_parts : length (near_parts plan) ≤ PARTS_MOST
  pub units_are : length place.units ≡ length (near_parts plan)
  pub total : sum (units_after place) ≡ place.begun
  pub part : place.part < length (near_parts plan)
  pub width : place.width ≡ length (near_part plan place.part)
  pub ball : All (λ value. value < 2 ^ length (near_part plan place.part)) place.ball
  pub value : place.value < 2 ^ length (near_part plan place.part)
  pub next : place.next ≤ place.size
  pub size : place.size ≤ length (near_list plan place.part place.value)

-- no ring was begun, and nothing was found
pub record StartsRings (plan : NearPlanned) (start : RingPlace) : Type 0 where
  pub place : IsRingPlace plan start
  pub begun : start.begun ≡ 0
  pub none_left : rows_of_ring plan start ≡ []
  pub no_values : start.ball ≡ []
  pub none_found : found_after plan start ≡ []

-- the cheapest next ring was begun: it has all rows at its distance, and none was read
pub record BeginsRing (plan : NearPlanned) (old new : RingPlace) (reads : ℕ) : Type 0 where
  pub place : IsRingPlace plan new
  pub begun : new.begun ≡ old.begun + 1
  pub units : new.units ≡ units_after old
  pub cheapest : IsCheapest (near_counts plan) new.units new.part
  pub cost : reads ≡ ring_cost (near_counts plan) new.units new.part
  pub ball : new.ball ≡ near_ring plan new.part (slice_index new.units new.part)
  pub at_start : new.next ≡ new.size
  pub reads_are : length (rows_of_ring plan new) ≡ reads
  pub rows : HasSame (rows_of_ring plan new)
      (rows_apart (near_rows plan) (near_part plan new.part) (near_query plan)
      (slice_index new.units new.part))
