-- What a near query asks of its rings.
use Rattle.std.specs.Prelude.{ℕ, true, List, [], length, slice_index, slice_index_or, Option, Some, None}
use Rattle.hamming_model.specs.declared.hit.Hit.{Hit}
use Rattle.hamming_model.specs.Scan.{scan}
use Rattle.hit_source.specs.Sources.{Asked, radii_begun}
use Rattle.knn_task.specs.Rings.{Search, bound_of}

-- all rows, nearest first
abbrev pub near_answer : Search → List Hit
near_answer p = scan p.rows p.query p.bits

-- the radius of a plan: 0 where none is given
abbrev pub plan_radius : Option ℕ → ℕ
plan_radius None = 0
plan_radius (Some radius) = radius

-- what a near query asks, where so many hits may wait
abbrev pub search_asked : Search → ℕ → Asked
search_asked p room = record {
  hits = near_answer p;
  rows = length p.rows;
  near = true;
  room = room;
  farthest = p.bits;
  plan = λ given.
      (slice_index_or p.vectors (plan_radius given) [], slice_index p.leasts (plan_radius given));
  bound = λ given. bound_of p (radii_begun given);
}
