-- What sources of either kind ask, and gatherings of near ones.
use Rattle.std.proofs.Common.{◌≡◌, ℕ, ◌-◌, ◌<◌, ◌≤◌, true, List, [], ◌∷◌, length, drop, Option, Some, None, refl, ap, ◌∙◌, arith}
use Rattle.std.specs.Prelude.{◌↔◌}
use Rattle.std.specs.List.{AllByRecursion}
use Rattle.std.proofs.lemmas.Bool.{ltb-true}
use Rattle.std.proofs.lemmas.List.{length-drop}
use Rattle.hamming_model.specs.Scan.{Near, Range}
use Rattle.hamming_model.specs.declared.hit.Hit.{Hit}
use Rattle.threshold_model.specs.Bounds.{IsUnitsOf}
use Rattle.shard_version.specs.Contents.{Contents}
use Rattle.hit_source.specs.Moves.{first_of}
use Rattle.hit_source.specs.Sources.{Asked, IsFresh, Standing}
use Rattle.shard_query.specs.Opening.{AsksRange, BeginsRange}
use Rattle.knn_task.specs.Opening.{AsksNear}
use Rattle.scatter_gather.specs.Due.{least_floor, lower}
use Rattle.scatter_gather.specs.Gathering.{Gathering, Source, answer_of, next_hit, reaches_by_rows}
use Rattle.scatter_gather.specs.Kept.{AreLawful, IsGathering}
use Rattle.scatter_gather.proofs.MoreLemmas.{more_rows}
use Rattle.world_model.specs.Asking.{AsksOf}

pub range_asks : (version : Contents) (code : List ℕ) (tau room : ℕ) (a : Asked) → AsksRange version code tau room a
    → AsksOf room version (Range tau code) a
range_asks version code tau room a asks = record {
  hits = asks.hits;
  rows = asks.rows;
  near = asks.near;
  room_is = asks.room_is;
  farthest = asks.farthest;
  bound = λ last within. asks.bound last;
}

pub near_asks : (version : Contents) (code : List ℕ) (number room : ℕ) (a : Asked) → AsksNear version code room a
    → AsksOf room version (Near number code) a
near_asks version code number room a asks = record {
  hits = asks.hits;
  rows = asks.rows;
  near = asks.near;
  room_is = asks.room_is;
  farthest = asks.farthest;
  bound = λ last within. asks.bound number last within;
}

pub range_fresh : (version : Contents) (a : Asked) (s : Standing) → BeginsRange version a s → IsFresh s
range_fresh version a s begins =
    record { given = begins.given; waiting = begins.waiting; reads = begins.reads; begun = begins.begun }

pub range_units : (bits : ℕ) (version : Contents) (code : List ℕ) (tau room : ℕ) (a : Asked) (s : Standing)
    → AsksRange version code tau room a → BeginsRange version a s
    → (most : ℕ) × IsUnitsOf bits (Range tau code) version.rows version.layout.parts most × (s.units ≤ most)
range_units bits version code tau room a s asks begins =
    (_, record { least = a.bound None; is_least = asks.bound None; units_are = refl }, begins.units)

-- ---- gatherings
first_there : (hits : List Hit) → 0 < length hits → (hit : Hit) × (first_of hits ≡ Some hit)
first_there [] some = absurd (omega (arith, some))
first_there (hit ∷ hits) some = (hit, refl)

pub near_goes_on : (g : Gathering) → IsGathering g → AreLawful g.sources → reaches_by_rows g ≡ true → g.given < g.limit
    → (hit : Hit) × (next_hit g ≡ Some hit)
near_goes_on g is law near more =
    let left : g.given < length (answer_of g) =
    ltb-true g.given (length (answer_of g)) (more_rows g is law (λ same. omega (arith, more, same)) near) in
    first_there (drop g.given (answer_of g)) (omega (arith, left, length-drop g.given (answer_of g)))

lower_is_none : (one other : Option ℕ) → lower one other ≡ None → (one ≡ None) × (other ≡ None)
lower_is_none None other e = (refl, e)
lower_is_none (Some floor) None e = cc
lower_is_none (Some floor) (Some other) e = cc

none_least : (sources : List Source) → least_floor sources ≡ None → AllByRecursion (λ source. source.standing.floor ≡ None) sources
none_least [] e = tt
none_least (source ∷ sources) e =
    let both = lower_is_none source.standing.floor (least_floor sources) e in
    (both.0, none_least sources both.1)

least_none : (sources : List Source) → AllByRecursion (λ source. source.standing.floor ≡ None) sources → least_floor sources ≡ None
least_none [] all = refl
least_none (source ∷ sources) all =
    ap (λ (floor : Option ℕ). lower floor (least_floor sources)) all.0 ∙ least_none sources all.1

pub no_floor_left : (sources : List Source)
    → (least_floor sources ≡ None) ↔ AllByRecursion (λ source. source.standing.floor ≡ None) sources
no_floor_left sources = (none_least sources, least_none sources)
