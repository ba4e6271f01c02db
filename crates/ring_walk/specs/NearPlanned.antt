-- What a near query on a version was planned to be: for each radius the first of the cheapest
-- vectors, and its cost.
use Rattle.std.specs.Prelude.{◌≡◌, ℕ, ℤ, List, length, map, refl}
use Rattle.std.specs.Coded.{Coded, code_by, coded×, coded_list, coded_ℕ, coded_ℤ}
use Rattle.hamming_model.specs.declared.hit.Hit.{Hit}
use Rattle.hamming_model.specs.Layouts.{part_value}
use Rattle.hamming_model.specs.Scan.{hit_of}
use Rattle.ball_walk.specs.Flips.{flipped_ring}
use Rattle.threshold_model.specs.Vectors.{row_counts}
use Rattle.threshold_dp.specs.Radii.{RadiusPlans, PlansRadii}
use Rattle.shard_version.specs.Tables.{Tabled, tabled_code}
use Rattle.shard_probe.specs.Probed.{IsProbed, probed_of, parts_in, part_in, code_in, probed_list}

-- the version, the words of the query, and the plans of all radii
pub record NearPlanned : Type 0 where
  pub version : Tabled
  pub stored : List ℕ
  pub plans : RadiusPlans

-- a plan as a tuple
abbrev pub near_planned_code : Coded NearPlanned
near_planned_code =
    code_by (Tabled × (List ℕ × (ℕ × (ℕ × (List (List ℤ) × List ℕ)))))
    (coded× tabled_code (coded× (coded_list coded_ℕ) (coded× coded_ℕ
    (coded× coded_ℕ (coded× (coded_list (coded_list coded_ℤ)) (coded_list coded_ℕ))))))
    (λ plan. (
      plan.version,
      (
        plan.stored,
        (
          plan.plans.parts,
          (
            plan.plans.tau,
            (plan.plans.vectors, plan.plans.leasts),
          ),
        ),
      ),
    ))
    (λ t. record {
      version = t.0;
      stored = t.1.0;
      plans = record {
        parts = t.1.1.0;
        tau = t.1.1.1.0;
        vectors = t.1.1.1.1.0;
        leasts = t.1.1.1.1.1;
      };
    })
    (λ _. refl)

-- a plan by its parts
abbrev pub near_planned_of : Tabled → List ℕ → RadiusPlans → NearPlanned
near_planned_of version stored plans =
    record { version = version; stored = stored; plans = plans }

-- the rows of the version
abbrev pub near_rows : NearPlanned → List (ℕ × List ℕ)
near_rows plan = plan.version.contents.rows

-- how many bits a code has
abbrev pub near_bits : NearPlanned → ℕ
near_bits plan = plan.version.contents.layout.bits

-- the parts of the version's layout
abbrev pub near_parts : NearPlanned → List (List ℕ)
near_parts plan = parts_in plan.version

-- the positions of a part
abbrev pub near_part : NearPlanned → ℕ → List ℕ
near_part plan part = part_in plan.version part

-- the code of the query
abbrev pub near_query : NearPlanned → List ℕ
near_query plan = code_in plan.version plan.stored

-- the hits of all rows, in the order of the rows
abbrev pub near_all : NearPlanned → List Hit
near_all plan = map (hit_of (near_query plan)) (near_rows plan)

-- the counts of the rows round the query
abbrev pub near_counts : NearPlanned → ℕ → ℕ → ℕ
near_counts plan = row_counts (near_rows plan) (near_parts plan) (near_query plan)

-- the rows in the posting list of a part's value, in the order of the list
abbrev pub near_list : NearPlanned → ℕ → ℕ → List (ℕ × List ℕ)
near_list plan part value = probed_list plan.version part value

-- the values of a part at one distance from the query's, in the order of its flips
abbrev pub near_ring : NearPlanned → ℕ → ℕ → List ℕ
near_ring plan part apart =
    flipped_ring (part_value (near_query plan) (near_part plan part))
    (length (near_part plan part)) apart

-- a query on a version whose codes have so many words, planned for all radii up to its bits
pub record IsNearPlanned (words : ℕ) (plan : NearPlanned) : Type 0 where
  pub probed : IsProbed words (probed_of plan.version plan.stored)
  pub plans : PlansRadii (near_counts plan) (near_bits plan) (length (near_parts plan)) plan.plans

-- what a plan is of: a query on a version
pub record PlansNear (version : Tabled) (stored : List ℕ) (plan : NearPlanned) : Type 0 where
  pub version_is : plan.version ≡ version
  pub stored_is : plan.stored ≡ stored
