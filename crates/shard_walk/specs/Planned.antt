-- What a range query on a version was planned to be: its threshold vector and the least cost.
use Rattle.std.specs.Prelude.{◌≡◌, ℕ, ◌≤◌, nat_lt, Bool, if◌then◌else◌, ℤ, List, length, map, Option, Some, None, refl}
use Rattle.std.specs.Coded.{Coded, code_by, coded×, coded_list, coded_ℕ, coded_ℤ}
use Rattle.hamming_model.specs.declared.hit.Hit.{Hit}
use Rattle.hamming_model.specs.declared.limits.TheConstants.{WORDS_MOST}
use Rattle.hamming_model.specs.Layouts.{part_distance}
use Rattle.hamming_model.specs.Scan.{hit_of}
use Rattle.threshold_model.specs.Vectors.{IsChoice, IsLeast, row_counts, units_of}
use Rattle.threshold_model.specs.Finding.{first_part, part_distances, threshold_at}
use Rattle.search_model.specs.Keeping.{is_kept, hits_kept}
use Rattle.shard_version.specs.Contents.{IsVersion}
use Rattle.shard_version.specs.Tables.{Tabled, tabled_code, HasTables}
use Rattle.shard_probe.specs.Probed.{parts_in, part_in, code_in, probed_list, entry_rows, KeepsCode}

-- the version, the words of the query, its radius, and the threshold vector with its cost
pub record Planned : Type 0 where
  pub version : Tabled
  pub stored : List ℕ
  pub tau : ℕ
  pub thresholds : List ℤ
  pub least : ℕ

-- a plan as a tuple
abbrev pub planned_code : Coded Planned
planned_code =
    code_by (Tabled × (List ℕ × (ℕ × (List ℤ × ℕ))))
    (coded× tabled_code
    (coded× (coded_list coded_ℕ) (coded× coded_ℕ (coded× (coded_list coded_ℤ) coded_ℕ))))
    (λ plan. (plan.version, (plan.stored, (plan.tau, (plan.thresholds, plan.least)))))
    (λ t. record {
      version = t.0;
      stored = t.1.0;
      tau = t.1.1.0;
      thresholds = t.1.1.1.0;
      least = t.1.1.1.1;
    })
    (λ _. refl)

-- a plan by its parts
abbrev pub planned_of : Tabled → List ℕ → ℕ → List ℤ → ℕ → Planned
planned_of version stored tau thresholds least = record {
  version = version;
  stored = stored;
  tau = tau;
  thresholds = thresholds;
  least = least;
}

-- the parts of the version's layout
abbrev pub parts_of : Planned → List (List ℕ)
parts_of plan = parts_in plan.version

-- the positions of a part
abbrev pub part_of : Planned → ℕ → List ℕ
part_of plan part = part_in plan.version part

-- the code that words keep
abbrev pub code_of_plan : Planned → List ℕ → List ℕ
code_of_plan plan stored = code_in plan.version stored

-- words that keep a code
abbrev pub IsStored : ℕ → Planned → List ℕ → Type 0
IsStored words plan stored = KeepsCode words plan.version stored

-- the code of the query
abbrev pub planned_query : Planned → List ℕ
planned_query plan = code_of_plan plan plan.stored

-- the rows in the posting list of a part's value, in the order of the list
abbrev pub list_of : Planned → ℕ → ℕ → List (ℕ × List ℕ)
list_of plan part value = probed_list plan.version part value

-- whether a part finds a code
abbrev pub is_found : Planned → ℕ → List ℕ → Bool
is_found plan part code =
    nat_lt (part_distance (part_of plan part) code (planned_query plan))
    (units_of (threshold_at plan.thresholds part))

-- the first part that finds a code
abbrev pub part_found : Planned → List ℕ → ℕ
part_found plan code =
    first_part (map units_of plan.thresholds)
    (part_distances (parts_of plan) code (planned_query plan))

-- the hit of a row, if a part keeps it
abbrev pub kept_hit : Planned → ℕ → ℕ × List ℕ → Option Hit
kept_hit plan part row =
    if is_kept (parts_of plan) plan.thresholds (planned_query plan) plan.tau part row
    then Some (hit_of (planned_query plan) row) else None

-- the hits that a part keeps of a run of postings
abbrev pub kept_of : Planned → ℕ → List (ℕ × List ℕ) → List Hit
kept_of plan part run =
    hits_kept (parts_of plan) plan.thresholds (planned_query plan) plan.tau part
    (entry_rows plan.version run)

-- the thresholds are the first of the cheapest vectors, for codes of so many words
pub record IsPlanned (words : ℕ) (plan : Planned) : Type 0 where
  pub few_words : words ≤ WORDS_MOST
  pub version : IsVersion plan.version.contents
  pub tables : HasTables words plan.version
  pub query : IsStored words plan plan.stored
  pub near : plan.tau ≤ plan.version.contents.layout.bits
  pub choice : IsChoice (row_counts plan.version.contents.rows (parts_of plan) (planned_query plan))
      plan.tau (length (parts_of plan)) plan.thresholds
  pub least : IsLeast (row_counts plan.version.contents.rows (parts_of plan) (planned_query plan))
      plan.tau (length (parts_of plan)) plan.least
  pub few : plan.least ≤ length plan.version.contents.rows

-- what a plan is of: a query on a version
pub record PlansQuery (version : Tabled) (stored : List ℕ) (tau : ℕ) (plan : Planned) : Type 0 where
  pub version_is : plan.version ≡ version
  pub stored_is : plan.stored ≡ stored
  pub tau_is : plan.tau ≡ tau
