-- How a posting table is kept: the lists of its values in buckets.
-- No public clause cites this module.
use Rattle.std.specs.Prelude.{◌≡◌, ℕ, ◌*◌, ◌/◌, ◌%◌, ◌^◌, ◌≤◌, min, List, [], All, map, length, slice_index_or, slice_set}
use Rattle.std.specs.List.{range_with_len}
use Rattle.std.specs.Arc.{arc_value}
use Rattle.std.specs.declared.sync.Arc.{Arc}
use Rattle.std.specs.declared.alloc.Global.{Global}
use Rattle.hamming_model.specs.declared.limits.TheConstants.{ENTRIES_MOST, PART_WIDTH_MOST}
use Rattle.posting_table.specs.Tables.{Table}
use Rattle.posting_table.specs.declared.postings.TheConstants.{BUCKETS}

-- the entries of a value: its bucket is that of its rest,
-- and its place there how often the buckets were gone through
abbrev pub list_in : List (List (List (ℕ × List ℕ))) → ℕ → List (ℕ × List ℕ)
list_in buckets value =
    slice_index_or (slice_index_or buckets (value % BUCKETS) []) (value / BUCKETS) []

-- the buckets with a list in place of that of a value
abbrev pub with_list_in : List (List (List (ℕ × List ℕ))) → ℕ → List (ℕ × List ℕ)
    → List (List (List (ℕ × List ℕ)))
with_list_in buckets value list =
    slice_set buckets (value % BUCKETS)
    (slice_set (slice_index_or buckets (value % BUCKETS) []) (value / BUCKETS) list)

-- the lists of so many values
abbrev pub all_lists : List (List (List (ℕ × List ℕ))) → ℕ → List (List (ℕ × List ℕ))
all_lists buckets number = map (list_in buckets) (range_with_len 0 number)

-- the lists of shared buckets
abbrev pub buckets_of : List (Arc (List (List (ℕ × List ℕ))) Global)
    → List (List (List (ℕ × List ℕ)))
buckets_of shared = map (λ bucket. arc_value bucket) shared

-- the table that callers see: the lists of all values of the width
abbrev pub kept_table : ℕ → List (Arc (List (List (ℕ × List ℕ))) Global) → Table
kept_table width shared =
    record { width = width; lists = all_lists (buckets_of shared) (2 ^ width) }

-- a bucket for each rest, with as many lists in each as all values need,
-- all short enough to be counted
pub record AreBuckets (width : ℕ) (buckets : List (List (List (ℕ × List ℕ)))) : Type 0 where
  pub some : 1 ≤ width
  pub narrow : width ≤ PART_WIDTH_MOST
  pub number : length buckets ≡ min BUCKETS (2 ^ width)
  pub each : ℕ
  pub enough : 2 ^ width ≤ BUCKETS * each
  pub sized : All (λ bucket. length bucket ≡ each) buckets
  pub short : All (λ list. length list ≤ ENTRIES_MOST) (all_lists buckets (2 ^ width))
