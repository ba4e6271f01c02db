-- What the tables of the parts take from a change of one row.
-- No public clause cites this module.
use Rattle.std.specs.Prelude.{◌≡◌, ℕ, ◌^◌, ◌<◌, ◌≤◌, true, false, List, length, slice_index_or}
use Rattle.hamming_model.specs.declared.limits.TheConstants.{ENTRIES_MOST}
use Rattle.hamming_model.specs.Layouts.{part_value}
use Rattle.part_layout.specs.Laid.{Laid, part_at}
use Rattle.posting_table.specs.Tables.{LosesEntry, has_key, posting_list, with_posting, with_list}
use Rattle.posting_table.specs.Tables as postings
use Rattle.count_table.specs.Copies.{copies_at, total_of, with_one, without_one}
use Rattle.count_table.specs.Copies as counts
use Rattle.shard_version.specs.declared.part_table.PartTable.{PartTable}

-- ---- one part

-- the tables of no rows
abbrev pub no_rows : {W : ℕ} → ℕ → PartTable W
no_rows width = record { postings = postings.no_postings width; counts = counts.empty_table width }

-- there is room for a row with a value, and its key isn't there
pub record TakesRow {W : ℕ} (table : PartTable W) (value key : ℕ) : Type 0 where
  pub in_width : value < 2 ^ table.postings.width
  pub counted : value < 2 ^ table.counts.width
  pub absent : has_key (posting_list table.postings value) key ≡ false
  pub room : length (posting_list table.postings value) < ENTRIES_MOST
  pub few : total_of table.counts < ENTRIES_MOST

-- the tables with one row more
abbrev pub with_row : {W : ℕ} → PartTable W → ℕ → ℕ × List ℕ → PartTable W
with_row table value entry = record {
  postings = with_posting table.postings value entry;
  counts = with_one table.counts value;
}

-- the key has a row with a value
pub record HasRow {W : ℕ} (table : PartTable W) (value key : ℕ) : Type 0 where
  pub in_width : value < 2 ^ table.postings.width
  pub present : has_key (posting_list table.postings value) key ≡ true
  pub counted : 0 < copies_at table.counts value

-- the row of a key with a value is gone
pub record LosesRow {W : ℕ} (old new : PartTable W) (value key : ℕ) : Type 0 where
  pub entry : LosesEntry old.postings new.postings value key
  pub others : new.postings ≡ with_list old.postings value (posting_list new.postings value)
  pub counts : new.counts ≡ without_one old.counts value

-- ---- all parts

-- a relation holds of the first so many tables before and after, and the others are as before
pub record AreChanged {W : ℕ} (relation : ℕ → PartTable W → PartTable W → Type 0)
    (old new : List (PartTable W)) (count : ℕ) : Type 0 where
  pub number : length new ≡ length old
  pub done : (part : ℕ) (other : PartTable W) → part < count → part < length old
      → relation part (slice_index_or old part other) (slice_index_or new part other)
  pub left : (part : ℕ) (other : PartTable W) → count ≤ part
      → slice_index_or new part other ≡ slice_index_or old part other

-- each part takes a row with this key and code
pub record EachTakes {W : ℕ} (layout : Laid) (tables : List (PartTable W)) (key : ℕ)
    (code : List ℕ) : Type 0 where
  pub each : (part : ℕ) (other : PartTable W) → part < length tables
      → TakesRow (slice_index_or tables part other) (part_value code (part_at layout part)) key

-- each part has the row with this key and code
pub record EachHas {W : ℕ} (layout : Laid) (tables : List (PartTable W)) (key : ℕ)
    (code : List ℕ) : Type 0 where
  pub each : (part : ℕ) (other : PartTable W) → part < length tables
      → HasRow (slice_index_or tables part other) (part_value code (part_at layout part)) key

-- a part takes the row
abbrev pub Taken : {W : ℕ} → Laid → ℕ → List ℕ → List ℕ → ℕ → PartTable W → PartTable W → Type 0
Taken layout key stored code part old new =
    new ≡ with_row old (part_value code (part_at layout part)) (key, stored)

-- a part loses the row
abbrev pub Lost : {W : ℕ} → Laid → ℕ → List ℕ → ℕ → PartTable W → PartTable W → Type 0
Lost layout key code part old new = LosesRow old new (part_value code (part_at layout part)) key

-- the first so many tables are those of no rows
pub record AreEmpty {W : ℕ} (layout : Laid) (tables : List (PartTable W)) (count : ℕ) : Type 0 where
  pub number : length tables ≡ count
  pub each : (part : ℕ) (other : PartTable W) → part < count
      → slice_index_or tables part other ≡ no_rows (length (part_at layout part))
