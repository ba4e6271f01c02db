-- How a search is kept. No public clause cites this module.
use Rattle.std.specs.Prelude.{◌≡◌, ℕ, ◌*◌, ◌<◌, ◌≤◌, List, [], map, length, take, slice_index_or, slice_set, All}
use Rattle.hamming_model.specs.Codes.{StandsFor}
use Rattle.hamming_model.specs.declared.limits.TheConstants.{WORDS_MOST}
use Rattle.exchange_model.specs.Rounds.{PlainSample, layout_cost}
use Rattle.exchange_model.specs.declared.limits.TheConstants.{SAMPLES_MOST, SAMPLE_RADIUS_MOST, SEARCH_ROWS_MOST}
use Rattle.part_layout.specs.Laid.{Laid, IsLaid}
use Rattle.search_model.specs.Reading.{unpadded}
use Rattle.sample_table.specs.Levels.{LevelTable, PairTable}
use Rattle.layout_search.specs.Counted.{sample_levels, level_table}
use Rattle.layout_search.specs.Improves.{IsSmallSample, plain_sample}
use Rattle.layout_search.specs.Seen.{levels_in}
use Rattle.layout_search.specs.declared.sample.Sample.{Sample}

-- rows in the definitions' words
abbrev pub plain_rows : ℕ → List (ℕ × List ℕ) → List (ℕ × List ℕ)
plain_rows bits rows = map (unpadded bits) rows

-- the code of each row stands for its first so many bits
abbrev pub AreStoredRows : ℕ → ℕ → List (ℕ × List ℕ) → Type 0
AreStoredRows words bits rows = All (λ row. StandsFor words bits row.1 (take bits row.1)) rows

-- rows and samples of codes of so many bits
pub record IsSearchTask {W : ℕ} (bits : ℕ) (rows : List (ℕ × List ℕ)) (samples : List (Sample W))
    : Type 0 where
  pub few_words : W ≤ WORDS_MOST
  pub room : bits ≤ 64 * W
  pub codes : AreStoredRows W bits rows
  pub few : length rows ≤ SEARCH_ROWS_MOST
  pub few_samples : length samples ≤ SAMPLES_MOST
  pub each : (k : ℕ) (other : Sample W) → k < length samples
      → IsSmallSample bits (slice_index_or samples k other)

-- the tables of the samples over a layout
pub record AreTables {W : ℕ} (bits : ℕ) (rows : List (ℕ × List ℕ)) (samples : List (Sample W))
    (parts : List (List ℕ)) (tables : List PairTable) : Type 0 where
  pub number : length tables ≡ length samples
  pub each : (k : ℕ) (sample : Sample W) (table : PairTable) → k < length samples
      → levels_in (slice_index_or tables k table)
      ≡ level_table (plain_rows bits rows) parts
      (plain_sample bits (slice_index_or samples k sample))

-- a table with the counts of a sample at a part of positions in place of its own
abbrev pub with_levels : List (ℕ × List ℕ) → LevelTable → ℕ → PlainSample → List ℕ → LevelTable
with_levels rows table number sample part =
    record {
      tau = table.tau;
      rows = slice_set table.rows number (sample_levels rows sample part);
    }

-- tables of so many parts
pub record HaveParts (parts number : ℕ) (tables : List PairTable) : Type 0 where
  pub sizes : (k : ℕ) (table : PairTable) → k < number
      → length (levels_in (slice_index_or tables k table)).rows ≡ parts

-- each table has the radius of its sample
pub record HaveRadii {W : ℕ} (samples : List (Sample W)) (tables : List PairTable)
    : Type 0 where
  pub radii : (k : ℕ) (sample : Sample W) (table : PairTable) → k < length samples
      → (levels_in (slice_index_or tables k table)).tau ≡ (slice_index_or samples k sample).tau

-- each of the first so many tables has a part counted anew, and the others are as before
pub record AreCounted {W : ℕ} (bits : ℕ) (rows : List (ℕ × List ℕ)) (samples : List (Sample W))
    (number : ℕ) (part : List ℕ) (old new : List PairTable) (count : ℕ) : Type 0 where
  pub size : length new ≡ length old
  pub done : (k : ℕ) (sample : Sample W) (table : PairTable) → k < count → k < length old
      → levels_in (slice_index_or new k table)
      ≡ with_levels (plain_rows bits rows) (levels_in (slice_index_or old k table)) number
      (plain_sample bits (slice_index_or samples k sample)) part
  pub left : (k : ℕ) (table : PairTable) → count ≤ k
      → slice_index_or new k table ≡ slice_index_or old k table

-- the cost of parts over the rows and samples
abbrev pub cost_at : {W : ℕ} → ℕ → List (ℕ × List ℕ) → List (Sample W) → List (List ℕ) → ℕ
cost_at bits rows samples parts =
    layout_cost (plain_rows bits rows) (map (plain_sample bits) samples) parts

-- what is true of a search's fields
pub record IsSearchOver {W : ℕ} (layout : Laid) (rows : List (ℕ × List ℕ))
    (samples : List (Sample W)) (tables : List PairTable) (values next_values : List ℕ)
    : Type 0 where
  pub laid : IsLaid layout
  pub task : IsSearchTask layout.bits rows samples
  pub counted : AreTables layout.bits rows samples layout.parts tables
  pub sized : length values ≡ length rows
  pub next_sized : length next_values ≡ length rows

-- the radii of samples are small
pub record AreNear {W : ℕ} (samples : List (Sample W)) : Type 0 where
  pub each : (k : ℕ) (other : Sample W) → k < length samples
      → (slice_index_or samples k other).tau ≤ SAMPLE_RADIUS_MOST

-- the first so many parts are counted
pub record ArePartly {W : ℕ} (bits : ℕ) (rows : List (ℕ × List ℕ)) (samples : List (Sample W))
    (parts : List (List ℕ)) (tables : List PairTable) (count : ℕ) : Type 0 where
  pub number : length tables ≡ length samples
  pub wide : HaveParts (length parts) (length tables) tables
  pub near : HaveRadii samples tables
  pub each : (k part : ℕ) (sample : Sample W) (table : PairTable) → k < length samples
      → part < count → part < length parts
      → slice_index_or (levels_in (slice_index_or tables k table)).rows part []
      ≡ sample_levels (plain_rows bits rows) (plain_sample bits (slice_index_or samples k sample))
      (slice_index_or parts part [])
