-- What a search for a layout is asked, and what it finds.
use Rattle.std.specs.Prelude.{ℕ, ◌<◌, ◌≤◌, List, map, take, length, slice_index_or}
use Rattle.std.specs.Arc.{arc_value}
use Rattle.hamming_model.specs.Codes.{StandsFor}
use Rattle.shard_version.specs.Contents.{Contents}
use Rattle.exchange_model.specs.Rounds.{IsSearchEnd, PlainSample}
use Rattle.exchange_model.specs.declared.limits.TheConstants.{SAMPLES_MOST, SAMPLE_RADIUS_MOST}
use Rattle.layout_search.specs.declared.found.Found.{Found}
use Rattle.layout_search.specs.declared.sample.Sample.{Sample}

-- a sample in the definitions' words: its code is the first so many bits that the words keep
abbrev pub plain_sample : {W : ℕ} → ℕ → Sample W → PlainSample
plain_sample bits sample = record { query = take bits sample.query; tau = sample.tau }

-- a sample has a code of so many bits and a small radius
pub record IsSmallSample {W : ℕ} (bits : ℕ) (sample : Sample W) : Type 0 where
  pub query : StandsFor W bits sample.query (take bits sample.query)
  pub near : sample.tau ≤ SAMPLE_RADIUS_MOST

-- a few samples of codes of so many bits
pub record AreSamples {W : ℕ} (bits : ℕ) (samples : List (Sample W)) : Type 0 where
  pub few : length samples ≤ SAMPLES_MOST
  pub each : (k : ℕ) (other : Sample W) → k < length samples
      → IsSmallSample bits (slice_index_or samples k other)

-- what was found is where so many rounds end, from a version's layout on, over its first rows
abbrev pub FindsImproved : {W : ℕ} → Contents → List (Sample W) → ℕ → Found → Type 0
FindsImproved version samples rounds found =
    IsSearchEnd version.rows (map (plain_sample version.layout.bits) samples) rounds
    version.layout.parts (arc_value found.layout).parts found.before found.after found.swaps
