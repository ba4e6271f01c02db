-- The samples that a session has in memory: how they mean those of its queries.
use Rattle.std.specs.Prelude.{◌≡◌, ℕ, List, ◌++◌, map}
use Rattle.hamming_model.specs.Scan.{Ask}
use Rattle.exchange_model.specs.declared.limits.TheConstants.{SAMPLES_MOST}
use Rattle.layout_search.specs.Improves.{plain_sample}
use Rattle.layout_search.specs.declared.sample.Sample.{Sample}
use Rattle.session_model.specs.State.{Query}
use Rattle.session_model.specs.Searches.{newest_of, sample_of, samples_of}

-- the samples in memory are those of these queries, in codes of so many bits
abbrev pub MeansSamples : {W : ℕ} → ℕ → List (Sample W) → List Query → Type 0
MeansSamples bits kept queries = map (plain_sample bits) kept ≡ samples_of queries

-- what was asked joined the samples, where it is one: the oldest is left out where there were as
-- many as may be
abbrev pub SamplesJoined : {W : ℕ} → ℕ → Ask → List (Sample W) → List (Sample W) → Type 0
SamplesJoined bits asked before after = map (plain_sample bits) after
    ≡ newest_of SAMPLES_MOST (map (plain_sample bits) before ++ sample_of asked)
