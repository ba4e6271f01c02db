-- The counts of a sample over a layout. No public clause cites this module.
use Rattle.std.specs.Prelude.{ℕ, ◌+◌, List, map}
use Rattle.hamming_model.specs.Layouts.{part_value}
use Rattle.exchange_model.specs.Rounds.{PlainSample}
use Rattle.sample_table.specs.Levels.{LevelTable, levels_of}
use Rattle.shard_version.specs.Tables.{part_values}

-- the levels of a sample at a part of positions
abbrev pub sample_levels : List (ℕ × List ℕ) → PlainSample → List ℕ → List ℕ
sample_levels rows sample part =
    levels_of (part_values rows part) (part_value sample.query part) (sample.tau + 2)

-- the table of a sample over a layout
abbrev pub level_table : List (ℕ × List ℕ) → List (List ℕ) → PlainSample → LevelTable
level_table rows parts sample =
    record { tau = sample.tau; rows = map (sample_levels rows sample) parts }
