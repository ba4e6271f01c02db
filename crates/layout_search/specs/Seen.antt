-- The counts of a table. No public clause cites this module.
use Rattle.sample_table.specs.Levels.{LevelTable, PairTable}

-- the counts of a table
abbrev pub levels_in : PairTable → LevelTable
levels_in table = table.levels
