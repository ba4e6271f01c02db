use Rattle.std.proofs.Common.{◌≡◌, length, map, take}
use Rattle.part_layout.specs.Laid.{part_at}
use Rattle.search_model.specs.Reading.{unpadded}
use Rattle.count_table.specs.Copies.{table_of}
use Rattle.shard_version.specs.Tables.{part_values}
use Rattle.version_draft.proofs.part_draft.PartDraft.begin.Given as goal

abbrev pub invariant-loop-row : goal.invariant-loop-row
invariant-loop-row g l =
    l.counts ≡ table_of (length (part_at l.layout l.part)) (part_values (map (unpadded l.layout.bits) (take l.row l.rows)) (part_at l.layout l.part))
