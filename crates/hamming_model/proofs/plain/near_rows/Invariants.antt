-- The hits are the near ones of the rows so far.
use Rattle.std.proofs.Common.{◌≡◌, take}
use Rattle.hamming_model.specs.PlainRows.{row_pairs}
use Rattle.hamming_model.specs.Scan.{hits_within}
use Rattle.hamming_model.proofs.plain.near_rows.Given as goal

abbrev pub invariant-loop-row : goal.invariant-loop-row
invariant-loop-row l = l.hits.items ≡ hits_within (row_pairs (take l.row-index l.rows)) l.query l.radius
