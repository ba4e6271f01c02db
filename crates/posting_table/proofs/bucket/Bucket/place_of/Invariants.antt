use Rattle.std.proofs.Common.{◌≡◌, false, take}
use Rattle.posting_table.specs.Tables.{has_key}
use Rattle.posting_table.proofs.bucket.Bucket.place_of.Given as goal

abbrev pub invariant-loop-place : goal.invariant-loop-place
invariant-loop-place g l = has_key (take l.place l.entry-items) l.key ≡ false
