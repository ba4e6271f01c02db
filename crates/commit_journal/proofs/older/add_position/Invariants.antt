-- The positions are as before, and those so far are below.
use Rattle.std.proofs.Common.{◌≡◌, ◌<◌, take}
use Rattle.std.specs.List.{AllByRecursion}
use Rattle.commit_journal.proofs.older.add_position.Given as goal

abbrev pub invariant-loop-place : goal.invariant-loop-place
invariant-loop-place l = (l.positions.items ≡ l.fn.positions.items) × AllByRecursion (λ other. other < l.position) (take l.place l.positions.items)
