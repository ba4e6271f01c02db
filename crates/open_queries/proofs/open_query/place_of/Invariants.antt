use Rattle.std.proofs.Common.{take}
use Rattle.open_queries.specs.Queries.{IsFree}
use Rattle.open_queries.proofs.open_query.place_of.Given as goal

-- no query at a place that was looked at has the tag
abbrev pub invariant-loop-place : goal.invariant-loop-place
invariant-loop-place g l = IsFree (take l.place l.queries) l.tag
