-- No hit so far is farther than a code is long.
use Rattle.std.proofs.Common.{◌≤◌}
use Rattle.std.specs.Prelude.{All}
use Rattle.hamming_model.specs.declared.limits.TheConstants.{BITS_MOST}
use Rattle.query_cases.proofs.queries.source_of.Given as goal

abbrev pub invariant-loop-dist : goal.invariant-loop-dist
invariant-loop-dist l = All (λ hit. hit.dist ≤ BITS_MOST) l.list.items
