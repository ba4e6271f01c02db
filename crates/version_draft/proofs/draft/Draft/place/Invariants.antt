use Rattle.std.proofs.Common.{◌≡◌, ◌+◌}
use Rattle.version_draft.specs.Unfinished.{with_placed}
use Rattle.version_draft.proofs.draft.Draft.place.Given as goal

abbrev pub invariant-loop-k : goal.invariant-loop-k
invariant-loop-k g l = (l.self ≡ with_placed l.fn.self l._k) × (l.steps ≡ l.fn.steps + l._k)
