use Rattle.std.proofs.Common.{◌≡◌, ◌*◌, ◌≤◌, take, sum_by}
use Rattle.layout_search.proofs.TrialLemmas.{sample_cost}
use Rattle.layout_search.proofs.trial.trial_cost.Given as goal

abbrev pub invariant-loop-at : goal.invariant-loop-at
invariant-loop-at g l =
    (l.tables ≡ l.fn.tables) × (l.total ≡ sum_by (sample_cost l.layout l.rows) (take l.at l.samples)) × (l.total ≤ l.at * 64)
