-- A near query is a lawful source of hits, by its fields; and a poll spends its budget in several calls.
use Rattle.std.proofs.Common.{◌≡◌, ℕ, ◌+◌, ◌-◌, ◌≤◌, subst, arith, Option}
use Rattle.hit_source.specs.Sources.{IsLawful, Standing}
use Rattle.hit_source.specs.Work.{Works}
use Rattle.hit_source.proofs.WorkLemmas.{works_none, works_again}
use Rattle.knn_task.specs.Standings.{near_task_asked, near_task_standing}
use Rattle.knn_task.specs.declared.near_task.NearTask.{NearTask}
use Rattle.knn_task.proofs.WalkedLemmas.{task_lawful}

pub lawful_task : {W : ℕ} (task : NearTask W) → IsLawful (near_task_asked task) (near_task_standing task)
lawful_task task =
    task_lawful task.rings.plan task.rings.walk task.window task.mark task.reads _ _ task.kept task.rings.kept

-- nothing of a budget was spent yet
pub works_from : (floor : Option ℕ) (budget : ℕ) (s : Standing) (steps : ℕ) → Works floor (budget - budget) s s steps steps
works_from floor budget s steps =
    let none : 0 ≡ budget - budget = omega arith in
    subst (λ n. Works floor n s s steps steps) none (works_none floor s steps)

-- of what was left of a budget so much more was spent
pub works_on : (floor : Option ℕ) (budget left done : ℕ) (old mid new : Standing) (from at to : ℕ) → done ≤ left → left ≤ budget
    → Works floor (budget - left) old mid from at → Works floor done mid new at to → Works floor (budget - (left - done)) old new from to
works_on floor budget left done old mid new from at to few within before then =
    let count : budget - left + done ≡ budget - (left - done) = omega arith in
    subst (λ n. Works floor n old new from to) count (works_again floor (budget - left) done old mid new from at to before then)
