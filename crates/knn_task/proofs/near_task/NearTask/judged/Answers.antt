use Rattle.std.proofs.Common.{sym, ◌∙◌}
use Rattle.knn_task.specs.Walked.{search_of, ring_at}
use Rattle.knn_task.proofs.NearWorkLemmas.{answers_full, answers_moved}
use Rattle.knn_task.proofs.near_task.NearTask.judged.Goals as goal

pub returns-then-is_full : goal.returns-then-is_full
returns-then-is_full g c =
    let own = c.args.self.now in
    answers_full (search_of own.rings.plan) (ring_at own.rings.plan own.rings.walk) own.rings.walk.begun own.window own.mark own.reads
    own.kept.kept.window (λ e. c.if-moved-rows.false (c.moved.ensures.moved ∙ e ∙ sym c.rows.ensures))
    (sym c.is_full.ensures ∙ c.if-is_full.true)

pub returns-else-is_full : goal.returns-else-is_full
returns-else-is_full g c =
    let own = c.args.self.now in
    answers_moved (search_of own.rings.plan) (ring_at own.rings.plan own.rings.walk) own.rings.walk.begun own.window own.mark own.reads
    own.kept.kept.window (λ e. c.if-moved-rows.false (c.moved.ensures.moved ∙ e ∙ sym c.rows.ensures))
    (sym c.is_full.ensures ∙ c.if-is_full.false)
