-- A hit was moved; or the next radius is above the limit; or it can be begun.
use Rattle.std.proofs.Common.{◌∙◌, arith, inl, inr, sym, rules}
use Rattle.knn_task.specs.ReadyLaw.{ready_few}
use Rattle.knn_task.proofs.NearWorkLemmas.{full_waits, move_works, awaits}
use Rattle.knn_task.proofs.NearLemmas.{after_move}
use Rattle.knn_task.proofs.StepLemmas.{not_full, unequal}
use Rattle.knn_task.proofs.near_task.NearTask.work.Goals as goal

pub returns-then-moved-self-clause-works : goal.returns-then-moved-self-clause-works
returns-then-moved-self-clause-works g c =
    let own = c.args.self.now in
    let window = own.kept.kept.window in
    rw c.advance.ensures.moved
    (move_works _ _ _ _ _ _ own.kept own.rings.kept.ring c.args.limit c.args.steps.now
    (omega (arith, c.if-moved-self.true, c.moved.ensures.moved))
    (not_full _ own.window.moved own.window.given own.window.room c.is_full.ensures c.if-is_full.false window.behind window.fits))

pub returns-then-self-limit-clause-stops : goal.returns-then-self-limit-clause-stops
returns-then-self-limit-clause-stops g c = λ e.
    inr (awaits _ _ _ _ _ _ c.args.self.now.kept c.args.self.now.rings.kept.ring c.args.limit
    (omega (arith, c.left.ensures, c.if-left-gt0.false)) (omega (arith, c.if-moved-self.false, c.moved.ensures.moved))
    (unequal _ c.rows.result _ (ready_few _ _ _ _ _ _ c.args.self.now.kept.kept c.args.self.now.rings.kept.ring)
    c.rows.ensures c.if-self-rows.false)
    c.if-self-limit.true)

pub begin-requires : goal.begin-requires
begin-requires g c = (
  search rules,
  (
    omega (arith, c.left.ensures, c.if-left-gt0.false),
    (
      unequal _ c.rows.result _ (ready_few _ _ _ _ _ _ c.args.self.now.kept.kept c.args.self.now.rings.kept.ring)
          c.rows.ensures c.if-self-rows.false,
      (omega (arith, c.if-self-limit.false), c.requires.under),
    ),
  ),
)

pub returns-then-is_full-clause-stops : goal.returns-then-is_full-clause-stops
returns-then-is_full-clause-stops g c = λ e.
    inl (inr (full_waits c.args.self.now.window c.args.self.now.kept.kept.window (sym c.is_full.ensures ∙ c.if-is_full.true)))

pub invariant_of-self : goal.invariant_of-self
invariant_of-self g c =
    let own = c.args.self.now in
    let window = own.kept.kept.window in
    record {
      kept = rw c.advance.ensures.moved
          (after_move _ _ _ _ _ _ own.kept
          (omega (arith, c.left.ensures, c.if-left-gt0.false)) (omega (arith, c.if-moved-self.true, c.moved.ensures.moved))
          (not_full _ own.window.moved own.window.given own.window.room c.is_full.ensures c.if-is_full.false window.behind window.fits));
    }
