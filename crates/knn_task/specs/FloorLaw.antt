-- The floor of a near query is that of the hits that are left.
-- No public clause cites this module.
use Rattle.std.proofs.Common.{◌≡◌, ℕ, ◌+◌, ◌-◌, ◌<◌, ◌≤◌}
use Rattle.std.proofs.Common.{length, drop, refl, sym, ap, ◌∙◌, subst, ⊎_elim, arith}
use Rattle.std.proofs.Common.{Option, Some, None}
use Rattle.std.specs.Prelude.{All, IfSome}
use Rattle.std.specs.List.{AllByRecursion}
use Rattle.std.proofs.lemmas.Bool.{cases_lt, eq-eqb}
use Rattle.std.proofs.lemmas.List.{length-drop}
use Rattle.std.proofs.lemmas.List.Elements.{All-from_recursion}
use Rattle.hit_source.specs.Sources.{Standing, IsFloor}
use Rattle.hit_source.specs.Windows.{Window, left_of, waiting_of}
use Rattle.hit_source.specs.WindowLaws.{waits, none_nearer, ascends_drop, none_where_empty}
use Rattle.hit_source.specs.WindowLaws.{floor_of_head}
use Rattle.knn_task.specs.Rings.{Search, Ring, IsRing}
use Rattle.knn_task.specs.Asking.{near_answer, search_asked}
use Rattle.knn_task.specs.Near.{KeepsHits, floor_of, standing_with}
use Rattle.knn_task.specs.declared.near_task.Mark.{Mark}
use Rattle.knn_task.specs.ReadyLaw.{answer_size, ready_few, later_far, ascending, floor_low}
use Rattle.knn_task.specs.ReadyLaw.{floor_own, floor_none, floor_some}

module _ (p : Search) (w : Ring) (radii : ℕ) (hits : Window) (mark : Mark) (reads : ℕ)
    (is : KeepsHits p w radii hits mark reads)
    (ring : IsRing p radii w) where
  -- those that were given or wait were moved
  pub reached_is : hits.given + length (waiting_of hits) ≡ hits.moved
  reached_is = omega (arith, waits hits is.window, is.window.behind)

  abbrev standing : Option ℕ → Standing
  standing floor = standing_with p w radii hits reads floor

  low_floor : hits.given < mark.ready → IsFloor (search_asked p hits.room)
      (standing (floor_of p hits mark))
  low_floor more =
      let ready = ready_few p w radii hits mark reads is ring in
      let size = answer_size p w radii hits mark reads is ring in
      let left = length-drop hits.given (near_answer p) in
      let low = floor_low p w radii hits mark reads is ring more in
      let own = floor_own p w radii hits mark reads is ring more in
      record {
        none_nearer = subst (λ floor. IfSome floor
            (λ least. All (λ hit. least ≤ hit.dist) (drop hits.given (near_answer p)))) (sym low)
            (none_nearer (drop hits.given (near_answer p))
            (ascends_drop hits.given (near_answer p)
            (ascending p w radii hits mark reads is ring)));
        none_left = (
          (λ none. (let empty = none_where_empty (drop hits.given (near_answer p)) (sym low ∙ none)
              in absurd (omega arith))),
          (λ both. absurd (omega (arith, both.0))),
        );
        of_head = λ head rest first. own ∙ floor_of_head (hits.moved - hits.given) (left_of hits)
            head rest first;
      }

  none_waits : mark.ready ≤ hits.given → length (waiting_of hits) ≡ 0
  none_waits le = omega (arith, reached_is, is.moved)

  high_none : mark.ready ≤ hits.given → mark.ready ≡ length p.rows → IsFloor
      (search_asked p hits.room) (standing None)
  high_none le all =
      let empty = none_waits le in
      let size = answer_size p w radii hits mark reads is ring in
      let behind = is.window.behind in
      let moved = is.moved in
      record {
        none_nearer = tt;
        none_left = (
          (λ none. (omega arith, eq-eqb hits.moved (length p.rows) (omega arith))),
          (λ both. refl),
        );
        of_head = λ head rest first. absurd (omega (arith, ap length first));
      }

  high_some : mark.ready ≤ hits.given → mark.ready < length p.rows → IsFloor
      (search_asked p hits.room) (standing (Some mark.settled))
  high_some le more =
      let empty = none_waits le in
      let size = answer_size p w radii hits mark reads is ring in
      let behind = is.window.behind in
      let moved = is.moved in
      let same : mark.ready ≡ hits.given = omega arith in
      record {
        none_nearer = All-from_recursion (λ hit. mark.settled ≤ hit.dist)
            (drop hits.given (near_answer p))
            (subst (λ n. AllByRecursion (λ hit. mark.settled ≤ hit.dist) (drop n (near_answer p)))
            same (later_far p w radii hits mark reads is ring));
        none_left = ((λ none. cc), (λ both. absurd (omega (arith, both.0))));
        of_head = λ head rest first. absurd (omega (arith, ap length first));
      }

  -- the floor is that of the hits that are left
  pub floor_lawful : IsFloor (search_asked p hits.room) (standing (floor_of p hits mark))
  floor_lawful =
      ⊎_elim low_floor
      (λ (le : mark.ready ≤ hits.given). ⊎_elim
      (λ (more : mark.ready < length p.rows). (let some = floor_some p w radii hits mark reads is
      ring le more in
      subst (λ floor. IsFloor (search_asked p hits.room) (standing floor)) (sym some)
      (high_some le more)))
      (λ (all : length p.rows ≤ mark.ready). (let full : mark.ready ≡ length p.rows = omega
      (arith, (ready_few p w radii hits mark reads is ring)) in
      subst (λ floor. IsFloor (search_asked p hits.room) (standing floor))
      (sym (floor_none p w radii hits mark reads is ring le full)) (high_none le full)))
      (cases_lt mark.ready (length p.rows)))
      (cases_lt hits.given mark.ready)
