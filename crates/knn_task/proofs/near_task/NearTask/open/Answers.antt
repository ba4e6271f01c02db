-- Nothing was found yet, and what is asked are the rows of the version.
use Rattle.std.proofs.Common.{[], length, ap, sym, subst}
use Rattle.hit_source.specs.Windows.{Window, window_of}
use Rattle.knn_task.specs.Near.{IsNear}
use Rattle.knn_task.specs.NearLaw.{near_lawful}
use Rattle.knn_task.specs.Opening.{AsksNear, BeginsNear, near_code}
use Rattle.knn_task.specs.Walked.{search_of, ring_at, near_asked, near_standing}
use Rattle.knn_task.proofs.NearLemmas.{near_begins}
use Rattle.knn_task.proofs.OpenLemmas.{asks_near, begins_near}
use Rattle.knn_task.proofs.near_task.NearTask.open.Goals as goal

pub invariant_of-result : goal.invariant_of-result
invariant_of-result g c =
    let rings = c.in_ok-rings.rings in
    let p = search_of rings.plan in
    let w = ring_at rings.plan rings.walk in
    let starts = c.in_ok-rings.ensures.starts in
    record {
      kept = subst (λ window. IsNear p w rings.walk.begun window (record { ready = 0; settled = 0 }) 0) (sym c.in_ok-window.ensures)
          (near_begins p w rings.walk.begun c.rows.result c.args.room rings.kept.ring starts.begun starts.none_found
          (ap length starts.none_left) c.rows.ensures c.requires.some_room);
    }

pub returns : goal.returns
returns g c =
    let rings = c.in_ok-rings.rings in
    let p = search_of rings.plan in
    let w = ring_at rings.plan rings.walk in
    let starts = c.in_ok-rings.ensures.starts in
    let near = near_begins p w rings.walk.begun c.rows.result c.args.room rings.kept.ring starts.begun starts.none_found
    (ap length starts.none_left) c.rows.ensures c.requires.some_room in
    let lawful = near_lawful p w rings.walk.begun (window_of [] c.rows.result c.args.room) (record { ready = 0; settled = 0 }) 0
    near.kept rings.kept.ring in
    let version = c.args.version.value in
    record {
      asked = subst (λ (window : Window). AsksNear version.contents (near_code version.contents c.args.query) c.args.room
          (near_asked rings.plan window.room)) (sym c.in_ok-window.ensures)
          (asks_near rings.plan c.in_ok-rings.ensures.query version c.args.query c.args.room c.in_ok-rings.ensures.plan lawful.asked);
      begins = subst (λ (window : Window). BeginsNear version.contents (near_code version.contents c.args.query)
          (near_standing rings.plan rings.walk window (record { ready = 0; settled = 0 }) 0)) (sym c.in_ok-window.ensures)
          (begins_near rings.plan c.in_ok-rings.ensures.query c.units_are_values_and_costs.ensures rings.walk starts c.rows.result c.args.room
          version c.args.query c.in_ok-rings.ensures.plan);
    }
