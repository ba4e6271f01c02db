-- A near query is a lawful source of hits at every moment.
use Rattle.std.proofs.Common.{◌≡◌, ℕ, ◌+◌, ◌≤◌}
use Rattle.std.proofs.Common.{length, map, take, drop, refl, sym, ap, ◌∙◌, arith}
use Rattle.std.specs.Prelude.{nat_le}
use Rattle.std.proofs.lemmas.Bool.{eqb-true, eq-eqb}
use Rattle.std.proofs.lemmas.List.Elements.{All-from_recursion}
use Rattle.hamming_model.specs.Scan.{hit_of, hits_within}
use Rattle.hamming_model.proofs.OrderLemmas.{in_order_sorted}
use Rattle.ring_model.proofs.SplitLemmas.{all_in_order, all_kept}
use Rattle.std.proofs.lemmas.Bool.{leb-true}
use Rattle.hit_source.specs.Sources.{IsAsked, IsLawful, radii_begun}
use Rattle.hit_source.specs.Windows.{Window, left_of, waiting_of}
use Rattle.hit_source.specs.WindowLaws.{waits}
use Rattle.knn_task.specs.Rings.{Search, Ring, IsRing, bound_of}
use Rattle.knn_task.specs.Asking.{near_answer, search_asked}
use Rattle.knn_task.specs.Near.{KeepsHits, search_standing, last_of}
use Rattle.knn_task.specs.declared.near_task.Mark.{Mark}
use Rattle.knn_task.specs.NearLists.{sum_rises, last_radii, last_most}
use Rattle.knn_task.specs.ReadyLaw.{answer_size, ready_few, inside}
use Rattle.knn_task.specs.FloorLaw.{floor_lawful, reached_is}

module _ (p : Search) (w : Ring) (radii : ℕ) (hits : Window) (mark : Mark) (reads : ℕ)
    (is : KeepsHits p w radii hits mark reads)
    (ring : IsRing p radii w) where
  bound_same : (n : ℕ) → bound_of p (radii_begun (last_of n)) ≡ bound_of p n
  bound_same n = ap (bound_of p) (last_radii n)

  -- what is asked can be asked
  asked_is : IsAsked (search_asked p hits.room)
  asked_is = record {
    ascends = in_order_sorted (hits_within p.rows p.query p.bits);
    reached = All-from_recursion (λ hit. hit.dist ≤ p.bits) (near_answer p)
        (all_in_order (λ hit. hit.dist ≤ p.bits) (hits_within p.rows p.query p.bits)
        (all_kept (λ hit. hit.dist ≤ p.bits) (λ hit. nat_le hit.dist p.bits)
        (map (hit_of p.query) p.rows)
        (λ hit e. leb-true hit.dist p.bits e)));
    few = omega (arith, answer_size p w radii hits mark reads is ring);
    some_room = is.some_room;
    range = λ range. cc;
    near = λ near. record {
      all_rows = answer_size p w radii hits mark reads is ring;
      none = refl;
      rises = λ low high le most. sum_rises p.leasts (low + 1) (high + 1) (omega arith);
    };
  }

  -- a near query is lawful
  pub near_lawful : IsLawful (search_asked p hits.room) (search_standing p w radii hits mark reads)
  near_lawful =
      let reached_all = reached_is p w radii hits mark reads is ring in
      let size = answer_size p w radii hits mark reads is ring in
      let ready = ready_few p w radii hits mark reads is ring in
      let moved = is.moved in
      let fits = is.window.fits in
      record {
        asked = asked_is;
        window = sym (take_all_of (length (waiting_of hits)));
        within = omega arith;
        room = omega arith;
        each_read = omega (arith, is.few, is.ready);
        begun = record { range = λ range. cc; near = last_most p.bits radii ring.begun };
        bounded = omega (arith, is.bounded, bound_same radii);
        floor = floor_lawful p w radii hits mark reads is ring;
        end = record {
          all_reached = λ ended. omega (arith, eqb-true hits.moved (length p.rows) ended);
          all_read = λ ended range. cc;
          of_range = λ range all read. cc;
          of_near = λ near all. eq-eqb hits.moved (length p.rows) (omega arith);
        };
      }
    where
      take_all_of : (k : ℕ) → take (length (waiting_of hits)) (drop hits.given (near_answer p)) ≡
          waiting_of hits
      take_all_of k =
          let wait = waits hits is.window in
          let same = inside p w radii hits mark reads is ring (length (waiting_of hits)) hits.given
          (omega (arith, reached_is p w radii hits mark reads is ring, is.moved)) in
          sym same ∙ ap (λ n. take n (left_of hits)) wait
