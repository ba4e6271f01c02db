-- The settled hits of a near query are the first of its answer, and its floor is the answer's.
-- No public clause cites this module.
use Rattle.std.proofs.Common.{◌≡◌, ℕ, ◌+◌, ◌<◌, ◌≤◌, ◌==◌, cond, List}
use Rattle.std.proofs.Common.{◌++◌, length, take, drop, sym, ap, ◌∙◌, subst, arith}
use Rattle.std.proofs.Common.{Some, None}
use Rattle.std.specs.Prelude.{nat_le}
use Rattle.std.specs.List.{AllByRecursion}
use Rattle.std.proofs.lemmas.Bool.{eq-eqb, ne_eqb, lt-ltb, le-ltb}
use Rattle.std.proofs.lemmas.List.{length-map, length-take-le}
use Rattle.std.proofs.Math.Seq.{take-append_seam, drop-append_seam}
use Rattle.hamming_model.specs.declared.hit.Hit.{Hit}
use Rattle.hamming_model.specs.Scan.{hit_of, in_order}
use Rattle.hamming_model.proofs.OrderLemmas.{Ascends, ascends_in_order}
use Rattle.search_model.proofs.HitLemmas.{order_size}
use Rattle.ring_model.specs.Rings.{hits_nearer, hits_from}
use Rattle.ring_model.proofs.SplitLemmas.{split_order, all_in_order, all_kept}
use Rattle.std.proofs.lemmas.Bool.{leb-true}
use Rattle.hit_source.specs.Windows.{Window, left_of, first_distance}
use Rattle.knn_task.specs.Rings.{Search, Ring, IsRing, all_hits}
use Rattle.knn_task.specs.Asking.{near_answer}
use Rattle.knn_task.specs.Near.{KeepsHits, floor_of}
use Rattle.knn_task.specs.declared.near_task.Mark.{Mark}
use Rattle.knn_task.specs.NearLists.{take_inside, first_of_take, near_few}

module _ (p : Search) (w : Ring) (radii : ℕ) (hits : Window) (mark : Mark) (reads : ℕ)
    (is : KeepsHits p w radii hits mark reads)
    (ring : IsRing p radii w) where
  abbrev near_hits : List Hit
  near_hits = in_order (hits_nearer (all_hits p) mark.settled)

  abbrev later_hits : List Hit
  later_hits = in_order (hits_from (all_hits p) mark.settled)

  pub answer_split : near_answer p ≡ in_order (hits_nearer (all_hits p) mark.settled) ++ in_order
      (hits_from (all_hits p) mark.settled)
  answer_split = ring.answer ∙ split_order (all_hits p) mark.settled

  pub answer_size : length (near_answer p) ≡ length p.rows
  answer_size = ap length (ring.answer) ∙ order_size (all_hits p) ∙ length-map p.rows
      (hit_of p.query)

  pub ready_size : length (in_order (hits_nearer (all_hits p) mark.settled)) ≡ mark.ready
  ready_size = sym (ap length is.front) ∙ length-take-le mark.ready hits.found is.ready

  pub ready_few : mark.ready ≤ length p.rows
  ready_few = omega (
    arith,
    ready_size,
    order_size (hits_nearer (all_hits p) mark.settled),
    near_few (all_hits p) mark.settled,
    length-map p.rows (hit_of p.query),
  )

  -- the settled hits are the first of the answer
  pub prefix : take mark.ready hits.found ≡ take mark.ready (near_answer p)
  prefix =
      is.front
      ∙ sym (ap (take mark.ready) answer_split ∙ ap (λ n. take n (near_hits ++ later_hits))
      (sym ready_size) ∙ take-append_seam near_hits later_hits)

  pub later : drop mark.ready (near_answer p) ≡ in_order (hits_from (all_hits p) mark.settled)
  later = ap (drop mark.ready) answer_split ∙ ap (λ n. drop n (near_hits ++ later_hits))
      (sym ready_size) ∙ drop-append_seam near_hits later_hits

  pub later_far : AllByRecursion (λ hit. mark.settled ≤ hit.dist) (drop mark.ready (near_answer p))
  later_far = subst (AllByRecursion (λ hit. mark.settled ≤ hit.dist)) (sym later)
      (all_in_order (λ hit. mark.settled ≤ hit.dist) (hits_from (all_hits p) mark.settled)
      (all_kept (λ hit. mark.settled ≤ hit.dist) (λ hit. nat_le mark.settled hit.dist) (all_hits p)
      (λ hit e. leb-true mark.settled hit.dist e)))

  pub inside : (k g : ℕ) → g + k ≤ mark.ready → take k (drop g hits.found) ≡ take k
      (drop g (near_answer p))
  inside k g le =
      sym (take_inside k g mark.ready hits.found le) ∙ ap (λ xs. take k (drop g xs)) prefix ∙
      take_inside k g mark.ready (near_answer p) le

  pub ascending : Ascends (near_answer p)
  ascending = subst Ascends (sym (ring.answer)) (ascends_in_order (all_hits p))

  -- while a settled hit is left the floor is that of the answer
  pub floor_low : hits.given < mark.ready → floor_of p hits mark ≡ first_distance
      (drop hits.given (near_answer p))
  floor_low more =
      ap (λ b. cond b (first_distance (left_of hits))
      (cond (mark.ready == length p.rows) None (Some mark.settled)))
      (lt-ltb hits.given mark.ready more)
      ∙ sym (first_of_take (left_of hits)) ∙ ap first_distance (inside 1 hits.given (omega arith)) ∙
      first_of_take (drop hits.given (near_answer p))

  pub floor_own : hits.given < mark.ready → floor_of p hits mark ≡ first_distance (left_of hits)
  floor_own more =
      ap (λ b. cond b (first_distance (left_of hits))
      (cond (mark.ready == length p.rows) None (Some mark.settled)))
      (lt-ltb hits.given mark.ready more)

  pub floor_high : mark.ready ≤ hits.given → floor_of p hits mark ≡ cond
      (mark.ready == length p.rows) None (Some mark.settled)
  floor_high le =
      ap (λ b. cond b (first_distance (left_of hits))
      (cond (mark.ready == length p.rows) None (Some mark.settled)))
      (le-ltb hits.given mark.ready le)

  pub floor_none : mark.ready ≤ hits.given → mark.ready ≡ length p.rows → floor_of p hits mark ≡
      None
  floor_none le all = floor_high le ∙ ap (λ b. cond b None (Some mark.settled))
      (eq-eqb mark.ready (length p.rows) all)

  pub floor_some : mark.ready ≤ hits.given → mark.ready < length p.rows → floor_of p hits mark ≡
      Some mark.settled
  floor_some le more = floor_high le
      ∙ ap (λ b. cond b None (Some mark.settled))
      (ne_eqb mark.ready (length p.rows) (λ (e : mark.ready ≡ length p.rows). omega arith))
