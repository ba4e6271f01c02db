-- What units of work and a pop do to where a near query stands, and what a poll made of them does.
use Rattle.std.proofs.Common.{◌≡◌, ◌≢◌, ℕ, zero, suc, ◌+◌, ◌-◌, ◌*◌, ◌<◌, ◌≤◌, ◌==◌, nat_lt, Bool, true, false, cond, List, []}
use Rattle.std.proofs.Common.{◌∷◌, length, take, drop, sum, refl, sym, ap, ◌∙◌, subst, ⊎_elim, arith, inl, Option}
use Rattle.std.proofs.Common.{Some, None}
use Rattle.std.specs.Prelude.{◌⊎◌}
use Rattle.std.specs.List.{AllByRecursion}
use Rattle.std.proofs.lemmas.Bool.{cases_lt, eqb-true, eq-eqb, ne_eqb, ltb-true}
use Rattle.std.proofs.lemmas.List.Elements.{All-from_recursion}
use Rattle.std.proofs.lemmas.List.{length-take, drop-drop, length-take-le}
use Rattle.std.proofs.lemmas.List.Sums.{sum_by-take-le}
use Rattle.hamming_model.specs.declared.hit.Hit.{Hit}
use Rattle.ring_model.specs.Rings.{hits_nearer}
use Rattle.ring_model.proofs.SplitLemmas.{all_in_order, all_kept}
use Rattle.hit_source.specs.declared.polled.Polled.{Polled}
use Rattle.hit_source.specs.declared.polled.Polled.TheVariants.{Moved, Full, Ended}
use Rattle.hit_source.specs.Sources.{Asked, Standing, radii_begun}
use Rattle.hit_source.specs.Moves.{NotBelow, BeginsWithin, AwaitsRadius, PollAnswers, Polls, Pops, first_of}
use Rattle.hit_source.specs.Work.{Works, IsStopped}
use Rattle.hit_source.specs.Windows.{Window, IsWindow, left_of, waiting_of, first_distance, with_moved, with_given}
use Rattle.hit_source.specs.WindowLaws.{waits, rest_waits, floor_rises, ascends_drop, not_below_itself}
use Rattle.hit_source.proofs.WorkLemmas.{polls_by_work}
use Rattle.knn_task.specs.Rings.{Search, Ring, IsRing, all_hits, bound_of}
use Rattle.knn_task.specs.Asking.{search_asked, near_answer}
use Rattle.knn_task.specs.Near.{IsNear, IsUnder, IsHeld, floor_of, search_standing, last_of}
use Rattle.knn_task.specs.NearLists.{last_radii, first_of_take, take_inside}
use Rattle.knn_task.specs.ReadyLaw.{floor_low, floor_own, floor_high, floor_some, ready_few}
use Rattle.knn_task.specs.ReadyLaw.{later_far, inside, ascending}
use Rattle.knn_task.proofs.NearLemmas.{after_pop}
use Rattle.knn_task.specs.declared.near_task.Mark.{Mark}

-- a poll is at most a budget of units of work, and stops before the budget is spent only where it is held
pub polls_by_near_work : (budget count limit : ℕ) (a b : Asked) (old new : Standing) (from to : ℕ) (result : Polled) → 1 ≤ budget
    → old.waiting ≡ [] → old.floor ≡ Some limit → b ≡ a → Works (Some limit) count old new from to → count ≤ budget
    → (count ≡ budget) ⊎ IsHeld limit b new → PollAnswers b new result → Polls budget a old new from to result
polls_by_near_work budget count limit a b old new from to result some none floor_is same works within stops answers =
    polls_by_work budget count a b old new from to result some none same
    (subst (λ floor. Works floor count old new from to) (sym floor_is) works) within
    (subst (λ floor. (count ≡ budget) ⊎ (IsStopped b new ⊎ AwaitsRadius b floor new)) (sym floor_is) stops) answers

-- a poll of a source that has ended does nothing
pub polls_ended : (budget : ℕ) (a : Asked) (s : Standing) (steps : ℕ) → s.waiting ≡ [] → s.ended ≡ true
    → Polls budget a s s steps steps Ended
polls_ended budget a s steps none ended = record {
  given = refl;
  floor = not_below_itself s.floor;
  rises = omega arith;
  ledger = refl;
  spent = omega (arith, ap length none);
  begun = inl refl;
  farther = omega arith;
  stays_ended = λ e. record { ended = e; reads = refl; begun = refl };
  answers = record {
    ended = ((λ e. ended), (λ e. refl));
    full = ((λ e. cc), (λ both. (let f : true ≡ false = sym ended ∙ both.0 in cc)));
  };
  spends = record { units = omega arith; most = λ still. omega arith; moved = λ e. cc; whole = λ e. cc };
}

-- the first of hits that are far is far
far_first : (units : ℕ) (hits : List Hit) → AllByRecursion (λ hit. units ≤ hit.dist) hits → NotBelow (Some units) (first_distance hits)
far_first units [] all = tt
far_first units (hit ∷ hits) all = all.0

-- the next of hits that are near is near
near_first : (units given : ℕ) (hits : List Hit) → AllByRecursion (λ hit. hit.dist < units) hits → given < length hits
    → NotBelow (first_distance (drop given hits)) (Some units)
near_first units given [] all less = absurd (omega arith)
near_first units zero (hit ∷ hits) all less = omega (arith, all.0)
near_first units (suc given) (hit ∷ hits) all less = near_first units given hits all.1 (omega arith)

some_is : (a b : ℕ) → Some a ≡ Some b → a ≡ b
some_is a b e = cc

-- the next of hits that are nearer than so many units is nearer
nearest_below : (units given : ℕ) (hits : List Hit) → AllByRecursion (λ hit. hit.dist < units) hits → (least : ℕ) → given < length hits
    → first_distance (drop given hits) ≡ Some least → least < units
nearest_below units given [] all least less first = absurd (omega arith)
nearest_below units zero (hit ∷ hits) all least less first = (let e = some_is hit.dist least first in omega (arith, all.0))
nearest_below units (suc given) (hit ∷ hits) all least less first = nearest_below units given hits all.1 least (omega arith) first

drop_more_far : (units from more : ℕ) (hits : List Hit) → from ≤ more → AllByRecursion (λ hit. units ≤ hit.dist) (drop from hits)
    → AllByRecursion (λ hit. units ≤ hit.dist) (drop more hits)
drop_more_far units from zero hits le all = (let e : from ≡ 0 = omega arith in subst (λ n. AllByRecursion (λ hit. units ≤ hit.dist) (drop n hits)) e all)
drop_more_far units zero (suc more) [] le all = tt
drop_more_far units zero (suc more) (hit ∷ hits) le all = drop_more_far units zero more hits (omega arith) all.1
drop_more_far units (suc from) (suc more) [] le all = tt
drop_more_far units (suc from) (suc more) (hit ∷ hits) le all = drop_more_far units from more hits (omega arith) all

pub bound_most : (p : Search) (radii : ℕ) → bound_of p radii ≤ sum p.leasts
bound_most p radii = sum_by-take-le (λ n. n) p.leasts radii

-- a step of a ring is units of work: a value taken, so many postings read, or its begin
module _ (p : Search) (old new : Ring) (radii more_radii : ℕ) (hits more_hits : Window) (mark more_mark : Mark) (reads more_reads : ℕ)
    (is : IsNear p old radii hits mark reads) (ring : IsRing p radii old)
    (then : IsNear p new more_radii more_hits more_mark more_reads) (after : IsRing p more_radii new)
    (given : hits.given ≡ mark.ready) (unsettled : mark.ready < length p.rows)
    (same_given : more_hits.given ≡ hits.given) (same_moved : more_hits.moved ≡ hits.moved)
    (farther : mark.settled ≤ more_mark.settled) (ready_more : mark.ready ≤ more_mark.ready) where
  old_floor : floor_of p hits mark ≡ Some mark.settled
  old_floor = floor_some p old radii hits mark reads is.kept ring (omega arith) unsettled

  new_floor : NotBelow (Some mark.settled) (floor_of p more_hits more_mark)
  new_floor =
      ⊎_elim
      (λ (low : more_hits.given < more_mark.ready). subst (NotBelow (Some mark.settled))
      (sym (floor_low p new more_radii more_hits more_mark more_reads then.kept after low))
      (far_first mark.settled (drop more_hits.given (near_answer p))
      (drop_more_far mark.settled mark.ready more_hits.given (near_answer p) (omega arith) (later_far p old radii hits mark reads is.kept ring))))
      (λ (high : more_mark.ready ≤ more_hits.given). subst (NotBelow (Some mark.settled))
      (sym (floor_high p new more_radii more_hits more_mark more_reads then.kept after high))
      (go (more_mark.ready == length p.rows)))
      (cases_lt more_hits.given more_mark.ready)
    where
      go : (b : Bool) → NotBelow (Some mark.settled) (cond b None (Some more_mark.settled))
      go true = tt
      go false = farther

  pub ring_works : (limit from to count : ℕ) → 1 ≤ count → reads ≤ more_reads → radii ≤ more_radii
      → more_reads + more_radii ≤ reads + radii + count
      → to + reads ≡ from + more_reads → BeginsWithin (Some limit) (last_of radii) (last_of more_radii)
      → (p.bits + 1 - more_radii) * (p.values + 1) + new.values + (sum p.leasts - more_reads) + count
      ≤ (p.bits + 1 - radii) * (p.values + 1) + old.values + (sum p.leasts - reads)
      → (more_radii ≡ radii → (p.bits + 1 - more_radii) * (p.values + 1) + new.values + (sum p.leasts - more_reads) + count
      ≡ (p.bits + 1 - radii) * (p.values + 1) + old.values + (sum p.leasts - reads))
      → Works (Some limit) count (search_standing p old radii hits mark reads) (search_standing p new more_radii more_hits more_mark more_reads) from to
  ring_works limit from to count some rises farther_radii fewer ledger begun units exact =
      let own = waits hits is.kept.window in
      let others = waits more_hits then.kept.window in
      let last = last_radii radii in
      let more_last = last_radii more_radii in
      record {
        given = same_given;
        floor = subst (λ floor. NotBelow floor (floor_of p more_hits more_mark)) (sym old_floor) new_floor;
        idle = λ none. absurd (omega arith);
        rises = rises;
        ledger = ledger;
        spent = omega arith;
        begun = begun;
        farther = omega arith;
        stays_ended = λ ended. absurd (omega (arith, eqb-true hits.moved (length p.rows) ended, is.kept.moved));
        units = omega arith;
        exact = λ same. (let all = exact (sym more_last ∙ ap radii_begun same ∙ last) in omega arith);
      }

module _ (p : Search) (w : Ring) (radii : ℕ) (hits : Window) (mark : Mark) (reads : ℕ) (is : IsNear p w radii hits mark reads) (ring : IsRing p radii w) where
  near_of_ready : AllByRecursion (λ hit. hit.dist < mark.settled) (take mark.ready hits.found)
  near_of_ready = subst (AllByRecursion (λ hit. hit.dist < mark.settled)) (sym is.kept.front)
      (all_in_order (λ hit. hit.dist < mark.settled) (hits_nearer (all_hits p) mark.settled)
      (all_kept (λ hit. hit.dist < mark.settled) (λ hit. nat_lt hit.dist mark.settled) (all_hits p) (λ hit e. ltb-true hit.dist mark.settled e)))

  -- a hit moved into the room is one unit of work
  pub move_works : (limit from : ℕ) → hits.moved < mark.ready → hits.moved < hits.given + hits.room
      → Works (Some limit) 1 (search_standing p w radii hits mark reads) (search_standing p w radii (with_moved hits) mark reads) from from
  move_works limit from more space =
      let ready = ready_few p w radii hits mark reads is.kept ring in
      let wait = waits hits is.kept.window in
      let waiting = length-take ((hits.moved + 1) - hits.given) (left_of hits) in
      let bound = bound_most p radii in
      record {
        given = refl;
        floor = not_below_itself (floor_of p hits mark);
        idle = λ none. absurd (omega arith);
        rises = omega arith;
        ledger = refl;
        spent = omega (arith, is.kept.window.behind);
        begun = inl refl;
        farther = omega arith;
        stays_ended = λ ended. absurd (omega (arith, eqb-true hits.moved (length p.rows) ended));
        units = omega (arith, is.kept.bounded, is.kept.few, is.kept.ready);
        exact = λ same. omega (arith, is.kept.bounded, is.kept.few, is.kept.ready);
      }

  -- where every settled hit was moved, and the hits are settled beyond the limit, a radius is awaited
  pub awaits : (limit : ℕ) → w.reads ≡ 0 → mark.ready ≤ hits.moved → mark.ready < length p.rows → limit < mark.settled
      → AwaitsRadius (search_asked p hits.room) (Some limit) (search_standing p w radii hits mark reads)
  awaits limit none all more above =
      let wait = waits hits is.kept.window in
      let behind = is.kept.window.behind in
      let moved = is.kept.moved in
      let settled : mark.settled ≡ radii_begun (last_of radii) = is.rest none more ∙ sym (last_radii radii) in
      let reached : hits.given + length (waiting_of hits) ≡ mark.ready = omega arith in
      record {
        near = refl;
        above = omega arith;
        none_nearer = All-from_recursion (λ hit. radii_begun (last_of radii) ≤ hit.dist) (drop (hits.given + length (waiting_of hits)) (near_answer p))
            (subst (λ n. AllByRecursion (λ hit. radii_begun (last_of radii) ≤ hit.dist) (drop n (near_answer p))) (sym reached)
            (subst (λ units. AllByRecursion (λ hit. units ≤ hit.dist) (drop mark.ready (near_answer p))) settled
            (later_far p w radii hits mark reads is.kept ring)));
        onward = λ empty back.
            let same = some_is mark.settled limit (sym (floor_some p w radii hits mark reads is.kept ring (omega (arith, ap length empty)) more) ∙ back) in
            absurd (omega arith);
      }

  -- the floor is a limit that the hits are settled up to, and beyond it where one that is settled is left
  pub under_floor : (limit : ℕ) → floor_of p hits mark ≡ Some limit → IsUnder limit hits mark
  under_floor limit is_floor =
      ⊎_elim
      (λ (low : hits.given < mark.ready).
      (let first = sym (floor_own p w radii hits mark reads is.kept ring low) ∙ is_floor in
      let near = nearest_below mark.settled hits.given (take mark.ready hits.found) near_of_ready limit
      (omega (arith, length-take-le mark.ready hits.found is.kept.ready)) (first_inside limit low first) in
      record { most = omega arith; above = λ _. near }))
      (λ (high : mark.ready ≤ hits.given).
      (let same = settled_is (mark.ready == length p.rows) limit (sym (floor_high p w radii hits mark reads is.kept ring high) ∙ is_floor) in
      record { most = omega arith; above = λ low. absurd (omega arith) }))
      (cases_lt hits.given mark.ready)
    where
      settled_is : (all : Bool) (limit : ℕ) → cond all None (Some mark.settled) ≡ Some limit → mark.settled ≡ limit
      settled_is true limit e = cc
      settled_is false limit e = some_is mark.settled limit e

      first_inside : (limit : ℕ) → hits.given < mark.ready → first_distance (left_of hits) ≡ Some limit
          → first_distance (drop hits.given (take mark.ready hits.found)) ≡ Some limit
      first_inside limit low first =
          sym (first_of_take (drop hits.given (take mark.ready hits.found)))
          ∙ ap first_distance (take_inside 1 hits.given mark.ready hits.found (omega arith)) ∙ first_of_take (drop hits.given hits.found) ∙ first

  popped : IsNear p w radii (with_given hits) mark reads
  popped = after_pop p w radii hits mark reads is

  floor_at : ℕ → Option ℕ
  floor_at given = cond (nat_lt given mark.ready) (first_distance (drop given hits.found)) (cond (mark.ready == length p.rows) None (Some mark.settled))

  high_floor : mark.ready ≤ hits.given → NotBelow (floor_of p hits mark) (floor_of p (with_given hits) mark)
  unfolding floor_at
  high_floor high =
      let first = length-take 1 (waiting_of hits) in
      let wait = waits hits is.kept.window in
      let same : hits.given ≡ hits.given + length (take 1 (waiting_of hits)) = omega (arith, is.kept.moved) in
      subst (NotBelow (floor_of p hits mark)) (ap floor_at same) (not_below_itself (floor_of p hits mark))

  low_floor : hits.given < mark.ready → NotBelow (floor_of p hits mark) (floor_of p (with_given hits) mark)
  low_floor low =
      let count : ℕ = length (take 1 (waiting_of hits)) in
      let own = floor_low p w radii hits mark reads is.kept ring low in
      subst (λ floor. NotBelow floor (floor_of p (with_given hits) mark)) (sym own)
      (⊎_elim
      (λ (still : hits.given + count < mark.ready). subst (NotBelow (first_distance (drop hits.given (near_answer p))))
      (sym (floor_low p w radii (with_given hits) mark reads popped.kept ring still))
      (subst (λ hits_left. NotBelow (first_distance (drop hits.given (near_answer p))) (first_distance hits_left)) (drop-drop count hits.given (near_answer p))
      (floor_rises count (drop hits.given (near_answer p)) (ascends_drop hits.given (near_answer p) (ascending p w radii hits mark reads is.kept ring)))))
      (λ (last : mark.ready ≤ hits.given + count). subst (NotBelow (first_distance (drop hits.given (near_answer p))))
      (sym (floor_high p w radii (with_given hits) mark reads popped.kept ring last))
      (go (mark.ready == length p.rows)))
      (cases_lt (hits.given + count) mark.ready))
    where
      below : NotBelow (first_distance (drop hits.given (near_answer p))) (Some mark.settled)
      below =
          let same : first_distance (drop hits.given (take mark.ready hits.found)) ≡ first_distance (drop hits.given (near_answer p)) =
          sym (first_of_take (drop hits.given (take mark.ready hits.found)))
          ∙ ap first_distance (take_inside 1 hits.given mark.ready hits.found (omega arith))
          ∙ ap first_distance (inside p w radii hits mark reads is.kept ring 1 hits.given (omega arith))
          ∙ first_of_take (drop hits.given (near_answer p)) in
          subst (λ floor. NotBelow floor (Some mark.settled)) same
          (near_first mark.settled hits.given (take mark.ready hits.found) near_of_ready (omega (arith, length-take-le mark.ready hits.found is.kept.ready)))

      go : (b : Bool) → NotBelow (first_distance (drop hits.given (near_answer p))) (cond b None (Some mark.settled))
      go true = tt
      go false = below

  -- the first hit that waits is given
  pub near_pops : Pops (search_standing p w radii hits mark reads) (search_standing p w radii (with_given hits) mark reads) (first_of (waiting_of hits))
  near_pops = record {
    head = refl;
    waiting = rest_waits hits is.kept.window;
    given = refl;
    floor = ⊎_elim low_floor high_floor (cases_lt hits.given mark.ready);
    reads = refl;
    ended = refl;
    begun = refl;
    units = refl;
  }

-- the same search and room ask the same
pub asked_alike : (p q : Search) (room space : ℕ) → p ≡ q → room ≡ space → search_asked p room ≡ search_asked q space
asked_alike p q room space same as_wide = ap (λ x. search_asked x room) same ∙ ap (λ n. search_asked q n) as_wide

-- as many wait as may
pub full_waits : (hits : Window) → IsWindow hits → (hits.moved - hits.given == hits.room) ≡ true → length (waiting_of hits) ≡ hits.room
full_waits hits is full = omega (arith, waits hits is, eqb-true (hits.moved - hits.given) hits.room full)

not_both : true ≡ false → ⊥
not_both e = cc

-- a near query that hasn't ended answers whether its room is full
module _ (p : Search) (w : Ring) (radii : ℕ) (hits : Window) (mark : Mark) (reads : ℕ) (is : IsWindow hits) (others : hits.moved ≢ length p.rows) where
  not_ended : (hits.moved == length p.rows) ≡ false
  not_ended = ne_eqb hits.moved (length p.rows) others

  pub answers_full : (hits.moved - hits.given == hits.room) ≡ true
      → PollAnswers (search_asked p hits.room) (search_standing p w radii hits mark reads) Full
  answers_full full = record {
    ended = ((λ e. cc), (λ e. absurd (not_both (sym e ∙ not_ended))));
    full = ((λ e. (not_ended, full_waits hits is full)), (λ both. refl));
  }

  pub answers_moved : (hits.moved - hits.given == hits.room) ≡ false
      → PollAnswers (search_asked p hits.room) (search_standing p w radii hits mark reads) Moved
  answers_moved open_room = record {
    ended = ((λ e. cc), (λ e. absurd (not_both (sym e ∙ not_ended))));
    full = (
      (λ e. cc),
      (λ both. absurd (not_both (sym (eq-eqb (hits.moved - hits.given) hits.room (omega (arith, both.1, waits hits is))) ∙ open_room))),
    );
  }
