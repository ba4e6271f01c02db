-- A range query is a lawful source of hits at every moment.
use Rattle.std.proofs.Common.{◌≡◌, ℕ, ◌+◌, ◌<◌, ◌≤◌, length, drop, take, refl, sym, ap, ◌∙◌, subst, ⊎_elim, arith, true, false}
use Rattle.std.specs.Prelude.{◌==◌}
use Rattle.std.proofs.lemmas.List.{nil_from_length}
use Rattle.std.proofs.lemmas.Bool.{cases_lt, eqb-true, eq-eqb, ne_eqb}
use Rattle.hamming_model.specs.Scan.{hits_within}
use Rattle.hamming_model.proofs.OrderLemmas.{Ascends, ascends_in_order, in_order_sorted}
use Rattle.hit_source.specs.Sources.{IsAsked, IsLawful}
use Rattle.hit_source.specs.Windows.{Window, waiting_of}
use Rattle.hit_source.specs.WindowLaws.{waits, window_prefix}
use Rattle.hit_source.specs.ListedLaw.{window_floor}
use Rattle.shard_walk.specs.Planned.{Planned, planned_query}
use Rattle.shard_walk.specs.Walks.{Place}
use Rattle.shard_query.specs.ScanLaw.{scan_near, scan_few}
use Rattle.shard_query.specs.Tasks.{IsTask, scan_of, asked_of, standing_at, standing_of, units_left}

module _ (p : Planned) (w : Place) (hits : Window) (reads : ℕ) (is : IsTask p w hits reads) where
  given_or_waiting : hits.given + length (waiting_of hits) ≡ hits.moved
  given_or_waiting = omega (arith, waits hits is.window, is.window.behind)

  -- what it is asked
  task_asked : IsAsked (asked_of p hits.room)
  task_asked = record {
    ascends = in_order_sorted (hits_within p.version.contents.rows (planned_query p) p.tau);
    reached = scan_near p.version.contents.rows
        (planned_query p) p.tau p.version.contents.layout.bits is.near;
    few = scan_few p.version.contents.rows (planned_query p) p.tau;
    some_room = is.some_room;
    range = λ range. record { plan = λ given. refl; bound = λ given. refl };
    near = λ near. cc;
  }

  -- while it searches nothing was given, and nothing waits
  while_searching : reads < p.least
      → IsLawful (asked_of p hits.room) (standing_at p w hits reads false)
  while_searching more =
      let search = is.search more in
      let behind = is.window.behind in
      let none = search.none_moved in
      let reached_all = given_or_waiting in
      let empty : length (waiting_of hits) ≡ 0 = omega arith in
      record {
        asked = task_asked;
        window = none_waits empty;
        within = omega arith;
        room = omega arith;
        each_read = omega arith;
        begun = record { range = λ range. refl; near = tt };
        bounded = is.bounded;
        floor = record {
          none_nearer = λ k d within. omega arith;
          none_left = ((λ none. cc), (λ both. cc));
          of_head = λ head rest first. absurd (omega (arith, ap length first));
        };
        end = record {
          all_reached = λ ended. cc;
          all_read = λ ended range. cc;
          of_range = λ range all read. absurd (omega arith);
          of_near = λ near. cc;
        };
      }
    where
      none_waits : length (waiting_of hits) ≡ 0
          → waiting_of hits ≡ take (length (waiting_of hits)) (drop hits.given (scan_of p))
      none_waits empty = nil_from_length (waiting_of hits) empty
          ∙ sym (ap (λ n. take n (drop hits.given (scan_of p))) empty)

  -- when all is read the hits are the answer
  when_read : reads ≡ p.least → IsLawful (asked_of p hits.room) (standing_at p w hits reads true)
  when_read all =
      let found = is.found_all all in
      let up : Ascends hits.found =
      subst Ascends (sym found)
      (ascends_in_order (hits_within p.version.contents.rows (planned_query p) p.tau)) in
      let reached_all = given_or_waiting in
      let number = ap length found in
      let among = is.window.among in
      record {
        asked = task_asked;
        window = window_prefix hits is.window
            ∙ ap (λ xs. take (length (waiting_of hits)) (drop hits.given xs)) found;
        within = omega arith;
        room = omega (arith, waits hits is.window, is.window.fits);
        each_read = omega (arith, is.few);
        begun = record { range = λ range. refl; near = tt };
        bounded = is.bounded;
        floor = window_floor (asked_of p hits.room) hits reads (hits.moved == length hits.found)
            (units_left p w hits reads) (sym found) up is.window
            (λ given. eq-eqb hits.moved (length hits.found)
            (omega (arith, given, is.window.behind)));
        end = record {
          all_reached = λ ended. omega (arith, eqb-true hits.moved (length hits.found) ended);
          all_read = λ ended range. all;
          of_range = λ range reached_them read. eq-eqb hits.moved (length hits.found) (omega arith);
          of_near = λ near. cc;
        };
      }

  -- a range query is lawful
  pub task_lawful : IsLawful (asked_of p hits.room) (standing_of p w hits reads)
  task_lawful =
      ⊎_elim
      (λ (more : reads < p.least).
      subst (λ b. IsLawful (asked_of p hits.room) (standing_at p w hits reads b))
      (sym (ne_eqb reads p.least (λ (e : reads ≡ p.least). omega arith))) (while_searching more))
      (λ (all : p.least ≤ reads). (let read : reads ≡ p.least = omega (arith, is.bounded) in
      subst (λ b. IsLawful (asked_of p hits.room) (standing_at p w hits reads b))
      (sym (eq-eqb reads p.least read))
      (when_read read)))
      (cases_lt reads p.least)
