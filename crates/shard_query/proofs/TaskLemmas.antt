-- A range query stays one with each step of its search and each hit that is given.
use Rattle.std.proofs.Common.{◌≡◌, ◌≢◌, ℕ, ◌+◌, ◌<◌, ◌≤◌, List, [], ◌++◌, length, refl, sym, ap, ◌∙◌, subst, arith, append_assoc}
use Rattle.std.proofs.lemmas.List.{nil_from_length, append-nil, length-append}
use Rattle.hamming_model.specs.declared.hit.Hit.{Hit}
use Rattle.hamming_model.specs.Scan.{in_order}
use Rattle.search_model.proofs.HitLemmas.{order_size}
use Rattle.hit_source.specs.Windows.{Window, window_of, put_in_order}
use Rattle.shard_walk.specs.Planned.{Planned, kept_of}
use Rattle.shard_walk.specs.Walks.{Place, IsWalkPlace, hits_left, reads_left}
use Rattle.shard_query.specs.Tasks.{IsTask, scan_of, with_kept}
use Rattle.shard_query.proofs.KeepLemmas.{kept_few}

none_left : (p : Planned) (w : Place) → length (hits_left p w) ≤ reads_left p w → reads_left p w ≡ 0
    → hits_left p w ≡ []
none_left p w few none = nil_from_length (hits_left p w) (omega arith)

module _ (p : Planned) (old new : Place) (hits : Window) (reads : ℕ) (is : IsTask p old hits reads)
    (more : reads < p.least) (place : IsWalkPlace p new) where
  module _ (kept : List Hit) (count : ℕ) (of_hits : hits_left p old ≡ kept ++ hits_left p new)
      (kept_few : length kept ≤ count) (of_reads : reads_left p old ≡ reads_left p new + count) where
    found_more : length (hits.found ++ kept) ≤ reads + count
    found_more = omega (arith, length-append hits.found kept, kept_few, is.few)

    -- there is room for what was kept
    pub kept_fits : length hits.found + length kept ≤ hits.capacity
    kept_fits = (let left = (is.search more).left in omega (arith, kept_few, is.few, is.reserved))

    answer_kept : in_order ((hits.found ++ kept) ++ hits_left p new) ≡ scan_of p
    answer_kept =
        ap in_order (append_assoc hits.found kept (hits_left p new))
        ∙ ap (λ xs. in_order (hits.found ++ xs)) (sym of_hits) ∙ (is.search more).answer

    -- postings were read, and not the last one
    pub read_on : reads + count ≢ p.least → IsTask p new (with_kept hits kept) (reads + count)
    read_on others =
        let search = is.search more in
        let behind = is.window.behind in
        let none = search.none_moved in
        let left = search.left in
        record {
          window = record { behind = behind; among = omega arith; fits = is.window.fits };
          near = is.near;
          some_room = is.some_room;
          reserved = is.reserved;
          few = found_more;
          bounded = omega arith;
          search = λ again. record { place = place; left = omega arith; answer = answer_kept; none_moved = none };
          found_all = λ all. absurd (others all);
        }

    -- the last posting was read, and what was found was put in order
    pub read_last : length (hits_left p new) ≤ reads_left p new → reads + count ≡ p.least
        → IsTask p new (put_in_order (with_kept hits kept)) (reads + count)
    read_last few last =
        let search = is.search more in
        let behind = is.window.behind in
        let none = search.none_moved in
        let left = search.left in
        let nothing = none_left p new few (omega arith) in
        let found : List Hit = hits.found ++ kept in
        let size = order_size found in
        let fewer = found_more in
        record {
          window = record { behind = behind; among = omega arith; fits = is.window.fits };
          near = is.near;
          some_room = is.some_room;
          reserved = is.reserved;
          few = omega arith;
          bounded = omega arith;
          search = λ again. absurd (omega arith);
          found_all = λ all. sym (ap (λ xs. in_order (found ++ xs)) nothing ∙ ap in_order (append-nil found))
              ∙ answer_kept;
        }

  -- a value of a ball was taken
  pub value_on : hits_left p new ≡ hits_left p old → reads_left p new ≡ reads_left p old → IsTask p new hits reads
  value_on of_hits of_reads =
      let search = is.search more in
      let left = search.left in
      record {
        window = is.window;
        near = is.near;
        some_room = is.some_room;
        reserved = is.reserved;
        few = is.few;
        bounded = is.bounded;
        search = λ again. record {
          place = place;
          left = omega arith;
          answer =
              ap (λ xs. in_order (hits.found ++ xs)) of_hits ∙ search.answer;
          none_moved = search.none_moved;
        };
        found_all = λ all. absurd (omega arith);
      }

-- a query that was opened has nothing found
pub task_begins : (p : Planned) (w : Place) (room : ℕ) → p.tau ≤ p.version.contents.layout.bits → 1 ≤ room
    → IsWalkPlace p w → in_order (hits_left p w) ≡ scan_of p → reads_left p w ≡ p.least
    → length (hits_left p w) ≤ reads_left p w
    → IsTask p w (window_of [] p.least room) 0
task_begins p w room near some place answer reads few = record {
  window = record { behind = omega arith; among = omega arith; fits = omega arith };
  near = near;
  some_room = some;
  reserved = omega arith;
  few = omega arith;
  bounded = omega arith;
  search = λ more. record { place = place; left = omega arith; answer = answer; none_moved = refl };
  found_all = λ all. sym (ap in_order (none_left p w few (omega arith))) ∙ answer;
}

-- a run of postings was read, by the names that the calls gave
module _ (p : Planned) (old new : Place) (hits : Window) (reads : ℕ) (is : IsTask p old hits reads)
    (more : reads < p.least) (place : IsWalkPlace p new) (run : List (ℕ × List ℕ)) (part number : ℕ) (same : part ≡ old.part)
    (number_is : number ≡ length run) (of_hits : hits_left p old ≡ kept_of p old.part run ++ hits_left p new)
    (of_reads : reads_left p old ≡ reads_left p new + length run) where
  run_hits : hits_left p old ≡ kept_of p part run ++ hits_left p new
  run_hits = of_hits ∙ ap (λ n. kept_of p n run ++ hits_left p new) (sym same)

  run_few : length (kept_of p part run) ≤ number
  run_few = omega (arith, kept_few p part run)

  run_reads : reads_left p old ≡ reads_left p new + number
  run_reads = omega arith

  pub run_fits : length hits.found + length (kept_of p part run) ≤ hits.capacity
  run_fits = kept_fits p old new hits reads is more place (kept_of p part run) number run_hits run_few run_reads

  module _ (mid : Window) (is_kept : mid ≡ with_kept hits (kept_of p part run)) where
    pub run_on : reads + number ≢ p.least → IsTask p new mid (reads + number)
    run_on others =
        subst (λ w. IsTask p new w (reads + number)) (sym is_kept)
        (read_on p old new hits reads is more place (kept_of p part run) number run_hits run_few run_reads others)

    pub run_last : length (hits_left p new) ≤ reads_left p new → reads + number ≡ p.least
        → (sorted : Window) → sorted ≡ put_in_order mid → IsTask p new sorted (reads + number)
    run_last few last sorted in_place =
        subst (λ w. IsTask p new w (reads + number)) (sym (in_place ∙ ap put_in_order is_kept))
        (read_last p old new hits reads is more place (kept_of p part run) number run_hits run_few run_reads few last)
