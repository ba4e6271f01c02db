-- What the units of work and a pop do to where a range query stands.
use Rattle.std.proofs.Common.{◌≡◌, ℕ, ◌+◌, ◌-◌, ◌<◌, ◌≤◌, ◌==◌, ◌&&◌, Bool, true, false, cond, length, take, refl, sym, ap, ◌∙◌, subst, arith, inl}
use Rattle.std.specs.Prelude.{Option, Some, None}
use Rattle.std.proofs.lemmas.Bool.{ne_eqb, eqb-true}
use Rattle.std.proofs.lemmas.List.{length-take, drop-drop}
use Rattle.hamming_model.specs.Scan.{hits_within}
use Rattle.hamming_model.proofs.OrderLemmas.{Ascends, ascends_in_order}
use Rattle.hit_source.specs.Moves.{NotBelow, Pops, first_of}
use Rattle.hit_source.specs.Windows.{Window, left_of, waiting_of, first_distance, with_moved, with_given}
use Rattle.hit_source.specs.WindowLaws.{ascends_drop, floor_rises, rest_waits, waits, not_below_itself}
use Rattle.hit_source.specs.Work.{Works}
use Rattle.shard_walk.specs.Planned.{Planned, planned_query}
use Rattle.shard_walk.specs.Walks.{Place, values_left}
use Rattle.shard_query.specs.Tasks.{IsTask, asked_of, standing_at, standing_of}

above_zero : (floor : Option ℕ) → NotBelow (Some 0) floor
above_zero None = tt
above_zero (Some floor) = omega arith

second : (a b : Bool) → (a && b) ≡ true → b ≡ true
second true b both = both
second false b both = cc

-- a step of the search is units of work: a value taken, or so many postings read
pub search_works : (p : Planned) (old new : Place) (hits more_hits : Window) (reads more_reads from to count : ℕ)
    → IsTask p old hits reads → reads < p.least → 1 ≤ count
    → more_hits.given ≡ hits.given → more_hits.moved ≡ hits.moved → reads ≤ more_reads → more_reads ≤ reads + count
    → to + reads ≡ from + more_reads
    → values_left p new + (p.least - more_reads) + count ≡ values_left p old + (p.least - reads)
    → Works None count (standing_of p old hits reads) (standing_of p new more_hits more_reads) from to
search_works p old new hits more_hits reads more_reads from to count is more some given moved rises fewer ledger units =
    let none = (is.search more).none_moved in
    let waiting = length-take (more_hits.moved - more_hits.given) (left_of more_hits) in
    let searching : (reads == p.least) ≡ false = ne_eqb reads p.least (λ (e : reads ≡ p.least). omega arith) in
    subst (λ b. Works None count (standing_at p old hits reads b) (standing_of p new more_hits more_reads) from to)
    (sym searching) (record {
      given = given;
      floor = above_zero (cond (more_reads == p.least) (first_distance (left_of more_hits)) (Some 0));
      idle = λ none. absurd (omega arith);
      rises = rises;
      ledger = ledger;
      spent = omega arith;
      begun = inl refl;
      farther = omega arith;
      stays_ended = λ ended. cc;
      units = omega (arith, units);
      exact = λ same. omega (arith, units);
    })

module _ (p : Planned) (w : Place) (hits : Window) (reads : ℕ) (is : IsTask p w hits reads) where
  -- moving a hit into the room is one unit of work
  pub give_works : (from : ℕ) → reads ≡ p.least → hits.moved < length hits.found → hits.moved < hits.given + hits.room
      → Works None 1 (standing_of p w hits reads) (standing_of p w (with_moved hits) reads) from from
  give_works from all next space =
      let few = is.few in
      let waiting = length-take (hits.moved - hits.given) (left_of hits) in
      let waiting_more = length-take ((hits.moved + 1) - hits.given) (left_of hits) in
      let now = waits hits is.window in
      record {
        given = refl;
        floor = not_below_itself (cond (reads == p.least) (first_distance (left_of hits)) (Some 0));
        idle = λ none. refl;
        rises = omega arith;
        ledger = refl;
        spent = omega arith;
        begun = inl refl;
        farther = omega arith;
        stays_ended = λ ended. absurd
            (omega (
              arith,
              eqb-true hits.moved (length hits.found)
                  (second (reads == p.least) (hits.moved == length hits.found) ended),
            ));
        units = omega arith;
        exact = λ same. omega arith;
      }

  -- a hit is in the room, and the query stays one
  pub give_on : reads ≡ p.least → hits.moved < length hits.found → hits.moved < hits.given + hits.room
      → IsTask p w (with_moved hits) reads
  give_on all next space = record {
    window = record { behind = omega (arith, is.window.behind); among = omega arith; fits = omega arith };
    near = is.near;
    some_room = is.some_room;
    reserved = is.reserved;
    few = is.few;
    bounded = is.bounded;
    search = λ more. absurd (omega arith);
    found_all = is.found_all;
  }

  floor_after : (all_read : Bool) → (reads == p.least) ≡ all_read
      → NotBelow (cond all_read (first_distance (left_of hits)) (Some 0))
      (cond all_read (first_distance (left_of (with_given hits))) (Some 0))
  floor_after false searching = omega arith
  floor_after true all =
      let found = is.found_all (eqb-true reads p.least all) in
      let up : Ascends hits.found =
      subst Ascends (sym found) (ascends_in_order (hits_within p.version.contents.rows (planned_query p) p.tau)) in
      subst (λ xs. NotBelow (first_distance (left_of hits)) (first_distance xs))
      (drop-drop (length (take 1 (waiting_of hits))) hits.given hits.found)
      (floor_rises (length (take 1 (waiting_of hits))) (left_of hits) (ascends_drop hits.given hits.found up))

  -- the first hit that waits is taken
  pub task_pops : Pops (standing_of p w hits reads) (standing_of p w (with_given hits) reads)
      (first_of (waiting_of hits))
  task_pops = record {
    head = refl;
    waiting = rest_waits hits is.window;
    given = refl;
    floor = floor_after (reads == p.least) refl;
    reads = refl;
    ended = refl;
    begun = refl;
    units = refl;
  }

-- the same plan and room ask the same
pub asked_alike : (p q : Planned) (room space : ℕ) → p ≡ q → room ≡ space → asked_of p room ≡ asked_of q space
asked_alike p q room space same as_wide = ap (λ x. asked_of x room) same ∙ ap (λ n. asked_of q n) as_wide
