-- A walk over the rings of a version is what a near query needs.
use Rattle.std.proofs.Common.{◌≡◌, ℕ, zero, suc, ◌+◌, ◌^◌, ◌<◌, ◌≤◌, ◌==◌, nat_lt, Bool, true, false, cond, List, [], ◌∷◌, ◌++◌}
use Rattle.std.proofs.Common.{length, filter, get_or, sum, sum_by, refl, sym, ap, ◌∙◌, subst, arith}
use Rattle.std.specs.Prelude.{not}
use Rattle.std.specs.List.{AllByRecursion, range_with_len}
use Rattle.std.proofs.lemmas.Bool.{ne_eqb, eq-eqb, le-ltb}
use Rattle.std.proofs.lemmas.Bool.Decides.{nat_tests}
use Rattle.std.proofs.lemmas.List.{length-append, length-map, length-set}
use Rattle.std.proofs.lemmas.List.FromFn.{length-range_with_len}
use Rattle.std.proofs.lemmas.List.Sums.{sum_by-cons, length-filter, count_by-le-length}
use Rattle.hamming_model.specs.declared.hit.Hit.{Hit}
use Rattle.hamming_model.specs.Scan.{hit_of}
use Rattle.hamming_model.specs.Layouts.{part_distance, part_value}
use Rattle.hamming_model.specs.Stored.{AreCodeRows}
use Rattle.std.specs.Int.RustNames.{count_ones, bit_xor}
use Rattle.ball_walk.specs.Balls.{values}
use Rattle.ball_walk.specs.Flips.{flips, flipped_ring}
use Rattle.ball_walk.proofs.SumLemmas.{sum_filter}
use Rattle.search_model.specs.Reading.{HasSame}
use Rattle.search_model.proofs.SameLemmas.{sum_map}
use Rattle.threshold_model.specs.Bounds.{values_of_parts}
use Rattle.threshold_model.specs.Vectors.{IsLeast, NeverFalls}
use Rattle.ring_model.specs.Rings.{is_met, hits_met, hits_new, units_raised, rows_apart, hits_nearer, IsCheapest, ring_cost}
use Rattle.ring_model.proofs.RingLemmas.{near_hits_met, new_hits_far, met_few, met_all, ring_finds, cheapest_within}
use Rattle.ring_model.proofs.SplitLemmas.{scan_all, all_nearer}
use Rattle.ring_walk.specs.NearPlanned.{NearPlanned, IsNearPlanned, near_rows, near_bits, near_parts, near_part, near_query, near_counts, near_all}
use Rattle.ring_walk.specs.RingWalks.{RingPlace, IsRingPlace, StartsRings, BeginsRing, rows_of_ring, hits_of_ring, new_of, found_after, units_after}
use Rattle.hit_source.specs.Sources.{IsLawful}
use Rattle.hit_source.specs.Windows.{Window}
use Rattle.knn_task.specs.NearLaw.{near_lawful}
use Rattle.knn_task.specs.Rings.{IsRing, Begins}
use Rattle.knn_task.specs.Walked.{search_of, ring_at, IsNearQuery, IsNearTask, IsWalked, near_asked, near_standing}
use Rattle.knn_task.specs.declared.near_task.Mark.{Mark}

few_kept : {X : Type 0} (test : X → Bool) (xs : List X) → length (filter test xs) ≤ length xs
few_kept test xs = omega (arith, length-filter test xs, count_by-le-length test xs)

few_new : (p : NearPlanned) (w : RingPlace) → length (hits_of_ring p w) ≤ length (rows_of_ring p w)
few_new p w =
    omega (
      arith,
      length-map (filter (λ row. not (is_met (near_parts p) w.units (near_query p) row)) (rows_of_ring p w)) (hit_of (near_query p)),
      few_kept (λ row. not (is_met (near_parts p) w.units (near_query p) row)) (rows_of_ring p w),
    )

-- where the walk stands is lawful
pub ring_is : (p : NearPlanned) (w : RingPlace) → IsNearQuery p → IsRingPlace p w → length (units_after w) ≡ length w.units
    → w.begun ≤ near_bits p + 1 → IsRing (search_of p) w.begun (ring_at p w)
ring_is p w query place after_size below =
    let rows = near_rows p in
    let near = near_hits_met (near_bits p) (near_parts p) (units_after w) (near_query p) query.layout query.query
    (after_size ∙ place.units_are) rows query.codes in
    record {
      answer = scan_all (near_bits p) rows (near_query p) query.codes;
      within = all_nearer (near_bits p) rows (near_query p) query.codes;
      leasts_are = query.plans.number;
      begun = below;
      few = met_few rows (near_parts p) (units_after w) (near_query p);
      all = λ whole. record { sums = λ f. ap (sum_by f) (met_all rows (near_parts p) (units_after w) (near_query p) whole) };
      near = subst (λ n. HasSame (hits_nearer (found_after p w) n) (hits_nearer (near_all p) n)) place.total near;
      few_new = few_new p w;
      small = query.plans.small;
    }

no_near : (d units : ℕ) → cond {A = ℕ} (nat_lt d units) 1 0 ≡ 0 → units ≤ d
no_near d units none = grind (arith, nat_tests)

none_near : (units : ℕ) (hits : List Hit) → sum_by (λ (hit : Hit). cond (nat_lt hit.dist units) 1 0) hits ≡ 0
    → AllByRecursion (λ hit. units ≤ hit.dist) hits
none_near units [] none = tt
none_near units (hit ∷ hits) none =
    let cut = sum_by-cons (λ (other : Hit). cond (nat_lt other.dist units) 1 0) hit hits in
    (no_near hit.dist units (omega arith), none_near units hits (omega arith))

near_none : (units : ℕ) (hits : List Hit) → AllByRecursion (λ hit. units ≤ hit.dist) hits
    → sum_by (λ (hit : Hit). cond (nat_lt hit.dist units) 1 0) hits ≡ 0
near_none units [] all = refl
near_none units (hit ∷ hits) all =
    let here : cond {A = ℕ} (nat_lt hit.dist units) 1 0 ≡ 0 = ap (λ b. cond b 1 0) (le-ltb hit.dist units all.0) in
    omega (arith, sum_by-cons (λ (other : Hit). cond (nat_lt other.dist units) 1 0) hit hits, near_none units hits all.1)

-- hits that are the same are as far
far_as : (units : ℕ) (xs ys : List Hit) → HasSame xs ys → AllByRecursion (λ hit. units ≤ hit.dist) ys → AllByRecursion (λ hit. units ≤ hit.dist) xs
far_as units xs ys same all = none_near units xs (same.sums (λ hit. cond (nat_lt hit.dist units) 1 0) ∙ near_none units ys all)

new_same : (layout : List (List ℕ)) (units query : List ℕ) (xs ys : List (ℕ × List ℕ)) → HasSame xs ys
    → HasSame (hits_new layout units query xs) (hits_new layout units query ys)
new_same layout units query xs ys same = record {
  sums = λ f. sum_map f (hit_of query) (filter (λ row. not (is_met layout units query row)) xs)
      ∙ sum_filter (λ row. f (hit_of query row)) (λ row. not (is_met layout units query row)) xs
      ∙ same.sums (λ row. cond (not (is_met layout units query row)) (f (hit_of query row)) 0)
      ∙ sym (sum_map f (hit_of query) (filter (λ row. not (is_met layout units query row)) ys)
      ∙ sum_filter (λ row. f (hit_of query row)) (λ row. not (is_met layout units query row)) ys);
}

codes_kept : (bits : ℕ) (test : ℕ × List ℕ → Bool) (rows : List (ℕ × List ℕ)) → AreCodeRows bits rows → AreCodeRows bits (filter test rows)
codes_kept bits test [] codes = tt
codes_kept bits test (row ∷ rows) codes = go (test row) (codes_kept bits test rows codes.1)
  where
    go : (b : Bool) → AreCodeRows bits (filter test rows) → AreCodeRows bits (cond b (row ∷ filter test rows) (filter test rows))
    go true rest = (codes.0, rest)
    go false rest = rest

ring_few : (value width apart : ℕ) → length (flipped_ring value width apart) ≤ 2 ^ width
unfolding flipped_ring flips values
ring_few value width apart =
    let flipped = filter (λ flip. count_ones flip == apart) (range_with_len 0 (2 ^ width)) in
    omega (
      arith,
      length-map flipped (bit_xor value),
      few_kept (λ flip. count_ones flip == apart) (range_with_len 0 (2 ^ width)),
      length-range_with_len 0 (2 ^ width),
    )

one_of_all : (parts : List (List ℕ)) (i : ℕ) → i < length parts → 2 ^ length (get_or parts i []) ≤ values_of_parts parts
one_of_all [] i less = absurd (omega arith)
one_of_all (part ∷ parts) zero less = omega (arith, sum_by-cons (λ other. 2 ^ length other) part parts)
one_of_all (part ∷ parts) (suc i) less = omega (arith, sum_by-cons (λ other. 2 ^ length other) part parts, one_of_all parts i (omega arith))

-- the cheapest ring for a radius costs at most the least cost there
bounded : (p : NearPlanned) → IsNearQuery p → ((part : ℕ) → part < length (near_parts p) → NeverFalls (near_counts p part))
    → (units : List ℕ) (part radius : ℕ) → length units ≡ length (near_parts p) → radius ≤ near_bits p → sum units ≡ radius
    → IsCheapest (near_counts p) units part → ring_cost (near_counts p) units part ≤ get_or p.plans.leasts radius 0
bounded p query rises units part radius size below total cheapest =
    cheapest_within (near_counts p) units part radius (get_or p.plans.leasts radius 0) (λ other less. rises other (omega arith)) total
    (subst (λ n. IsLeast (near_counts p) radius n (get_or p.plans.leasts radius 0)) (sym size) (query.plans.each radius below).least)
    cheapest

-- a ring that was begun is what a near query needs
pub begins_is : (p : NearPlanned) (old new : RingPlace) (reads : ℕ) → IsNearQuery p → IsRingPlace p old → BeginsRing p old new reads
    → old.begun ≤ near_bits p → ((part : ℕ) → part < length (near_parts p) → NeverFalls (near_counts p part))
    → Begins (search_of p) old.begun (ring_at p old) (ring_at p new)
begins_is p old new reads query place begins below rises =
    let rows = near_rows p in
    let size = begins.place.units_are in
    let within = begins.place.part in
    let total : sum new.units ≡ old.begun = ap sum begins.units ∙ place.total in
    let after : units_after new ≡ units_raised new.units new.part =
    ap (λ b. cond b new.units (units_raised new.units new.part)) (ne_eqb new.begun 0 (λ (e : new.begun ≡ 0). omega (arith, begins.begun))) in
    let finds = ring_finds rows (rows_of_ring p new) (near_parts p) new.units (near_query p) new.part size within begins.rows in
    let of_new : HasSame (hits_met rows (near_parts p) new.units (near_query p) ++ hits_of_ring p new) (found_after p new) =
    subst (λ us. HasSame (hits_met rows (near_parts p) new.units (near_query p) ++ hits_of_ring p new)
    (hits_met rows (near_parts p) us (near_query p))) (sym after) finds in
    let ring_rows = rows_apart rows (near_part p new.part) (near_query p) (get_or new.units new.part 0) in
    let far = new_hits_far (near_bits p) (near_parts p) new.units (near_query p) query.layout query.query size ring_rows
    (codes_kept (near_bits p) (λ row. part_distance (near_part p new.part) row.1 (near_query p) == get_or new.units new.part 0) rows query.codes) in
    let least = bounded p query rises new.units new.part old.begun size below total begins.cheapest in
    record {
      found = subst (λ us. HasSame (hits_met rows (near_parts p) us (near_query p) ++ hits_of_ring p new) (found_after p new)) begins.units of_new;
      far = subst (λ n. AllByRecursion (λ hit. n ≤ hit.dist) (hits_of_ring p new)) total
          (far_as (sum new.units) (hits_of_ring p new) (hits_new (near_parts p) new.units (near_query p) ring_rows)
          (new_same (near_parts p) new.units (near_query p) (rows_of_ring p new) ring_rows begins.rows) far);
      least = omega (arith, begins.reads_are, begins.cost);
      few_values = omega (
        arith,
        ap length begins.ball,
        ring_few (part_value (near_query p) (near_part p new.part)) (length (near_part p new.part)) (get_or new.units new.part 0),
        one_of_all (near_parts p) new.part within,
      );
    }

-- where there is room for the new hits that are left, there is for those of a run
pub run_fits : (p : NearPlanned) (old new : RingPlace) (run : List (ℕ × List ℕ)) (found capacity : ℕ) → new.units ≡ old.units
    → hits_of_ring p old ≡ new_of p old.units run ++ hits_of_ring p new → found + length (hits_of_ring p old) ≤ capacity
    → found + length (new_of p new.units run) ≤ capacity
run_fits p old new run found capacity same of_hits room =
    let units = ap (λ us. length (new_of p us run)) same in
    let cut = ap length of_hits in
    let joined = length-append (new_of p old.units run) (hits_of_ring p new) in
    omega arith

-- what is planned is a query
pub query_is : (words : ℕ) (p : NearPlanned) → IsNearPlanned words p → IsNearQuery p
query_is words p planned = record {
  layout = planned.probed.version.laid.layout;
  codes = planned.probed.version.codes;
  query = planned.probed.query.is_code;
  plans = planned.plans;
}

module _ (p : NearPlanned) (room left : ℕ) (old : RingPlace) (is : IsWalked p old left room) where
  -- the same ring goes on
  pub walked_on : (new : RingPlace) (more : ℕ) → IsRingPlace p new → units_after new ≡ units_after old → new.begun ≡ old.begun
      → more ≡ length (rows_of_ring p new) → IsWalked p new more room
  walked_on new more place after begun left_is =
      let size : length (units_after new) ≡ length new.units = ap length after ∙ is.after ∙ is.place.units_are ∙ sym place.units_are in
      let total : found_after p new ≡ found_after p old =
      ap (λ us. hits_met (near_rows p) (near_parts p) us (near_query p)) after in
      let ring = is.ring in
      let few = few_new p new in
      record {
        ring = record {
          answer = ring.answer;
          within = ring.within;
          leasts_are = ring.leasts_are;
          begun = omega (arith, ring.begun);
          few = omega (arith, ap length total, ring.few);
          all = λ whole. subst (λ hits. HasSame hits (near_all p)) (sym total) (ring.all (sym (ap length total) ∙ whole));
          near = subst (λ n. HasSame (hits_nearer (found_after p new) n) (hits_nearer (near_all p) n)) (sym begun)
              (subst (λ hits. HasSame (hits_nearer hits old.begun) (hits_nearer (near_all p) old.begun)) (sym total) ring.near);
          few_new = few;
          small = ring.small;
        };
        place = place;
        left_is = left_is;
        after = size;
        begun = omega (arith, is.begun);
        room_is = is.room_is;
      }

  -- the next ring was begun
  pub walked_begun : IsNearQuery p → (new : RingPlace) (reads : ℕ) → BeginsRing p old new reads → old.begun ≤ near_bits p
      → IsWalked p new reads room
  walked_begun query new reads begins within =
      let after : units_after new ≡ units_raised new.units new.part =
      ap (λ b. cond b new.units (units_raised new.units new.part)) (ne_eqb new.begun 0 (λ (e : new.begun ≡ 0). omega (arith, begins.begun))) in
      let size : length (units_after new) ≡ length new.units =
      ap length after ∙ length-set new.units new.part (get_or new.units new.part 0 + 1) in
      let below : new.begun ≤ near_bits p + 1 = omega (arith, begins.begun) in
      record {
        ring = ring_is p new query begins.place size below;
        place = begins.place;
        left_is = sym begins.reads_are;
        after = size;
        begun = below;
        room_is = is.room_is;
      }

-- no ring was begun yet
pub walked_starts : (p : NearPlanned) (w : RingPlace) (room : ℕ) → IsNearQuery p → StartsRings p w → length (near_parts p) ≤ room
    → IsWalked p w 0 room
walked_starts p w room query starts wide =
    let none : units_after w ≡ w.units = ap (λ b. cond b w.units (units_raised w.units w.part)) (eq-eqb w.begun 0 starts.begun) in
    let size : length (units_after w) ≡ length w.units = ap length none in
    let below : w.begun ≤ near_bits p + 1 = omega (arith, starts.begun) in
    record {
      ring = ring_is p w query starts.place size below;
      place = starts.place;
      left_is = sym (ap length starts.none_left);
      after = size;
      begun = below;
      room_is = wide;
    }

-- a near query on a version is a lawful source of hits
pub task_lawful : (plan : NearPlanned) (walk : RingPlace) (hits : Window) (mark : Mark) (reads left room : ℕ) → IsNearTask plan walk hits mark reads
    → IsWalked plan walk left room → IsLawful (near_asked plan hits.room) (near_standing plan walk hits mark reads)
task_lawful plan walk hits mark reads left room is walked =
    near_lawful (search_of plan) (ring_at plan walk) walk.begun hits mark reads is.kept walked.ring
