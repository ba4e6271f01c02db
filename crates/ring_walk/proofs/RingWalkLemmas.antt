-- Which rows of a ring are new, and the steps of a walk over it.
use Rattle.std.proofs.Common.{◌≡◌, ℕ, zero, suc, ◌+◌, ◌-◌, ◌<◌, ◌≤◌, ◌==◌, min, nat_lt, Bool, true, false, cond, List, [], ◌∷◌, ◌++◌}
use Rattle.std.proofs.Common.{length, replicate, take, drop, get_or, sum, sum_by, refl, sym, ap, ◌∙◌, subst, arith}
use Rattle.std.specs.Prelude.{◌||◌, not, Some, None}
use Rattle.std.specs.Prelude.{All, ◌^◌}
use Rattle.std.proofs.lemmas.List.Elements.{All-head, All-tail}
use Rattle.std.specs.List.{flat_map}
use Rattle.std.proofs.lemmas.List.{drop_more, drop_all, get_or-map, length-map, length-set}
use Rattle.std.proofs.lemmas.List.{length-replicate, length-append, append_assoc}
use Rattle.std.proofs.lemmas.List.Sums.{sum_by-cons}
use Rattle.std.proofs.lemmas.Bool.{ne_eqb}
use Rattle.std.proofs.lemmas.Nat.{pow_pos}
use Rattle.ball_walk.specs.Balls.{ring}
use Rattle.ball_walk.specs.Flips.{flipped_ring}
use Rattle.ball_walk.proofs.FlipLemmas.{flipped_sum}
use Rattle.search_model.specs.Reading.{HasSame, unpadded}
use Rattle.search_model.proofs.PostingLemmas.{value_below}
use Rattle.search_model.proofs.SameLemmas.{sum_flat_map}
use Rattle.shard_probe.specs.Probed.{entry_rows}
use Rattle.shard_probe.proofs.RunLemmas.{passed_joined, rest_cut, run_size}
use Rattle.ring_model.proofs.RingLemmas.{ring_same, ring_number, raised_sum, start_sum, met_by_none}
use Rattle.hamming_model.specs.declared.limits.TheConstants.{PARTS_MOST}
use Rattle.hamming_model.specs.Codes.{distance}
use Rattle.hamming_model.specs.Layouts.{part_distance, part_value}
use Rattle.hamming_model.specs.Scan.{hit_of}
use Rattle.threshold_model.specs.Finding.{part_distances}
use Rattle.ring_model.specs.Rings.{is_below_some, is_met, hits_new, units_raised, rows_apart, ring_cost, IsCheapest}
use Rattle.ring_walk.specs.NearPlanned.{NearPlanned, IsNearPlanned, near_rows, near_bits, near_parts, near_part, near_query, near_list}
use Rattle.ring_walk.specs.NearPlanned.{near_counts, near_ring}
use Rattle.ring_walk.specs.RingWalks.{RingPlace, IsRingPlace, StartsRings, BeginsRing, rows_of_ring, hits_of_ring, new_hit, new_of}
use Rattle.ring_walk.specs.RingWalks.{units_after}

below_cut : (us ds : List ℕ) (i u d : ℕ) (later_us later_ds : List ℕ) → drop i us ≡ u ∷ later_us → drop i ds ≡ d ∷ later_ds
    → is_below_some (drop i us) (drop i ds) ≡ (nat_lt d u || is_below_some later_us later_ds)
below_cut us ds i u d later_us later_ds at_us at_ds = ap (λ xs. is_below_some xs (drop i ds)) at_us ∙ ap (is_below_some (u ∷ later_us)) at_ds

-- one part more
pub below_step : (layout : List (List ℕ)) (units code query : List ℕ) (i : ℕ) → length units ≡ length layout → i < length layout
    → is_below_some (drop i units) (drop i (part_distances layout code query))
    ≡ (nat_lt (part_distance (get_or layout i []) code query) (get_or units i 0)
    || is_below_some (drop (i + 1) units) (drop (i + 1) (part_distances layout code query)))
below_step layout units code query i size less =
    let ds : List ℕ = part_distances layout code query in
    let ds_size = length-map layout (λ positions. part_distance positions code query) in
    below_cut units ds i (get_or units i 0) (get_or ds i 0) (drop (i + 1) units) (drop (i + 1) ds)
    (drop_more units i 0 (omega arith)) (drop_more ds i 0 (omega arith))
    ∙ ap (λ d. nat_lt d (get_or units i 0) || is_below_some (drop (i + 1) units) (drop (i + 1) ds))
    (get_or-map (λ positions. part_distance positions code query) layout i [] 0 less)

pub below_end : (layout : List (List ℕ)) (units code query : List ℕ) (i : ℕ) → length units ≤ i
    → is_below_some (drop i units) (drop i (part_distances layout code query)) ≡ false
below_end layout units code query i past = ap (λ xs. is_below_some xs (drop i (part_distances layout code query))) (drop_all i units past)

pub new_is : (p : NearPlanned) (units : List ℕ) (row : ℕ × List ℕ) (met : Bool) → is_met (near_parts p) units (near_query p) row ≡ met
    → new_hit p units row ≡ cond met None (Some (hit_of (near_query p) row))
new_is p units row met is = ap (λ b. cond b None (Some (hit_of (near_query p) row))) is

module _ (p : NearPlanned) (w : RingPlace) (place : IsRingPlace p w) where
  -- a run of the postings that are next was read
  pub run_place : (count : ℕ) → w.next + count ≤ w.size → IsRingPlace p (record w { next = w.next + count })
  run_place count within = record {
    few_parts = place.few_parts;
    units_are = place.units_are;
    total = place.total;
    part = place.part;
    width = place.width;
    ball = place.ball;
    value = place.value;
    next = within;
    size = place.size;
  }

  module _ (count : ℕ) (run : List (ℕ × List ℕ)) (within : w.next + count ≤ w.size)
      (is_run : entry_rows p.version run ≡ take count (drop w.next (near_list p w.part w.value))) where
    rows_cut : rows_of_ring p w ≡ entry_rows p.version run ++ rows_of_ring p (record w { next = w.next + count })
    rows_cut =
        let list = near_list p w.part w.value in
        ap (λ rest. rest ++ flat_map (near_list p w.part) w.ball)
        (rest_cut list w.next w.size count within
        ∙ ap (λ rows. rows ++ drop (w.next + count) (take w.size list)) (sym is_run))
        ∙ append_assoc (entry_rows p.version run) (drop (w.next + count) (take w.size list)) (flat_map (near_list p w.part) w.ball)

    pub ring_hits_read : hits_of_ring p w ≡ new_of p w.units run ++ hits_of_ring p (record w { next = w.next + count })
    ring_hits_read =
        ap (hits_new (near_parts p) w.units (near_query p)) rows_cut
        ∙ passed_joined (hit_of (near_query p)) (λ row. not (is_met (near_parts p) w.units (near_query p) row))
        (entry_rows p.version run) (rows_of_ring p (record w { next = w.next + count }))

    pub ring_reads_read : length (rows_of_ring p w) ≡ length (rows_of_ring p (record w { next = w.next + count })) + length run
    ring_reads_read =
        let cut = ap length rows_cut in
        let joined = length-append (entry_rows p.version run) (rows_of_ring p (record w { next = w.next + count })) in
        let mapped = length-map run (unpadded (near_bits p)) in
        omega arith

-- a run of postings was read, so many
pub record ReadsRun (p : NearPlanned) (old new : RingPlace) (run : List (ℕ × List ℕ)) (count : ℕ) : Type 0 where
  pub place : IsRingPlace p new
  pub hits : hits_of_ring p old ≡ new_of p old.units run ++ hits_of_ring p new
  pub reads : length (rows_of_ring p old) ≡ length (rows_of_ring p new) + length run
  pub size : length run ≡ count

pub reads_run : (p : NearPlanned) (own : RingPlace) → IsRingPlace p own → (inside : RingPlace) → inside ≡ own
    → (count most : ℕ) → count ≡ min (inside.size - inside.next) most → (run : List (ℕ × List ℕ))
    → entry_rows p.version run ≡ take count (drop inside.next (near_list p inside.part inside.value))
    → ReadsRun p own (record inside { next = inside.next + count }) run count
reads_run p own place inside same count most least run rows =
    let next = ap (λ (w : RingPlace). w.next) same in
    let size = ap (λ (w : RingPlace). w.size) same in
    let behind = place.next in
    let among = place.size in
    let within : own.next + count ≤ own.size = omega arith in
    let is_run = rows ∙ ap (λ (w : RingPlace). take count (drop w.next (near_list p w.part w.value))) same in
    subst (λ (w : RingPlace). ReadsRun p own (record w { next = w.next + count }) run count) (sym same) (record {
      place = run_place p own place count within;
      hits = ring_hits_read p own place count run within is_run;
      reads = ring_reads_read p own place count run within is_run;
      size = run_size (near_bits p) own.next count run (near_list p own.part own.value) (omega arith) is_run;
    })

or_true : (a b : Bool) → a ≡ true → (a || b) ≡ true
or_true a b e = rw e refl

or_false : (a b : Bool) → a ≡ false → (a || b) ≡ b
or_false a b e = rw e refl

pub found_at : (all rest here found : Bool) → all ≡ found → found ≡ (here || rest) → here ≡ true → true ≡ all
found_at all rest here found a b c = sym (a ∙ b ∙ or_true here rest c)

pub passed_at : (all rest here found : Bool) → all ≡ found → found ≡ (here || rest) → here ≡ false → all ≡ rest
passed_at all rest here found a b c = a ∙ b ∙ or_false here rest c

pub new_hit_is : (p : NearPlanned) (units : List ℕ) (key dist : ℕ) (code : List ℕ) → is_met (near_parts p) units (near_query p) (key, code) ≡ false
    → dist ≡ distance code (near_query p)
    → Some (record { dist = dist; key = key }) ≡ new_hit p units (key, code)
new_hit_is p units key dist code none same =
    ap (λ n. Some (record { dist = n; key = key })) same ∙ sym (new_is p units (key, code) false none)

-- the next value of the ring is begun
pub value_place : (p : NearPlanned) (w : RingPlace) → IsRingPlace p w → (value : ℕ) (rest : List ℕ) → w.ball ≡ value ∷ rest
    → (width : ℕ) → width ≡ w.width → (size : ℕ) → size ≡ length (near_list p w.part value)
    → IsRingPlace p (record w { width = width; ball = rest; value = value; next = 0; size = size })
value_place p w place value rest first width same_width size is_size =
    let all : All (λ other. other < 2 ^ length (near_part p w.part)) (value ∷ rest) =
    subst (All (λ other. other < 2 ^ length (near_part p w.part))) first place.ball in
    record {
      few_parts = place.few_parts;
      units_are = place.units_are;
      total = place.total;
      part = place.part;
      width = same_width ∙ place.width;
      ball = All-tail (λ other. other < 2 ^ length (near_part p w.part)) value rest all;
      value = All-head (λ other. other < 2 ^ length (near_part p w.part)) value rest all;
      next = omega arith;
      size = omega arith;
    }

unit_in_sum : (us : List ℕ) (i : ℕ) → i < length us → get_or us i 0 ≤ sum us
unit_in_sum [] i less = absurd (omega arith)
unit_in_sum (u ∷ us) zero less = omega (arith, sum_by-cons (λ n. n) u us)
unit_in_sum (u ∷ us) (suc i) less = omega (arith, sum_by-cons (λ n. n) u us, unit_in_sum us i (omega arith))

-- no part has more units than rings were begun
pub unit_small : (p : NearPlanned) (w : RingPlace) → IsRingPlace p w → (units : List ℕ) → units ≡ units_after w → (part : ℕ) → part < length units
    → get_or units part 0 ≤ w.begun
unit_small p w place units same part less = omega (arith, unit_in_sum units part less, ap sum same, place.total)

pub after_size : (w : RingPlace) → length (units_after w) ≡ length w.units
after_size w = go (w.begun == 0)
  where
    go : (b : Bool) → length (cond b w.units (units_raised w.units w.part)) ≡ length w.units
    go true = refl
    go false = length-set w.units w.part (get_or w.units w.part 0 + 1)

module _ (words : ℕ) (p : NearPlanned) (plan : IsNearPlanned words p) (old : RingPlace) (place : IsRingPlace p old)
    (units : List ℕ) (same : units ≡ units_after old) where
  units_size : length units ≡ length (near_parts p)
  units_size = ap length same ∙ after_size old ∙ place.units_are

  module _ (part cost : ℕ) (cheapest : IsCheapest (near_counts p) units part) (cost_is : cost ≡ ring_cost (near_counts p) units part)
      (width : ℕ) (width_is : width ≡ length (near_part p part))
      (ball : List ℕ) (ball_is : ball ≡ near_ring p part (get_or units part 0))
      (in_width : All (λ value. value < 2 ^ length (near_part p part)) ball) where
    abbrev new : RingPlace
    new = record { units = units; part = part; width = width; ball = ball; value = 0; next = 0; size = 0; begun = old.begun + 1 }

    rows_are : rows_of_ring p new ≡ flat_map (near_list p part) (near_ring p part (get_or units part 0))
    rows_are = take_none (near_list p part 0) ∙ ap (flat_map (near_list p part)) ball_is
      where
        take_none : (xs : List (ℕ × List ℕ))
            → drop 0 (take 0 xs) ++ flat_map (near_list p part) ball ≡ flat_map (near_list p part) ball
        take_none [] = refl
        take_none (x ∷ xs) = refl

    same_rows : HasSame (rows_of_ring p new) (rows_apart (near_rows p) (near_part p part) (near_query p) (get_or units part 0))
    same_rows =
        let value = part_value (near_query p) (near_part p part) in
        let size = length (near_part p part) in
        let apart = get_or units part 0 in
        let read = ring_same (near_bits p) apart (near_rows p) (near_part p part) (near_query p) (near_list p part)
        plan.probed.version.codes plan.probed.query.is_code
        (plan.probed.tables.each part (omega (arith, units_size, cheapest.within))).lists in
        subst (λ rows. HasSame rows (rows_apart (near_rows p) (near_part p part) (near_query p) apart)) (sym rows_are) (record {
          sums = λ f.
              sum_flat_map f (near_list p part) (flipped_ring value size apart)
              ∙ flipped_sum (λ v. sum_by f (near_list p part v)) value size apart
              (value_below (near_bits p) (near_query p) (near_part p part) plan.probed.query.is_code)
              ∙ sym (sum_flat_map f (near_list p part) (ring value size apart))
              ∙ read.sums f;
        })

    pub ring_begins : BeginsRing p old
        (record { units = units; part = part; width = width; ball = ball; value = 0; next = 0; size = 0; begun = old.begun + 1 }) cost
    ring_begins =
        let number = ring_number (near_rows p) (rows_of_ring p new) (near_parts p) units (near_query p) part same_rows in
        let power : 0 < 2 ^ length (near_part p part) = pow_pos (length (near_part p part)) in
        let raised_is : units_after new ≡ units_raised units part =
        ap (λ b. cond b units (units_raised units part)) (ne_eqb (old.begun + 1) 0 (λ (e : old.begun + 1 ≡ 0). omega arith)) in
        record {
          place = record {
            few_parts = place.few_parts;
            units_are = units_size;
            total = ap sum raised_is ∙ raised_sum units part cheapest.within ∙ ap (λ n. n + 1) (ap sum same ∙ place.total);
            part = omega (arith, units_size, cheapest.within);
            width = width_is;
            ball = in_width;
            value = power;
            next = omega arith;
            size = omega arith;
          };
          begun = refl;
          units = same;
          cheapest = cheapest;
          cost = cost_is;
          ball = ball_is;
          at_start = refl;
          reads_are = omega arith;
          rows = same_rows;
        }

-- a walk that has begun no ring
pub rings_start : (words : ℕ) (p : NearPlanned) → IsNearPlanned words p → length (near_parts p) ≤ PARTS_MOST → (width : ℕ) → width ≡ length (near_part p 0)
    → (ball : List ℕ) → ball ≡ []
    → StartsRings p (record {
      units = replicate (length (near_parts p)) 0;
      part = 0;
      width = width;
      ball = ball;
      value = 0;
      next = 0;
      size = 0;
      begun = 0;
    })
rings_start words p plan few width is_width ball none =
    let some = plan.probed.version.laid.layout.some_part in
    let power : 0 < 2 ^ length (near_part p 0) = pow_pos (length (near_part p 0)) in
    record {
      place = record {
        few_parts = few;
        units_are = length-replicate (length (near_parts p)) 0;
        total = start_sum (length (near_parts p));
        part = some;
        width = is_width;
        ball = subst (All (λ value. value < 2 ^ length (near_part p 0))) (sym none) (λ k d within. absurd (omega arith));
        value = power;
        next = omega arith;
        size = omega arith;
      };
      begun = refl;
      none_left = nothing (near_list p 0 0) ∙ ap (flat_map (near_list p 0)) none;
      no_values = none;
      none_found = met_by_none (near_rows p) (near_parts p) (near_query p);
    }
  where
    nothing : (xs : List (ℕ × List ℕ)) → drop 0 (take 0 xs) ++ flat_map (near_list p 0) ball ≡ flat_map (near_list p 0) ball
    nothing [] = refl
    nothing (x ∷ xs) = refl
