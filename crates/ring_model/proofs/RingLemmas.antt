-- What one ring more costs and finds, and that enough units find every near row.
use Rattle.std.proofs.Common.{◌≡◌, ℕ, zero, suc, ◌+◌, ◌<◌, ◌≤◌, ◌==◌, nat_lt, Bool, true, false, cond, List, [], ◌∷◌, ◌++◌}
use Rattle.std.proofs.Common.{length, map, filter, get_or, sum, sum_by, refl, sym, ap, ◌∙◌, ⊎_elim, arith}
use Rattle.std.specs.Prelude.{◌||◌, not, replicate}
use Rattle.std.specs.List.{flat_map, AllByRecursion}
use Rattle.std.proofs.lemmas.Bool.{cases_lt, ltb-true}
use Rattle.std.proofs.lemmas.Bool.Decides.{nat_tests}
use Rattle.std.proofs.lemmas.List.{length-map, get_or-map}
use Rattle.std.proofs.lemmas.List.Concat.{flat_map-append}
use Rattle.std.proofs.lemmas.List.Sums.{sum_by-append, sum_by-cons, sum_by-set, length-filter}
use Rattle.hamming_model.specs.declared.hit.Hit.{Hit}
use Rattle.hamming_model.specs.Codes.{IsCode, distance}
use Rattle.hamming_model.specs.Layouts.{IsLayout, part_value, part_distance}
use Rattle.hamming_model.specs.Scan.{hit_of}
use Rattle.hamming_model.specs.Stored.{AreCodeRows}
use Rattle.threshold_model.specs.Vectors.{IsLeast, NeverFalls, row_counts, units_of}
use Rattle.threshold_model.specs.Splits.{units_total, split_cost}
use Rattle.threshold_model.specs.Finding.{part_distances, first_part}
use Rattle.threshold_model.proofs.SplitLemmas.{split_of_vector, cost_units}
use Rattle.threshold_model.proofs.FindingLemmas.{units_sum, some_below}
use Rattle.threshold_model.proofs.PositionLemmas.{distance_is_sum}
use Rattle.ball_walk.specs.Balls.{ball, ring}
use Rattle.ball_walk.proofs.BallLemmas.{ball_more}
use Rattle.ball_walk.proofs.SumLemmas.{sum_same, sum_plus, sum_filter, sum_near_more}
use Rattle.search_model.specs.Reading.{HasSame, AreLists, rows_found, rows_read}
use Rattle.search_model.proofs.PostingLemmas.{ball_reads}
use Rattle.search_model.proofs.SameLemmas.{sum_map, sum_ones, sum_agrees, same_length}
use Rattle.ring_model.specs.Rings.{is_below_some, is_met, hits_met, units_raised, rows_apart, ring_read, hits_new, ring_cost, IsCheapest, hits_nearer}

-- the count at one part is at most the cost of the split
one_of_split : (count : ℕ → ℕ → ℕ) (part : ℕ) (us : List ℕ) (k place : ℕ) → k < length us → place ≡ part + k
    → count place (get_or us k 0) ≤ split_cost count part us
one_of_split count part [] k place within at = absurd (omega arith)
one_of_split count part (u ∷ us) zero place within at =
    let same : count place u ≡ count part u = ap (λ n. count n u) (omega arith) in
    omega arith
one_of_split count part (u ∷ us) (suc k) place within at =
    let rest = one_of_split count (part + 1) us k place (omega arith) (omega arith) in
    omega arith

-- the cheapest next ring costs at most the least cost for the radius
pub cheapest_within : (count : ℕ → ℕ → ℕ) (units : List ℕ) (part radius least : ℕ) → ((other : ℕ) → other < length units → NeverFalls (count other))
    → sum units ≡ radius → IsLeast count radius (length units) least → IsCheapest count units part → ring_cost count units part ≤ least
cheapest_within count units part radius least rises total is_least cheapest =
    let ts = is_least.attained.0 in
    let vector = is_least.attained.1 in
    let split = split_of_vector radius (length units) ts vector in
    let us : List ℕ = map units_of ts in
    let below = some_below us units split.size (omega (arith, split.sum, units_sum units)) in
    let k : ℕ = first_part us units in
    let within : k < length units = omega (arith, below.within, split.size) in
    let more : get_or units k 0 + 1 ≤ get_or us k 0 = omega (arith, below.below) in
    let up = rises k within (get_or units k 0 + 1) (get_or us k 0) more in
    let one = one_of_split count 0 us k k below.within (omega arith) in
    let all : split_cost count 0 us ≡ least = sym (cost_units count 0 ts) ∙ is_least.attained.2 in
    omega (arith, cheapest.none_cheaper k within)

pub raised_sum : (units : List ℕ) (part : ℕ) → part < length units → sum (units_raised units part) ≡ sum units + 1
raised_sum units part within = omega (arith, sum_by-set (λ x. x) units part (get_or units part 0 + 1) 0 within)

pub start_sum : (parts : ℕ) → sum (replicate parts 0) ≡ 0
start_sum zero = refl
start_sum (suc n) = omega (arith, sum_by-cons (λ x. x) 0 (replicate n 0), start_sum n)

at_or_below : (d u : ℕ) → nat_lt d (u + 1) ≡ (nat_lt d u || (d == u))
at_or_below d u = grind (arith, nat_tests)

or_swap : (a b c : Bool) → ((a || b) || c) ≡ ((a || c) || b)
or_swap true b c = refl
or_swap false true true = refl
or_swap false true false = refl
or_swap false false true = refl
or_swap false false false = refl

or_assoc : (a b c : Bool) → (a || (b || c)) ≡ ((a || b) || c)
or_assoc true b c = refl
or_assoc false b c = refl

-- with one unit more at a part, that part finds what is at so many units there
pub below_raised : (us ds : List ℕ) (part : ℕ) → length us ≡ length ds → part < length us
    → is_below_some (units_raised us part) ds ≡ (is_below_some us ds || (get_or ds part 0 == get_or us part 0))
below_raised [] ds part size within = absurd (omega arith)
below_raised (u ∷ us) [] part size within = absurd (omega arith)
below_raised (u ∷ us) (d ∷ ds) zero size within =
    ap (λ b. b || is_below_some us ds) (at_or_below d u) ∙ or_swap (nat_lt d u) (d == u) (is_below_some us ds)
below_raised (u ∷ us) (d ∷ ds) (suc part) size within =
    ap (λ b. nat_lt d u || b) (below_raised us ds part (omega arith) (omega arith))
    ∙ or_assoc (nat_lt d u) (is_below_some us ds) (get_or ds part 0 == get_or us part 0)

-- more units than distances find a code
pub below_of_sum : (us ds : List ℕ) → length us ≡ length ds → units_total ds < units_total us → is_below_some us ds ≡ true
below_of_sum [] ds size less = absurd (omega arith)
below_of_sum (u ∷ us) [] size less = absurd (omega arith)
below_of_sum (u ∷ us) (d ∷ ds) size less = go (nat_lt d u) refl (λ (le : u ≤ d). below_of_sum us ds (omega arith) (omega arith))
  where
    go : (b : Bool) → nat_lt d u ≡ b → (u ≤ d → is_below_some us ds ≡ true) → (b || is_below_some us ds) ≡ true
    go true e later = refl
    go false e later = later (not_lower e)
      where
        not_lower : nat_lt d u ≡ false → u ≤ d
        not_lower f = grind (arith, nat_tests)

nothing_below : (layout : List (List ℕ)) (code query : List ℕ)
    → is_below_some (replicate (length layout) 0) (part_distances layout code query) ≡ false
nothing_below [] code query = refl
nothing_below (part ∷ layout) code query =
    let none : nat_lt (part_distance part code query) 0 ≡ false = grind (arith, nat_tests) in
    ap (λ b. b || is_below_some (replicate (length layout) 0) (part_distances layout code query)) none ∙ nothing_below layout code query

pub met_by_none : (rows : List (ℕ × List ℕ)) (layout : List (List ℕ)) (query : List ℕ) → hits_met rows layout (replicate (length layout) 0) query ≡ []
met_by_none [] layout query = refl
met_by_none (row ∷ rows) layout query =
    ap (λ b. map (hit_of query) (cond b (row ∷ filter (is_met layout (replicate (length layout) 0) query) rows)
    (filter (is_met layout (replicate (length layout) 0) query) rows)))
    (nothing_below layout row.1 query)
    ∙ met_by_none rows layout query

-- what the ring of a part has
pub ring_same : (bits apart : ℕ) (rows : List (ℕ × List ℕ)) (part query : List ℕ) (lists : ℕ → List (ℕ × List ℕ)) → AreCodeRows bits rows
    → IsCode bits query
    → AreLists rows part lists → HasSame (ring_read lists part query apart) (rows_apart rows part query apart)
ring_same bits apart rows part query lists codes is_query are_lists = record { sums = sums }
  where
    sums : (f : ℕ × List ℕ → ℕ) → sum_by f (ring_read lists part query apart) ≡ sum_by f (rows_apart rows part query apart)
    sums f =
        let value = part_value query part in
        let more = (ball_reads bits (apart + 1) rows part query lists codes is_query are_lists).sums f in
        let fewer = (ball_reads bits apart rows part query lists codes is_query are_lists).sums f in
        let cut : sum_by f (rows_read lists part query (apart + 1))
        ≡ sum_by f (rows_read lists part query apart) + sum_by f (ring_read lists part query apart) =
        ap (λ vs. sum_by f (flat_map lists vs)) (ball_more value (length part) apart)
        ∙ ap (sum_by f) (flat_map-append lists (ball value (length part) apart) (ring value (length part) apart))
        ∙ sum_by-append f (rows_read lists part query apart) (ring_read lists part query apart) in
        let found = sum_near_more f (λ row. part_distance part row.1 query) apart rows in
        omega arith

-- as many as the count rises
pub ring_number : (rows read : List (ℕ × List ℕ)) (layout : List (List ℕ)) (units query : List ℕ) (part : ℕ)
    → HasSame read (rows_apart rows (get_or layout part []) query (get_or units part 0))
    → length read ≡ ring_cost (row_counts rows layout query) units part
ring_number rows read layout units query part same =
    let at : List ℕ = get_or layout part [] in
    let u : ℕ = get_or units part 0 in
    let size = same_length read (rows_apart rows at query u) same in
    let found = sum_near_more (λ row. 1) (λ (row : ℕ × List ℕ). part_distance at row.1 query) u rows in
    let a = sum_ones (rows_found rows at query (u + 1)) in
    let b = sum_ones (rows_found rows at query u) in
    let c = sum_ones (rows_apart rows at query u) in
    let more = length-filter (λ (row : ℕ × List ℕ). nat_lt (part_distance at row.1 query) (u + 1)) rows in
    let fewer = length-filter (λ (row : ℕ × List ℕ). nat_lt (part_distance at row.1 query) u) rows in
    omega arith

met_or_new : (a b : Bool) (amount : ℕ) → cond (a || b) amount 0 ≡ cond a amount 0 + cond b (cond (not a) amount 0) 0
met_or_new true true amount = omega arith
met_or_new true false amount = omega arith
met_or_new false true amount = omega arith
met_or_new false false amount = omega arith

-- a row that one unit more finds was found, or is at that distance and wasn't
met_raised : (layout : List (List ℕ)) (units query : List ℕ) (part : ℕ) (row : ℕ × List ℕ) → length units ≡ length layout → part < length layout
    → is_met layout (units_raised units part) query row
    ≡ (is_met layout units query row || (part_distance (get_or layout part []) row.1 query == get_or units part 0))
met_raised layout units query part row size within =
    let ds : List ℕ = part_distances layout row.1 query in
    let parts = length-map layout (λ positions. part_distance positions row.1 query) in
    below_raised units ds part (omega arith) (omega arith)
    ∙ ap (λ d. is_below_some units ds || (d == get_or units part 0)) (get_or-map (λ positions. part_distance positions row.1 query) layout part [] 0 within)

sum_of_hits : (f : Hit → ℕ) (query : List ℕ) (test : ℕ × List ℕ → Bool) (rows : List (ℕ × List ℕ))
    → sum_by f (map (hit_of query) (filter test rows)) ≡ sum_by (λ row. cond (test row) (f (hit_of query row)) 0) rows
sum_of_hits f query test rows = sum_map f (hit_of query) (filter test rows) ∙ sum_filter (λ row. f (hit_of query row)) test rows

-- what one unit more at a part finds more are the new ones of its ring
pub ring_finds : (rows read : List (ℕ × List ℕ)) (layout : List (List ℕ)) (units query : List ℕ) (part : ℕ) → length units ≡ length layout
    → part < length layout
    → HasSame read (rows_apart rows (get_or layout part []) query (get_or units part 0))
    → HasSame (hits_met rows layout units query ++ hits_new layout units query read) (hits_met rows layout (units_raised units part) query)
ring_finds rows read layout units query part size within same = record { sums = sums }
  where
    sums : (f : Hit → ℕ)
        → sum_by f (hits_met rows layout units query ++ hits_new layout units query read) ≡ sum_by f (hits_met rows layout (units_raised units part) query)
    sums f =
        let old : ℕ × List ℕ → ℕ = λ row. cond (is_met layout units query row) (f (hit_of query row)) 0 in
        let fresh : ℕ × List ℕ → ℕ = λ row. cond (not (is_met layout units query row)) (f (hit_of query row)) 0 in
        let apart : ℕ × List ℕ → Bool = λ row. part_distance (get_or layout part []) row.1 query == get_or units part 0 in
        let joined = sum_by-append f (hits_met rows layout units query) (hits_new layout units query read) in
        let met = sum_of_hits f query (is_met layout units query) rows in
        let kept = sum_of_hits f query (λ row. not (is_met layout units query row)) read in
        let there = same.sums fresh in
        let of_ring = sum_filter fresh apart rows in
        let both = sum_plus old (λ row. cond (apart row) (fresh row) 0) rows in
        let each = sum_same (λ row. cond (is_met layout (units_raised units part) query row) (f (hit_of query row)) 0)
        (λ row. old row + cond (apart row) (fresh row) 0)
        (λ row. ap (λ b. cond b (f (hit_of query row)) 0) (met_raised layout units query part row size within)
        ∙ met_or_new (is_met layout units query row) (apart row) (f (hit_of query row))) rows in
        let all = sum_of_hits f query (is_met layout (units_raised units part) query) rows in
        omega arith

near_is_met : (near met : Bool) (amount : ℕ) → (near ≡ true → met ≡ true) → cond met (cond near amount 0) 0 ≡ cond {A = ℕ} near amount 0
near_is_met true met amount h = rw (h refl) refl
near_is_met false true amount h = refl
near_is_met false false amount h = refl

-- a row nearer than the units of all parts is found
pub near_met : (bits : ℕ) (layout : List (List ℕ)) (units query : List ℕ) (row : ℕ × List ℕ) → IsLayout bits layout → IsCode bits row.1
    → IsCode bits query
    → length units ≡ length layout → distance row.1 query < sum units → is_met layout units query row ≡ true
near_met bits layout units query row lay is_code is_query size near =
    let ds : List ℕ = part_distances layout row.1 query in
    let parts = length-map layout (λ positions. part_distance positions row.1 query) in
    let all = distance_is_sum bits layout row.1 query lay is_code.size is_query.size in
    let same = units_sum ds in
    let own = units_sum units in
    below_of_sum units ds (omega arith) (omega arith)

not_true : (b : Bool) → not b ≡ true → b ≡ true → ⊥
not_true true e f = cc
not_true false e f = cc

module _ (bits : ℕ) (layout : List (List ℕ)) (units query : List ℕ) (lay : IsLayout bits layout)
    (is_query : IsCode bits query) (size : length units ≡ length layout) where
  each_near : (f : Hit → ℕ) (rows : List (ℕ × List ℕ)) → AreCodeRows bits rows
      → AllByRecursion (λ row. cond (is_met layout units query row)
      (cond (nat_lt (distance row.1 query) (sum units)) (f (hit_of query row)) 0) 0
      ≡ cond (nat_lt (distance row.1 query) (sum units)) (f (hit_of query row)) 0) rows
  each_near f [] codes = tt
  each_near f (row ∷ rows) codes = (
    near_is_met (nat_lt (distance row.1 query) (sum units)) (is_met layout units query row) (f (hit_of query row))
        (λ near. near_met bits layout units query row lay codes.0 is_query size (ltb-true (distance row.1 query) (sum units) near)),
    each_near f rows codes.1,
  )

  -- the hits found that are nearer than the units of all parts are all such hits
  pub near_hits_met : (rows : List (ℕ × List ℕ)) → AreCodeRows bits rows
      → HasSame (hits_nearer (hits_met rows layout units query) (sum units)) (hits_nearer (map (hit_of query) rows) (sum units))
  near_hits_met rows codes = record { sums = sums }
    where
      sums : (f : Hit → ℕ)
          → sum_by f (hits_nearer (hits_met rows layout units query) (sum units)) ≡ sum_by f (hits_nearer (map (hit_of query) rows) (sum units))
      sums f =
          let near : Hit → ℕ = λ hit. cond (nat_lt hit.dist (sum units)) (f hit) 0 in
          let mine = sum_filter f (λ hit. nat_lt hit.dist (sum units)) (hits_met rows layout units query) in
          let met = sum_of_hits near query (is_met layout units query) rows in
          let each = sum_agrees (λ row. cond (is_met layout units query row) (near (hit_of query row)) 0)
          (λ row. near (hit_of query row)) rows (each_near f rows codes) in
          let within = sum_filter f (λ hit. nat_lt hit.dist (sum units)) (map (hit_of query) rows) in
          let mapped = sum_map near (hit_of query) rows in
          omega arith

  far_new : (row : ℕ × List ℕ) → IsCode bits row.1 → not (is_met layout units query row) ≡ true → sum units ≤ distance row.1 query
  far_new row is_code fresh =
      ⊎_elim (λ (near : distance row.1 query < sum units).
      absurd (not_true (is_met layout units query row) fresh (near_met bits layout units query row lay is_code is_query size near)))
      (λ (far : sum units ≤ distance row.1 query). far)
      (cases_lt (distance row.1 query) (sum units))

  -- a hit that no part found yet isn't nearer than the units of all parts
  pub new_hits_far : (rows : List (ℕ × List ℕ)) → AreCodeRows bits rows
      → AllByRecursion (λ hit. sum units ≤ hit.dist) (hits_new layout units query rows)
  new_hits_far [] codes = tt
  new_hits_far (row ∷ rows) codes = go (not (is_met layout units query row)) refl (new_hits_far rows codes.1)
    where
      go : (b : Bool) → not (is_met layout units query row) ≡ b → AllByRecursion (λ hit. sum units ≤ hit.dist) (hits_new layout units query rows)
          → AllByRecursion (λ hit. sum units ≤ hit.dist) (map (hit_of query)
          (cond b (row ∷ filter (λ other. not (is_met layout units query other)) rows)
          (filter (λ other. not (is_met layout units query other)) rows)))
      go true e rest = (far_new row codes.0 e, rest)
      go false e rest = rest

few_kept : (test : ℕ × List ℕ → Bool) (rows : List (ℕ × List ℕ)) → length (filter test rows) ≤ length rows
few_kept test [] = omega arith
few_kept test (row ∷ rows) = go (test row) (few_kept test rows)
  where
    go : (b : Bool) → length (filter test rows) ≤ length rows → length (cond b (row ∷ filter test rows) (filter test rows)) ≤ suc (length rows)
    go true le = omega arith
    go false le = omega arith

all_kept : (test : ℕ × List ℕ → Bool) (rows : List (ℕ × List ℕ)) → length (filter test rows) ≡ length rows → filter test rows ≡ rows
all_kept test [] e = refl
all_kept test (row ∷ rows) e = go (test row) e (λ (f : length (filter test rows) ≡ length rows). all_kept test rows f)
  where
    go : (b : Bool) → length (cond b (row ∷ filter test rows) (filter test rows)) ≡ suc (length rows)
        → (length (filter test rows) ≡ length rows → filter test rows ≡ rows) → cond b (row ∷ filter test rows) (filter test rows) ≡ row ∷ rows
    go true f rest = ap (λ others. row ∷ others) (rest (omega arith))
    go false f rest = absurd (omega (arith, few_kept test rows))

pub met_few : (rows : List (ℕ × List ℕ)) (layout : List (List ℕ)) (units query : List ℕ) → length (hits_met rows layout units query) ≤ length rows
met_few rows layout units query = omega (arith, length-map (filter (is_met layout units query) rows) (hit_of query), few_kept (is_met layout units query) rows)

pub met_all : (rows : List (ℕ × List ℕ)) (layout : List (List ℕ)) (units query : List ℕ) → length (hits_met rows layout units query) ≡ length rows
    → hits_met rows layout units query ≡ map (hit_of query) rows
met_all rows layout units query e =
    ap (map (hit_of query)) (all_kept (is_met layout units query) rows
    (omega (arith, length-map (filter (is_met layout units query) rows) (hit_of query))))
