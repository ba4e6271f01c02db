-- Which part keeps a row.
use Rattle.std.proofs.Common.{◌≡◌, ◌≢◌, ℕ, ◌+◌, ◌<◌, ◌≤◌, ◌==◌, ◌&&◌, nat_lt, Bool, true, false, cond, negsuc, List, [], ◌∷◌, length, map, drop, get_or, refl, sym, ap, ◌∙◌, arith, eq-eqb}
use Rattle.std.specs.Prelude.{nat_le, Some, None}
use Rattle.std.proofs.lemmas.Bool.{ne_eqb}
use Rattle.std.proofs.lemmas.Bool.Decides.{nat_tests}
use Rattle.std.proofs.lemmas.List.{drop_more, drop_all, get_or-map, length-map}
use Rattle.hamming_model.specs.Codes.{distance}
use Rattle.hamming_model.specs.Layouts.{part_distance}
use Rattle.threshold_model.specs.Vectors.{units_of}
use Rattle.threshold_model.specs.Finding.{first_part, part_distances, threshold_at}
use Rattle.shard_walk.specs.Planned.{Planned, parts_of, planned_query, is_found, part_found, kept_hit}

first_cut : (us ds : List ℕ) (i u d : ℕ) (later_us later_ds : List ℕ) → drop i us ≡ u ∷ later_us → drop i ds ≡ d ∷ later_ds
    → first_part (drop i us) (drop i ds) ≡ cond (nat_lt d u) 0 (first_part later_us later_ds + 1)
first_cut us ds i u d later_us later_ds at_us at_ds = ap (λ xs. first_part xs (drop i ds)) at_us ∙ ap (first_part (u ∷ later_us)) at_ds

-- the first part from one on that finds a code, counted from there
abbrev pub first_from : Planned → List ℕ → ℕ → ℕ
first_from p code part = first_part (drop part (map units_of p.thresholds)) (drop part (part_distances (parts_of p) code (planned_query p)))

module _ (p : Planned) (code : List ℕ) (part : ℕ) (size : length p.thresholds ≡ length (parts_of p)) (less : part < length (parts_of p)) where
  pub first_step : first_from p code part ≡ cond (is_found p part code) 0 (first_from p code (part + 1) + 1)
  first_step =
      let us : List ℕ = map units_of p.thresholds in
      let ds : List ℕ = part_distances (parts_of p) code (planned_query p) in
      let us_size = length-map p.thresholds units_of in
      let ds_size = length-map (parts_of p) (λ positions. part_distance positions code (planned_query p)) in
      let here = get_or-map units_of p.thresholds part (negsuc 0) 0 (omega arith) in
      let there = get_or-map (λ positions. part_distance positions code (planned_query p)) (parts_of p) part [] 0 less in
      first_cut us ds part (get_or us part 0) (get_or ds part 0) (drop (part + 1) us) (drop (part + 1) ds)
      (drop_more us part 0 (omega arith)) (drop_more ds part 0 (omega arith))
      ∙ ap (λ u. cond (nat_lt (get_or ds part 0) u) 0 (first_from p code (part + 1) + 1)) here
      ∙ ap (λ d. cond (nat_lt d (units_of (threshold_at p.thresholds part))) 0 (first_from p code (part + 1) + 1)) there

  pub found_here : is_found p part code ≡ true → first_from p code part ≡ 0
  found_here found = first_step ∙ ap (λ b. cond b 0 (first_from p code (part + 1) + 1)) found

  pub found_later : is_found p part code ≡ false → first_from p code part ≡ first_from p code (part + 1) + 1
  found_later found = first_step ∙ ap (λ b. cond b 0 (first_from p code (part + 1) + 1)) found

-- after the last part there is none
pub found_nowhere : (p : Planned) (code : List ℕ) (part : ℕ) → length p.thresholds ≡ length (parts_of p)
    → length (parts_of p) ≤ part → first_from p code part ≡ 0
found_nowhere p code part size past =
    let us : List ℕ = map units_of p.thresholds in
    let ds : List ℕ = part_distances (parts_of p) code (planned_query p) in
    let us_size = length-map p.thresholds units_of in
    ap (λ xs. first_part xs (drop part ds)) (drop_all part us (omega arith))

module _ (p : Planned) (part key dist : ℕ) (code : List ℕ) (is_distance : dist ≡ distance code (planned_query p)) where
  cut : (near : Bool) (first : Bool) → nat_le (distance code (planned_query p)) p.tau ≡ near → (part_found p code == part) ≡ first
      → kept_hit p part (key, code) ≡ cond (near && first) (Some (record { dist = distance code (planned_query p); key = key })) None
  cut near first is_near is_first =
      ap (λ b. cond (b && (part_found p code == part)) (Some (record { dist = distance code (planned_query p); key = key })) None) is_near
      ∙ ap (λ b. cond (near && b) (Some (record { dist = distance code (planned_query p); key = key })) None) is_first

  -- a near row is kept at the first part that finds it
  pub kept_first : dist ≤ p.tau → part_found p code ≡ part → Some (record { dist = dist; key = key }) ≡ kept_hit p part (key, code)
  kept_first le first =
      let near : nat_le (distance code (planned_query p)) p.tau ≡ true = grind (arith, nat_tests) in
      ap (λ n. Some (record { dist = n; key = key })) is_distance ∙ sym (cut true true near (eq-eqb (part_found p code) part first))

  -- a far row isn't kept
  pub kept_far : p.tau < dist → None ≡ kept_hit p part (key, code)
  kept_far far =
      let near : nat_le (distance code (planned_query p)) p.tau ≡ false = grind (arith, nat_tests) in
      sym (cut false (part_found p code == part) near refl)

  -- nor is a row at a later part
  pub kept_later : part_found p code ≢ part → None ≡ kept_hit p part (key, code)
  kept_later later = sym (none (nat_le (distance code (planned_query p)) p.tau) refl)
    where
      none : (near : Bool) → nat_le (distance code (planned_query p)) p.tau ≡ near → kept_hit p part (key, code) ≡ None
      none true is_near = cut true false is_near (ne_eqb (part_found p code) part later)
      none false is_near = cut false false is_near (ne_eqb (part_found p code) part later)
