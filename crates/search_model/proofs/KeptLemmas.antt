-- Each near row is kept exactly once: by the parts, at the first that finds it, and so by all rows.
use Rattle.std.proofs.Common.{◌≡◌, ℕ, suc, ◌+◌, ◌<◌, ◌==◌, nat_lt, Bool, true, false, cond, ℤ, List, [], ◌∷◌, length, map, filter, get_or, sum_by, refl, sym, ap, ◌∙◌, arith, eq-eqb}
use Rattle.std.specs.Prelude.{nat_le}
use Rattle.std.specs.List.{AllByRecursion}
use Rattle.std.proofs.lemmas.Bool.{ne_eqb, leb-true}
use Rattle.std.proofs.lemmas.List.{length-map}
use Rattle.std.proofs.lemmas.List.Sums.{sum_by-append}
use Rattle.hamming_model.specs.declared.hit.Hit.{Hit}
use Rattle.hamming_model.specs.Codes.{IsCode, distance}
use Rattle.hamming_model.specs.Layouts.{IsLayout, part_distance}
use Rattle.hamming_model.specs.Scan.{hit_of, hits_within, in_order, scan}
use Rattle.hamming_model.specs.Order.{is_same_hit}
use Rattle.hamming_model.specs.Stored.{AreCodeRows}
use Rattle.hamming_model.proofs.OrderLemmas.{same_in_order}
use Rattle.threshold_model.specs.Vectors.{IsVector, units_of}
use Rattle.threshold_model.specs.Finding.{part_distances, first_part, threshold_at}
use Rattle.threshold_model.proofs.FindingLemmas.{near_code_found}
use Rattle.ball_walk.proofs.SumLemmas.{sum_same, sum_plus, sum_filter}
use Rattle.search_model.specs.Reading.{HasSame, IsReading, rows_found}
use Rattle.search_model.specs.Keeping.{is_kept, hits_kept, hits_of_parts}
use Rattle.search_model.proofs.SameLemmas.{sum_map, sum_none, sum_agrees, both_let}

-- what the parts from one on keep of a row: its amount at its place, where the part there finds the row
abbrev pub kept_amount : List ℕ → List ℕ → ℕ → ℕ → ℕ → ℕ
kept_amount [] distances part place amount = 0
kept_amount (u ∷ us) [] part place amount = 0
kept_amount (u ∷ us) (d ∷ ds) part place amount = cond (nat_lt d u) (cond (place == part) amount 0) 0 + kept_amount us ds (part + 1) place amount

none_let : (found here : Bool) (amount : ℕ) → here ≡ false → cond {A = ℕ} found (cond here amount 0) 0 ≡ 0
none_let true here amount e = rw e refl
none_let false here amount e = refl

zero_let : (found here : Bool) → cond {A = ℕ} found (cond here 0 0) 0 ≡ 0
zero_let true true = refl
zero_let true false = refl
zero_let false here = refl

-- the parts after a row's place keep nothing of it
pub kept_before : (us ds : List ℕ) (part place amount : ℕ) → place < part → kept_amount us ds part place amount ≡ 0
kept_before [] ds part place amount less = refl
kept_before (u ∷ us) [] part place amount less = refl
kept_before (u ∷ us) (d ∷ ds) part place amount less =
    let here = none_let (nat_lt d u) (place == part) amount (ne_eqb place part (λ (e : place ≡ part). omega arith)) in
    let rest = kept_before us ds (part + 1) place amount (omega arith) in
    omega arith

-- nothing is kept of nothing
pub kept_nothing : (us ds : List ℕ) (part place : ℕ) → kept_amount us ds part place 0 ≡ 0
kept_nothing [] ds part place = refl
kept_nothing (u ∷ us) [] part place = refl
kept_nothing (u ∷ us) (d ∷ ds) part place =
    let here = zero_let (nat_lt d u) (place == part) in
    let rest = kept_nothing us ds (part + 1) place in
    omega arith

-- a row whose place is the first part that finds it is kept once
pub kept_once : (us ds : List ℕ) (part place amount : ℕ) → length us ≡ length ds → first_part us ds < length us
    → place ≡ part + first_part us ds → kept_amount us ds part place amount ≡ amount
kept_once [] ds part place amount size within at = absurd (omega arith)
kept_once (u ∷ us) [] part place amount size within at = absurd (omega arith)
kept_once (u ∷ us) (d ∷ ds) part place amount size within at =
    go (λ less e. kept_once us ds (part + 1) place amount (omega arith) less e) (nat_lt d u) within at
  where
    go : (first_part us ds < length us → place ≡ part + 1 + first_part us ds → kept_amount us ds (part + 1) place amount ≡ amount)
        → (found : Bool) → cond found 0 (first_part us ds + 1) < suc (length us) → place ≡ part + cond found 0 (first_part us ds + 1)
        → cond found (cond (place == part) amount 0) 0 + kept_amount us ds (part + 1) place amount ≡ amount
    go later true less e =
        let here : cond (place == part) amount 0 ≡ amount = rw (eq-eqb place part (omega arith)) refl in
        let rest = kept_before us ds (part + 1) place amount (omega arith) in
        omega arith
    go later false less e =
        let rest = later (omega arith) (omega arith) in
        omega arith

-- the parts of a vector keep a code within tau once, and no other
pub code_kept : (bits tau amount : ℕ) (layout : List (List ℕ)) (thresholds : List ℤ) (code query : List ℕ) → IsLayout bits layout
    → IsCode bits code → IsCode bits query → IsVector tau (length layout) thresholds
    → kept_amount (map units_of thresholds) (part_distances layout code query) 0
    (first_part (map units_of thresholds) (part_distances layout code query)) (cond (nat_le (distance code query) tau) amount 0)
    ≡ cond (nat_le (distance code query) tau) amount 0
code_kept bits tau amount layout thresholds code query lay is_code is_query vector = go (nat_le (distance code query) tau) refl
  where
    us : List ℕ
    us = map units_of thresholds

    ds : List ℕ
    ds = part_distances layout code query

    go : (near : Bool) → nat_le (distance code query) tau ≡ near → kept_amount us ds 0 (first_part us ds) (cond near amount 0) ≡ cond near amount 0
    go true e =
        let found = near_code_found bits tau layout thresholds code query lay is_code is_query vector (leb-true (distance code query) tau e) in
        let parts : length (part_distances layout code query) ≡ length layout = length-map layout (λ part. part_distance part code query) in
        let units : length (map units_of thresholds) ≡ length layout = length-map thresholds units_of ∙ vector.size in
        let within = found.within in
        kept_once us ds 0 (first_part us ds) amount (units ∙ sym parts) (omega arith) (omega arith)
    go false e = kept_nothing us ds 0 (first_part us ds)

-- what a row is worth: where it is within tau, what its hit is
abbrev pub worth : (Hit → ℕ) → List ℕ → ℕ → ℕ × List ℕ → ℕ
worth f query tau row = cond (nat_le (distance row.1 query) tau) (f (hit_of query row)) 0

-- the first part that finds a row
abbrev pub place_of : List (List ℕ) → List ℤ → List ℕ → ℕ × List ℕ → ℕ
place_of layout thresholds query row = first_part (map units_of thresholds) (part_distances layout row.1 query)

module _ (layout : List (List ℕ)) (thresholds : List ℤ) (query : List ℕ) (tau : ℕ) where
  sum_of_part : (f : Hit → ℕ) (part : ℕ) (rows : List (ℕ × List ℕ))
      → sum_by f (hits_kept layout thresholds query tau part rows)
      ≡ sum_by (λ row. cond (place_of layout thresholds query row == part) (worth f query tau row) 0) rows
  sum_of_part f part rows =
      sum_map f (hit_of query) (filter (is_kept layout thresholds query tau part) rows)
      ∙ sum_filter (λ row. f (hit_of query row)) (is_kept layout thresholds query tau part) rows
      ∙ sum_same (λ row. cond (is_kept layout thresholds query tau part row) (f (hit_of query row)) 0)
      (λ row. cond (place_of layout thresholds query row == part) (worth f query tau row) 0)
      (λ row. both_let (nat_le (distance row.1 query) tau) (place_of layout thresholds query row == part) (f (hit_of query row))) rows

  -- what the parts from one on keep, row by row
  pub sum_of_parts : (f : Hit → ℕ) (rows : List (ℕ × List ℕ)) (parts : List (List ℕ)) (ts : List ℤ) (read : List (List (ℕ × List ℕ))) (number : ℕ)
      → length ts ≡ length parts → length read ≡ length parts
      → ((part : ℕ) → part < length parts → HasSame (get_or read part []) (rows_found rows (get_or parts part []) query (units_of (threshold_at ts part))))
      → sum_by f (hits_of_parts layout thresholds query tau number read)
      ≡ sum_by
      (λ row. kept_amount (map units_of ts) (part_distances parts row.1 query) number (place_of layout thresholds query row)
      (worth f query tau row)) rows
  sum_of_parts f rows [] [] [] number size long each = sym (sum_none rows)
  sum_of_parts f rows [] [] (found ∷ read) number size long each = absurd (omega arith)
  sum_of_parts f rows [] (t ∷ ts) read number size long each = absurd (omega arith)
  sum_of_parts f rows (part ∷ parts) [] read number size long each = absurd (omega arith)
  sum_of_parts f rows (part ∷ parts) (t ∷ ts) [] number size long each = absurd (omega arith)
  sum_of_parts f rows (part ∷ parts) (t ∷ ts) (found ∷ read) number size long each =
      let at : ℕ × List ℕ → ℕ = λ row. cond (place_of layout thresholds query row == number) (worth f query tau row) 0 in
      let here : ℕ × List ℕ → ℕ = λ row. cond (nat_lt (part_distance part row.1 query) (units_of t)) (at row) 0 in
      let later : ℕ × List ℕ → ℕ = λ row. kept_amount (map units_of ts) (part_distances parts row.1 query) (number + 1)
      (place_of layout thresholds query row) (worth f query tau row) in
      let joined = sum_by-append f (hits_kept layout thresholds query tau number found) (hits_of_parts layout thresholds query tau (number + 1) read) in
      let first = sum_of_part f number found in
      let same = (each 0 (omega arith)).sums at in
      let kept = sum_filter at (λ row. nat_lt (part_distance part row.1 query) (units_of t)) rows in
      let rest = sum_of_parts f rows parts ts read (number + 1) (omega arith) (omega arith) (λ k less. each (suc k) (omega arith)) in
      let both = sum_plus here later rows in
      joined ∙ ap (λ n. n + sum_by f (hits_of_parts layout thresholds query tau (number + 1) read)) (first ∙ same ∙ kept)
      ∙ ap (λ n. sum_by here rows + n) rest ∙ sym both

  worth_kept : (bits : ℕ) (f : Hit → ℕ) (rows : List (ℕ × List ℕ)) → IsLayout bits layout → AreCodeRows bits rows
      → IsCode bits query → IsVector tau (length layout) thresholds
      → AllByRecursion
      (λ row. kept_amount (map units_of thresholds) (part_distances layout row.1 query) 0 (place_of layout thresholds query row)
      (worth f query tau row) ≡ worth f query tau row) rows
  worth_kept bits f [] lay codes is_query vector = tt
  worth_kept bits f (row ∷ rows) lay codes is_query vector =
      (code_kept bits tau (f (hit_of query row)) layout thresholds row.1 query lay codes.0 is_query vector, worth_kept bits f rows lay codes.1 is_query vector)

  -- what the near rows are worth
  sum_within : (f : Hit → ℕ) (rows : List (ℕ × List ℕ)) → sum_by f (hits_within rows query tau) ≡ sum_by (worth f query tau) rows
  sum_within f rows =
      sum_filter f (λ hit. nat_le hit.dist tau) (map (hit_of query) rows) ∙ sum_map (λ hit. cond (nat_le hit.dist tau) (f hit) 0) (hit_of query) rows

  -- the hits kept, in order, are the scan
  pub kept_is_scan : (bits : ℕ) (rows : List (ℕ × List ℕ)) (read : List (List (ℕ × List ℕ))) → IsLayout bits layout → AreCodeRows bits rows → IsCode bits query
      → IsVector tau (length layout) thresholds → IsReading rows layout thresholds query read
      → in_order (hits_of_parts layout thresholds query tau 0 read) ≡ scan rows query tau
  kept_is_scan bits rows read lay codes is_query vector reading =
      same_in_order (hits_of_parts layout thresholds query tau 0 read) (hits_within rows query tau) (λ hit. sums (λ other. cond (is_same_hit hit other) 1 0))
    where
      sums : (f : Hit → ℕ) → sum_by f (hits_of_parts layout thresholds query tau 0 read) ≡ sum_by f (hits_within rows query tau)
      sums f =
          sum_of_parts f rows layout thresholds read 0 vector.size reading.size reading.each
          ∙ sum_agrees
          (λ row. kept_amount (map units_of thresholds) (part_distances layout row.1 query) 0
          (place_of layout thresholds query row) (worth f query tau row)) (worth f query tau) rows
          (worth_kept bits f rows lay codes is_query vector)
          ∙ sym (sum_within f rows)
