-- Codes that are kept with zeros after them are, to the parts of a layout, the codes.
use Rattle.std.proofs.Common.{◌≡◌, ℕ, ◌-◌, ◌*◌, ◌<◌, ◌==◌, ◌&&◌, ℤ, List, [], ◌∷◌, length, map, replicate, take, get_or, All, refl, sym, ap, ◌∙◌, arith}
use Rattle.std.specs.Prelude.{nat_le}
use Rattle.std.specs.Int.Digits.{number_from_digits}
use Rattle.std.specs.List.{flat_map, AllByRecursion}
use Rattle.std.proofs.lemmas.List.{get_or_append_left, take-append-le, take_all}
use Rattle.std.proofs.lemmas.List.Elements.{recursion_from_All}
use Rattle.hamming_model.specs.declared.hit.Hit.{Hit}
use Rattle.hamming_model.specs.Codes.{StandsFor, distance, padded}
use Rattle.hamming_model.specs.Layouts.{IsLayout, bits_at, part_value, part_distance}
use Rattle.hamming_model.specs.Scan.{hit_of}
use Rattle.hamming_model.specs.Stored.{stored_rows, AreCodeRows}
use Rattle.hamming_model.proofs.RowLemmas.{distance_of_padded}
use Rattle.threshold_model.specs.Vectors.{units_of}
use Rattle.threshold_model.specs.Finding.{part_distances, first_part}
use Rattle.search_model.specs.Reading.{unpadded}
use Rattle.search_model.specs.Keeping.{is_kept}
use Rattle.search_model.proofs.SameLemmas.{all_front, all_back}

-- the bits of a stored code are the code
pub stored_taken : (words bits : ℕ) (stored code : List ℕ) → StandsFor words bits stored code → take bits stored ≡ code
stored_taken words bits stored code stands =
    let size = stands.is_code.size in
    ap (take bits) stands.is_padded ∙ take-append-le bits code (replicate (64 * words - length code) 0) (omega arith) ∙ take_all bits code (omega arith)

-- stored rows without their zeros are the rows
pub stored_rows_taken : (bits positions : ℕ) (rows : List (ℕ × List ℕ)) → AreCodeRows bits rows → map (unpadded bits) (stored_rows positions rows) ≡ rows
stored_rows_taken bits positions [] codes = refl
stored_rows_taken bits positions (row ∷ rows) codes =
    let size = codes.0.size in
    let taken = take-append-le bits row.1 (replicate (positions - length row.1) 0) (omega arith) ∙ take_all bits row.1 (omega arith) in
    ap (λ code. (row.0, code) ∷ map (unpadded bits) (stored_rows positions rows)) taken ∙ ap (λ others. row ∷ others)
    (stored_rows_taken bits positions rows codes.1)

bits_alike : (words bits : ℕ) (stored code part : List ℕ) → StandsFor words bits stored code
    → AllByRecursion (λ position. position < bits) part → bits_at stored part ≡ bits_at code part
bits_alike words bits stored code [] stands all = refl
bits_alike words bits stored code (position ∷ part) stands all =
    let size = stands.is_code.size in
    let here = ap (λ bits. get_or bits position 0) stands.is_padded
    ∙ get_or_append_left code (replicate (64 * words - length code) 0) 0 position (omega (arith, all.0)) in
    ap (λ bit. bit ∷ bits_at stored part) here ∙ ap (λ others. get_or code position 0 ∷ others) (bits_alike words bits stored code part stands all.1)

-- a stored code has the code's value at a part
pub stored_value : (words bits : ℕ) (stored code part : List ℕ) → StandsFor words bits stored code
    → All (λ position. position < bits) part → part_value stored part ≡ part_value code part
stored_value words bits stored code part stands all =
    ap (number_from_digits 2) (bits_alike words bits stored code part stands (recursion_from_All (λ position. position < bits) part all))

apart_alike : (words bits : ℕ) (stored other code query part : List ℕ) → StandsFor words bits stored code
    → StandsFor words bits other query → AllByRecursion (λ position. position < bits) part
    → part_distance part stored other ≡ part_distance part code query
apart_alike words bits stored other code query part stands stands_other all =
    ap (λ one. distance one (bits_at other part)) (bits_alike words bits stored code part stands all)
    ∙ ap (distance (bits_at code part)) (bits_alike words bits other query part stands_other all)

-- two stored codes are as far apart at a part as the codes
pub stored_apart : (words bits : ℕ) (stored other code query part : List ℕ) → StandsFor words bits stored code
    → StandsFor words bits other query → All (λ position. position < bits) part
    → part_distance part stored other ≡ part_distance part code query
stored_apart words bits stored other code query part stands stands_other all =
    apart_alike words bits stored other code query part stands stands_other (recursion_from_All (λ position. position < bits) part all)

parts_alike : (words bits : ℕ) (layout : List (List ℕ)) (stored other code query : List ℕ)
    → AllByRecursion (λ position. position < bits) (flat_map (λ part. part) layout)
    → StandsFor words bits stored code → StandsFor words bits other query → part_distances layout stored other ≡ part_distances layout code query
parts_alike words bits [] stored other code query all stands stands_other = refl
parts_alike words bits (part ∷ layout) stored other code query all stands stands_other =
    let here = apart_alike words bits stored other code query part stands stands_other
    (all_front (λ position. position < bits) part (flat_map (λ others. others) layout) all) in
    let rest = parts_alike words bits layout stored other code query
    (all_back (λ position. position < bits) part (flat_map (λ others. others) layout) all) stands stands_other in
    ap (λ n. n ∷ part_distances layout stored other) here ∙ ap (λ ns. part_distance part code query ∷ ns) rest

-- and so at each part of a layout
pub stored_parts : (words bits : ℕ) (layout : List (List ℕ)) (stored other code query : List ℕ) → IsLayout bits layout
    → StandsFor words bits stored code → StandsFor words bits other query
    → part_distances layout stored other ≡ part_distances layout code query
stored_parts words bits layout stored other code query lay stands stands_other =
    parts_alike words bits layout stored other code query
    (recursion_from_All (λ position. position < bits) (flat_map (λ part. part) layout) lay.in_range) stands stands_other

-- two stored codes are as far apart as the codes
pub stored_distance : (words bits : ℕ) (stored other code query : List ℕ) → StandsFor words bits stored code
    → StandsFor words bits other query → distance stored other ≡ distance code query
stored_distance words bits stored other code query stands stands_other =
    ap (λ one. distance one other) stands.is_padded ∙ ap (distance (padded (64 * words) code)) stands_other.is_padded
    ∙ distance_of_padded (64 * words) code query (stands.is_code.size ∙ sym stands_other.is_code.size)

module _ (words bits : ℕ) (row : ℕ × List ℕ) (other code query : List ℕ) (stands : StandsFor words bits row.1 code)
    (stands_other : StandsFor words bits other query) where
  near_alike : distance row.1 other ≡ distance (take bits row.1) query
  near_alike = stored_distance words bits row.1 other code query stands stands_other ∙ ap (λ one. distance one query)
      (sym (stored_taken words bits row.1 code stands))

  -- a row with a stored code is kept where the row is
  pub stored_kept : (tau part : ℕ) (layout : List (List ℕ)) (thresholds : List ℤ) → IsLayout bits layout
      → is_kept layout thresholds other tau part row ≡ is_kept layout thresholds query tau part (unpadded bits row)
  stored_kept tau part layout thresholds lay =
      let parts = stored_parts words bits layout row.1 other code query lay stands stands_other
      ∙ ap (λ one. part_distances layout one query) (sym (stored_taken words bits row.1 code stands)) in
      ap (λ n. nat_le n tau && (first_part (map units_of thresholds) (part_distances layout row.1 other) == part)) near_alike
      ∙ ap (λ ns. nat_le (distance (take bits row.1) query) tau && (first_part (map units_of thresholds) ns == part)) parts

  -- and is the same hit
  pub stored_hit : hit_of other row ≡ hit_of query (unpadded bits row)
  stored_hit = ap (λ (n : ℕ). let hit : Hit = record { dist = n; key = row.0 } in hit) near_alike
