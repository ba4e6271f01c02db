-- How many rows are read, and how many hits are kept of them.
use Rattle.std.proofs.Common.{◌≡◌, ℕ, suc, ◌+◌, ◌<◌, ◌≤◌, ℤ, List, [], ◌∷◌, length, filter, get_or, refl, sym, ap, ◌∙◌, arith, length-append}
use Rattle.std.proofs.lemmas.List.{length-map}
use Rattle.std.proofs.lemmas.List.Sums.{length-filter, count_by-le-length}
use Rattle.hamming_model.specs.Layouts.{part_count}
use Rattle.hamming_model.specs.Scan.{hit_of}
use Rattle.threshold_model.specs.Vectors.{units_of, cost_from, cost, row_counts}
use Rattle.threshold_model.specs.Finding.{threshold_at}
use Rattle.search_model.specs.Reading.{HasSame, IsReading, rows_found, number_read}
use Rattle.search_model.specs.Keeping.{is_kept, hits_kept, hits_of_parts}
use Rattle.search_model.proofs.PostingLemmas.{number_found}

-- what the parts from one on read is their cost
pub read_from : (count : ℕ → ℕ → ℕ) (rows : List (ℕ × List ℕ)) (query : List ℕ) (parts : List (List ℕ)) (ts : List ℤ)
    (read : List (List (ℕ × List ℕ))) (number : ℕ)
    → length ts ≡ length parts → length read ≡ length parts
    → ((part : ℕ) → part < length parts → HasSame (get_or read part []) (rows_found rows (get_or parts part []) query (units_of (threshold_at ts part))))
    → ((part place units : ℕ) → place ≡ number + part → part < length parts → count place units ≡ part_count rows (get_or parts part []) query units)
    → number_read read ≡ cost_from count number ts
read_from count rows query [] [] [] number size long each counts = refl
read_from count rows query [] [] (found ∷ read) number size long each counts = absurd (omega arith)
read_from count rows query [] (t ∷ ts) read number size long each counts = absurd (omega arith)
read_from count rows query (part ∷ parts) [] read number size long each counts = absurd (omega arith)
read_from count rows query (part ∷ parts) (t ∷ ts) [] number size long each counts = absurd (omega arith)
read_from count rows query (part ∷ parts) (t ∷ ts) (found ∷ read) number size long each counts =
    let here = number_found found rows part query (units_of t) (each 0 (omega arith)) in
    let counted = counts 0 number (units_of t) (omega arith) (omega arith) in
    let rest = read_from count rows query parts ts read (number + 1) (omega arith) (omega arith) (λ k less. each (suc k) (omega arith))
    (λ k place units at less. counts (suc k) place units (omega arith) (omega arith)) in
    ap (λ n. n + number_read read) (here ∙ sym counted) ∙ ap (λ n. count number (units_of t) + n) rest

counts_at : (rows : List (ℕ × List ℕ)) (layout : List (List ℕ)) (query : List ℕ) (part place units : ℕ) → place ≡ 0 + part → part < length layout
    → row_counts rows layout query place units ≡ part_count rows (get_or layout part []) query units
counts_at rows layout query part place units at less =
    let same : place ≡ part = omega arith in
    ap (λ n. part_count rows (get_or layout n []) query units) same

-- as many rows are read as the thresholds cost
pub read_is_cost : (rows : List (ℕ × List ℕ)) (layout : List (List ℕ)) (thresholds : List ℤ) (query : List ℕ)
    (read : List (List (ℕ × List ℕ))) → length thresholds ≡ length layout
    → IsReading rows layout thresholds query read → number_read read ≡ cost (row_counts rows layout query) thresholds
read_is_cost rows layout thresholds query read size reading =
    read_from (row_counts rows layout query) rows query layout thresholds read 0 size reading.size reading.each (counts_at rows layout query)

-- a part keeps no more hits than it reads rows
pub few_of_part : (layout : List (List ℕ)) (thresholds : List ℤ) (query : List ℕ) (tau part : ℕ) (rows : List (ℕ × List ℕ))
    → length (hits_kept layout thresholds query tau part rows) ≤ length rows
few_of_part layout thresholds query tau part rows =
    let mapped = length-map (filter (is_kept layout thresholds query tau part) rows) (hit_of query) in
    let filtered = length-filter (is_kept layout thresholds query tau part) rows in
    let few = count_by-le-length (is_kept layout thresholds query tau part) rows in
    omega arith

-- and so do the parts
pub few_of_parts : (layout : List (List ℕ)) (thresholds : List ℤ) (query : List ℕ) (tau part : ℕ) (read : List (List (ℕ × List ℕ)))
    → length (hits_of_parts layout thresholds query tau part read) ≤ number_read read
few_of_parts layout thresholds query tau part [] = omega arith
few_of_parts layout thresholds query tau part (rows ∷ read) =
    let joined = length-append (hits_kept layout thresholds query tau part rows) (hits_of_parts layout thresholds query tau (part + 1) read) in
    let here = few_of_part layout thresholds query tau part rows in
    let rest = few_of_parts layout thresholds query tau (part + 1) read in
    omega arith
