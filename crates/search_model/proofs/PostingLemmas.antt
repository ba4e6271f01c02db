-- The postings of a ball are the rows that a part finds.
use Rattle.std.proofs.Common.{◌≡◌, ◌≢◌, ℕ, zero, suc, ◌+◌, ◌^◌, ◌<◌, ◌==◌, nat_lt, Bool, true, false, cond, ℤ, List, [], ◌∷◌, length, filter, get_or, sum_by, refl, sym, ap, ◌∙◌, arith, eq-eqb}
use Rattle.std.specs.List.{range_with_len, AllByRecursion}
use Rattle.std.proofs.lemmas.Bool.{ne_eqb}
use Rattle.std.proofs.lemmas.List.{length-map}
use Rattle.std.proofs.lemmas.List.Sums.{length-filter}
use Rattle.std.proofs.lemmas.List.Elements.{recursion_from_All, All-weaker}
use Rattle.hamming_model.specs.Codes.{IsCode}
use Rattle.hamming_model.specs.Layouts.{bits_at, part_value, part_distance, part_count}
use Rattle.hamming_model.specs.Stored.{AreCodeRows}
use Rattle.threshold_model.specs.Vectors.{units_of}
use Rattle.threshold_model.specs.Finding.{threshold_at}
use Rattle.ball_walk.specs.Balls.{values, ball, is_near, values_near}
use Rattle.ball_walk.proofs.BallLemmas.{ball_sum, near_below}
use Rattle.ball_walk.proofs.DigitLemmas.{distance_codes, number_below}
use Rattle.ball_walk.proofs.SumLemmas.{sum_same, sum_plus, sum_filter, sum_zeros, sum_one}
use Rattle.search_model.specs.Reading.{HasSame, AreLists, rows_found, rows_with, rows_read, parts_read}
use Rattle.search_model.proofs.SameLemmas.{sum_flat_map, sum_agrees, sum_kept, same_length}

zero_either : (keep : Bool) → cond {A = ℕ} keep 0 0 ≡ 0
zero_either true = refl
zero_either false = refl

both_or_none : (keep : Bool) (a b : ℕ) → cond keep (a + b) 0 ≡ cond keep a 0 + cond keep b 0
both_or_none true a b = refl
both_or_none false a b = refl

other_value : (test : ℕ → Bool) (amount one v : ℕ) → v ≢ one → cond {A = ℕ} (test v) (cond (one == v) amount 0) 0 ≡ 0
other_value test amount one v other =
    let no_match : (one == v) ≡ false = ne_eqb one v (λ (e : one ≡ v). other (sym e)) in
    rw no_match (zero_either (test v))

-- what is added up over the elements with a value, added up over the values below a bound that pass a test, is what is added up over
-- the elements whose value passes
pub sum_elements : {X : Type 0} (f value : X → ℕ) (test : ℕ → Bool) (bound : ℕ) (xs : List X) → AllByRecursion (λ x. value x < bound) xs
    → sum_by (λ v. sum_by f (filter (λ x. value x == v) xs)) (filter test (range_with_len 0 bound)) ≡ sum_by f (filter (λ x. test (value x)) xs)
sum_elements f value test bound [] below =
    sum_filter (λ v. 0) test (range_with_len 0 bound) ∙ sum_zeros (λ v. cond (test v) 0 0) 0 bound (λ v h. zero_either (test v))
sum_elements f value test bound (x ∷ xs) below =
    let full : ℕ → ℕ = λ v. sum_by f (filter (λ y. value y == v) (x ∷ xs)) in
    let later : ℕ → ℕ = λ v. sum_by f (filter (λ y. value y == v) xs) in
    let here : ℕ → ℕ = λ v. cond (test v) (cond (value x == v) (f x) 0) 0 in
    let rest = sum_elements f value test bound xs below.1 in
    let all = sum_filter full test (range_with_len 0 bound) in
    let kept = sum_filter later test (range_with_len 0 bound) in
    let apart = sum_same (λ v. cond (test v) (full v) 0) (λ v. here v + cond (test v) (later v) 0)
    (λ v. ap (λ n. cond (test v) n 0) (sum_kept f (value x == v) x (filter (λ y. value y == v) xs))
    ∙ both_or_none (test v) (cond (value x == v) (f x) 0) (later v))
    (range_with_len 0 bound) in
    let both = sum_plus here (λ v. cond (test v) (later v) 0) (range_with_len 0 bound) in
    let one = sum_one here (value x) 0 bound (other_value test (f x) (value x)) (omega arith) (omega (arith, below.0)) in
    let at : here (value x) ≡ cond (test (value x)) (f x) 0 = rw (eq-eqb (value x) (value x) refl) refl in
    let found = sum_kept f (test (value x)) x (filter (λ y. test (value y)) xs) in
    all ∙ apart ∙ both ∙ ap (λ n. n + sum_by (λ v. cond (test v) (later v) 0) (range_with_len 0 bound)) (one ∙ at)
    ∙ ap (λ n. cond (test (value x)) (f x) 0 + n) (sym kept ∙ rest) ∙ sym found

bit_small : (code : List ℕ) (position : ℕ) → AllByRecursion (λ bit. bit < 2) code → get_or code position 0 < 2
bit_small [] position all = omega arith
bit_small (bit ∷ code) zero all = all.0
bit_small (bit ∷ code) (suc position) all = bit_small code position all.1

bits_small : (code part : List ℕ) → AllByRecursion (λ bit. bit < 2) code → AllByRecursion (λ bit. bit < 2) (bits_at code part)
bits_small code [] all = tt
bits_small code (position ∷ part) all = (bit_small code position all, bits_small code part all)

-- the bits of a code at a part are a code
pub part_is_code : (bits : ℕ) (code part : List ℕ) → IsCode bits code → IsCode (length part) (bits_at code part)
part_is_code bits code part is_code =
    record { size = length-map part (λ position. get_or code position 0); binary = bits_small code part is_code.binary }

-- the value of a code at a part is below the bound of its width
pub value_below : (bits : ℕ) (code part : List ℕ) → IsCode bits code → part_value code part < 2 ^ length part
value_below bits code part is_code = number_below (length part) (bits_at code part) (part_is_code bits code part is_code)

values_below : (bits : ℕ) (rows : List (ℕ × List ℕ)) (part : List ℕ) → AreCodeRows bits rows
    → AllByRecursion (λ row. part_value row.1 part < 2 ^ length part) rows
values_below bits [] part codes = tt
values_below bits (row ∷ rows) part codes = (value_below bits row.1 part codes.0, values_below bits rows part codes.1)

-- a value is near where the code is near at the part
pub near_at_part : (bits units : ℕ) (code query part : List ℕ) → IsCode bits code → IsCode bits query
    → is_near (part_value query part) units (part_value code part) ≡ nat_lt (part_distance part code query) units
unfolding is_near
near_at_part bits units code query part is_code is_query =
    ap (λ n. nat_lt n units)
    (distance_codes (length part) (bits_at code part) (bits_at query part) (part_is_code bits code part is_code)
    (part_is_code bits query part is_query))

near_rows : (bits units : ℕ) (rows : List (ℕ × List ℕ)) (part query : List ℕ) → AreCodeRows bits rows → IsCode bits query
    → filter (λ row. is_near (part_value query part) units (part_value row.1 part)) rows ≡ rows_found rows part query units
near_rows bits units [] part query codes is_query = refl
near_rows bits units (row ∷ rows) part query codes is_query =
    let near : ℕ × List ℕ → Bool = λ other. is_near (part_value query part) units (part_value other.1 part) in
    ap (λ keep. cond keep (row ∷ filter near rows) (filter near rows)) (near_at_part bits units row.1 query part codes.0 is_query)
    ∙ ap (λ others. cond (nat_lt (part_distance part row.1 query) units) (row ∷ others) others) (near_rows bits units rows part query codes.1 is_query)

value_sum : (units : ℕ) (rows : List (ℕ × List ℕ)) (part : List ℕ) (value : ℕ) (f : ℕ × List ℕ → ℕ)
    → AllByRecursion (λ row. part_value row.1 part < 2 ^ length part) rows
    → sum_by (λ v. sum_by f (rows_with rows part v)) (values_near value (length part) units)
    ≡ sum_by f (filter (λ row. is_near value units (part_value row.1 part)) rows)
unfolding values_near values
value_sum units rows part value f below = sum_elements f (λ row. part_value row.1 part) (is_near value units) (2 ^ length part) rows below

-- the postings of a ball are the rows that the part finds
pub ball_reads : (bits units : ℕ) (rows : List (ℕ × List ℕ)) (part query : List ℕ) (lists : ℕ → List (ℕ × List ℕ)) → AreCodeRows bits rows → IsCode bits query
    → AreLists rows part lists → HasSame (rows_read lists part query units) (rows_found rows part query units)
ball_reads bits units rows part query lists codes is_query are_lists = record { sums = sums }
  where
    value : ℕ
    value = part_value query part

    sums : (f : ℕ × List ℕ → ℕ) → sum_by f (rows_read lists part query units) ≡ sum_by f (rows_found rows part query units)
    sums f =
        let listed = λ (v : ℕ). sum_by f (lists v) in
        let of_rows = λ (v : ℕ). sum_by f (rows_with rows part v) in
        let each = All-weaker (λ v. v < 2 ^ length part) (λ v. listed v ≡ of_rows v) (λ v below. (are_lists.each v below).sums f)
        (values_near value (length part) units) (near_below value (length part) units) in
        sum_flat_map f lists (ball value (length part) units)
        ∙ ball_sum listed value (length part) units
        ∙ sum_agrees listed of_rows (values_near value (length part) units)
        (recursion_from_All (λ v. listed v ≡ of_rows v) (values_near value (length part) units) each)
        ∙ value_sum units rows part value f (values_below bits rows part codes)
        ∙ ap (sum_by f) (near_rows bits units rows part query codes is_query)

-- as many rows are read as the part counts
pub number_found : (read rows : List (ℕ × List ℕ)) (part query : List ℕ) (units : ℕ)
    → HasSame read (rows_found rows part query units) → length read ≡ part_count rows part query units
number_found read rows part query units same =
    same_length read (rows_found rows part query units) same ∙ length-filter (λ row. nat_lt (part_distance part row.1 query) units) rows

-- a list for each part
pub parts_read_size : (lists : ℕ → ℕ → List (ℕ × List ℕ)) (number : ℕ) (layout : List (List ℕ)) (thresholds : List ℤ) (query : List ℕ)
    → length thresholds ≡ length layout → length (parts_read lists number layout thresholds query) ≡ length layout
parts_read_size lists number [] ts query size = refl
parts_read_size lists number (part ∷ layout) [] query size = absurd (omega arith)
parts_read_size lists number (part ∷ layout) (t ∷ ts) query size = ap suc (parts_read_size lists (number + 1) layout ts query (omega arith))

-- each part reads what it finds
pub parts_read_each : (bits : ℕ) (rows : List (ℕ × List ℕ)) (query : List ℕ) (lists : ℕ → ℕ → List (ℕ × List ℕ)) → AreCodeRows bits rows → IsCode bits query
    → (number : ℕ) (layout : List (List ℕ)) (ts : List ℤ) → length ts ≡ length layout
    → ((part place : ℕ) → place ≡ number + part → part < length layout → AreLists rows (get_or layout part []) (lists place))
    → (part : ℕ) → part < length layout
    → HasSame (get_or (parts_read lists number layout ts query) part []) (rows_found rows (get_or layout part []) query (units_of (threshold_at ts part)))
parts_read_each bits rows query lists codes is_query number [] ts size each part within = absurd (omega arith)
parts_read_each bits rows query lists codes is_query number (positions ∷ layout) [] size each part within = absurd (omega arith)
parts_read_each bits rows query lists codes is_query number (positions ∷ layout) (t ∷ ts) size each zero within =
    ball_reads bits (units_of t) rows positions query (lists number) codes is_query (each zero number (omega arith) (omega arith))
parts_read_each bits rows query lists codes is_query number (positions ∷ layout) (t ∷ ts) size each (suc part) within =
    parts_read_each bits rows query lists codes is_query (number + 1) layout ts (omega arith)
    (λ k place at less. each (suc k) place (omega arith) (omega arith)) part (omega arith)
