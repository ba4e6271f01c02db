-- The general pigeonhole principle, and that it can't be one smaller.
use Rattle.std.proofs.Common.{◌≡◌, ℕ, zero, suc, ◌+◌, ◌<◌, ◌≤◌, ℤ, pos, negsuc, ◌≤ℤ◌, ◌<ℤ◌, List, [], ◌∷◌, length, map, get_or, sum, sym, refl, ap, ◌∙◌, subst, ⊎_elim, arith}
use Rattle.std.proofs.lemmas.Int.{ints}
use Rattle.std.proofs.lemmas.Bool.{cases_lt}
use Rattle.std.proofs.lemmas.Bool.Decides.{nat_tests}
use Rattle.std.proofs.lemmas.List.{length-map}
use Rattle.std.proofs.lemmas.List.Sums.{sum_by-cons}
use Rattle.hamming_model.specs.Codes.{IsCode, distance}
use Rattle.hamming_model.specs.Layouts.{IsLayout, part_distance}
use Rattle.threshold_model.specs.Vectors.{units_of, IsVector}
use Rattle.threshold_model.specs.Splits.{units_total}
use Rattle.threshold_model.specs.Finding.{part_distances, first_part, IsFirstBelow, threshold_at, IsFirstFound}
use Rattle.threshold_model.proofs.SplitLemmas.{split_of_vector}
use Rattle.threshold_model.proofs.PositionLemmas.{distance_is_sum}

pub units_sum : (us : List ℕ) → sum us ≡ units_total us
units_sum [] = refl
units_sum (u ∷ us) = sum_by-cons (λ x. x) u us ∙ ap (λ n. u + n) (units_sum us)

first_less : (u d : ℕ) (us ds : List ℕ) → d < u → first_part (u ∷ us) (d ∷ ds) ≡ 0
first_less u d us ds less = grind (arith, nat_tests)

first_later : (u d : ℕ) (us ds : List ℕ) → u ≤ d → first_part (u ∷ us) (d ∷ ds) ≡ first_part us ds + 1
first_later u d us ds le = grind (arith, nat_tests)

below_here : (u d : ℕ) (us ds : List ℕ) → d < u → IsFirstBelow (u ∷ us) (d ∷ ds) 0
below_here u d us ds less = record { within = omega arith; below = less; first = λ earlier lt. absurd (omega arith) }

earlier_all : (u d : ℕ) (us ds : List ℕ) (place : ℕ) → u ≤ d → ((k : ℕ) → k < place → get_or us k 0 ≤ get_or ds k 0) → (k : ℕ)
    → k < suc place → get_or (u ∷ us) k 0 ≤ get_or (d ∷ ds) k 0
earlier_all u d us ds place le first zero less = le
earlier_all u d us ds place le first (suc k) less = first k (omega arith)

below_later : (u d : ℕ) (us ds : List ℕ) (place : ℕ) → u ≤ d → IsFirstBelow us ds place → IsFirstBelow (u ∷ us) (d ∷ ds) (suc place)
below_later u d us ds place le h =
    let within = h.within in
    record { within = omega arith; below = h.below; first = earlier_all u d us ds place le h.first }

-- where the distances add up to less than the units, some place has fewer
pub some_below : (us ds : List ℕ) → length us ≡ length ds → units_total ds < units_total us → IsFirstBelow us ds (first_part us ds)
some_below [] [] size less = absurd (omega arith)
some_below [] (d ∷ ds) size less = absurd (omega arith)
some_below (u ∷ us) [] size less = absurd (omega arith)
some_below (u ∷ us) (d ∷ ds) size less =
    ⊎_elim (λ (lt : d < u). subst (IsFirstBelow (u ∷ us) (d ∷ ds)) (sym (first_less u d us ds lt)) (below_here u d us ds lt))
    (λ (le : u ≤ d). let more : first_part (u ∷ us) (d ∷ ds) ≡ suc (first_part us ds) = first_later u d us ds le ∙ omega arith in
    subst (IsFirstBelow (u ∷ us) (d ∷ ds)) (sym more) (below_later u d us ds (first_part us ds) le (some_below us ds (omega arith) (omega arith))))
    (cases_lt d u)

pub near_of_units : (d : ℕ) (t : ℤ) → d < units_of t → pos d ≤ℤ t
near_of_units d (pos n) less = omega (arith, ints)
near_of_units d (negsuc n) less = absurd (omega arith)

pub far_of_units : (d : ℕ) (t : ℤ) → units_of t ≤ d → t <ℤ pos d
far_of_units d (pos n) le = omega (arith, ints)
far_of_units d (negsuc n) le = omega (arith, ints)

pub units_of_near : (d : ℕ) (t : ℤ) → pos d ≤ℤ t → d < units_of t
units_of_near d (pos n) le = omega (arith, ints)
units_of_near d (negsuc n) le = omega (arith, ints)

pub units_at : (ts : List ℤ) (k : ℕ) → get_or (map units_of ts) k 0 ≡ units_of (threshold_at ts k)
units_at [] k = refl
units_at (t ∷ ts) zero = refl
units_at (t ∷ ts) (suc k) = units_at ts k

-- in thresholds
pub found_of_below : (ts : List ℤ) (ds : List ℕ) (place : ℕ) → length ts ≡ length ds → IsFirstBelow (map units_of ts) ds place → IsFirstFound ts ds place
found_of_below ts ds place size h =
    let within = h.within in
    record {
      within = omega (arith, length-map ts units_of);
      near = near_of_units (get_or ds place 0) (threshold_at ts place) (omega (arith, h.below, units_at ts place));
      first = λ k less. far_of_units (get_or ds k 0) (threshold_at ts k) (omega (arith, h.first k less, units_at ts k));
    }

pub near_code_found : (bits tau : ℕ) (layout : List (List ℕ)) (ts : List ℤ) (code query : List ℕ) → IsLayout bits layout → IsCode bits code → IsCode bits query
    → IsVector tau (length layout) ts → distance code query ≤ tau
    → IsFirstFound ts (part_distances layout code query) (first_part (map units_of ts) (part_distances layout code query))
near_code_found bits tau layout ts code query lay is_code is_query vector near =
    let split = split_of_vector tau (length layout) ts vector in
    let units : units_total (map units_of ts) ≡ tau + 1 = split.sum in
    let all = distance_is_sum bits layout code query lay is_code.size is_query.size in
    let same = units_sum (part_distances layout code query) in
    let parts : length (part_distances layout code query) ≡ length layout = length-map layout (λ part. part_distance part code query) in
    let sizes : length (map units_of ts) ≡ length (part_distances layout code query) = split.size ∙ sym parts in
    found_of_below ts (part_distances layout code query) (first_part (map units_of ts) (part_distances layout code query)) (vector.size ∙ sym parts)
    (some_below (map units_of ts) (part_distances layout code query) sizes (omega arith))
