-- A threshold vector with one added to each entry is a split of tau + 1 units, and the other way round.
use Rattle.std.proofs.Common.{◌≡◌, ℕ, zero, suc, ◌+◌, ◌<◌, inl, inr, ℤ, pos, negsuc, ◌+ℤ◌, ◌≤ℤ◌, ◌<ℤ◌, List, [], ◌∷◌, length, map, sym, refl, ap, ◌∙◌, arith}
use Rattle.std.specs.List.{AllByRecursion}
use Rattle.std.proofs.lemmas.Int.{ints}
use Rattle.std.proofs.lemmas.List.{length-map}
use Rattle.std.proofs.lemmas.List.Elements.{All-from_recursion, recursion_from_All}
use Rattle.threshold_model.specs.Vectors.{total, units_of, cost_from, ComesBefore, IsVector}
use Rattle.threshold_model.specs.Splits.{units_total, threshold_of, split_cost, StandsBefore, IsSplit}

-- each entry is at least -1
abbrev pub AreThresholds : List ℤ → Type 0
AreThresholds ts = AllByRecursion (λ threshold. negsuc 0 ≤ℤ threshold) ts

pub units_of_threshold : (units : ℕ) → units_of (threshold_of units) ≡ units
units_of_threshold zero = refl
units_of_threshold (suc n) = refl

pub threshold_is_low : (units : ℕ) → negsuc 0 ≤ℤ threshold_of units
threshold_is_low zero = omega (arith, ints)
threshold_is_low (suc n) = omega (arith, ints)

pub unit_more : (t : ℤ) → negsuc 0 ≤ℤ t → pos (units_of t) ≡ t +ℤ pos 1
unit_more (pos n) h = omega (arith, ints)
unit_more (negsuc zero) h = omega (arith, ints)
unit_more (negsuc (suc n)) h = omega (arith, ints)

pub units_all : (us : List ℕ) → map units_of (map threshold_of us) ≡ us
units_all [] = refl
units_all (u ∷ us) = cc (units_of_threshold u, units_all us)

pub thresholds_are_low : (us : List ℕ) → AreThresholds (map threshold_of us)
thresholds_are_low [] = tt
thresholds_are_low (u ∷ us) = (threshold_is_low u, thresholds_are_low us)

pub total_units : (ts : List ℤ) → AreThresholds ts → total ts +ℤ pos (length ts) ≡ pos (units_total (map units_of ts))
total_units [] h = omega (arith, ints)
total_units (t ∷ ts) h = omega (arith, ints, unit_more t h.0, total_units ts h.1)

pub cost_units : (count : ℕ → ℕ → ℕ) (part : ℕ) (ts : List ℤ) → cost_from count part ts ≡ split_cost count part (map units_of ts)
cost_units count part [] = refl
cost_units count part (t ∷ ts) = ap (λ z. count part (units_of t) + z) (cost_units count (part + 1) ts)

pub units_less : (t u : ℤ) → negsuc 0 ≤ℤ t → negsuc 0 ≤ℤ u → t <ℤ u → units_of t < units_of u
units_less t u low other less = omega (arith, ints, unit_more t low, unit_more u other)

pub before_units : (ts us : List ℤ) → AreThresholds ts → AreThresholds us → ComesBefore ts us → StandsBefore (map units_of ts) (map units_of us)
before_units [] [] low other h = h
before_units [] (u ∷ us) low other h = tt
before_units (t ∷ ts) [] low other h = h
before_units (t ∷ ts) (u ∷ us) low other (inl less) = inl (units_less t u low.0 other.0 less)
before_units (t ∷ ts) (u ∷ us) low other (inr same) = inr (ap units_of same.0, before_units ts us low.1 other.1 same.1)

pub split_of_vector : (tau parts : ℕ) (ts : List ℤ) → IsVector tau parts ts → IsSplit parts (tau + 1) (map units_of ts)
split_of_vector tau parts ts h =
    let low = recursion_from_All (λ threshold. negsuc 0 ≤ℤ threshold) ts h.entries in
    let size : length ts ≡ parts = h.size in
    let sum : total ts +ℤ pos parts ≡ pos (tau + 1) = h.sum in
    let all = total_units ts low in
    let same : total ts +ℤ pos (length ts) ≡ total ts +ℤ pos parts = ap (λ n. total ts +ℤ pos n) size in
    record { size = length-map ts units_of ∙ h.size; sum = omega (arith, ints) }

pub vector_of_split : (tau parts : ℕ) (us : List ℕ) → IsSplit parts (tau + 1) us → IsVector tau parts (map threshold_of us)
vector_of_split tau parts us h =
    let low = thresholds_are_low us in
    let size : length (map threshold_of us) ≡ parts = length-map us threshold_of ∙ h.size in
    let all = total_units (map threshold_of us) low in
    let back : units_total (map units_of (map threshold_of us)) ≡ tau + 1 = ap units_total (units_all us) ∙ h.sum in
    let same : total (map threshold_of us) +ℤ pos (length (map threshold_of us)) ≡ total (map threshold_of us) +ℤ pos parts =
    ap (λ n. total (map threshold_of us) +ℤ pos n) size in
    record { size = size; entries = All-from_recursion (λ threshold. negsuc 0 ≤ℤ threshold) (map threshold_of us) low; sum = sym same ∙ all ∙ ap pos back }

pub entries_are_low : (tau parts : ℕ) (ts : List ℤ) → IsVector tau parts ts → AreThresholds ts
entries_are_low tau parts ts h = recursion_from_All (λ threshold. negsuc 0 ≤ℤ threshold) ts h.entries
