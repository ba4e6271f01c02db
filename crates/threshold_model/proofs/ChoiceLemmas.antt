-- The choice is one of a kind, and the least cost is at most the greatest count.
use Rattle.std.proofs.Common.{◌≡◌, ℕ, zero, suc, ◌+◌, ◌-◌, ◌<◌, ◌≤◌, cond, ltb, ℤ, pos, negsuc, ◌+ℤ◌, ◌≤ℤ◌, ◌<ℤ◌, List, [], ◌∷◌, length, replicate, get_or, sym, refl, ap, ◌∙◌, ⊎_elim, inl, inr, ◌⊎◌, arith}
use Rattle.std.specs.List.{All, AllByRecursion}
use Rattle.std.proofs.lemmas.Int.{ints, by_lt_z}
use Rattle.std.proofs.lemmas.Bool.Decides.{nat_tests}
use Rattle.std.proofs.lemmas.List.{length-replicate}
use Rattle.std.proofs.lemmas.List.Sums.{sum_by-cons, count_by-le-length}
use Rattle.std.proofs.lemmas.List.Elements.{All-cons, All-replicate, All-from_recursion, recursion_from_All}
use Rattle.hamming_model.specs.Layouts.{part_distance, part_count}
use Rattle.threshold_model.specs.Vectors.{total, cost_from, cost, ComesBefore, IsVector, IsChoice, IsLeast, row_counts, NeverFalls}
use Rattle.threshold_model.specs.Finding.{at_first_part}

same_or_apart : (t u : ℤ) → (t ≡ u) ⊎ ((t <ℤ u) ⊎ (u <ℤ t))
same_or_apart t u =
    by_lt_z t u (λ less. inr (inl less)) (λ le. by_lt_z u t (λ less. inr (inr less)) (λ other. inl (omega (arith, ints))))

-- of two lists of one length that differ one comes before the other
in_order : (ts us : List ℤ) → length ts ≡ length us → (t u : ℤ) → (t ≡ u) ⊎ ((t <ℤ u) ⊎ (u <ℤ t))
    → ((ts ≡ us) ⊎ (ComesBefore ts us ⊎ ComesBefore us ts))
    → ((t ∷ ts) ≡ (u ∷ us)) ⊎ (ComesBefore (t ∷ ts) (u ∷ us) ⊎ ComesBefore (u ∷ us) (t ∷ ts))
in_order ts us size t u (inr (inl less)) rest = inr (inl (inl less))
in_order ts us size t u (inr (inr less)) rest = inr (inr (inl less))
in_order ts us size t u (inl same) (inl others) = inl (cc)
in_order ts us size t u (inl same) (inr (inl before)) = inr (inl (inr (same, before)))
in_order ts us size t u (inl same) (inr (inr before)) = inr (inr (inr (sym same, before)))

compared : (ts us : List ℤ) → length ts ≡ length us → (ts ≡ us) ⊎ (ComesBefore ts us ⊎ ComesBefore us ts)
compared [] [] size = inl refl
compared [] (u ∷ us) size = absurd (omega arith)
compared (t ∷ ts) [] size = absurd (omega arith)
compared (t ∷ ts) (u ∷ us) size = in_order ts us (omega arith) t u (same_or_apart t u) (compared ts us (omega arith))

pub choice_unique : (count : ℕ → ℕ → ℕ) (tau parts : ℕ) (ts us : List ℤ) → IsChoice count tau parts ts → IsChoice count tau parts us → ts ≡ us
choice_unique count tau parts ts us one other =
    let equal : cost count ts ≡ cost count us = omega (arith, one.none_cheaper us other.vector, other.none_cheaper ts one.vector) in
    ⊎_elim (λ (same : ts ≡ us). same)
    (λ (apart : ComesBefore ts us ⊎ ComesBefore us ts).
    ⊎_elim (λ (before : ComesBefore ts us). absurd (other.none_before ts one.vector equal before))
    (λ (after : ComesBefore us ts). absurd (one.none_before us other.vector (sym equal) after)) apart)
    (compared ts us (one.vector.size ∙ sym other.vector.size))

pub choice_least : (count : ℕ → ℕ → ℕ) (tau parts : ℕ) (ts : List ℤ) → IsChoice count tau parts ts → IsLeast count tau parts (cost count ts)
choice_least count tau parts ts choice = record { attained = (ts, choice.vector, refl); none_cheaper = choice.none_cheaper }

pub least_unique : (count : ℕ → ℕ → ℕ) (tau parts one other : ℕ) → IsLeast count tau parts one → IsLeast count tau parts other → one ≡ other
least_unique count tau parts one other first second =
    let a = first.attained in let b = second.attained in
    omega (arith, first.none_cheaper b.0 b.1, second.none_cheaper a.0 a.1, a.2, b.2)

total_unsearched : (n : ℕ) → total (replicate n (negsuc 0)) +ℤ pos n ≡ pos 0
total_unsearched zero = omega (arith, ints)
total_unsearched (suc n) = omega (arith, ints, total_unsearched n)

pub first_part_vector : (tau parts : ℕ) → 0 < parts → IsVector tau parts (at_first_part tau parts)
first_part_vector tau parts some =
    let size : length (replicate (parts - 1) (negsuc 0)) ≡ parts - 1 = length-replicate (parts - 1) (negsuc 0) in
    let rest = total_unsearched (parts - 1) in
    record {
      size = omega arith;
      entries = All-cons (λ threshold. negsuc 0 ≤ℤ threshold) (pos tau) (replicate (parts - 1) (negsuc 0)) (omega (arith, ints))
          (All-replicate (λ threshold. negsuc 0 ≤ℤ threshold) (parts - 1) (negsuc 0) (omega (arith, ints)));
      sum = omega (arith, ints);
    }

cost_unsearched : (count : ℕ → ℕ → ℕ) (parts n part : ℕ) → ((other : ℕ) → other < parts → count other 0 ≡ 0) → part + n ≤ parts
    → cost_from count part (replicate n (negsuc 0)) ≡ 0
cost_unsearched count parts zero part none fits = refl
cost_unsearched count parts (suc n) part none fits = omega (arith, none part (omega arith), cost_unsearched count parts n (part + 1) none (omega arith))

pub least_at_most : (count : ℕ → ℕ → ℕ) (tau parts most least : ℕ) → 0 < parts → ((part : ℕ) → part < parts → count part 0 ≡ 0)
    → ((part units : ℕ) → part < parts → count part units ≤ most) → IsLeast count tau parts least → least ≤ most
least_at_most count tau parts most least some none few is_least =
    let rest : cost_from count (0 + 1) (replicate (parts - 1) (negsuc 0)) ≡ 0 = cost_unsearched count parts (parts - 1) (0 + 1) none (omega arith) in
    omega (arith, is_least.none_cheaper (at_first_part tau parts) (first_part_vector tau parts some), few 0 (suc tau) some)

none_below : (d : ℕ) → cond {A = ℕ} (ltb d 0) 1 0 ≡ 0
none_below d = grind (arith, nat_tests)

hit_rises : (d fewer more : ℕ) → fewer ≤ more → cond (ltb d fewer) 1 0 ≤ cond (ltb d more) 1 0
hit_rises d fewer more le = grind (arith, nat_tests)

-- counts of rows
rows_none : (rows : List (ℕ × List ℕ)) (part query : List ℕ) → part_count rows part query 0 ≡ 0
rows_none [] part query = refl
rows_none (row ∷ rows) part query =
    omega (
      arith,
      none_below (part_distance part row.1 query),
      sum_by-cons (λ (row : ℕ × List ℕ). cond (ltb (part_distance part row.1 query) 0) 1 0) row rows,
      rows_none rows part query,
    )

rows_rise : (rows : List (ℕ × List ℕ)) (part query : List ℕ) (fewer more : ℕ) → fewer ≤ more
    → part_count rows part query fewer ≤ part_count rows part query more
rows_rise [] part query fewer more le = omega arith
rows_rise (row ∷ rows) part query fewer more le =
    omega (
      arith,
      hit_rises (part_distance part row.1 query) fewer more le,
      sum_by-cons (λ (row : ℕ × List ℕ). cond (ltb (part_distance part row.1 query) fewer) 1 0) row rows,
      sum_by-cons (λ (row : ℕ × List ℕ). cond (ltb (part_distance part row.1 query) more) 1 0) row rows,
      rows_rise rows part query fewer more le,
    )

pub row_counts_start : (rows : List (ℕ × List ℕ)) (layout : List (List ℕ)) (query : List ℕ) (part : ℕ) → row_counts rows layout query part 0 ≡ 0
row_counts_start rows layout query part = rows_none rows (get_or layout part []) query

pub row_counts_rise : (rows : List (ℕ × List ℕ)) (layout : List (List ℕ)) (query : List ℕ) (part : ℕ) → NeverFalls (row_counts rows layout query part)
row_counts_rise rows layout query part = rows_rise rows (get_or layout part []) query

pub row_counts_few : (rows : List (ℕ × List ℕ)) (layout : List (List ℕ)) (query : List ℕ) (part units : ℕ)
    → row_counts rows layout query part units ≤ length rows
row_counts_few rows layout query part units = count_by-le-length (λ (row : ℕ × List ℕ). ltb (part_distance (get_or layout part []) row.1 query) units) rows

pub least_of_rows : (rows : List (ℕ × List ℕ)) (layout : List (List ℕ)) (query : List ℕ) (tau least : ℕ) → 0 < length layout
    → IsLeast (row_counts rows layout query) tau (length layout) least → least ≤ length rows
least_of_rows rows layout query tau least some is_least =
    least_at_most (row_counts rows layout query) tau (length layout) (length rows) least some
    (λ part less. row_counts_start rows layout query part) (λ part units less. row_counts_few rows layout query part units) is_least

total_low : (ts : List ℤ) → AllByRecursion (λ threshold. negsuc 0 ≤ℤ threshold) ts → pos 0 ≤ℤ (total ts +ℤ pos (length ts))
total_low [] low = omega (arith, ints)
total_low (t ∷ ts) low = let rest = total_low ts low.1 in let first = low.0 in omega (arith, ints)

-- no entry exceeds tau
pub entry_small : (ts : List ℤ) (low : AllByRecursion (λ threshold. negsuc 0 ≤ℤ threshold) ts) (tau : ℕ)
    → (total ts +ℤ pos (length ts)) ≤ℤ pos (tau + 1) → AllByRecursion (λ threshold. threshold ≤ℤ pos tau) ts
entry_small [] low tau sum = tt
entry_small (t ∷ ts) low tau sum =
    let rest = total_low ts low.1 in
    let first = low.0 in
    (omega (arith, ints), entry_small ts low.1 tau (omega (arith, ints)))

pub entries_small : (tau parts : ℕ) (ts : List ℤ) → IsVector tau parts ts → All (λ threshold. threshold ≤ℤ pos tau) ts
entries_small tau parts ts vector =
    let same : total ts +ℤ pos (length ts) ≡ total ts +ℤ pos parts = ap (λ n. total ts +ℤ pos n) vector.size in
    let sum : total ts +ℤ pos parts ≡ pos (tau + 1) = vector.sum in
    All-from_recursion (λ threshold. threshold ≤ℤ pos tau) ts
    (entry_small ts (recursion_from_All (λ threshold. negsuc 0 ≤ℤ threshold) ts vector.entries) tau (omega (arith, ints)))
