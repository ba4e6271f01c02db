-- Parts whose positions stand in order make a layout.
use Rattle.std.proofs.Common.{◌≡◌, cond, Bool, true, false, ℕ, zero, suc, ◌+◌, ◌-◌, ◌*◌, ◌/◌, ◌%◌, ◌<◌, ◌≤◌, ◌==◌, ◌&&◌, nat_le, inl, inr, List, [], ◌∷◌, ◌++◌, All, length, count_by, get_or, slice_index_or, refl, sym, ◌∙◌, ap, arith, append_assoc, length-append}
use Rattle.std.specs.List.{flat_map, range_with_len}
use Rattle.std.specs.Global.{Vec}
use Rattle.std.proofs.lemmas.Bool.{and_parts, cases_eq, cases_lt, eq-eqb, le-leb, leb-true, ne_eqb}
use Rattle.std.proofs.lemmas.Grind.{flat_map-append}
use Rattle.std.proofs.lemmas.List.{map-append}
use Rattle.std.proofs.lemmas.List.Elements.{All-append}
use Rattle.std.proofs.lemmas.List.FromFn.{length-range_with_len, get_or-range_with_len}
use Rattle.std.proofs.lemmas.List.Sums.{sum_by-cons}
use Rattle.std.proofs.lemmas.Nat.{div-add-mod', le-div}
use Rattle.std.proofs.Math.Nat.{mul-le-mul_right}
use Rattle.hamming_model.specs.Layouts.{IsLayout}
use Rattle.part_layout.specs.Contiguous.{CanBeCut, IsNoNumber, contiguous, runs}
use Rattle.part_layout.specs.Kept.{lists_of}

-- one position more
pub range_more : (a n j : ℕ) → a + n ≡ j → range_with_len a (suc n) ≡ range_with_len a n ++ j ∷ []
range_more a zero j e = let same : a ≡ j = omega arith in ap (λ x. x ∷ []) same
range_more a (suc n) j e = ap (λ xs. a ∷ xs) (range_more (a + 1) n j (omega arith))

-- the same with the number as loops count it
pub range_pushed : (xs ys : List ℕ) (a n j : ℕ) → xs ≡ range_with_len a n → ys ≡ xs ++ j ∷ [] → a + n ≡ j → ys ≡ range_with_len a (n + 1)
range_pushed xs ys a n j so_far pushed place =
    let one_more : n + 1 ≡ suc n = omega arith in
    rw one_more (pushed ∙ ap (λ zs. zs ++ j ∷ []) so_far ∙ sym (range_more a n j place))

-- one part more
runs_more : (n w s t : ℕ) → s + n * w ≡ t → runs (suc n) w s ≡ runs n w s ++ range_with_len t w ∷ []
runs_more zero w s t e = let same : s ≡ t = omega arith in ap (λ x. range_with_len x w ∷ []) same
runs_more (suc n) w s t e = ap (λ xs. range_with_len s w ∷ xs) (runs_more n w (s + w) t (omega arith))

-- one part more, as it is kept
pub runs_pushed : (old : List (List ℕ)) (before after : List (Vec ℕ)) (part : Vec ℕ) (n w s t : ℕ)
    → after ≡ before ++ part ∷ [] → lists_of before ≡ old ++ runs n w s → part.items ≡ range_with_len t w → s + n * w ≡ t
    → lists_of after ≡ old ++ runs (n + 1) w s
runs_pushed old before after part n w s t pushed so_far laid place =
    let one_more : n + 1 ≡ suc n = omega arith in
    let more : runs (n + 1) w s ≡ runs n w s ++ range_with_len t w ∷ [] = rw one_more (runs_more n w s t place) in
    ap lists_of pushed
    ∙ map-append (λ (kept : Vec ℕ). kept.items) before (part ∷ [])
    ∙ ap (λ xs. xs ++ part.items ∷ []) so_far
    ∙ ap (λ ys. (old ++ runs n w s) ++ ys ∷ []) laid
    ∙ append_assoc old (runs n w s) (range_with_len t w ∷ [])
    ∙ ap (λ xs. old ++ xs) (sym more)

-- how many parts
pub length-runs : (n w s : ℕ) → length (runs n w s) ≡ n
length-runs zero w s = refl
length-runs (suc n) w s = ap suc (length-runs n w (s + w))

-- how long they are
runs_wide : (n w s : ℕ) → 0 < w → w ≤ 12 → All (λ part. (0 < length part) × (length part ≤ 12)) (runs n w s)
runs_wide zero w s some narrow k d inside = absurd (omega arith)
runs_wide (suc n) w s some narrow zero d inside = let sized = length-range_with_len s w in (omega arith, omega arith)
runs_wide (suc n) w s some narrow (suc k) d inside = runs_wide n w (s + w) some narrow k d (omega arith)

-- neighbouring stretches of positions
range_join : (a m n t k : ℕ) → a + m ≡ t → m + n ≡ k → range_with_len a m ++ range_with_len t n ≡ range_with_len a k
range_join a zero n t k start size =
    let first : t ≡ a = omega arith in let long : n ≡ k = omega arith in rw (first, long) refl
range_join a (suc m) n t zero start size = absurd (omega arith)
range_join a (suc m) n t (suc k) start size = ap (λ xs. a ∷ xs) (range_join (a + 1) m n t k (omega arith) (omega arith))

-- parts of one width, one after the other
flat_runs : (n w s k : ℕ) → n * w ≡ k → flat_map (λ part. part) (runs n w s) ≡ range_with_len s k
flat_runs zero w s k e = let none : 0 ≡ k = omega arith in ap (λ x. range_with_len s x) none
flat_runs (suc n) w s k e =
    ap (λ xs. range_with_len s w ++ xs) (flat_runs n w (s + w) (n * w) refl)
    ∙ range_join s w (n * w) (s + w) k refl (omega arith)

-- an element that a test misses, and one that it hits, as a count adds them up
pub miss : (rest : ℕ) (test : Bool) → test ≡ false → cond test 1 0 + rest ≡ rest
miss rest test e = rw e (omega arith)

pub hit : (rest : ℕ) (test : Bool) → test ≡ true → cond test 1 0 + rest ≡ suc rest
hit rest test e = rw e (omega arith)

-- a position before a stretch doesn't stand in it
count_none : (position a n : ℕ) → position < a → count_by (λ other. other == position) (range_with_len a n) ≡ 0
count_none position a zero before = refl
count_none position a (suc n) before =
    let here = sum_by-cons (λ other. cond (other == position) 1 0) a (range_with_len (a + 1) n) in
    let differs = ne_eqb a position (λ (e : a ≡ position). omega arith) in
    let rest = count_none position (a + 1) n (omega arith) in
    here ∙ miss (count_by (λ other. other == position) (range_with_len (a + 1) n)) (a == position) differs ∙ rest

-- a position in a stretch stands in it once
count_one : (position a n : ℕ) → a ≤ position → position < a + n → count_by (λ other. other == position) (range_with_len a n) ≡ 1
count_one position a zero low high = absurd (omega arith)
count_one position a (suc n) low high =
    let here = sum_by-cons (λ other. cond (other == position) 1 0) a (range_with_len (a + 1) n) in
    elim (cases_eq a position) [
      | inl same ↦
          let equal = eq-eqb a position same in
          let rest = count_none position (a + 1) n (omega arith) in
          here ∙ hit (count_by (λ other. other == position) (range_with_len (a + 1) n)) (a == position) equal ∙ ap suc rest
      | inr other ↦
          let differs = ne_eqb a position other in
          let rest = count_one position (a + 1) n (omega arith) (omega arith) in
          here ∙ miss (count_by (λ other. other == position) (range_with_len (a + 1) n)) (a == position) differs ∙ rest
    ]

-- how long the first part is
pub first_none : (r d q s : ℕ) → r ≡ 0 → 0 < d → length (get_or (runs r (q + 1) 0 ++ runs d q s) 0 []) ≡ q
first_none zero zero q s none some = absurd (omega arith)
first_none zero (suc d) q s none some = length-range_with_len s q
first_none (suc r) d q s none some = absurd (omega arith)

pub first_some : (r d q s : ℕ) → 0 < r → length (get_or (runs r (q + 1) 0 ++ runs d q s) 0 []) ≡ q + 1
first_some zero d q s some = absurd (omega arith)
first_some (suc r) d q s some = length-range_with_len 0 (q + 1)

-- a number of parts that may be
pub number_ok : (bits parts : ℕ) → 0 < parts → parts ≤ 64 → parts ≤ bits → IsNoNumber bits parts → ⊥
number_ok bits parts some few covered (inl none) = omega arith
number_ok bits parts some few covered (inr (inl many)) = omega arith
number_ok bits parts some few covered (inr (inr many)) = omega arith

-- the widths, by that of the first part
cut_widths : (r d q s : ℕ) → 0 < d → 0 < q → length (get_or (runs r (q + 1) 0 ++ runs d q s) 0 []) ≤ 12
    → All (λ part. (0 < length part) × (length part ≤ 12)) (runs r (q + 1) 0 ++ runs d q s)
cut_widths zero zero q s some long first = absurd (omega arith)
cut_widths zero (suc d) q s some long first =
    let sized = length-range_with_len s q in runs_wide (suc d) q s long (omega arith)
cut_widths (suc r) d q s some long first =
    let sized = length-range_with_len 0 (q + 1) in
    All-append (λ part. (0 < length part) × (length part ≤ 12)) (runs (suc r) (q + 1) 0) (runs d q s)
    (runs_wide (suc r) (q + 1) 0 (omega arith) (omega arith)) (runs_wide d q s long (omega arith))

-- all positions, in order
flat_contiguous : (bits parts : ℕ) → 0 < parts → flat_map (λ part. part) (contiguous bits parts) ≡ range_with_len 0 bits
flat_contiguous bits parts some =
    let q = bits / parts in
    let r = bits % parts in
    let whole = div-add-mod' bits parts in
    let below : bits % parts < parts = omega arith in
    let both : (parts - bits % parts) + bits % parts ≡ parts = omega arith in
    let sum : (bits / parts) * ((parts - bits % parts) + bits % parts) ≡ (bits / parts) * parts = ap (λ x. (bits / parts) * x) both in
    flat_map-append (λ part. part) (runs (bits % parts) (bits / parts + 1) 0) (runs (parts - bits % parts) (bits / parts) (bits % parts * (bits / parts + 1)))
    ∙ ap (λ xs. xs ++ flat_map (λ part. part) (runs (parts - bits % parts) (bits / parts) (bits % parts * (bits / parts + 1))))
    (flat_runs (bits % parts) (bits / parts + 1) 0 (bits % parts * (bits / parts + 1)) refl)
    ∙ ap (λ xs. range_with_len 0 (bits % parts * (bits / parts + 1)) ++ xs)
    (flat_runs (parts - bits % parts) (bits / parts) (bits % parts * (bits / parts + 1)) ((parts - bits % parts) * (bits / parts)) refl)
    ∙ range_join 0 (bits % parts * (bits / parts + 1)) ((parts - bits % parts) * (bits / parts)) (bits % parts * (bits / parts + 1)) bits
    (omega arith) (omega (arith, sum, whole))

-- the contiguous layout is one
pub contiguous_laid : (bits parts : ℕ) → (IsNoNumber bits parts → ⊥) → length (slice_index_or (contiguous bits parts) 0 []) ≤ 12
    → IsLayout bits (contiguous bits parts)
contiguous_laid bits parts number narrow =
    let some : 0 < parts = elim (cases_eq parts 0) [ inl none ↦ absurd (number (inl none)) | inr other ↦ omega arith ] in
    let few : parts ≤ 64 = elim (cases_lt 64 parts) [ inl many ↦ absurd (number (inr (inl many))) | inr other ↦ omega arith ] in
    let covered : parts ≤ bits = elim (cases_lt bits parts) [ inl many ↦ absurd (number (inr (inr many))) | inr other ↦ omega arith ] in
    let long : 1 ≤ bits / parts = le-div 1 bits parts some (omega arith) in
    let below : bits % parts < parts = omega arith in
    let size = length-append (runs (bits % parts) (bits / parts + 1) 0) (runs (parts - bits % parts) (bits / parts) (bits % parts * (bits / parts + 1))) in
    let first = length-runs (bits % parts) (bits / parts + 1) 0 in
    let second = length-runs (parts - bits % parts) (bits / parts) (bits % parts * (bits / parts + 1)) in
    let flat = flat_contiguous bits parts some in
    record {
      some_part = omega arith;
      few_parts = omega arith;
      widths = cut_widths (bits % parts) (parts - bits % parts) (bits / parts) (bits % parts * (bits / parts + 1)) (omega arith) long narrow;
      in_range = rw flat (range_below bits);
      once = λ position inside. rw flat (count_one position 0 bits (omega arith) (omega arith));
    }
  where
    range_below : (n : ℕ) → All (λ position. position < n) (range_with_len 0 n)
    range_below n k d inside =
        let sized = length-range_with_len 0 n in
        let short : k < n = omega arith in
        let here = get_or-range_with_len 0 n k d short in
        omega arith

-- the first part's width, by the division
first_width_is : (bits parts : ℕ) → 0 < parts → length (slice_index_or (contiguous bits parts) 0 []) ≡ bits / parts + cond (bits % parts == 0) 0 1
first_width_is bits parts some =
    let below : bits % parts < parts = omega arith in
    elim (cases_eq (bits % parts) 0) [
      | inl none ↦
          let test = eq-eqb (bits % parts) 0 none in
          let first = first_none (bits % parts) (parts - bits % parts) (bits / parts) (bits % parts * (bits / parts + 1)) none (omega arith) in
          rw test (omega arith)
      | inr other ↦
          let test = ne_eqb (bits % parts) 0 other in
          let first = first_some (bits % parts) (parts - bits % parts) (bits / parts) (bits % parts * (bits / parts + 1)) (omega arith) in
          rw test (omega arith)
    ]

-- parts of at most 12 positions hold the bits
pub cut_narrow : (bits parts : ℕ) → 0 < parts → length (slice_index_or (contiguous bits parts) 0 []) ≤ 12 → bits ≤ 12 * parts
cut_narrow bits parts some narrow =
    let whole = div-add-mod' bits parts in
    let below : bits % parts < parts = omega arith in
    let width = first_width_is bits parts some in
    elim (cases_eq (bits % parts) 0) [
      | inl none ↦
          let test = eq-eqb (bits % parts) 0 none in
          let quotient : bits / parts ≤ 12 = omega (arith, rw test at width) in
          let product = mul-le-mul_right parts quotient in
          omega arith
      | inr other ↦
          let test = ne_eqb (bits % parts) 0 other in
          let quotient : bits / parts ≤ 11 = omega (arith, rw test at width) in
          let product = mul-le-mul_right parts quotient in
          omega arith
    ]

-- where the first part is wider, they don't
pub cut_wide : (bits parts : ℕ) → 0 < parts → 12 < length (slice_index_or (contiguous bits parts) 0 []) → 12 * parts < bits
cut_wide bits parts some wide =
    let whole = div-add-mod' bits parts in
    let below : bits % parts < parts = omega arith in
    let width = first_width_is bits parts some in
    elim (cases_eq (bits % parts) 0) [
      | inl none ↦
          let test = eq-eqb (bits % parts) 0 none in
          let quotient : 13 ≤ bits / parts = omega (arith, rw test at width) in
          let product = mul-le-mul_right parts quotient in
          omega arith
      | inr other ↦
          let test = ne_eqb (bits % parts) 0 other in
          let quotient : 12 ≤ bits / parts = omega (arith, rw test at width) in
          let product = mul-le-mul_right parts quotient in
          omega arith
    ]

-- a number of parts that may be, and holds the bits
pub can_cut : (bits parts : ℕ) → 0 < parts → parts ≤ 64 → parts ≤ bits → bits ≤ 12 * parts → CanBeCut bits parts
can_cut bits parts some few filled narrow =
    let one = le-leb 1 parts some in
    let two = le-leb parts 64 few in
    let three = le-leb parts bits filled in
    let four = le-leb bits (12 * parts) narrow in
    rw (one, two, three, four) refl

-- a number of parts that holds the bits
pub cut_holds : (bits parts : ℕ) → CanBeCut bits parts → bits ≤ 12 * parts
cut_holds bits parts can =
    let one = and_parts (nat_le 1 parts) (nat_le parts 64 && (nat_le parts bits && nat_le bits (12 * parts))) can in
    let two = and_parts (nat_le parts 64) (nat_le parts bits && nat_le bits (12 * parts)) one.1 in
    let three = and_parts (nat_le parts bits) (nat_le bits (12 * parts)) two.1 in
    leb-true bits (12 * parts) three.1
