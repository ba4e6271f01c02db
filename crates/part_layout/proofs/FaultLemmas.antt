-- Parts with no fault are a layout, and a layout's parts have none.
use Rattle.std.proofs.Common.{◌≡◌, ◌≢◌, ℕ, zero, suc, ◌+◌, ◌<◌, ◌≤◌, ◌==◌, not, cond, nat_le, nat_lt, Bool, true, false, inl, inr, List, [], ◌∷◌, All, Option, Some, None, map, length, count_by, refl, sym, ◌∙◌, ap, arith}
use Rattle.std.specs.List.{find, position_from, range_with_len, slice_split}
use Rattle.std.specs.Option.{option_map}
use Rattle.std.specs.Str.Parse.{digits_value}
use Rattle.std.proofs.lemmas.Bool.{cases_eq, cases_lt, eq-eqb, ne_eqb, leb-false, ltb-false}
use Rattle.std.proofs.lemmas.Bool.Decides.{nat_tests}
use Rattle.std.proofs.lemmas.List.Elements.{All-head, All-tail}
use Rattle.std.proofs.lemmas.List.Splits.{length-slice_split}
use Rattle.std.proofs.lemmas.List.Sums.{sum_by-cons}
use Rattle.hamming_model.specs.Layouts.{IsLayout}
use Rattle.part_layout.specs.Faults.{fault_of, first_beyond, first_repeated, first_there, first_wide, least_missing, numbers_of, stands_in, too_many}
use Rattle.part_layout.specs.Grammar.{spelled, texts_of_part}
use Rattle.part_layout.specs.declared.layout_fault.LayoutFault.{LayoutFault}
use Rattle.part_layout.specs.declared.layout_fault.LayoutFault.TheVariants.{Range, Twice, Missing, Width, Parts}
use Rattle.part_layout.proofs.GrammarLemmas.{by_test}
use Rattle.part_layout.proofs.JudgeLemmas.{repeated_later}
use Rattle.part_layout.proofs.LayoutLemmas.{tally_all, tally_ones}
use Rattle.part_layout.proofs.RunLemmas.{hit, miss}

-- how often a number stands among others
abbrev count : ℕ → List ℕ → ℕ
count number numbers = count_by (λ other. other == number) numbers

count_hit : (number n : ℕ) (numbers : List ℕ) → n ≡ number → count number (n ∷ numbers) ≡ suc (count number numbers)
count_hit number n numbers same =
    sum_by-cons (λ other. cond (other == number) 1 0) n numbers ∙ hit (count number numbers) (n == number) (eq-eqb n number same)

count_miss : (number n : ℕ) (numbers : List ℕ) → n ≢ number → count number (n ∷ numbers) ≡ count number numbers
count_miss number n numbers other =
    sum_by-cons (λ other. cond (other == number) 1 0) n numbers ∙ miss (count number numbers) (n == number) (ne_eqb n number other)

stands_hit : (number n : ℕ) (numbers : List ℕ) → n ≡ number → stands_in (n ∷ numbers) number ≡ true
stands_hit number n numbers same = let equal = eq-eqb n number same in rw equal refl

stands_miss : (number n : ℕ) (numbers : List ℕ) → n ≢ number → stands_in (n ∷ numbers) number ≡ stands_in numbers number
stands_miss number n numbers other = let differs = ne_eqb n number other in rw differs refl

-- a number that stands there is counted
stands_counted : (number : ℕ) (numbers : List ℕ) → stands_in numbers number ≡ true → 1 ≤ count number numbers
stands_counted number [] stands = absurd (let both : false ≡ true = stands in cc)
stands_counted number (n ∷ numbers) stands =
    elim (cases_eq n number) [
      | inl same ↦ let here = count_hit number n numbers same in omega arith
      | inr other ↦
          let here = count_miss number n numbers other in
          let rest = stands_counted number numbers (sym (stands_miss number n numbers other) ∙ stands) in
          omega arith
    ]

counted_stands : (number : ℕ) (numbers : List ℕ) → 1 ≤ count number numbers → stands_in numbers number ≡ true
counted_stands number [] counted = absurd (let none : count number [] ≡ 0 = refl in omega (arith, none, counted))
counted_stands number (n ∷ numbers) counted =
    elim (cases_eq n number) [
      | inl same ↦ stands_hit number n numbers same
      | inr other ↦
          let here = count_miss number n numbers other in
          stands_miss number n numbers other ∙ counted_stands number numbers (omega arith)
    ]

-- numbers of which none stands before it
none_twice : (number : ℕ) (numbers before : List ℕ) → first_repeated before numbers ≡ None
    → (stands_in before number ≡ true → count number numbers ≡ 0) × (count number numbers ≤ 1)
none_twice number [] before none = ((λ stands. refl), (let zero_count : count number [] ≡ 0 = refl in omega (arith, zero_count)))
none_twice number (n ∷ numbers) before none =
    elim (by_test (stands_in before n)) [
      | inl stood ↦
          let some : first_repeated before (n ∷ numbers) ≡ Some n = ap (λ b. cond b (Some n) (first_repeated (n ∷ before) numbers)) stood in
          absurd (let both : None ≡ Some n = sym none ∙ some in cc)
      | inr new ↦
          let rest = none_twice number numbers (n ∷ before) (sym (repeated_later n before numbers new) ∙ none) in
          elim (cases_eq n number) [
            | inl same ↦
                let here = count_hit number n numbers same in
                let others = rest.0 (stands_hit number n before same) in (
                  (λ stands. absurd (let both : true ≡ false = sym stands ∙ ap (stands_in before) (sym same) ∙ new in cc)),
                  omega arith,
                )
            | inr other ↦
                let here = count_miss number n numbers other in
                let few = rest.1 in (
                  (λ stands. here ∙ rest.0 (stands_miss number n before other ∙ stands)),
                  omega arith,
                )
          ]
    ]

once_each : (numbers before : List ℕ) → ((number : ℕ) → stands_in before number ≡ true → count number numbers ≡ 0)
    → ((number : ℕ) → count number numbers ≤ 1) → first_repeated before numbers ≡ None
once_each [] before apart once = refl
once_each (n ∷ numbers) before apart once =
    elim (by_test (stands_in before n)) [
      | inl stood ↦
          let none = apart n stood in
          let here = count_hit n n numbers refl in
          absurd (omega arith)
      | inr new ↦
          repeated_later n before numbers new
          ∙ once_each numbers (n ∷ before)
          (λ number stands.
          elim (cases_eq n number) [
            | inl same ↦
                let here = count_hit number n numbers same in
                let most = once number in
                omega arith
            | inr other ↦ sym (count_miss number n numbers other) ∙ apart number (sym (stands_miss number n before other) ∙ stands)
          ])
          (λ number.
          elim (cases_eq n number) [
            | inl same ↦
                let here = count_hit number n numbers same in
                let most = once number in
                omega arith
            | inr other ↦
                let here = count_miss number n numbers other in
                let most = once number in
                omega arith
          ])
    ]

-- no position of a stretch passes a test
none_in_range : (test : ℕ → Bool) (a n : ℕ) → find test (range_with_len a n) ≡ None → (p : ℕ) → a ≤ p → p < a + n → test p ≡ false
none_in_range test a zero none p low high = absurd (omega arith)
none_in_range test a (suc n) none p low high =
    elim (by_test (test a)) [
      | inl passes ↦
          let some : find test (range_with_len a (suc n)) ≡ Some a = ap (λ b. cond b (Some a) (find test (range_with_len (a + 1) n))) passes in
          absurd (let both : None ≡ Some a = sym none ∙ some in cc)
      | inr fails ↦
          elim (cases_eq a p) [
            | inl same ↦ sym (ap test same) ∙ fails
            | inr other ↦
                let later : find test (range_with_len (a + 1) n) ≡ None =
                sym (ap (λ b. cond b (Some a) (find test (range_with_len (a + 1) n))) fails) ∙ none in
                none_in_range test (a + 1) n later p (omega arith) (omega arith)
          ]
    ]

all_in_range : (test : ℕ → Bool) (a n : ℕ) → ((p : ℕ) → a ≤ p → p < a + n → test p ≡ false) → find test (range_with_len a n) ≡ None
all_in_range test a zero fails = refl
all_in_range test a (suc n) fails =
    ap (λ b. cond b (Some a) (find test (range_with_len (a + 1) n))) (fails a (omega arith) (omega arith))
    ∙ all_in_range test (a + 1) n (λ p low high. fails p (omega arith) (omega arith))

-- a first number that isn't beyond
beyond_first : (bits n : ℕ) (numbers : List ℕ) → first_beyond bits (n ∷ numbers) ≡ None → (n < bits) × (first_beyond bits numbers ≡ None)
beyond_first bits n numbers none =
    elim (by_test (nat_le bits n)) [
      | inl over ↦
          let some : first_beyond bits (n ∷ numbers) ≡ Some n = ap (λ b. cond b (Some n) (first_beyond bits numbers)) over in
          absurd (let both : None ≡ Some n = sym none ∙ some in cc)
      | inr under ↦ (leb-false bits n under, sym (ap (λ b. cond b (Some n) (first_beyond bits numbers)) under) ∙ none)
    ]

-- each number is below the number of bits
pub none_beyond : (bits : ℕ) (numbers : List ℕ) → first_beyond bits numbers ≡ None → All (λ number. number < bits) numbers
none_beyond bits [] none k d inside = absurd (omega arith)
none_beyond bits (n ∷ numbers) none zero d inside = (beyond_first bits n numbers none).0
none_beyond bits (n ∷ numbers) none (suc k) d inside = none_beyond bits numbers (beyond_first bits n numbers none).1 k d (omega arith)

all_below : (bits : ℕ) (numbers : List ℕ) → All (λ number. number < bits) numbers → first_beyond bits numbers ≡ None
all_below bits [] below = refl
all_below bits (n ∷ numbers) below =
    let small = All-head (λ number. number < bits) n numbers below in
    let test : nat_le bits n ≡ false = grind (arith, nat_tests) in
    ap (λ b. cond b (Some n) (first_beyond bits numbers)) test ∙ all_below bits numbers (All-tail (λ number. number < bits) n numbers below)

-- each position stands once
once_of : (bits : ℕ) (numbers : List ℕ) → first_repeated [] numbers ≡ None → least_missing bits numbers ≡ None
    → (position : ℕ) → position < bits → count position numbers ≡ 1
once_of bits numbers single whole position below =
    let most = (none_twice position numbers [] single).1 in
    let absent = none_in_range (λ p. not (stands_in numbers p)) 0 bits whole position (omega arith) (omega arith) in
    let least = stands_counted position numbers (not_false (stands_in numbers position) absent) in
    omega arith
  where
    not_false : (b : Bool) → not b ≡ false → b ≡ true
    not_false true e = refl
    not_false false e = absurd (cc)

-- there are as many numbers as bits
pub as_many : (bits : ℕ) (numbers : List ℕ) → first_beyond bits numbers ≡ None → first_repeated [] numbers ≡ None → least_missing bits numbers ≡ None
    → length numbers ≡ bits
as_many bits numbers small single whole =
    sym (tally_all bits numbers (none_beyond bits numbers small)) ∙ tally_ones bits numbers (once_of bits numbers single whole)

-- a code has few bits, and so there are few numbers
pub few_numbers : (bits : ℕ) (numbers : List ℕ) (beyond missing : Option ℕ) → beyond ≡ first_beyond bits numbers → beyond ≡ None
    → first_repeated [] numbers ≡ None → missing ≡ least_missing bits numbers → missing ≡ None → bits ≤ 256 → length numbers ≤ 256
few_numbers bits numbers beyond missing judged small single sought whole few =
    let all = as_many bits numbers (sym judged ∙ small) single (sym sought ∙ whole) in omega arith

-- a first part that isn't too wide
wide_first : (at : ℕ) (part : List ℕ) (parts : List (List ℕ)) → position_from (λ p. nat_lt 12 (length p)) at (part ∷ parts) ≡ None
    → (length part ≤ 12) × (position_from (λ p. nat_lt 12 (length p)) (at + 1) parts ≡ None)
wide_first at part parts none =
    elim (by_test (nat_lt 12 (length part))) [
      | inl wide ↦
          let some : position_from (λ p. nat_lt 12 (length p)) at (part ∷ parts) ≡ Some at =
          ap (λ b. cond b (Some at) (position_from (λ p. nat_lt 12 (length p)) (at + 1) parts)) wide in
          absurd (let both : None ≡ Some at = sym none ∙ some in cc)
      | inr narrow ↦ (
        ltb-false 12 (length part) narrow,
        sym (ap (λ b. cond b (Some at) (position_from (λ p. nat_lt 12 (length p)) (at + 1) parts)) narrow) ∙ none,
      )
    ]

-- no part is too wide
none_wide : (at : ℕ) (parts : List (List ℕ)) → position_from (λ p. nat_lt 12 (length p)) at parts ≡ None → All (λ part. length part ≤ 12) parts
none_wide at [] none k d inside = absurd (omega arith)
none_wide at (part ∷ parts) none zero d inside = (wide_first at part parts none).0
none_wide at (part ∷ parts) none (suc k) d inside = none_wide (at + 1) parts (wide_first at part parts none).1 k d (omega arith)

all_narrow : (at : ℕ) (parts : List (List ℕ)) → All (λ part. length part ≤ 12) parts → position_from (λ part. nat_lt 12 (length part)) at parts ≡ None
all_narrow at [] narrow = refl
all_narrow at (part ∷ parts) narrow =
    let small = All-head (λ p. length p ≤ 12) part parts narrow in
    let test : nat_lt 12 (length part) ≡ false = grind (arith, nat_tests) in
    ap (λ b. cond b (Some at) (position_from (λ p. nat_lt 12 (length p)) (at + 1) parts)) test
    ∙ all_narrow (at + 1) parts (All-tail (λ p. length p ≤ 12) part parts narrow)

-- the faults, none of them there
pub record AreNone (bits : ℕ) (parts : List (List ℕ)) : Type 0 where
  pub small : first_beyond bits (numbers_of parts) ≡ None
  pub single : first_repeated [] (numbers_of parts) ≡ None
  pub whole : least_missing bits (numbers_of parts) ≡ None
  pub narrow : first_wide parts ≡ None
  pub few : too_many parts ≡ None

no_first : (fault : Option LayoutFault) (others : List (Option LayoutFault)) → first_there (fault ∷ others) ≡ None
    → (fault ≡ None) × (first_there others ≡ None)
no_first None others none = (refl, none)
no_first (Some fault) others none = absurd (let both : Some fault ≡ None = none in cc)

no_map : (f : ℕ → LayoutFault) (o : Option ℕ) → option_map f o ≡ None → o ≡ None
no_map f None none = refl
no_map f (Some n) none = absurd (let both : Some (f n) ≡ None = none in cc)

none_of : (bits : ℕ) (parts : List (List ℕ)) → fault_of bits parts ≡ None → AreNone bits parts
none_of bits parts none =
    let twice = option_map Twice (first_repeated [] (numbers_of parts)) in
    let missing = option_map Missing (least_missing bits (numbers_of parts)) in
    let width = option_map Width (first_wide parts) in
    let number = option_map Parts (too_many parts) in
    let one = no_first (option_map Range (first_beyond bits (numbers_of parts))) (twice ∷ missing ∷ width ∷ number ∷ []) none in
    let two = no_first twice (missing ∷ width ∷ number ∷ []) one.1 in
    let three = no_first missing (width ∷ number ∷ []) two.1 in
    let four = no_first width (number ∷ []) three.1 in
    let five = no_first number [] four.1 in
    record {
      small = no_map Range (first_beyond bits (numbers_of parts)) one.0;
      single = no_map Twice (first_repeated [] (numbers_of parts)) two.0;
      whole = no_map Missing (least_missing bits (numbers_of parts)) three.0;
      narrow = no_map Width (first_wide parts) four.0;
      few = no_map Parts (too_many parts) five.0;
    }

pub no_fault : (bits : ℕ) (parts : List (List ℕ)) → AreNone bits parts → fault_of bits parts ≡ None
no_fault bits parts none = rw (none.small, none.single, none.whole, none.narrow, none.few) refl

few_parts_of : (parts : List (List ℕ)) → too_many parts ≡ None → length parts ≤ 64
few_parts_of parts none =
    elim (by_test (nat_lt 64 (length parts))) [
      | inl many ↦
          let some : too_many parts ≡ Some (length parts) = ap (λ b. cond b (Some (length parts)) None) many in
          absurd (let both : None ≡ Some (length parts) = sym none ∙ some in cc)
      | inr few ↦ ltb-false 64 (length parts) few
    ]

not_many : (parts : List (List ℕ)) → length parts ≤ 64 → too_many parts ≡ None
not_many parts few = let test : nat_lt 64 (length parts) ≡ false = grind (arith, nat_tests) in ap (λ b. cond b (Some (length parts)) None) test

-- parts that aren't empty and have no fault
pub laid_of_faultless : (bits : ℕ) (parts : List (List ℕ)) → 0 < length parts → All (λ part. 0 < length part) parts
    → fault_of bits parts ≡ None → IsLayout bits parts
laid_of_faultless bits parts some filled none =
    let faults = none_of bits parts none in
    let narrow = none_wide 0 parts faults.narrow in
    record {
      some_part = some;
      few_parts = few_parts_of parts faults.few;
      widths = λ k d inside. (filled k d inside, narrow k d inside);
      in_range = none_beyond bits (numbers_of parts) faults.small;
      once = once_of bits (numbers_of parts) faults.single faults.whole;
    }

-- a layout's parts
pub faultless_of_laid : (bits : ℕ) (parts : List (List ℕ)) → IsLayout bits parts → fault_of bits parts ≡ None
faultless_of_laid bits parts laid =
    no_fault bits parts (record {
      small = all_below bits (numbers_of parts) laid.in_range;
      single = once_each (numbers_of parts) [] (λ number stands. absurd (let both : false ≡ true = stands in cc)) (λ number. at_most number);
      whole = all_in_range (λ p. not (stands_in (numbers_of parts) p)) 0 bits (λ p low high. there p (omega arith));
      narrow = all_narrow 0 parts (λ k d inside. (laid.widths k d inside).1);
      few = not_many parts laid.few_parts;
    })
  where
    none_above : (numbers : List ℕ) → All (λ number. number < bits) numbers → (number : ℕ) → bits ≤ number → count number numbers ≡ 0
    none_above [] below number over = refl
    none_above (n ∷ numbers) below number over =
        let small = All-head (λ m. m < bits) n numbers below in
        count_miss number n numbers (λ (same : n ≡ number). omega arith) ∙ none_above numbers (All-tail (λ m. m < bits) n numbers below) number over

    at_most : (number : ℕ) → count number (numbers_of parts) ≤ 1
    at_most number =
        elim (cases_lt number bits) [
          | inl below ↦ let one = laid.once number below in omega arith
          | inr over ↦ let none = none_above (numbers_of parts) laid.in_range number over in omega arith
        ]

    there : (p : ℕ) → p < bits → not (stands_in (numbers_of parts) p) ≡ false
    there p below =
        let one = laid.once p below in
        ap not (counted_stands p (numbers_of parts) (omega arith))

-- the parts of a text aren't empty
pub spelled_some : (text : List ℕ) → (0 < length (spelled text)) × All (λ part. 0 < length part) (spelled text)
spelled_some text =
    let sized = length-slice_split (λ byte. byte == 47) text in
    (some_pieces (slice_split (λ byte. byte == 47) text) (omega arith), filled_pieces (slice_split (λ byte. byte == 47) text))
  where
    some_pieces : (pieces : List (List ℕ)) → 0 < length pieces → 0 < length (map (λ part. map (digits_value 10) part) (map texts_of_part pieces))
    some_pieces [] some = absurd (omega arith)
    some_pieces (piece ∷ pieces) some = omega arith

    some_numbers : (part : List (List ℕ)) → 0 < length part → 0 < length (map (digits_value 10) part)
    some_numbers [] some = absurd (omega arith)
    some_numbers (word ∷ others) some = omega arith

    filled_pieces : (pieces : List (List ℕ)) → All (λ part. 0 < length part) (map (λ part. map (digits_value 10) part) (map texts_of_part pieces))
    filled_pieces [] k d inside = absurd (omega arith)
    filled_pieces (piece ∷ pieces) zero d inside =
        let sized = length-slice_split (λ byte. byte == 44) piece in some_numbers (texts_of_part piece) (omega arith)
    filled_pieces (piece ∷ pieces) (suc k) d inside = filled_pieces pieces k d (omega arith)
