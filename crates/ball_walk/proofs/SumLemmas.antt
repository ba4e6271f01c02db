-- Sums over lists that count up, and over what a filter keeps of them.
use Rattle.std.proofs.Common.{◌≡◌, ◌≢◌, ℕ, zero, suc, ◌+◌, ◌<◌, ◌≤◌, ◌==◌, inl, inr, nat_lt, Bool, true, false, cond, ◌&&◌, List, [], ◌∷◌, filter, sum_by, count_by, All, refl, sym, ◌∙◌, ap, arith}
use Rattle.std.specs.List.{range_with_len}
use Rattle.std.proofs.lemmas.List.Sums.{sum_by-cons}
use Rattle.std.proofs.lemmas.List.Elements.{All-head, All-tail}
use Rattle.std.proofs.lemmas.Bool.{cases_eq, cases_lt, ne_eqb, eq-eqb, lt-ltb, le-ltb}
use Rattle.std.proofs.lemmas.Bool.Decides.{nat_tests}

-- two functions that agree have one sum
pub sum_same : {X : Type 0} (f g : X → ℕ) → ((x : X) → f x ≡ g x) → (xs : List X) → sum_by f xs ≡ sum_by g xs
sum_same f g e [] = refl
sum_same f g e (x ∷ xs) =
    let here = sum_by-cons f x xs in let there = sum_by-cons g x xs in let rest = sum_same f g e xs in let at = e x in omega arith

-- a sum of sums is the sum of both
pub sum_plus : {X : Type 0} (f g : X → ℕ) (xs : List X) → sum_by (λ x. f x + g x) xs ≡ sum_by f xs + sum_by g xs
sum_plus f g [] = refl
sum_plus f g (x ∷ xs) =
    let both = sum_by-cons (λ y. f y + g y) x xs in
    let here = sum_by-cons f x xs in
    let there = sum_by-cons g x xs in
    let rest = sum_plus f g xs in
    omega arith

sum_kept : {X : Type 0} (f : X → ℕ) (keep : Bool) (x : X) (xs : List X) → sum_by f (cond keep (x ∷ xs) xs) ≡ cond keep (f x) 0 + sum_by f xs
sum_kept f true x xs = sum_by-cons f x xs
sum_kept f false x xs = omega arith

-- what is added up over the elements that a test keeps is 0 at the others
pub sum_filter : {X : Type 0} (f : X → ℕ) (test : X → Bool) (xs : List X) → sum_by f (filter test xs) ≡ sum_by (λ x. cond (test x) (f x) 0) xs
sum_filter f test [] = refl
sum_filter f test (x ∷ xs) =
    let kept = sum_kept f (test x) x (filter test xs) in
    let all = sum_by-cons (λ y. cond (test y) (f y) 0) x xs in
    let rest = sum_filter f test xs in
    omega arith

-- nearer than one unit more is nearer, or at that distance
near_or_at : (apart units amount : ℕ) → cond (nat_lt apart (units + 1)) amount 0 ≡ cond (nat_lt apart units) amount 0 + cond (apart == units) amount 0
near_or_at apart units amount = grind (arith, nat_tests)

-- a sum over what is nearer than one unit more
pub sum_near_more : {X : Type 0} (f apart : X → ℕ) (units : ℕ) (xs : List X)
    → sum_by f (filter (λ x. nat_lt (apart x) (units + 1)) xs)
    ≡ sum_by f (filter (λ x. nat_lt (apart x) units) xs) + sum_by f (filter (λ x. apart x == units) xs)
sum_near_more f apart units xs =
    sum_filter f (λ x. nat_lt (apart x) (units + 1)) xs
    ∙ sum_same (λ x. cond (nat_lt (apart x) (units + 1)) (f x) 0) (λ x. cond (nat_lt (apart x) units) (f x) 0 + cond (apart x == units) (f x) 0)
    (λ x. near_or_at (apart x) units (f x)) xs
    ∙ sum_plus (λ x. cond (nat_lt (apart x) units) (f x) 0) (λ x. cond (apart x == units) (f x) 0) xs
    ∙ sym (ap (λ z. z + sum_by (λ x. cond (apart x == units) (f x) 0) xs) (sum_filter f (λ x. nat_lt (apart x) units) xs))
    ∙ sym (ap (λ z. sum_by f (filter (λ x. nat_lt (apart x) units) xs) + z) (sum_filter f (λ x. apart x == units) xs))

-- nothing is nearer than no unit
pub sum_near_none : {X : Type 0} (f apart : X → ℕ) (xs : List X) → sum_by f (filter (λ x. nat_lt (apart x) 0) xs) ≡ 0
sum_near_none f apart [] = refl
sum_near_none f apart (x ∷ xs) = rw (le-ltb (apart x) 0 (omega arith)) (sum_near_none f apart xs)

-- a sum of zeros over a list that counts up
pub sum_zeros : (f : ℕ → ℕ) (from n : ℕ) → ((x : ℕ) → from ≤ x → f x ≡ 0) → sum_by f (range_with_len from n) ≡ 0
sum_zeros f from zero e = refl
sum_zeros f from (suc n) e =
    let here = sum_by-cons f from (range_with_len (from + 1) n) in
    let at = e from (omega arith) in
    let rest = sum_zeros f (from + 1) n (λ x h. e x (omega arith)) in
    omega arith

-- a sum over a list that counts up, of a function that is 0 but at one number, which the list has
pub sum_one : (f : ℕ → ℕ) (one from n : ℕ) → ((x : ℕ) → x ≢ one → f x ≡ 0) → from ≤ one → one < from + n
    → sum_by f (range_with_len from n) ≡ f one
sum_one f one from zero e low high = absurd (omega arith)
sum_one f one from (suc n) e low high =
    elim (cases_eq from one) [
      | inl same ↦
          let here = sum_by-cons f from (range_with_len (from + 1) n) in
          let rest = sum_zeros f (from + 1) n (λ x h. e x (λ (q : x ≡ one). omega arith)) in
          let at : f from ≡ f one = ap f same in
          omega arith
      | inr other ↦
          let here = sum_by-cons f from (range_with_len (from + 1) n) in
          let at = e from other in
          let up : from + 1 ≤ one = omega arith in
          let rest = sum_one f one (from + 1) n e up (omega arith) in
          omega arith
    ]

-- the same where the list doesn't reach that number
pub sum_past : (f : ℕ → ℕ) (one from n : ℕ) → ((x : ℕ) → x ≢ one → f x ≡ 0) → from + n ≤ one → sum_by f (range_with_len from n) ≡ 0
sum_past f one from zero e high = refl
sum_past f one from (suc n) e high =
    let here = sum_by-cons f from (range_with_len (from + 1) n) in
    let at = e from (λ (q : from ≡ one). omega arith) in
    let rest = sum_past f one (from + 1) n e (omega arith) in
    omega arith

zero_either : (keep : Bool) → cond {A = ℕ} keep 0 0 ≡ 0
zero_either true = refl
zero_either false = refl

other_item : (test : ℕ → Bool) (item x : ℕ) → x ≢ item → cond {A = ℕ} (test x) (cond (item == x) 1 0) 0 ≡ 0
other_item test item x other =
    let no_match : (item == x) ≡ false = ne_eqb item x (λ (e : item ≡ x). other (sym e)) in
    rw no_match (zero_either (test x))

this_item : (test : ℕ → Bool) (item : ℕ) → cond {A = ℕ} (test item) (cond (item == item) 1 0) 0 ≡ cond (test item) 1 0
this_item test item = rw (eq-eqb item item refl) refl

both_or_none : (keep : Bool) (a b : ℕ) → cond keep (a + b) 0 ≡ cond keep a 0 + cond keep b 0
both_or_none true a b = refl
both_or_none false a b = refl

other_number : (test : ℕ → Bool) (one x : ℕ) → x ≢ one → cond {A = ℕ} (test x) (cond (x == one) 1 0) 0 ≡ 0
other_number test one x other = rw (ne_eqb x one other) (zero_either (test x))

-- how many items have a value, added up over the values below a bound that pass a test, is how many items pass
pub count_items : (test : ℕ → Bool) (bound : ℕ) (items : List ℕ) → All (λ item. item < bound) items
    → sum_by (λ x. count_by (λ item. item == x) items) (filter test (range_with_len 0 bound)) ≡ count_by test items
count_items test bound [] below =
    sum_filter (λ x. 0) test (range_with_len 0 bound) ∙ sum_zeros (λ x. cond (test x) 0 0) 0 bound (λ x h. zero_either (test x))
count_items test bound (item ∷ items) below =
    let rest = count_items test bound items (All-tail (λ item. item < bound) item items below) in
    let fits : item < bound = All-head (λ item. item < bound) item items below in
    let kept = sum_filter (λ x. count_by (λ item. item == x) items) test (range_with_len 0 bound) in
    let all = sum_filter (λ x. count_by (λ other. other == x) (item ∷ items)) test (range_with_len 0 bound) in
    let apart = sum_same (λ x. cond (test x) (count_by (λ other. other == x) (item ∷ items)) 0)
    (λ x. cond (test x) (cond (item == x) 1 0) 0 + cond (test x) (count_by (λ other. other == x) items) 0)
    (λ x. ap (λ n. cond (test x) n 0) (sum_by-cons (λ other. cond (other == x) 1 0) item items)
    ∙ both_or_none (test x) (cond (item == x) 1 0) (count_by (λ other. other == x) items))
    (range_with_len 0 bound) in
    let both = sum_plus (λ x. cond (test x) (cond (item == x) 1 0) 0) (λ x. cond (test x) (count_by (λ other. other == x) items) 0) (range_with_len 0 bound) in
    let one = sum_one (λ x. cond (test x) (cond (item == x) 1 0) 0) item 0 bound (other_item test item) (omega arith) (omega arith) in
    let here = this_item test item in
    let counted = sum_by-cons (λ x. cond (test x) 1 0) item items in
    omega arith

-- how often a number stands among the values below a bound that pass a test
pub count_one : (test : ℕ → Bool) (bound one : ℕ)
    → count_by (λ x. x == one) (filter test (range_with_len 0 bound)) ≡ cond (nat_lt one bound && test one) 1 0
count_one test bound one =
    let kept = sum_filter (λ x. cond (x == one) 1 0) test (range_with_len 0 bound) in
    elim (cases_lt one bound) [
      | inl below ↦
          let at = sum_one (λ x. cond (test x) (cond (x == one) 1 0) 0) one 0 bound (other_number test one) (omega arith) (omega arith) in
          let here : cond {A = ℕ} (test one) (cond (one == one) 1 0) 0 ≡ cond (test one) 1 0 = rw (eq-eqb one one refl) refl in
          rw (lt-ltb one bound below) (kept ∙ at ∙ here)
      | inr above ↦
          let none = sum_past (λ x. cond (test x) (cond (x == one) 1 0) 0) one 0 bound (other_number test one) (omega arith) in
          rw (le-ltb one bound above) (kept ∙ none)
    ]
