-- Tables of lists of values: what one more item changes, and what they count.
use Rattle.std.proofs.Common.{◌≡◌, ◌≢◌, ℕ, ◌+◌, ◌-◌, ◌^◌, ◌<◌, ◌==◌, inl, inr, true, false, cond, List, [], ◌∷◌, ◌++◌, map, length, replicate, filter, sum_by, count_by, All, get_or, set, refl, sym, ◌∙◌, ap, subst, arith, get_or-set_same, get_or-set_other}
use Rattle.std.specs.List.{fold, range_with_len}
use Rattle.std.proofs.lemmas.List.{get_or-replicate, length-replicate, length-set, append_assoc, append-nil}
use Rattle.std.proofs.lemmas.List.Sums.{sum_by-cons, sum_by-append, sum-map}
use Rattle.std.proofs.lemmas.List.FromFn.{length-map-range_with_len, get_or-map-range_with_len, fill_by_all}
use Rattle.std.proofs.lemmas.List.Elements.{All-head, All-tail}
use Rattle.std.proofs.lemmas.Bool.{cases_eq, eq-eqb, ne_eqb}
use Rattle.ball_walk.specs.Balls.{values, values_near, is_near}
use Rattle.ball_walk.proofs.SumLemmas.{count_items}
use Rattle.ball_walk.proofs.BallLemmas.{near_below}
use Rattle.count_table.specs.Copies.{empty_table, copies_at, total_of, with_one, without_one, count_near, table_of}

-- how many items of a list have a value
abbrev copies_in : List ℕ → ℕ → ℕ
copies_in items value = count_by (λ item. item == value) items

-- one item in the middle of a list is counted at its value alone
copies_between : (front back : List ℕ) (one value : ℕ) → copies_in (front ++ one ∷ back) value ≡ copies_in (front ++ back) value + cond (one == value) 1 0
copies_between front back one value =
    let both = sum_by-append (λ item. cond (item == value) 1 0) front (one ∷ back) in
    let none = sum_by-append (λ item. cond (item == value) 1 0) front back in
    let more = sum_by-cons (λ item. cond (item == value) 1 0) one back in
    omega arith

pub copies_of_one : (front back : List ℕ) (one : ℕ) → copies_in (front ++ one ∷ back) one ≡ copies_in (front ++ back) one + 1
copies_of_one front back one = let at = eq-eqb one one refl in rw at at (copies_between front back one one)

copies_of_other : (front back : List ℕ) (one value : ℕ) → value ≢ one → copies_in (front ++ one ∷ back) value ≡ copies_in (front ++ back) value
copies_of_other front back one value other =
    let no_match : (one == value) ≡ false = ne_eqb one value (λ (e : one ≡ value). other (sym e)) in
    rw no_match at (copies_between front back one value) ∙ omega arith

-- a table of a list by value
pub copies_of_list : (width : ℕ) (items : List ℕ) (value : ℕ) → value < 2 ^ width → copies_at (table_of width items) value ≡ copies_in items value
unfolding table_of values
copies_of_list width items value in_width =
    get_or-map-range_with_len (copies_in items) 0 (2 ^ width) value value 0 in_width (omega arith)

-- a list of counts where the place of one item holds what another list has there, and all else is as it was
counts_set : (bound one amount : ℕ) (old new : List ℕ) → one < bound → amount ≡ copies_in new one
    → ((value : ℕ) → value ≢ one → copies_in old value ≡ copies_in new value)
    → set (map (copies_in old) (range_with_len 0 bound)) one amount ≡ map (copies_in new) (range_with_len 0 bound)
counts_set bound one amount old new fits here there =
    let all = map (copies_in old) (range_with_len 0 bound) in
    let long : length all ≡ bound = length-map-range_with_len (copies_in old) 0 bound in
    fill_by_all (copies_in new) (set all one amount) bound 0
    (length-set all one amount ∙ long)
    (λ k below. elim (cases_eq k one) [
      | inl same ↦
          let P : ℕ → Type 0 = λ n. get_or (set all one amount) n 0 ≡ copies_in new n in
          let fit : one < length all = omega arith in
          subst P (sym same) (get_or-set_same all one amount 0 fit ∙ here)
      | inr other ↦
          get_or-set_other all one k amount 0 other
          ∙ get_or-map-range_with_len (copies_in old) 0 bound k k 0 below (omega arith)
          ∙ there k other
    ])

-- one copy more is one item more
pub table_added : (width value : ℕ) (front back : List ℕ) → value < 2 ^ width
    → with_one (table_of width (front ++ back)) value ≡ table_of width (front ++ value ∷ back)
unfolding table_of values
table_added width value front back in_width =
    ap (λ copies. record { width = width; copies = copies })
    (counts_set (2 ^ width) value (copies_at (table_of width (front ++ back)) value + 1) (front ++ back) (front ++ value ∷ back) in_width
    (ap (λ n. n + 1) (copies_of_list width (front ++ back) value in_width) ∙ sym (copies_of_one front back value))
    (λ other apart. sym (copies_of_other front back value other apart)))

-- one copy less is one item less
pub table_removed : (width value : ℕ) (front back : List ℕ) → value < 2 ^ width
    → without_one (table_of width (front ++ value ∷ back)) value ≡ table_of width (front ++ back)
unfolding table_of values
table_removed width value front back in_width =
    let at = copies_of_list width (front ++ value ∷ back) value in_width in
    let one = copies_of_one front back value in
    ap (λ copies. record { width = width; copies = copies })
    (counts_set (2 ^ width) value (copies_at (table_of width (front ++ value ∷ back)) value - 1) (front ++ value ∷ back) (front ++ back) in_width
    (omega arith)
    (λ other apart. copies_of_other front back value other apart))

-- a value of the list has a copy
pub table_present : (width value : ℕ) (front back : List ℕ) → value < 2 ^ width → 0 < copies_at (table_of width (front ++ value ∷ back)) value
table_present width value front back in_width =
    let at = copies_of_list width (front ++ value ∷ back) value in_width in
    let one = copies_of_one front back value in
    omega arith

-- the table of no items has no copies
pub table_empty : (width : ℕ) → table_of width [] ≡ empty_table width
unfolding table_of empty_table values
table_empty width =
    ap (λ copies. record { width = width; copies = copies })
    (sym
    (fill_by_all (λ value. 0) (replicate (2 ^ width) 0) (2 ^ width) 0 (length-replicate (2 ^ width) 0)
    (λ k below. get_or-replicate (2 ^ width) k 0 0 below)))

added_from : (width : ℕ) (front items : List ℕ) → All (λ item. item < 2 ^ width) items
    → fold with_one (table_of width front) items ≡ table_of width (front ++ items)
added_from width front [] below = ap (table_of width) (sym (append-nil front))
added_from width front (item ∷ items) below =
    let one : with_one (table_of width front) item ≡ table_of width (front ++ item ∷ []) =
    ap (λ l. with_one (table_of width l) item) (sym (append-nil front))
    ∙ table_added width item front [] (All-head (λ n. n < 2 ^ width) item items below) in
    ap (λ table. fold with_one table items) one
    ∙ added_from width (front ++ item ∷ []) items (All-tail (λ n. n < 2 ^ width) item items below)
    ∙ ap (table_of width) (append_assoc front (item ∷ []) items)

-- values added one by one make the table of their list
pub table_one_by_one : (width : ℕ) (items : List ℕ) → All (λ item. item < 2 ^ width) items → fold with_one (empty_table width) items ≡ table_of width items
table_one_by_one width items below =
    ap (λ table. fold with_one table items) (sym (table_empty width)) ∙ added_from width [] items below

-- two functions that agree on the elements of a list have one sum over it
pub sum_agree : (f g : ℕ → ℕ) (bound : ℕ) → ((x : ℕ) → x < bound → f x ≡ g x) → (xs : List ℕ) → All (λ x. x < bound) xs → sum_by f xs ≡ sum_by g xs
sum_agree f g bound e [] below = refl
sum_agree f g bound e (x ∷ xs) below =
    let here = sum_by-cons f x xs in
    let there = sum_by-cons g x xs in
    let at = e x (All-head (λ n. n < bound) x xs below) in
    let rest = sum_agree f g bound e xs (All-tail (λ n. n < bound) x xs below) in
    omega arith

near_of_list : (width value units : ℕ) (items : List ℕ) → All (λ item. item < 2 ^ width) items
    → sum_by (copies_in items) (values_near value width units) ≡ count_by (is_near value units) items
unfolding values_near values
near_of_list width value units items below = count_items (is_near value units) (2 ^ width) items below

-- a table of a list is of the width that was asked
pub width_of : (width : ℕ) (items : List ℕ) → (table_of width items).width ≡ width
unfolding table_of
width_of width items = refl

-- the copies near a value are the items near it
pub table_near : (width value units : ℕ) (items : List ℕ) → All (λ item. item < 2 ^ width) items
    → count_near (table_of width items) value units ≡ count_by (is_near value units) items
unfolding count_near
table_near width value units items below =
    (let same_width : (table_of width items).width ≡ width = width_of width items in
    ap (λ w. sum_by (copies_at (table_of width items)) (values_near value w units)) same_width)
    ∙ sum_agree (copies_at (table_of width items)) (copies_in items) (2 ^ width) (copies_of_list width items)
    (values_near value width units) (near_below value width units)
    ∙ near_of_list width value units items below

all_kept : (xs : List ℕ) → filter (λ x. true) xs ≡ xs
all_kept [] = refl
all_kept (x ∷ xs) = ap (λ l. x ∷ l) (all_kept xs)

all_counted : (xs : List ℕ) → count_by (λ x. true) xs ≡ length xs
all_counted [] = refl
all_counted (x ∷ xs) = let here = sum_by-cons (λ (y : ℕ). 1) x xs in let rest = all_counted xs in omega arith

-- all copies are all items
pub table_total : (width : ℕ) (items : List ℕ) → All (λ item. item < 2 ^ width) items → total_of (table_of width items) ≡ length items
unfolding table_of values
table_total width items below =
    sum-map (copies_in items) (range_with_len 0 (2 ^ width))
    ∙ ap (sum_by (copies_in items)) (sym (all_kept (range_with_len 0 (2 ^ width))))
    ∙ count_items (λ x. true) (2 ^ width) items below
    ∙ all_counted items
