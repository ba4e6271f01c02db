-- Rows that ascend by key, cut at the place of a key.
use Rattle.std.proofs.Common.{◌≡◌, ℕ, zero, suc, ◌<◌, ◌≤◌, ◌==◌, nat_lt, Bool, true, false, cond, List, [], ◌∷◌, ◌++◌, length, take, drop, map, get_or, refl, sym, ap, ◌∙◌, arith, eq-eqb, eqb-true, subst}
use Rattle.std.specs.Prelude.{None, is_some}
use Rattle.std.specs.List.{AllByRecursion}
use Rattle.std.specs.List.Sorted.{IsStrictlySortedBy, IsPartitionPoint}
use Rattle.std.specs.declared.cmp.Ordering.TheVariants.{Less, Equal, Greater}
use Rattle.std.specs.Ordering.{nat_cmp, is_eq}
use Rattle.std.specs.BTreeMap.{insert_entry, is_at}
use Rattle.std.specs.Map.{keys_of, remove_entry}
use Rattle.std.proofs.lemmas.Bool.{ne_eqb, eqb-false, lt-ltb, le-ltb, ltb-true, ltb-false}
use Rattle.std.proofs.lemmas.List.{drop_all, get_or-map, length-map, take-append-drop}
use Rattle.std.proofs.lemmas.Map.{none_passes_from_lookup}
use Rattle.std.proofs.lemmas.Map.Keys.{below_from_sorted}
use Rattle.std.specs.List.Sorted.{IsNonDecreasingBy}
use Rattle.hamming_model.specs.History.{code_at}
use Rattle.shard_version.specs.Kept.{IsPlace}

-- a number below another
pub is_less : (a b : ℕ) → a < b → nat_cmp a b ≡ Less
is_less a b below = rw (lt-ltb a b below) refl

-- a number above another
pub is_greater : (a b : ℕ) → b < a → nat_cmp a b ≡ Greater
is_greater a b above =
    let apart : (a == b) ≡ false = ne_eqb a b (λ (e : a ≡ b). omega arith) in
    rw (le-ltb a b (omega arith), apart) refl

-- a number itself
pub is_equal : (a b : ℕ) → a ≡ b → nat_cmp a b ≡ Equal
is_equal a b same = rw (le-ltb a b (omega arith), eq-eqb a b same) refl

-- a number that is no other, and not above it
below_other : (a b : ℕ) → a ≤ b → is_eq (nat_cmp a b) ≡ false → a < b
below_other a b le apart = go (a == b) refl
  where
    go : (same : Bool) → (a == b) ≡ same → a < b
    go true e = absurd (let equal = is_equal a b (omega (arith, eqb-true a b e)) in cc)
    go false e = omega (arith, eqb-false a b e)

-- ---- what is true of each row

pub all_append : {X : Type 0} (P : X → Type 0) (xs ys : List X) → AllByRecursion P xs → AllByRecursion P ys → AllByRecursion P (xs ++ ys)
all_append P [] ys front back = back
all_append P (x ∷ xs) ys front back = (front.0, all_append P xs ys front.1 back)

pub all_mapped : {X Y : Type 0} (P : Y → Type 0) (f : X → Y) (xs : List X) → AllByRecursion (λ x. P (f x)) xs → AllByRecursion P (map f xs)
all_mapped P f [] all = tt
all_mapped P f (x ∷ xs) all = (all.0, all_mapped P f xs all.1)

pub all_weaker : {X : Type 0} (P Q : X → Type 0) → ((x : X) → P x → Q x) → (xs : List X) → AllByRecursion P xs → AllByRecursion Q xs
all_weaker P Q weaker [] all = tt
all_weaker P Q weaker (x ∷ xs) all = (weaker x all.0, all_weaker P Q weaker xs all.1)

pub all_both : {X : Type 0} (P Q R : X → Type 0) → ((x : X) → P x → Q x → R x) → (xs : List X) → AllByRecursion P xs → AllByRecursion Q xs → AllByRecursion R xs
all_both P Q R both [] ps qs = tt
all_both P Q R both (x ∷ xs) ps qs = (both x ps.0 qs.0, all_both P Q R both xs ps.1 qs.1)

-- ---- a row at its place

-- a new row goes between the lesser and the greater keys
pub inserted_between : (front back : List (ℕ × List ℕ)) (key : ℕ) (code : List ℕ) → AllByRecursion (λ row. row.0 < key) front
    → AllByRecursion (λ row. key < row.0) back
    → insert_entry nat_cmp (front ++ back) key code ≡ front ++ (key, code) ∷ back
inserted_between [] [] key code before after = refl
inserted_between [] (row ∷ back) key code before after = rw (is_less key row.0 after.0) refl
inserted_between (row ∷ front) back key code before after =
    rw (is_greater key row.0 before.0) (ap (λ (rows : List (ℕ × List ℕ)). row ∷ rows) (inserted_between front back key code before.1 after))

-- a row is taken out from behind the lesser keys
pub removed_between : (front back : List (ℕ × List ℕ)) (key : ℕ) (code : List ℕ) → AllByRecursion (λ row. row.0 < key) front
    → remove_entry (is_at (nat_cmp key)) (front ++ (key, code) ∷ back) ≡ front ++ back
removed_between [] back key code before = rw (is_equal key key refl) refl
removed_between (row ∷ front) back key code before =
    rw (is_greater key row.0 before.0) (ap (λ (rows : List (ℕ × List ℕ)). row ∷ rows) (removed_between front back key code before.1))

-- a key looked for behind the lesser keys
pub code_behind : (front back : List (ℕ × List ℕ)) (key : ℕ) → AllByRecursion (λ row. row.0 < key) front → code_at (front ++ back) key ≡ code_at back key
code_behind [] back key before = refl
code_behind (row ∷ front) back key before = rw (is_greater key row.0 before.0) (code_behind front back key before.1)

-- a key below all others isn't there
pub code_before : (back : List (ℕ × List ℕ)) (key : ℕ) → AllByRecursion (λ row. key < row.0) back → code_at back key ≡ None
code_before [] key after = refl
code_before (row ∷ back) key after = rw (is_less key row.0 after.0) (code_before back key after.1)

-- a key that isn't there is none of the keys
pub apart_from_absent : (rows : List (ℕ × List ℕ)) (key : ℕ) → code_at rows key ≡ None → AllByRecursion (λ row. is_eq (nat_cmp key row.0) ≡ false) rows
apart_from_absent rows key absent = none_passes_from_lookup (is_at (nat_cmp key)) rows absent

-- where a key isn't there, keys that are not below it are above it
pub above_absent : (back : List (ℕ × List ℕ)) (key : ℕ) → code_at back key ≡ None → AllByRecursion (λ row. key ≤ row.0) back
    → AllByRecursion (λ row. key < row.0) back
above_absent back key absent after =
    all_both (λ row. key ≤ row.0) (λ row. is_eq (nat_cmp key row.0) ≡ false) (λ row. key < row.0)
    (λ row le apart. below_other key row.0 le apart) back after (apart_from_absent back key absent)

not_less : (same : Bool) → cond same Equal Greater ≡ Less → ⊥
not_less true e = cc
not_less false e = cc

-- one number is below another
pub less_below : (a b : ℕ) → nat_cmp a b ≡ Less → a < b
less_below a b e = go (nat_lt a b) refl
  where
    go : (less : Bool) → nat_lt a b ≡ less → a < b
    go true is = ltb-true a b is
    go false is = absurd (not_less (a == b) (let apart : nat_cmp a b ≡ cond (a == b) Equal Greater = rw is refl in sym apart ∙ e))

-- a number is below each key of rows
pub all_above : (key : ℕ) (rows : List (ℕ × List ℕ)) → AllByRecursion (λ y. nat_cmp key y ≡ Less) (keys_of rows) → AllByRecursion (λ other. key < other.0) rows
all_above key [] all = tt
all_above key (other ∷ rows) all = (less_below key other.0 all.0, all_above key rows all.1)

-- keys after the first of ascending ones are above it
pub above_first : (row : ℕ × List ℕ) (rows : List (ℕ × List ℕ)) → IsStrictlySortedBy nat_cmp (keys_of (row ∷ rows))
    → AllByRecursion (λ other. row.0 < other.0) rows
unfolding IsStrictlySortedBy
above_first row rows up = all_above row.0 rows up.0

-- rows ascend from each place on
pub ascend_from : (place : ℕ) (rows : List (ℕ × List ℕ)) → IsStrictlySortedBy nat_cmp (keys_of rows) → IsStrictlySortedBy nat_cmp (keys_of (drop place rows))
unfolding IsStrictlySortedBy
ascend_from zero rows up = up
ascend_from (suc place) [] up = tt
ascend_from (suc place) (row ∷ rows) up = ascend_from place rows up.1

-- ---- the place that a search by halves finds

-- keys that ascend don't fall
pub keys_rise : (rows : List (ℕ × List ℕ)) → IsStrictlySortedBy nat_cmp (keys_of rows) → IsNonDecreasingBy (λ row. row.0) rows
keys_rise rows up i j d le within = go (i == j) refl
  where
    first : ℕ × List ℕ → ℕ
    first row = row.0

    go : (same : Bool) → (i == j) ≡ same → (get_or rows i d).0 ≤ (get_or rows j d).0
    go true e = rw (eqb-true i j e) (omega arith)
    go false e =
        let apart = eqb-false i j e in
        let long = length-map rows first in
        let rises = below_from_sorted (keys_of rows) i j d.0 up (omega arith) (omega arith) in
        let low = get_or-map first rows i d d.0 (omega arith) in
        let high = get_or-map first rows j d d.0 within in
        omega arith

-- what is true at each of the first places is true of each of the first elements
pub all_taken : {X : Type 0} (P : X → Type 0) (i : ℕ) (xs : List X) → ((k : ℕ) (d : X) → k < i → k < length xs → P (get_or xs k d))
    → AllByRecursion P (take i xs)
all_taken P zero xs each = tt
all_taken P (suc i) [] each = tt
all_taken P (suc i) (x ∷ xs) each = (each 0 x (omega arith) (omega arith), all_taken P i xs (λ k d below within. each (suc k) d (omega arith) (omega arith)))

-- and so of the last
pub all_dropped : {X : Type 0} (P : X → Type 0) (i : ℕ) (xs : List X)
    → ((k : ℕ) (d : X) → i ≤ k → k < length xs → P (get_or xs k d)) → AllByRecursion P (drop i xs)
all_dropped P zero [] each = tt
all_dropped P zero (x ∷ xs) each =
    (each 0 x (omega arith) (omega arith), all_dropped P zero xs (λ k d above within. each (suc k) d (omega arith) (omega arith)))
all_dropped P (suc i) [] each = tt
all_dropped P (suc i) (x ∷ xs) each = all_dropped P i xs (λ k d above within. each (suc k) d (omega arith) (omega arith))

-- where the lesser keys come first, the place after them is the key's
pub place_found : (rows : List (ℕ × List ℕ)) (key place : ℕ) → place ≤ length rows
    → IsPartitionPoint (λ row. nat_lt row.0 key ≡ true) (λ row. nat_lt row.0 key ≡ false) rows place → IsPlace rows key place
place_found rows key place within parted = record {
  in_rows = within;
  before = all_taken (λ row. row.0 < key) place rows (λ k d below inside. ltb-true (get_or rows k d).0 key (parted.0 k d (omega arith) below));
  after = all_dropped (λ row. key ≤ row.0) place rows (λ k d above inside. ltb-false (get_or rows k d).0 key (parted.1 k d above inside));
}

-- a list from one of its places on
pub drop_here : {X : Type 0} (place : ℕ) (xs : List X) (other : X) → place < length xs → drop place xs ≡ get_or xs place other ∷ drop (suc place) xs
drop_here place [] other within = absurd (omega arith)
drop_here zero (x ∷ xs) other within = refl
drop_here (suc place) (x ∷ xs) other within = drop_here place xs other (omega arith)

-- a list is what stands before a place, what stands there, and what stands after
pub cut_here : {X : Type 0} (place : ℕ) (xs : List X) (other : X) → place < length xs → take place xs ++ get_or xs place other ∷ drop (suc place) xs ≡ xs
cut_here place xs other within = ap (λ back. take place xs ++ back) (sym (drop_here place xs other within)) ∙ take-append-drop place xs

-- a key looked for from its place on
pub code_split : (place : ℕ) (rows : List (ℕ × List ℕ)) (key : ℕ) → AllByRecursion (λ row. row.0 < key) (take place rows)
    → code_at rows key ≡ code_at (drop place rows) key
code_split place rows key before = ap (λ (all : List (ℕ × List ℕ)). code_at all key) (sym (take-append-drop place rows))
    ∙ code_behind (take place rows) (drop place rows) key before

-- whether the first of ascending rows has a key that isn't above it
first_has : (row : ℕ × List ℕ) (rows : List (ℕ × List ℕ)) (key : ℕ) → IsStrictlySortedBy nat_cmp (keys_of (row ∷ rows))
    → key ≤ row.0 → (row.0 == key) ≡ is_some (code_at (row ∷ rows) key)
first_has row rows key up le = go (row.0 == key) refl
  where
    go : (same : Bool) → (row.0 == key) ≡ same → same ≡ is_some (code_at (row ∷ rows) key)
    go true e = rw (is_equal key row.0 (sym (eqb-true row.0 key e))) refl
    go false e =
        let apart = eqb-false row.0 key e in
        let low : key < row.0 = omega arith in
        let above = all_weaker (λ other. row.0 < other.0) (λ other. key < other.0) (λ other h. omega arith) rows (above_first row rows up) in
        ap (λ found. is_some found) (sym (code_before (row ∷ rows) key (low, above)))

-- a key has a row where the row at its place has the key
pub stands_here : (rows : List (ℕ × List ℕ)) (key place : ℕ) (other : ℕ × List ℕ) → IsStrictlySortedBy nat_cmp (keys_of rows)
    → IsPlace rows key place → place < length rows
    → ((get_or rows place other).0 == key) ≡ is_some (code_at rows key)
stands_here rows key place other up at within =
    let here = drop_here place rows other within in
    let row = get_or rows place other in
    let from : AllByRecursion (λ each. key ≤ each.0) (row ∷ drop (suc place) rows) =
    subst (λ (back : List (ℕ × List ℕ)). AllByRecursion (λ each. key ≤ each.0) back) here at.after in
    let rise : IsStrictlySortedBy nat_cmp (keys_of (row ∷ drop (suc place) rows)) =
    subst (λ (back : List (ℕ × List ℕ)). IsStrictlySortedBy nat_cmp (keys_of back)) here (ascend_from place rows up) in
    first_has row (drop (suc place) rows) key rise from.0 ∙ ap (λ (back : List (ℕ × List ℕ)). is_some (code_at back key)) (sym here)
    ∙ ap (λ found. is_some found) (sym (code_split place rows key at.before))

-- and none where no row stands there
pub stands_nowhere : (rows : List (ℕ × List ℕ)) (key place : ℕ) → IsPlace rows key place → length rows ≤ place
    → (nat_lt place (length rows)) ≡ is_some (code_at rows key)
stands_nowhere rows key place at past =
    let none : drop place rows ≡ [] = drop_all place rows past in
    rw (le-ltb place (length rows) past, code_split place rows key at.before, none) refl

-- how many keys come before one
abbrev pub place_in : List (ℕ × List ℕ) → ℕ → ℕ
place_in [] key = 0
place_in (row ∷ rows) key = cond (nat_lt row.0 key) (suc (place_in rows key)) 0

-- is its place
pub place_there : (rows : List (ℕ × List ℕ)) (key : ℕ) → IsStrictlySortedBy nat_cmp (keys_of rows) → IsPlace rows key (place_in rows key)
unfolding IsStrictlySortedBy
place_there [] key up = record { in_rows = omega arith; before = tt; after = tt }
place_there (row ∷ rows) key up = go (nat_lt row.0 key) refl (place_there rows key up.1)
  where
    go : (less : Bool) → nat_lt row.0 key ≡ less → IsPlace rows key (place_in rows key) → IsPlace (row ∷ rows) key (cond less (suc (place_in rows key)) 0)
    go true e rest = record {
      in_rows = let within = rest.in_rows in omega arith;
      before = (ltb-true row.0 key e, rest.before);
      after = rest.after;
    }
    go false e rest =
        let low = ltb-false row.0 key e in
        record {
          in_rows = omega arith;
          before = tt;
          after = (
            low,
            all_weaker (λ other. row.0 < other.0) (λ other. key ≤ other.0) (λ other h. omega arith) rows
                (all_above row.0 rows up.0),
          );
        }
