-- Lists with the same rows, after a row comes or goes, and after a list of values changes with them.
use Rattle.std.proofs.Common.{◌≡◌, ◌≢◌, ℕ, ◌+◌, ◌<◌, ◌==◌, Bool, true, false, cond, ◌||◌, List, [], ◌∷◌, ◌++◌, map, filter, sum_by, refl, sym, ap, ◌∙◌, arith, eq-eqb}
use Rattle.std.specs.List.{AllByRecursion}
use Rattle.std.proofs.lemmas.Bool.{ne_eqb}
use Rattle.std.proofs.lemmas.List.Elements.{filter-append}
use Rattle.std.proofs.lemmas.List.Sums.{sum_by-cons, sum_by-append}
use Rattle.posting_table.specs.Tables.{has_key}
use Rattle.search_model.specs.Reading.{HasSame, unpadded}
use Rattle.search_model.proofs.SameLemmas.{sum_kept}

-- a sum over what a test lets through of rows with one row more
pub sum_with : {X : Type 0} (f : X → ℕ) (test : X → Bool) (front back : List X) (x : X)
    → sum_by f (filter test (front ++ x ∷ back)) ≡ cond (test x) (f x) 0 + sum_by f (filter test (front ++ back))
sum_with f test front back x =
    let all : sum_by f (filter test (front ++ x ∷ back)) ≡ sum_by f (filter test front ++ filter test (x ∷ back)) =
    ap (sum_by f) (filter-append test front (x ∷ back)) in
    let less : sum_by f (filter test (front ++ back)) ≡ sum_by f (filter test front ++ filter test back) = ap (sum_by f) (filter-append test front back) in
    let both = sum_by-append f (filter test front) (filter test (x ∷ back)) in
    let few = sum_by-append f (filter test front) (filter test back) in
    let here : sum_by f (filter test (x ∷ back)) ≡ cond (test x) (f x) 0 + sum_by f (filter test back) = sum_kept f (test x) x (filter test back) in
    omega (arith, all, less, both, few, here)

-- ---- a key among entries

-- 1 for an entry of the key
abbrev pub of_key : ℕ → ℕ × List ℕ → ℕ
of_key key entry = cond (entry.0 == key) 1 0

-- nothing for an entry of the key, and as before for each other
abbrev pub but_key : ℕ → (ℕ × List ℕ → ℕ) → ℕ × List ℕ → ℕ
but_key key f entry = cond (entry.0 == key) 0 (f entry)

-- entries none of which is the key's
pub none_of_key : (key : ℕ) (rows : List (ℕ × List ℕ)) → AllByRecursion (λ row. row.0 ≢ key) rows → sum_by (of_key key) rows ≡ 0
none_of_key key [] apart = refl
none_of_key key (row ∷ rows) apart =
    let first : of_key key row ≡ 0 = rw (ne_eqb row.0 key apart.0) refl in
    omega (arith, sum_by-cons (of_key key) row rows, first, none_of_key key rows apart.1)

-- entries of which none is counted for the key have none of it
pub lacks_key : (bits key : ℕ) (entries : List (ℕ × List ℕ)) → sum_by (of_key key) (map (unpadded bits) entries) ≡ 0 → has_key entries key ≡ false
lacks_key bits key [] none = refl
lacks_key bits key (entry ∷ entries) none =
    go (entry.0 == key) (has_key entries key) (sym (sum_by-cons (of_key key) (unpadded bits entry) (map (unpadded bits) entries))
    ∙ none) (lacks_key bits key entries)
  where
    go : (same more : Bool) → cond same 1 0 + sum_by (of_key key) (map (unpadded bits) entries) ≡ 0
        → (sum_by (of_key key) (map (unpadded bits) entries) ≡ 0 → more ≡ false) → (same || more) ≡ false
    go true more all rest = absurd (omega arith)
    go false more all rest = rest (omega arith)

-- entries of which one is counted for the key have it
pub holds_key : (bits key : ℕ) (entries : List (ℕ × List ℕ)) → 0 < sum_by (of_key key) (map (unpadded bits) entries) → has_key entries key ≡ true
holds_key bits key [] some = absurd (omega arith)
holds_key bits key (entry ∷ entries) some =
    go (entry.0 == key) (has_key entries key)
    (omega (arith, some, sum_by-cons (of_key key) (unpadded bits entry) (map (unpadded bits) entries)))
    (holds_key bits key entries)
  where
    go : (same more : Bool) → 0 < cond same 1 0 + sum_by (of_key key) (map (unpadded bits) entries)
        → (0 < sum_by (of_key key) (map (unpadded bits) entries) → more ≡ true) → (same || more) ≡ true
    go true more all rest = refl
    go false more all rest = rest (omega arith)

-- where no entry is the key's, it is as well to leave the key out
pub without_key : (key : ℕ) (f : ℕ × List ℕ → ℕ) (entries : List (ℕ × List ℕ)) → sum_by (of_key key) entries ≡ 0
    → sum_by f entries ≡ sum_by (but_key key f) entries
without_key key f [] none = refl
without_key key f (entry ∷ entries) none =
    let rest = without_key key f entries in
    let whole = sum_by-cons f entry entries in
    let masked = sum_by-cons (but_key key f) entry entries in
    whole ∙ go (entry.0 == key) (sym (sum_by-cons (of_key key) entry entries) ∙ none) rest ∙ sym masked
  where
    go : (same : Bool) → cond same 1 0 + sum_by (of_key key) entries ≡ 0 → (sum_by (of_key key) entries ≡ 0 → sum_by f entries ≡ sum_by (but_key key f) entries)
        → f entry + sum_by f entries ≡ cond same 0 (f entry) + sum_by (but_key key f) entries
    go true all rest = absurd (omega arith)
    go false all rest = let more = rest (omega arith) in omega arith

-- two lists that have the same once each gets a row of the key have the same, where one has no row of it
pub same_without : (key : ℕ) (gone row : ℕ × List ℕ) (xs ys : List (ℕ × List ℕ)) → gone.0 ≡ key → row.0 ≡ key → AllByRecursion (λ other. other.0 ≢ key) ys
    → ((f : ℕ × List ℕ → ℕ) → f gone + sum_by f xs ≡ f row + sum_by f ys) → HasSame xs ys
same_without key gone row xs ys own same apart sums = record {
  sums = λ f. (
      let no_more = none_of_key key ys apart in
      let counted = sums (of_key key) in
      let gone_one : of_key key gone ≡ 1 = rw (eq-eqb gone.0 key own) refl in
      let row_one : of_key key row ≡ 1 = rw (eq-eqb row.0 key same) refl in
      let none_left : sum_by (of_key key) xs ≡ 0 = omega arith in
      let masked = sums (but_key key f) in
      let gone_none : but_key key f gone ≡ 0 = rw (eq-eqb gone.0 key own) refl in
      let row_none : but_key key f row ≡ 0 = rw (eq-eqb row.0 key same) refl in
      let left = without_key key f xs none_left in
      let right = without_key key f ys no_more in
      omega arith);
}
