-- The order of hits: of the lists with the same hits, each as often, exactly one ascends, and `in_order` gives it.
use Rattle.std.proofs.Common.{◌≡◌, ℕ, ◌+◌, ◌<◌, List, [], ◌∷◌, get_or, refl, sym, ap, subst, ◌∙◌, arith, add-one, true, false, Bool, cond, zero, suc}
use Rattle.std.specs.Prelude.{◌==◌, ◌&&◌, sum_by, All}
use Rattle.std.specs.List.{AllByRecursion}
use Rattle.std.specs.List.Sorted.{IsPermutation, IsSorted}
use Rattle.std.specs.Cmp.{IsTotalOrder}
use Rattle.std.specs.declared.cmp.Ordering.{Ordering}
use Rattle.std.specs.declared.cmp.Ordering.TheVariants.{Less, Equal, Greater}
use Rattle.std.specs.Ordering.{nat_cmp, ordering_then, ordering_reverse, is_gt, is_lt}
use Rattle.std.proofs.lemmas.Cmp.{nat_cmp_total, on_total, then_total, upto, tied_itself}
use Rattle.std.proofs.lemmas.Map.Lookups.{exact_unsigned}
use Rattle.std.proofs.lemmas.Bool.{eqb-true, eq-eqb}
use Rattle.std.proofs.lemmas.List.Sums.{sum_by-cons}
use Rattle.std.proofs.lemmas.List.Sorted.{sorted_far, ranks_by, sum_by-IsPermutation, IsPermutation-refl, IsPermutation-sym, IsPermutation-cons, IsPermutation-trans, IsPermutation-middle}
use Rattle.std.proofs.lemmas.List.Elements.{recursion_from_All}
use Rattle.hamming_model.specs.declared.hit.Hit.{Hit}
use Rattle.hamming_model.specs.Scan.{hit_cmp, placed, in_order}
use Rattle.hamming_model.specs.Order.{is_same_hit, occurrences}
pub use Rattle.hamming_model.specs.Order.{IsFirst, Ascends}

-- hits are in a total order
pub hit_order : IsTotalOrder hit_cmp
hit_order = then_total (on_total (λ (hit : Hit). hit.dist) nat_cmp_total) (on_total (λ (hit : Hit). hit.key) nat_cmp_total)

same_fields : (a b : Hit) → a.dist ≡ b.dist → a.key ≡ b.key → a ≡ b
same_fields a b d k = ap (λ (n : ℕ). let hit : Hit = record { dist = n; key = a.key } in hit) d
    ∙ ap (λ (n : ℕ). let hit : Hit = record { dist = b.dist; key = n } in hit) k

both_equal : (o p : Ordering) → ordering_then o p ≡ Equal → (o ≡ Equal) × (p ≡ Equal)
both_equal Less p h = cc
both_equal Equal p h = (refl, h)
both_equal Greater p h = cc

-- hits that tie are one
pub tied_is_same : (a b : Hit) → hit_cmp a b ≡ Equal → a ≡ b
tied_is_same a b h =
    let both = both_equal (nat_cmp a.dist b.dist) (nat_cmp a.key b.key) h in
    same_fields a b (exact_unsigned a.dist b.dist both.0) (exact_unsigned a.key b.key both.1)

and_both : (a b : Bool) → (a && b) ≡ true → (a ≡ true) × (b ≡ true)
and_both true b h = (refl, h)
and_both false b h = cc

-- the test for one hit finds that hit alone
pub same_hit_is : (a b : Hit) → is_same_hit a b ≡ true → a ≡ b
same_hit_is a b h =
    let both = and_both (b.dist == a.dist) (b.key == a.key) h in
    same_fields a b (sym (eqb-true b.dist a.dist both.0)) (sym (eqb-true b.key a.key both.1))

-- and it finds that
pub same_hit_itself : (a : Hit) → is_same_hit a a ≡ true
same_hit_itself a = rw (eq-eqb a.dist a.dist refl, eq-eqb a.key a.key refl)

lt_is_gt : (o p : Ordering) → p ≡ ordering_reverse o → is_lt o ≡ is_gt p
lt_is_gt Less p e = rw e
lt_is_gt Equal p e = rw e
lt_is_gt Greater p e = rw e

-- of two orders that are each other's reverse only one is greater
pub not_both_gt : (o p : Ordering) → p ≡ ordering_reverse o → is_gt o ≡ true → is_gt p ≡ false
not_both_gt Less p e h = cc
not_both_gt Equal p e h = cc
not_both_gt Greater p e h = rw e

neither_gt : (o p : Ordering) → p ≡ ordering_reverse o → is_gt o ≡ false → is_gt p ≡ false → o ≡ Equal
neither_gt Less p e h k = let l : is_gt p ≡ true = rw e in cc
neither_gt Equal p e h k = refl
neither_gt Greater p e h k = cc

lt_gt : (a b : Hit) → is_lt (hit_cmp a b) ≡ is_gt (hit_cmp b a)
lt_gt a b = lt_is_gt (hit_cmp a b) (hit_cmp b a) (hit_order.antisymm b a)

-- what is not after the first of some hits is after none of them
pub first_before : (a b : Hit) (hits : List Hit) → is_gt (hit_cmp a b) ≡ false → IsFirst b hits → IsFirst a hits
first_before a b [] h all = tt
first_before a b (hit ∷ hits) h all = (upto hit_order a b hit h all.0, first_before a b hits h all.1)

first_of_placed : (least hit : Hit) (hits : List Hit) → is_gt (hit_cmp least hit) ≡ false → IsFirst least hits → IsFirst least (placed hit hits)
first_of_placed least hit [] h all = (h, tt)
first_of_placed least hit (other ∷ hits) h all = go (first_of_placed least hit hits h all.1) (is_gt (hit_cmp hit other))
  where
    go : IsFirst least (placed hit hits) → (b : Bool) → IsFirst least (cond b (other ∷ placed hit hits) (hit ∷ other ∷ hits))
    go rest true = (all.0, rest)
    go rest false = (h, all)

ascends_placed : (hit : Hit) (hits : List Hit) → Ascends hits → Ascends (placed hit hits)
ascends_placed hit [] up = (tt, tt)
ascends_placed hit (other ∷ hits) up = go (ascends_placed hit hits up.1) (is_gt (hit_cmp hit other)) refl
  where
    go : Ascends (placed hit hits) → (b : Bool) → is_gt (hit_cmp hit other) ≡ b → Ascends (cond b (other ∷ placed hit hits) (hit ∷ other ∷ hits))
    go rest true e =
        let back = not_both_gt (hit_cmp hit other) (hit_cmp other hit) (hit_order.antisymm other hit) e in
        (first_of_placed other hit hits back up.0, rest)
    go rest false e = ((e, first_before hit other hits e up.0), up)

-- the list in order ascends
pub ascends_in_order : (hits : List Hit) → Ascends (in_order hits)
ascends_in_order [] = tt
ascends_in_order (hit ∷ hits) = ascends_placed hit (in_order hits) (ascends_in_order hits)

sum_of_placed : (f : Hit → ℕ) (hit : Hit) (hits : List Hit) → sum_by f (placed hit hits) ≡ f hit + sum_by f hits
sum_of_placed f hit [] = sum_by-cons f hit []
sum_of_placed f hit (other ∷ hits) = go (sum_of_placed f hit hits) (is_gt (hit_cmp hit other))
  where
    go : sum_by f (placed hit hits) ≡ f hit + sum_by f hits → (b : Bool)
        → sum_by f (cond b (other ∷ placed hit hits) (hit ∷ other ∷ hits)) ≡ f hit + sum_by f (other ∷ hits)
    go rest true = omega (arith, sum_by-cons f other (placed hit hits), sum_by-cons f other hits)
    go rest false = sum_by-cons f hit (other ∷ hits)

-- putting in order keeps each sum over the hits
pub sum_of_in_order : (f : Hit → ℕ) (hits : List Hit) → sum_by f (in_order hits) ≡ sum_by f hits
sum_of_in_order f [] = refl
sum_of_in_order f (hit ∷ hits) = omega (arith, sum_of_placed f hit (in_order hits), sum_of_in_order f hits, sum_by-cons f hit hits)

placed_permutation : (hit : Hit) (hits : List Hit) → IsPermutation (hit ∷ hits) (placed hit hits)
placed_permutation hit [] = IsPermutation-refl (hit ∷ [])
placed_permutation hit (other ∷ hits) = go (placed_permutation hit hits) (is_gt (hit_cmp hit other))
  where
    go : IsPermutation (hit ∷ hits) (placed hit hits) → (b : Bool) → IsPermutation (hit ∷ other ∷ hits) (cond b (other ∷ placed hit hits) (hit ∷ other ∷ hits))
    go rest true =
        IsPermutation-trans _ _ _ (IsPermutation-sym _ _ (IsPermutation-middle (other ∷ []) hit hits))
        (IsPermutation-cons other _ _ rest)
    go rest false = IsPermutation-refl (hit ∷ other ∷ hits)

-- the list in order has the hits of the list
pub in_order_permutation : (hits : List Hit) → IsPermutation hits (in_order hits)
in_order_permutation [] = IsPermutation-refl []
in_order_permutation (hit ∷ hits) =
    IsPermutation-trans _ _ _ (IsPermutation-cons hit _ _ (in_order_permutation hits)) (placed_permutation hit (in_order hits))

-- a list that ascends is sorted
pub sorted_from_ascends : (hits : List Hit) → Ascends hits → IsSorted hit_cmp hits
sorted_from_ascends [] up k d low high = absurd (omega arith)
sorted_from_ascends (hit ∷ []) up k d low high = absurd (omega arith)
sorted_from_ascends (hit ∷ other ∷ hits) up zero d low high = lt_gt other hit ∙ up.0.0
sorted_from_ascends (hit ∷ other ∷ hits) up (suc k) d low high =
    simp add-one (simp add-one at (sorted_from_ascends (other ∷ hits) up.1 k d (omega arith) (omega arith)))

-- a list that is sorted ascends
pub ascends_from_sorted : (hits : List Hit) → IsSorted hit_cmp hits → Ascends hits
ascends_from_sorted [] up = tt
ascends_from_sorted (hit ∷ hits) up = (recursion_from_All _ hits first, ascends_from_sorted hits later)
  where
    later : IsSorted hit_cmp hits
    later k d low high = simp add-one (simp add-one at (up (suc k) d (omega arith) (omega arith)))

    first : All (λ other. is_gt (hit_cmp hit other) ≡ false) hits
    first k d l = sym (lt_gt (get_or hits k d) hit) ∙ sorted_far (λ x y. is_lt (hit_cmp x y)) (ranks_by hit_order (λ x. x))
        (hit ∷ hits) up 0 (suc k) d (omega arith) (omega arith)

-- the list in order is sorted
pub in_order_sorted : (hits : List Hit) → IsSorted hit_cmp (in_order hits)
in_order_sorted hits = sorted_from_ascends (in_order hits) (ascends_in_order hits)

-- 1 where the other hit is this one
abbrev mark : Hit → Hit → ℕ
mark hit other = cond (is_same_hit hit other) 1 0

counts : (hit other : Hit) (hits : List Hit) → occurrences hit (other ∷ hits) ≡ mark hit other + occurrences hit hits
counts hit other hits = sum_by-cons (mark hit) other hits

-- what is true of each hit is true of one that stands there
found : (P : Hit → Type 0) (hit : Hit) (hits : List Hit) → AllByRecursion P hits → 0 < occurrences hit hits → P hit
found P hit [] all pos = absurd (omega arith)
found P hit (other ∷ hits) all pos = go (found P hit hits all.1) (is_same_hit hit other) refl
  where
    go : (0 < occurrences hit hits → P hit) → (b : Bool) → is_same_hit hit other ≡ b → P hit
    go later true e = subst P (sym (same_hit_is hit other e)) all.0
    go later false e =
        let none : mark hit other ≡ 0 = rw e in
        later (omega (arith, counts hit other hits))

counted : (hit : Hit) (hits : List Hit) → occurrences hit (hit ∷ hits) ≡ 1 + occurrences hit hits
counted hit hits =
    let one : mark hit hit ≡ 1 = rw (same_hit_itself hit) in
    omega (arith, counts hit hit hits)

not_after : (hit other : Hit) (hits : List Hit) → Ascends (hit ∷ hits) → 0 < occurrences other (hit ∷ hits) → is_gt (hit_cmp hit other) ≡ false
not_after hit other hits up pos =
    let itself : is_gt (hit_cmp hit hit) ≡ false = rw (tied_itself hit_order hit) in
    found (λ x. is_gt (hit_cmp hit x) ≡ false) other (hit ∷ hits) (itself, up.0) pos

-- two lists that ascend, with each hit as often, are one
pub one_order : (xs ys : List Hit) → Ascends xs → Ascends ys → ((hit : Hit) → occurrences hit xs ≡ occurrences hit ys) → xs ≡ ys
one_order [] [] up vp same = refl
one_order [] (y ∷ ys) up vp same = absurd (omega (arith, same y, counted y ys))
one_order (x ∷ xs) [] up vp same = absurd (omega (arith, same x, counted x xs))
one_order (x ∷ xs) (y ∷ ys) up vp same =
    let a : is_gt (hit_cmp y x) ≡ false = not_after y x ys vp (omega (arith, same x, counted x xs)) in
    let b : is_gt (hit_cmp x y) ≡ false = not_after x y xs up (omega (arith, same y, counted y ys)) in
    let e : x ≡ y = tied_is_same x y (neither_gt (hit_cmp x y) (hit_cmp y x) (hit_order.antisymm y x) b a) in
    let rest : xs ≡ ys = one_order xs ys up.1 vp.1 (λ hit. fewer hit e (same hit)) in
    ap (λ z. z ∷ xs) e ∙ ap (λ zs. y ∷ zs) rest
  where
    fewer : (hit : Hit) → x ≡ y → occurrences hit (x ∷ xs) ≡ occurrences hit (y ∷ ys) → occurrences hit xs ≡ occurrences hit ys
    fewer hit e h =
        let ones : mark hit x ≡ mark hit y = ap (mark hit) e in
        omega (arith, counts hit x xs, counts hit y ys)

-- lists with each hit as often have one list in order
pub same_in_order : (xs ys : List Hit) → ((hit : Hit) → occurrences hit xs ≡ occurrences hit ys) → in_order xs ≡ in_order ys
same_in_order xs ys same =
    one_order (in_order xs) (in_order ys) (ascends_in_order xs) (ascends_in_order ys)
    (λ hit. sum_of_in_order _ xs ∙ same hit ∙ sym (sum_of_in_order _ ys))

-- a sorted list with the hits of a list is that list in order
pub sorted_is_in_order : (xs hits : List Hit) → IsPermutation xs hits → IsSorted hit_cmp hits → hits ≡ in_order xs
sorted_is_in_order xs hits moved up =
    one_order hits (in_order xs) (ascends_from_sorted hits up) (ascends_in_order xs)
    (λ hit. sum_by-IsPermutation _ xs hits moved ∙ sym (sum_of_in_order _ xs))

-- lists of the same hits have one list in order
pub in_order_of_permutation : (xs ys : List Hit) → IsPermutation xs ys → in_order xs ≡ in_order ys
in_order_of_permutation xs ys moved = same_in_order xs ys (λ hit. sym (sum_by-IsPermutation _ xs ys moved))

-- what a sort of a list with these hits gives
pub sort_gives_order : (xs ys hits : List Hit) → IsPermutation ys hits → IsSorted hit_cmp hits → ys ≡ xs → hits ≡ in_order xs
sort_gives_order xs ys hits moved up same = sorted_is_in_order ys hits moved up ∙ ap in_order same
