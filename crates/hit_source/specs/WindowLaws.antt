-- A window over hits in order: what waits is the next of the hits,
-- and its floor is that of what wasn't given.
use Rattle.std.proofs.Common.{◌≡◌, ℕ, ◌+◌, ◌-◌, ◌≤◌, ◌<◌, List, [], ◌∷◌, length, take, drop, refl, sym, ap, ◌∙◌, arith, false, zero, suc, Option, Some, None}
use Rattle.std.specs.Prelude.{All, IfSome}
use Rattle.std.specs.List.{AllByRecursion}
use Rattle.std.specs.declared.cmp.Ordering.{Ordering}
use Rattle.std.specs.declared.cmp.Ordering.TheVariants.{Less, Equal, Greater}
use Rattle.std.specs.Ordering.{nat_cmp, ordering_then, is_gt, MatchOrdering}
use Rattle.std.proofs.lemmas.Cmp.{ranked}
use Rattle.std.proofs.lemmas.List.{length-take-le, length-drop, drop-drop}
use Rattle.std.proofs.lemmas.List.Elements.{All-from_recursion}
use Rattle.hamming_model.specs.declared.hit.Hit.{Hit}
use Rattle.hamming_model.specs.Scan.{hit_cmp}
use Rattle.hamming_model.proofs.OrderLemmas.{IsFirst, Ascends}
use Rattle.hit_source.specs.Moves.{NotBelow}
use Rattle.hit_source.specs.Windows.{Window, IsWindow, left_of, waiting_of, first_distance, with_given}

by_rank : (o p : Ordering) (x y : ℕ) → MatchOrdering o (x < y) (x ≡ y) (y < x)
    → is_gt (ordering_then o p) ≡ false
    → x ≤ y
by_rank Less p x y rank h = omega (arith, rank)
by_rank Equal p x y rank h = omega (arith, rank)
by_rank Greater p x y rank h = cc

-- a hit that isn't after another is at most as far
pub nearer : (a b : Hit) → is_gt (hit_cmp a b) ≡ false → a.dist ≤ b.dist
nearer a b h = by_rank (nat_cmp a.dist b.dist) (nat_cmp a.key b.key) a.dist b.dist
    (ranked a.dist b.dist (nat_cmp a.dist b.dist) refl) h

nearest : (hit : Hit) (hits : List Hit) → IsFirst hit hits
    → AllByRecursion (λ other. hit.dist ≤ other.dist) hits
nearest hit [] first = tt
nearest hit (other ∷ hits) first = (nearer hit other first.0, nearest hit hits first.1)

-- no hit is nearer than the first
pub none_nearer : (hits : List Hit) → Ascends hits
    → IfSome (first_distance hits) (λ floor. All (λ hit. floor ≤ hit.dist) hits)
none_nearer [] up = tt
none_nearer (hit ∷ hits) up =
    All-from_recursion (λ other. hit.dist ≤ other.dist) (hit ∷ hits)
    (omega arith, nearest hit hits up.0)

-- what follows the first hits of a list that ascends ascends
pub ascends_drop : (n : ℕ) (hits : List Hit) → Ascends hits → Ascends (drop n hits)
ascends_drop zero hits up = up
ascends_drop (suc n) [] up = tt
ascends_drop (suc n) (hit ∷ hits) up = ascends_drop n hits up.1

-- a floor isn't below itself
pub not_below_itself : (floor : Option ℕ) → NotBelow floor floor
not_below_itself None = tt
not_below_itself (Some floor) = omega arith

below_later : (hit : Hit) (n : ℕ) (hits : List Hit) → IsFirst hit hits
    → NotBelow (Some hit.dist) (first_distance (drop n hits))
below_later hit zero [] first = tt
below_later hit (suc n) [] first = tt
below_later hit zero (other ∷ hits) first = nearer hit other first.0
below_later hit (suc n) (other ∷ hits) first = below_later hit n hits first.1

-- the floor doesn't fall where hits are taken off the front
pub floor_rises : (n : ℕ) (hits : List Hit) → Ascends hits
    → NotBelow (first_distance hits) (first_distance (drop n hits))
floor_rises zero hits up = not_below_itself (first_distance hits)
floor_rises (suc n) [] up = tt
floor_rises (suc n) (hit ∷ hits) up = below_later hit n hits up.0

-- a floor is missing exactly where no hit is left
pub none_where_empty : (hits : List Hit) → first_distance hits ≡ None → length hits ≡ 0
none_where_empty [] none = refl
none_where_empty (hit ∷ hits) none = cc

pub empty_where_none : (hits : List Hit) → length hits ≡ 0 → first_distance hits ≡ None
empty_where_none [] none = refl
empty_where_none (hit ∷ hits) none = absurd (omega (arith, none))

-- the floor is that of the first hit that waits
pub floor_of_head : (n : ℕ) (hits : List Hit) (head : Hit) (rest : List Hit)
    → take n hits ≡ head ∷ rest
    → first_distance hits ≡ Some head.dist
floor_of_head zero hits head rest first = cc
floor_of_head (suc n) [] head rest first = cc
floor_of_head (suc n) (hit ∷ hits) head rest first = ap first_distance first

-- so many wait as were moved and not given
pub waits : (w : Window) → IsWindow w → length (waiting_of w) ≡ w.moved - w.given
waits w is = length-take-le (w.moved - w.given) (left_of w)
    (omega (arith, is.behind, is.among, length-drop w.given w.found))

-- what waits is the next of the hits
pub window_prefix : (w : Window) → IsWindow w
    → waiting_of w ≡ take (length (waiting_of w)) (left_of w)
window_prefix w is = ap (λ n. take n (left_of w)) (sym (waits w is))

after_first : (n : ℕ) (hits : List Hit) → n ≤ length hits
    → take (n - length (take 1 (take n hits))) (drop (length (take 1 (take n hits))) hits)
    ≡ drop 1 (take n hits)
after_first zero hits l = refl
after_first (suc n) [] l = absurd (omega arith)
after_first (suc n) (hit ∷ hits) l =
    let e : suc n - 1 ≡ n = omega arith in
    ap (λ k. take k hits) e

-- what waits after the first was given is the rest
pub rest_waits : (w : Window) → IsWindow w → waiting_of (with_given w) ≡ drop 1 (waiting_of w)
rest_waits w is =
    let given : ℕ = length (take 1 (waiting_of w)) in
    let fewer : w.moved - (w.given + given) ≡ (w.moved - w.given) - given = omega arith in
    ap (λ n. take n (drop (w.given + given) w.found)) fewer
    ∙ ap (λ hits. take ((w.moved - w.given) - given) hits) (sym (drop-drop given w.given w.found))
    ∙ after_first (w.moved - w.given) (left_of w)
    (omega (arith, is.behind, is.among, length-drop w.given w.found))
