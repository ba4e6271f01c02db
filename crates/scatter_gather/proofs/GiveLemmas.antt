-- The best head is the next hit of the merge, where no source without a head may have one before it.
use Rattle.std.proofs.Common.{◌≡◌, ℕ, ◌+◌, ◌-◌, ◌<◌, ◌≤◌, List, [], ◌∷◌, ◌++◌, length, get_or, set, take, drop, refl, sym, ap, subst, ◌∙◌, arith, zero, suc, true, false, Bool, Option, Some, None}
use Rattle.std.specs.Prelude.{All, nat_le}
use Rattle.std.specs.List.{AllByRecursion, list_any}
use Rattle.std.specs.Ordering.{nat_cmp, ordering_then, is_gt, MatchOrdering}
use Rattle.std.specs.declared.cmp.Ordering.{Ordering}
use Rattle.std.specs.declared.cmp.Ordering.TheVariants.{Less, Equal, Greater}
use Rattle.std.proofs.lemmas.Cmp.{ranked}
use Rattle.std.proofs.lemmas.Bool.{or_parts, both_ways, leb-false}
use Rattle.std.proofs.lemmas.List.{drop_all, drop-take, drop-drop, take_all, length-take}
use Rattle.std.proofs.lemmas.List.Folds.{list_any_at}
use Rattle.std.proofs.lemmas.List.Elements.{recursion_from_All, All-from_recursion}
use Rattle.hamming_model.specs.declared.hit.Hit.{Hit}
use Rattle.hamming_model.specs.Scan.{hit_cmp, in_order}
use Rattle.hamming_model.proofs.OrderLemmas.{first_before, IsFirst, Ascends, ascends_from_sorted}
use Rattle.hit_source.specs.Sources.{Asked, IsLawful}
use Rattle.hit_source.specs.Moves.{NotBelow, first_of}
use Rattle.hit_source.specs.WindowLaws.{nearer, ascends_drop}
use Rattle.scatter_gather.specs.Gathering.{Source, Gathering, all_asked, merged, left_hits, answer_left}
use Rattle.scatter_gather.specs.Due.{floor_at, least_floor, may_have_next, any_may_have_next}
use Rattle.scatter_gather.specs.Heads.{HeadNotBefore, IsBestHead}
use Rattle.scatter_gather.specs.Kept.{IsGathering, AreLawful}
use Rattle.scatter_gather.proofs.MergeLemmas.{order_of_permutation, order_from_first, first_permuted, left_permutation}
use Rattle.scatter_gather.proofs.FloorLemmas.{least_below, least_is_one}

by_distance : (o p : Ordering) (x y : ℕ) → MatchOrdering o (x < y) (x ≡ y) (y < x) → x < y
    → is_gt (ordering_then o p) ≡ false
by_distance Less p x y rank l = refl
by_distance Equal p x y rank l = absurd (omega (arith, rank))
by_distance Greater p x y rank l = absurd (omega (arith, rank))

-- a nearer hit isn't after another
pub farther : (a b : Hit) → a.dist < b.dist → is_gt (hit_cmp a b) ≡ false
farther a b l = by_distance (nat_cmp a.dist b.dist) (nat_cmp a.key b.key) a.dist b.dist
    (ranked a.dist b.dist (nat_cmp a.dist b.dist) refl) l

first_by_distance : (hit : Hit) (floor : ℕ) (hits : List Hit) → hit.dist < floor
    → AllByRecursion (λ other. floor ≤ other.dist) hits → IsFirst hit hits
first_by_distance hit floor [] l all = tt
first_by_distance hit floor (other ∷ hits) l all =
    (farther hit other (omega (arith, l, all.0)), first_by_distance hit floor hits l all.1)

pub all_append : {S : Type 0} (P : S → Type 0) (xs ys : List S) → AllByRecursion P xs → AllByRecursion P ys
    → AllByRecursion P (xs ++ ys)
all_append P [] ys p q = q
all_append P (x ∷ xs) ys p q = (p.0, all_append P xs ys p.1 q)

first_of_window : (head hit : Hit) (rest hits : List Hit) (n : ℕ) → head ∷ rest ≡ take n hits
    → is_gt (hit_cmp hit head) ≡ false → Ascends hits → IsFirst hit hits
first_of_window head hit rest [] zero e h up = cc
first_of_window head hit rest [] (suc n) e h up = cc
first_of_window head hit rest (other ∷ hits) zero e h up = cc
first_of_window head hit rest (other ∷ hits) (suc n) e h up =
    let same : head ≡ other = cc in
    let first : is_gt (hit_cmp hit other) ≡ false = subst (λ x. is_gt (hit_cmp hit x) ≡ false) same h in
    (first, first_before hit other hits first up.0)

-- of a source that can't have the next hit, none is before the best head
one_first : (hit : Hit) (m : ℕ) (s : Source) → HeadNotBefore hit s → IsLawful s.asked s.standing
    → may_have_next (Some m) s ≡ false → hit.dist ≤ m → IsFirst hit (drop s.standing.given s.asked.hits)
one_first hit m s first law held l = by_waiting s.standing.waiting refl
  where
    by_floor : s.standing.waiting ≡ [] → (floor : Option ℕ) → s.standing.floor ≡ floor
        → IsFirst hit (drop s.standing.given s.asked.hits)
    by_floor empty None none =
        let all = law.floor.none_left.0 none in
        subst (IsFirst hit) (sym (drop_all s.standing.given s.asked.hits (omega (arith, all.0)))) tt
    by_floor empty (Some floor) some =
        let above : nat_le floor m ≡ false = rw some at (rw empty at held) in
        let far : All (λ other. floor ≤ other.dist) (drop s.standing.given s.asked.hits) =
        rw some at law.floor.none_nearer in
        first_by_distance hit floor _ (omega (arith, leb-false floor m above, l)) (recursion_from_All _ _ far)

    by_waiting : (waiting : List Hit) → s.standing.waiting ≡ waiting → IsFirst hit (drop s.standing.given s.asked.hits)
    by_waiting [] empty = by_floor empty s.standing.floor refl
    by_waiting (head ∷ rest) some =
        let not_after : is_gt (hit_cmp hit head) ≡ false = rw some at first in
        first_of_window head hit rest _ (length s.standing.waiting) (sym some ∙ law.window) not_after
        (ascends_drop s.standing.given s.asked.hits (ascends_from_sorted s.asked.hits law.asked.ascends))

all_first : (hit : Hit) (m : ℕ) (sources : List Source) → AllByRecursion (HeadNotBefore hit) sources
    → AreLawful sources → list_any (may_have_next (Some m)) sources ≡ false → hit.dist ≤ m
    → IsFirst hit (left_hits sources)
all_first hit m [] first law held l = tt
all_first hit m (s ∷ sources) first law held l =
    let both = or_parts (may_have_next (Some m) s) (list_any (may_have_next (Some m)) sources) held in
    all_append _ (drop s.standing.given s.asked.hits) (left_hits sources)
    (one_first hit m s first.0 law.0 both.0 l)
    (all_first hit m sources first.1 law.1 both.1 l)

-- where no source may have the next hit, the best head is at most as far as the least floor
least_head : (hit : Hit) (m : ℕ) (s : Source) → IsLawful s.asked s.standing → HeadNotBefore hit s
    → may_have_next (Some m) s ≡ false → s.standing.floor ≡ Some m → hit.dist ≤ m
least_head hit m s law first held floor = by_waiting s.standing.waiting refl
  where
    by_waiting : (waiting : List Hit) → s.standing.waiting ≡ waiting → hit.dist ≤ m
    by_waiting [] empty =
        let is : nat_le m m ≡ false = rw floor at (rw empty at held) in
        absurd (omega (arith, leb-false m m is))
    by_waiting (head ∷ rest) some =
        let not_after : is_gt (hit_cmp hit head) ≡ false = rw some at first in
        let same : Some head.dist ≡ Some m = sym (law.floor.of_head head rest some) ∙ floor in
        let e : head.dist ≡ m = cc in
        omega (arith, nearer hit head not_after, e)

any_at : {S : Type 0} (p : S → Bool) (xs : List S) (i : ℕ) (d : S) → i < length xs → list_any p xs ≡ false
    → p (get_or xs i d) ≡ false
any_at p xs i d l none = go (p (get_or xs i d)) refl
  where
    go : (b : Bool) → p (get_or xs i d) ≡ b → b ≡ false
    go true e = absurd (both_ways _ none (list_any_at p xs i d l e))
    go false e = refl

pub has_first : (hits : List Hit) (hit : Hit) → first_of hits ≡ Some hit → (rest : List Hit) × (hits ≡ hit ∷ rest)
has_first [] hit e = cc
has_first (head ∷ rest) hit e = (rest, (let same : head ≡ hit = cc in ap (λ x. x ∷ rest) same))

-- where no source may have the next hit, no hit that is left is before the best head
pub best_is_first : (sources : List Source) (shard : ℕ) (hit : Hit) (d : Source) → AreLawful sources
    → any_may_have_next sources ≡ false → IsBestHead sources (length sources) shard hit → IsFirst hit (left_hits sources)
best_is_first sources shard hit d law held best = by_least (least_floor sources) refl
  where
    heads : AllByRecursion (HeadNotBefore hit) sources
    heads = subst (AllByRecursion (HeadNotBefore hit)) (take_all (length sources) sources (omega arith)) best.first

    s : Source
    s = get_or sources shard d

    floor : s.standing.floor ≡ Some hit.dist
    floor =
        let is = has_first s.standing.waiting hit (best.waits d) in
        (All-from_recursion _ sources law shard d best.within).floor.of_head hit is.0 is.1

    by_least : (least : Option ℕ) → least_floor sources ≡ least → IsFirst hit (left_hits sources)
    by_least None none =
        let below = All-from_recursion _ sources (least_below floor_at sources) shard d best.within in
        let no_floor : NotBelow None (Some hit.dist) = rw floor at (rw none at below) in
        absurd no_floor
    by_least (Some m) some =
        let is = least_is_one floor_at sources m some in
        let none : list_any (may_have_next (Some m)) sources ≡ false = rw some at held in
        let l : hit.dist ≤ m = least_head hit m (get_or sources is.0 d) (All-from_recursion _ sources law is.0 d is.1)
        (All-from_recursion _ sources heads is.0 d is.1) (any_at _ sources is.0 d is.1 none) (is.2 d) in
        all_first hit m sources heads law none l

head_first : (hit : Hit) (n : ℕ) (hits rest : List Hit) → hit ∷ rest ≡ take n hits → hits ≡ hit ∷ drop 1 hits
head_first hit zero hits rest e = cc
head_first hit (suc n) [] rest e = cc
head_first hit (suc n) (other ∷ hits) rest e = let same : hit ≡ other = cc in ap (λ x. x ∷ hits) (sym same)

-- the hits that the source of the best head has left are that hit and what it has left after giving it
best_split : (g : Gathering) (shard : ℕ) (hit : Hit) (d s : Source) → AreLawful g.sources
    → IsBestHead g.sources (length g.sources) shard hit
    → s.asked ≡ (get_or g.sources shard d).asked → s.standing.given ≡ (get_or g.sources shard d).standing.given + 1
    → drop (get_or g.sources shard d).standing.given
    (get_or g.sources shard d).asked.hits ≡ hit ∷ drop s.standing.given s.asked.hits
best_split g shard hit d s law best asked given =
    let before : Source = get_or g.sources shard d in
    let waits = has_first before.standing.waiting hit (best.waits d) in
    let window = (All-from_recursion _ g.sources law shard d best.within).window in
    head_first hit (length before.standing.waiting) (drop before.standing.given before.asked.hits) waits.0 (sym waits.1
    ∙ window)
    ∙ ap (λ hits. hit ∷ hits) (drop-drop 1 before.standing.given before.asked.hits
    ∙ ap (λ n. drop n before.asked.hits) (sym given) ∙ ap (λ (a : Asked). drop s.standing.given a.hits) (sym asked))

-- no hit that is left after the best head was given is before it
pub best_first_left : (g : Gathering) (shard : ℕ) (hit : Hit) (d s : Source) → IsGathering g → AreLawful g.sources
    → any_may_have_next g.sources ≡ false → IsBestHead g.sources (length g.sources) shard hit
    → s.asked ≡ (get_or g.sources shard d).asked → s.standing.given ≡ (get_or g.sources shard d).standing.given + 1
    → IsFirst hit (left_hits (set g.sources shard s))
best_first_left g shard hit d s is law held best asked given =
    (first_permuted hit _ _ (left_permutation g.sources shard d s hit best.within
    (best_split g shard hit d s law best asked given)) (best_is_first g.sources shard hit d law held best)).1

-- the best head is the next hit of the merge, and the others are those left after it
pub next_of_merge : (g : Gathering) (shard : ℕ) (hit : Hit) (d s : Source) → IsGathering g → AreLawful g.sources
    → any_may_have_next g.sources ≡ false → IsBestHead g.sources (length g.sources) shard hit
    → s.asked ≡ (get_or g.sources shard d).asked → s.standing.given ≡ (get_or g.sources shard d).standing.given + 1
    → drop g.given (merged (all_asked g.sources)) ≡ hit ∷ in_order (left_hits (set g.sources shard s))
next_of_merge g shard hit d s is law held best asked given =
    is.merge ∙ order_of_permutation _ _ (left_permutation g.sources shard d s hit best.within
    (best_split g shard hit d s law best asked given))
    ∙ order_from_first hit _ (best_first_left g shard hit d s is law held best asked given)

-- the answer that is left is the merge that is left, cut at what the limit leaves
pub left_of_answer : (g : Gathering) → g.given ≤ g.limit
    → answer_left g ≡ take (g.limit - g.given) (drop g.given (merged (all_asked g.sources)))
left_of_answer g l =
    let e : g.given + (g.limit - g.given) ≡ g.limit = omega (arith, l) in
    ap (λ n. drop g.given (take n (merged (all_asked g.sources)))) (sym e)
    ∙ drop-take g.given (g.limit - g.given) (merged (all_asked g.sources))

first_taken : (n : ℕ) (hit : Hit) (hits rest : List Hit) → 1 ≤ n → hits ≡ hit ∷ rest → first_of (take n hits) ≡ Some hit
first_taken zero hit hits rest l e = absurd (omega arith)
first_taken (suc n) hit hits rest l e = rw e

-- the best head is the next hit of the answer
pub next_of_answer : (g : Gathering) (hit : Hit) (rest : List Hit) → IsGathering g → (g.given ≡ g.limit → ⊥)
    → drop g.given (merged (all_asked g.sources)) ≡ hit ∷ rest → first_of (answer_left g) ≡ Some hit
next_of_answer g hit rest is more next =
    ap first_of (left_of_answer g is.within)
    ∙ first_taken (g.limit - g.given) hit _ rest (omega (arith, is.within, more)) next

-- no hit of the answer is left where the limit is reached
pub none_at_limit : (g : Gathering) → g.given ≡ g.limit → first_of (answer_left g) ≡ None
none_at_limit g all =
    ap first_of (drop_all g.given (take g.limit (merged (all_asked g.sources)))
    (omega (arith, length-take g.limit (merged (all_asked g.sources)), all)))

none_left_in : (s : Source) → IsLawful s.asked s.standing → s.standing.floor ≡ None
    → drop s.standing.given s.asked.hits ≡ []
none_left_in s law none = drop_all s.standing.given s.asked.hits (omega (arith, (law.floor.none_left.0 none).0))

none_left_with : (sources : List Source) → AreLawful sources
    → AllByRecursion (λ s. NotBelow None s.standing.floor) sources → left_hits sources ≡ []
none_left_with [] law none = refl
none_left_with (s ∷ sources) law none =
    rw (none_left_in s law.0 (no_floor s.standing.floor none.0)) (none_left_with sources law.1 none.1)
  where
    no_floor : (floor : Option ℕ) → NotBelow None floor → floor ≡ None
    no_floor None p = refl
    no_floor (Some floor) p = absurd p

-- a source that stands for none where a list has to be read
abbrev pub nobody : Source
nobody = record {
  asked = record {
    hits = [];
    rows = 0;
    near = false;
    room = 0;
    farthest = 0;
    plan = λ given. ([], 0);
    bound =
        λ given. 0;
  };
  standing = record { given = 0; waiting = []; floor = None; reads = 0; ended = false; begun = None; units = 0 };
}

-- no hit of the answer is left where none waits and no source may have the next
pub none_at_end : (g : Gathering) (d : Source) → IsGathering g → AreLawful g.sources
    → any_may_have_next g.sources ≡ false → AllByRecursion (λ s. first_of s.standing.waiting ≡ None) g.sources
    → first_of (answer_left g) ≡ None
none_at_end g d is law held empty = by_least (least_floor g.sources) refl
  where
    nothing : (n : ℕ) → first_of (take n (in_order [])) ≡ None
    nothing zero = refl
    nothing (suc n) = refl

    no_hit : (hits : List Hit) → first_of hits ≡ None → hits ≡ []
    no_hit [] e = refl
    no_hit (hit ∷ hits) e = cc

    by_least : (least : Option ℕ) → least_floor g.sources ≡ least → first_of (answer_left g) ≡ None
    by_least None none =
        let all : AllByRecursion (λ s. NotBelow None s.standing.floor) g.sources =
        rw none at (least_below floor_at g.sources) in
        ap first_of (left_of_answer g is.within
        ∙ ap (take (g.limit - g.given)) (is.merge ∙ ap in_order (none_left_with g.sources law all)))
        ∙ nothing (g.limit - g.given)
    by_least (Some m) some =
        let at = least_is_one floor_at g.sources m some in
        let s : Source = get_or g.sources at.0 d in
        let none : list_any (may_have_next (Some m)) g.sources ≡ false = rw some at held in
        let one : may_have_next (Some m) s ≡ false = any_at _ g.sources at.0 d at.1 none in
        let waits : s.standing.waiting ≡ [] =
        no_hit s.standing.waiting (All-from_recursion _ g.sources empty at.0 d at.1) in
        let is_it : nat_le m m ≡ false = rw (at.2 d) at (rw waits at one) in
        absurd (omega (arith, leb-false m m is_it))
