-- No source begins a radius above the distance of the next hit.
use Rattle.std.proofs.Common.{◌≡◌, ℕ, ◌-◌, ◌<◌, ◌≤◌, List, [], ◌∷◌, length, get_or, set, take, drop, refl, sym, ap, subst, ◌∙◌, arith, zero, suc, true, false, Bool, Option, Some, None, inl, inr}
use Rattle.std.specs.Prelude.{All, IfSome, sum_by, min}
use Rattle.std.specs.List.{AllByRecursion}
use Rattle.std.proofs.lemmas.Bool.{and_parts, leb-true, MatchBool-at_true, MatchBool-at_false, cases_Bool, cases_eq}
use Rattle.std.proofs.lemmas.List.{drop_all, get_or_default, get_or-set_other, get_or-set_same}
use Rattle.std.proofs.lemmas.List.Sums.{sum_by-cons}
use Rattle.std.proofs.lemmas.List.Sorted.{All-permutation}
use Rattle.std.proofs.lemmas.List.Elements.{recursion_from_All, All-from_recursion}
use Rattle.hamming_model.specs.declared.hit.Hit.{Hit}
use Rattle.hamming_model.specs.Scan.{in_order}
use Rattle.hamming_model.proofs.OrderLemmas.{in_order_permutation}
use Rattle.hit_source.specs.declared.polled.Polled.{Polled}
use Rattle.hit_source.specs.Sources.{Asked, Standing, HasOneRadius, HasAllRadii, IsAsked, IsLawful}
use Rattle.hit_source.specs.Moves.{NotBelow, BeginsWithin, Polls, first_of}
use Rattle.scatter_gather.specs.Gathering.{Source, source_of, sources_of, Gathering, Gathered, seen, answer_left, left_hits}
use Rattle.scatter_gather.specs.Due.{floor_at, least_floor, is_least, is_empty, may_have_next}
use Rattle.scatter_gather.specs.Kept.{IsUpTo, IsGathering, AreLawful}
use Rattle.scatter_gather.specs.Polling.{PollsOnce, PollsAll}
use Rattle.scatter_gather.specs.Moves.{BeginsUpTo, distance_of, GivesReady, BegunWithin}
use Rattle.scatter_gather.proofs.KeepLemmas.{last_within}
use Rattle.scatter_gather.proofs.FloorLemmas.{least_below}
use Rattle.scatter_gather.proofs.GiveLemmas.{all_append, left_of_answer}
use Rattle.scatter_gather.proofs.ReadyLemmas.{all_lawful}

raise : (m floor : ℕ) (hits : List Hit) → m ≤ floor → AllByRecursion (λ hit. floor ≤ hit.dist) hits
    → AllByRecursion (λ hit. m ≤ hit.dist) hits
raise m floor [] l all = tt
raise m floor (hit ∷ hits) l all = (omega (arith, l, all.0), raise m floor hits l all.1)

one_far : (m : ℕ) (s : Source) → IsLawful s.asked s.standing → NotBelow (Some m) s.standing.floor
    → AllByRecursion (λ hit. m ≤ hit.dist) (drop s.standing.given s.asked.hits)
one_far m s law above = go s.standing.floor refl
  where
    go : (floor : Option ℕ) → s.standing.floor ≡ floor
        → AllByRecursion (λ hit. m ≤ hit.dist) (drop s.standing.given s.asked.hits)
    go None none =
        let all = law.floor.none_left.0 none in
        subst (AllByRecursion (λ (hit : Hit). m ≤ hit.dist))
        (sym (drop_all s.standing.given s.asked.hits (omega (arith, all.0)))) tt
    go (Some floor) some =
        let l : m ≤ floor = rw some at above in
        let far : All (λ other. floor ≤ other.dist) (drop s.standing.given s.asked.hits) =
        rw some at law.floor.none_nearer in
        raise m floor _ l (recursion_from_All _ _ far)

all_far : (m : ℕ) (sources : List Source) → AreLawful sources
    → AllByRecursion (λ s. NotBelow (Some m) s.standing.floor) sources
    → AllByRecursion (λ hit. m ≤ hit.dist) (left_hits sources)
all_far m [] law above = tt
all_far m (s ∷ sources) law above = all_append _ (drop s.standing.given s.asked.hits) (left_hits sources)
    (one_far m s law.0 above.0) (all_far m sources law.1 above.1)

first_far : (m n : ℕ) (hits : List Hit) (hit : Hit) → AllByRecursion (λ hit. m ≤ hit.dist) hits
    → first_of (take n hits) ≡ Some hit → m ≤ hit.dist
first_far m zero hits hit all e = cc
first_far m (suc n) [] hit all e = cc
first_far m (suc n) (other ∷ hits) hit all e = let same : other ≡ hit = cc in
    omega (arith, all.0, ap (λ (x : Hit). x.dist) same)

-- the next hit of the answer is no nearer than the least floor
pub least_at_most : (g : Gathering) (m : ℕ) (hit : Hit) → IsGathering g → AreLawful g.sources
    → least_floor g.sources ≡ Some m → first_of (answer_left g) ≡ Some hit → m ≤ hit.dist
least_at_most g m hit is law least next =
    let above : AllByRecursion (λ s. NotBelow (Some m) s.standing.floor) g.sources =
    rw least at (least_below floor_at g.sources) in
    let far = all_far m g.sources law above in
    let ordered = recursion_from_All _ _ (All-permutation (λ (hit : Hit). m ≤ hit.dist) (left_hits g.sources)
    (in_order (left_hits g.sources)) (in_order_permutation (left_hits g.sources)) (All-from_recursion _ _ far)) in
    first_far m (g.limit - g.given) (in_order (left_hits g.sources)) hit ordered
    (sym (ap first_of (left_of_answer g is.within ∙ ap (take (g.limit - g.given)) is.merge)) ∙ next)

-- what begins within a floor that is the least begins within the distance of the next hit
begins_next : (g : Gathering) (floor old new : Option ℕ) → IsGathering g → AreLawful g.sources
    → is_least floor (least_floor g.sources) ≡ true → BeginsWithin floor old new
    → BeginsWithin (distance_of (first_of (answer_left g))) old new
begins_next g floor old new is law least (inl same) = inl same
begins_next g floor old None is law least (inr within) = inr tt
begins_next g floor old (Some radius) is law least (inr within) =
    inr (by_floor floor (least_floor g.sources) refl least within (first_of (answer_left g)) refl)
  where
    by_floor : (floor least : Option ℕ) → least_floor g.sources ≡ least → is_least floor least ≡ true
        → IfSome floor (λ most. radius ≤ most) → (next : Option Hit) → first_of (answer_left g) ≡ next
        → IfSome (distance_of next) (λ most. radius ≤ most)
    by_floor None least e is_it l next f = cc
    by_floor (Some floor) None e is_it l next f = cc
    by_floor (Some floor) (Some m) e is_it l None f = tt
    by_floor (Some floor) (Some m) e is_it l (Some hit) f =
        omega (arith, l, leb-true floor m is_it, least_at_most g m hit is law e f)

-- no poll of a round begins a radius above the distance of the next hit
pub round_begins : {S : Type 0} (asks : S → Asked) (stands : S → Standing) (budget : ℕ) (mid : Gathered S)
    (new : List S) (from to : List ℕ) → ((x : S) → IsLawful (asks x) (stands x)) → IsGathering (seen asks stands mid)
    → PollsAll asks stands budget mid.sources new from to
    → BeginsUpTo stands (distance_of (first_of (answer_left (seen asks stands mid)))) mid.sources new
round_begins asks stands budget mid new from to law is polls = record {
  at = λ i d within.
      elim (cases_Bool (may_have_next (least_floor (sources_of asks stands mid.sources))
      (source_of asks stands (get_or mid.sources i d)))) [
        | inl may ↦ (let one : PollsOnce asks stands budget (get_or mid.sources i d) (get_or from i 0) (get_or new i d)
            (get_or to i 0) = MatchBool-at_true _ _ may (polls.at i d within) in
            begins_next (seen asks stands mid) (stands (get_or mid.sources i d)).floor
            (stands (get_or mid.sources i d)).begun (stands (get_or new i d)).begun is
            (all_lawful asks stands law mid.sources)
            (and_parts (is_empty (stands (get_or mid.sources i d)).waiting)
            (is_least (stands (get_or mid.sources i d)).floor (least_floor (sources_of asks stands mid.sources)))
            may).1 one.polls.begun)
        | inr held ↦ inl (ap (λ x. (stands x).begun) (MatchBool-at_false _ _ held (polls.at i d within)).0)
      ];
}

begins_again : (most old mid new : Option ℕ) → BeginsWithin most old mid → BeginsWithin most mid new
    → BeginsWithin most old new
begins_again most old mid new (inl first) (inl later) = inl (later ∙ first)
begins_again most old mid new (inr within) (inl later) =
    inr (subst (λ x. IfSome x (λ radius. IfSome most (λ far. radius ≤ far))) (sym later) within)
begins_again most old mid new first (inr within) = inr within

-- one round more
pub begins_more : {S : Type 0} (stands : S → Standing) (most : Option ℕ) (old mid new : List S)
    → length mid ≡ length old → BeginsUpTo stands most old mid → BeginsUpTo stands most mid new
    → BeginsUpTo stands most old new
begins_more stands most old mid new count first later =
    record {
      at = λ i d within. begins_again most _ _ _ (first.at i d within)
          (later.at i d (omega (arith, count, within)));
    }

-- no radius was begun
pub begins_none : {S : Type 0} (stands : S → Standing) (most : Option ℕ) (hs : List S) → BeginsUpTo stands most hs hs
begins_none stands most hs = record { at = λ i d within. inl refl }

-- giving a hit begins no radius
pub begins_given : {S : Type 0} (asks : S → Asked) (stands : S → Standing) (most : Option ℕ) (old new : Gathered S)
    (hit : Hit) → GivesReady asks stands old new (Some hit) → BeginsUpTo stands most old.sources new.sources
begins_given asks stands most old new hit gives = record {
  at = λ i e within. inl (
      elim (cases_eq i gives.0) [
        | inl same ↦ ap (λ k. (stands (get_or new.sources k e)).begun) same ∙ (gives.1.pops e).begun
            ∙ ap (λ k. (stands (get_or old.sources k e)).begun) (sym same)
        | inr other ↦ ap (λ xs. (stands (get_or xs i e)).begun) (ap (λ g. g.sources) (gives.1.others e))
            ∙ ap (λ x. (stands x).begun) (get_or-set_other old.sources gives.0 i (get_or new.sources gives.0 e) e other)
      ]
      );
}

-- no poll of one source begins a radius above the distance of the next hit
pub one_begins : {S : Type 0} (asks : S → Asked) (stands : S → Standing) (g : Gathered S) (shard : ℕ) (was new : S)
    (budget from to : ℕ) (result : Polled) → ((x : S) → IsLawful (asks x) (stands x))
    → IsGathering (seen asks stands g) → was ≡ get_or g.sources shard was → shard < length g.sources
    → may_have_next (least_floor (sources_of asks stands g.sources)) (source_of asks stands was) ≡ true
    → Polls budget (asks was) (stands was) (stands new) from to result
    → BeginsUpTo stands (distance_of (first_of (answer_left (seen asks stands g)))) g.sources
    (set g.sources shard new)
one_begins asks stands g shard was new budget from to result law is here l may polls =
    record {
      at = λ i d within. elim (cases_eq i shard) [
        | inl same ↦ (let old : get_or g.sources i d ≡ was = ap (λ k. get_or g.sources k d) same
            ∙ get_or_default g.sources shard d was l ∙ sym here in
            let now : get_or (set g.sources shard new) i d ≡ new = ap (λ k. get_or (set g.sources shard new) k d) same
            ∙ get_or-set_same g.sources shard new d l in
            rw (old, now) (begins_next (seen asks stands g) (stands was).floor (stands was).begun (stands new).begun is
            (all_lawful asks stands law g.sources)
            (and_parts (is_empty (stands was).waiting)
            (is_least (stands was).floor (least_floor (sources_of asks stands g.sources))) may).1 polls.begun))
        | inr other ↦ inl (ap (λ x. (stands x).begun) (get_or-set_other g.sources shard i new d other))
      ];
    }

-- the next hit of the answer is no nearer than the last that was given
pub last_at_most : (g : Gathering) (hit : Hit) → IsGathering g → first_of (answer_left g) ≡ Some hit
    → IfSome g.last (λ far. far ≤ hit.dist)
last_at_most g hit is next = go g.last refl is.later
  where
    go : (last : Option ℕ) → g.last ≡ last
        → IfSome last (λ far. AllByRecursion (λ hit. far ≤ hit.dist) (left_hits g.sources))
        → IfSome last (λ far. far ≤ hit.dist)
    go None e later = tt
    go (Some far) e later =
        let ordered = recursion_from_All _ _ (All-permutation (λ (hit : Hit). far ≤ hit.dist) (left_hits g.sources)
        (in_order (left_hits g.sources)) (in_order_permutation (left_hits g.sources))
        (All-from_recursion _ _ later)) in
        first_far far (g.limit - g.given) (in_order (left_hits g.sources)) hit ordered
        (sym (ap first_of (left_of_answer g is.within ∙ ap (take (g.limit - g.given)) is.merge)) ∙ next)

up_to : (old most begun : Option ℕ) (far : ℕ) → IsUpTo begun old → IfSome old (λ last. last ≤ far)
    → IsUpTo begun (Some far)
up_to old most None far is l = tt
up_to None most (Some radius) far is l = absurd is
up_to (Some last) most (Some radius) far is l = omega (arith, is, l)

up_to_next : (begun : Option ℕ) (far : ℕ) → IfSome begun (λ radius. IfSome (Some far) (λ most. radius ≤ most))
    → IsUpTo begun (Some far)
up_to_next None far l = tt
up_to_next (Some radius) far l = l

-- after a hit was given no source began a radius above its distance
pub within_next : {S : Type 0} (stands : S → Standing) (last after : Option ℕ) (old new : List S) (hit : Hit)
    → length new ≡ length old → BegunWithin stands last old → BeginsUpTo stands (Some hit.dist) old new
    → IfSome last (λ last. last ≤ hit.dist) → after ≡ Some hit.dist → BegunWithin stands after new
within_next {S = S} stands last after old new hit count was begins rises is = record {
  at = λ i d within.
      let l : i < length old = omega (arith, within, count) in
      subst (λ x. IsUpTo (stands (get_or new i d)).begun x) (sym is) (one i d l (begins.at i d l));
}
  where
    one : (i : ℕ) (d : S) → i < length old
        → BeginsWithin (Some hit.dist) (stands (get_or old i d)).begun (stands (get_or new i d)).begun
        → IsUpTo (stands (get_or new i d)).begun (Some hit.dist)
    one i d l (inl same) =
        subst (λ x. IsUpTo x (Some hit.dist)) (sym same) (up_to last last (stands (get_or old i d)).begun hit.dist
        (was.at i d l) rises)
    one i d l (inr near) = up_to_next (stands (get_or new i d)).begun hit.dist near

sum_pointwise : {S : Type 0} (f h : S → ℕ) (xs : List S)
    → ((i : ℕ) (d : S) → i < length xs → f (get_or xs i d) ≤ h (get_or xs i d)) → sum_by f xs ≤ sum_by h xs
sum_pointwise f h [] all = omega arith
sum_pointwise f h (x ∷ xs) all =
    omega (
      arith,
      sum_by-cons f x xs,
      sum_by-cons h x xs,
      all 0 x (omega arith),
      sum_pointwise f h xs
          (λ i d within. all (suc i) d (omega arith)),
    )

one_bound : (a : Asked) → HasOneRadius a → (low high : Option ℕ) → a.bound low ≤ a.bound high
one_bound a one low high = omega (arith, one.bound low, one.bound high)

by_radius : (a : Asked) → HasAllRadii a → (low high : Option ℕ) → IsUpTo low high
    → IfSome high (λ radius. radius ≤ a.farthest) → a.bound low ≤ a.bound high
by_radius a all None high up within = omega (arith, all.none)
by_radius a all (Some low) None up within = absurd up
by_radius a all (Some low) (Some high) up within = all.rises low high up within

-- the bound of a farther radius isn't less
pub bound_rises : (a : Asked) → IsAsked a → (low high : Option ℕ) → IsUpTo low high
    → IfSome high (λ radius. radius ≤ a.farthest) → a.bound low ≤ a.bound high
bound_rises a is low high up within = go a.near refl
  where
    go : (near : Bool) → a.near ≡ near → a.bound low ≤ a.bound high
    go false e = one_bound a (is.range e) low high
    go true e = by_radius a (is.near e) low high up within

-- where no source began a radius above the distance of the last hit, the reads are within the bounds for it
pub reads_within : {S : Type 0} (asks : S → Asked) (stands : S → Standing) (g : Gathered S)
    → ((x : S) → IsLawful (asks x) (stands x)) → IsGathering (seen asks stands g) → BegunWithin stands g.last g.sources
    → sum_by (λ x. (stands x).reads) g.sources ≤ sum_by (λ x. (asks x).bound g.last) g.sources
reads_within asks stands g law is begun = sum_pointwise _ _ g.sources (λ i d within.
    let x = get_or g.sources i d in
    let within_far = last_within asks stands g.sources g.limit g.given g.last is i d within in
    omega (
      arith,
      (law x).bounded,
      bound_rises (asks x) (law x).asked (stands x).begun g.last
          (begun.at i d within) within_far,
    ))

-- two sums cut off at one number
pub capped : (cap reads bound low high : ℕ) → low ≡ min reads cap → high ≡ min bound cap → reads ≤ bound → low ≤ high
capped cap reads bound low high e f l = grind arith
