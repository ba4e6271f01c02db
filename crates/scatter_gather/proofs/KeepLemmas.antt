-- What keeps a gathering as it must be.
use Rattle.std.proofs.Common.{◌≡◌, ℕ, ◌<◌, ◌≤◌, List, [], ◌∷◌, length, get_or, set, drop, map, refl, sym, ap, subst, ◌∙◌, arith, Option, Some, None}
use Rattle.std.specs.Prelude.{IfSome}
use Rattle.std.specs.List.{AllByRecursion}
use Rattle.std.proofs.lemmas.List.{length-map, map-set, set-get_or, get_or-map}
use Rattle.std.proofs.lemmas.List.Elements.{All-from_recursion}
use Rattle.hamming_model.specs.declared.hit.Hit.{Hit}
use Rattle.hamming_model.specs.Scan.{in_order}
use Rattle.hit_source.specs.Sources.{Asked, Standing}
use Rattle.scatter_gather.specs.Gathering.{Source, source_of, sources_of, gathering_of, gathered, seen, all_asked, given_of, merged, left_hits}
use Rattle.scatter_gather.specs.Kept.{length_of, AreOneLength, IsGathering}

-- what sources have left is told by what they are asked and how much each gave
pub left_same : (old new : List Source) → all_asked new ≡ all_asked old → given_of new ≡ given_of old
    → left_hits new ≡ left_hits old
left_same [] [] asked given = refl
left_same [] (s ∷ new) asked given = cc
left_same (s ∷ old) [] asked given = cc
left_same (s ∷ old) (t ∷ new) asked given =
    let first : t.asked ≡ s.asked = cc in
    let count : t.standing.given ≡ s.standing.given = cc in
    let asks : all_asked new ≡ all_asked old = cc in
    let counts : given_of new ≡ given_of old = cc in
    let rest : left_hits new ≡ left_hits old = left_same old new asks counts in
    rw (first, count, rest)

-- a gathering whose sources are asked the same and gave as much
pub same_gathering : (old new : List Source) (limit given : ℕ) (last : Option ℕ) → all_asked new ≡ all_asked old
    → given_of new ≡ given_of old → IsGathering (gathering_of old limit given last)
    → IsGathering (gathering_of new limit given last)
same_gathering old new limit given last asked count is =
    let size : length new ≡ length old = sym (length-map new (λ (s : Source). s.asked)) ∙ ap length asked
    ∙ length-map old (λ (s : Source). s.asked) in
    record {
      some = omega (arith, size, is.some);
      few = omega (arith, size, is.few);
      merge = ap (λ asks. drop given (merged asks)) asked ∙ is.merge
          ∙ ap in_order (sym (left_same old new asked count));
      within = is.within;
      one_length = subst AreOneLength (sym asked) is.one_length;
      last = subst (λ asks. IfSome last (λ far. far ≤ length_of asks)) (sym asked) is.last;
      later = subst (λ hits. IfSome last (λ far. AllByRecursion (λ (hit : Hit). far ≤ hit.dist) hits))
          (sym (left_same old new asked count)) is.later;
    }

pub set_alike : {S T : Type 0} (f : S → T) (xs : List S) (i : ℕ) (was x : S) → i < length xs → was ≡ get_or xs i was
    → f x ≡ f was → map f (set xs i x) ≡ map f xs
set_alike f xs i was x l here same = map-set f xs i x ∙ ap (λ y. set (map f xs) i y) (same ∙ ap f here)
    ∙ sym (map-set f xs i (get_or xs i was)) ∙ ap (map f) (set-get_or xs i was)

-- what is told by what sources are seen as is told by them
pub map_seen : {S T : Type 0} (asks : S → Asked) (stands : S → Standing) (f : Source → T) (h : S → T)
    → ((x : S) → f (source_of asks stands x) ≡ h x) → (xs : List S) → map f (sources_of asks stands xs) ≡ map h xs
map_seen asks stands f h same [] = refl
map_seen asks stands f h same (x ∷ xs) = ap (λ y. y ∷ map f (sources_of asks stands xs)) (same x)
    ∙ ap (λ ys. h x ∷ ys) (map_seen asks stands f h same xs)

pub asked_seen : {S : Type 0} (asks : S → Asked) (stands : S → Standing) (xs : List S)
    → all_asked (sources_of asks stands xs) ≡ map asks xs
asked_seen asks stands xs = map_seen asks stands (λ s. s.asked) asks (λ x. refl) xs

pub given_seen : {S : Type 0} (asks : S → Asked) (stands : S → Standing) (xs : List S)
    → given_of (sources_of asks stands xs) ≡ map (λ x. (stands x).given) xs
given_seen asks stands xs = map_seen asks stands (λ s. s.standing.given) (λ x. (stands x).given) (λ x. refl) xs

-- one source that is asked the same and gave as much, in its place
pub one_polled : {S : Type 0} (asks : S → Asked) (stands : S → Standing) (sources : List S) (shard : ℕ) (was new : S)
    (limit given : ℕ) (last : Option ℕ) → shard < length sources → was ≡ get_or sources shard was → asks new ≡ asks was
    → (stands new).given ≡ (stands was).given → IsGathering (seen asks stands (gathered sources limit given last))
    → IsGathering (seen asks stands (gathered (set sources shard new) limit given last))
one_polled {S = S} asks stands sources shard was new limit given last l here asked count is =
    same_gathering (sources_of asks stands sources) (sources_of asks stands (set sources shard new)) limit given last
    (asked_seen asks stands (set sources shard new) ∙ set_alike asks sources shard was new l here asked
    ∙ sym (asked_seen asks stands sources))
    (given_seen asks stands (set sources shard new)
    ∙ set_alike (λ x. (stands x).given) sources shard was new l here count ∙ sym (given_seen asks stands sources))
    is

-- what sources are seen as at a place, where the lists are seen as one
pub same_at : {S T : Type 0} (h : S → T) (xs ys : List S) (i : ℕ) (d : S) → map h xs ≡ map h ys → i < length xs
    → h (get_or xs i d) ≡ h (get_or ys i d)
same_at h xs ys i d same l =
    let size : length xs ≡ length ys = sym (length-map xs h) ∙ ap length same ∙ length-map ys h in
    sym (get_or-map h xs i d (h d) l) ∙ ap (λ zs. get_or zs i (h d)) same
    ∙ get_or-map h ys i d (h d) (omega (arith, l, size))

-- the last hit is as far as any source's may be
pub last_within : {S : Type 0} (asks : S → Asked) (stands : S → Standing) (hs : List S) (limit given : ℕ)
    (last : Option ℕ) → IsGathering (seen asks stands (gathered hs limit given last)) → (shard : ℕ) (d : S)
    → shard < length hs → IfSome last (λ radius. radius ≤ (asks (get_or hs shard d)).farthest)
last_within asks stands hs limit given None is shard d l = tt
last_within asks stands hs limit given (Some far) is shard d l =
    let seen_asks : all_asked (sources_of asks stands hs) ≡ map asks hs = asked_seen asks stands hs in
    let all = All-from_recursion (λ (a : Asked). a.farthest ≡ length_of (map asks hs)) (map asks hs)
    (subst AreOneLength seen_asks is.one_length) shard (asks d) (omega (arith, l, length-map hs asks)) in
    let here : get_or (map asks hs) shard (asks d) ≡ asks (get_or hs shard d) = get_or-map asks hs shard d (asks d) l in
    let one : (asks (get_or hs shard d)).farthest ≡ length_of (map asks hs) =
    subst (λ a. a.farthest ≡ length_of (map asks hs)) here all in
    let within : far ≤ length_of (map asks hs) = subst (λ asks. far ≤ length_of asks) seen_asks is.last in
    omega (arith, one, within)

given_stands : {S : Type 0} (stands : S → Standing) (xs : List S)
    → map (λ x. (stands x).given) xs ≡ map (λ (s : Standing). s.given) (map stands xs)
given_stands stands [] = refl
given_stands stands (x ∷ xs) = ap (λ ns. (stands x).given ∷ ns) (given_stands stands xs)

-- sources that are asked the same and stand where they stood
pub planned_keeps : {S : Type 0} (asks : S → Asked) (stands : S → Standing) (old new : List S) (limit given : ℕ)
    (last : Option ℕ) → map asks new ≡ map asks old → map stands new ≡ map stands old
    → IsGathering (seen asks stands (gathered old limit given last))
    → IsGathering (seen asks stands (gathered new limit given last))
planned_keeps asks stands old new limit given last asked stood is =
    same_gathering (sources_of asks stands old) (sources_of asks stands new) limit given last
    (asked_seen asks stands new ∙ asked ∙ sym (asked_seen asks stands old))
    (given_seen asks stands new ∙ given_stands stands new ∙ ap (map (λ (s : Standing). s.given)) stood
    ∙ sym (given_stands stands old) ∙ sym (given_seen asks stands old))
    is
