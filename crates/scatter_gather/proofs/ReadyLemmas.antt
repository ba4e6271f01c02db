-- What giving the best head does to a gathering.
use Rattle.std.proofs.Common.{◌≡◌, ℕ, ◌+◌, ◌<◌, ◌≤◌, List, [], ◌∷◌, length, get_or, set, take, drop, map, refl, sym, ap, subst, ◌∙◌, arith, zero, suc, true, false, Option, Some, None}
use Rattle.std.specs.Prelude.{nat_lt, ◌&&◌}
use Rattle.std.specs.List.{AllByRecursion}
use Rattle.std.proofs.lemmas.Bool.{lt-ltb}
use Rattle.std.proofs.lemmas.List.{length-map, length-set, map-set, get_or-map, drop-drop, get_or_default, get_or-set_same}
use Rattle.std.proofs.lemmas.List.Elements.{All-from_recursion, recursion_from_All}
use Rattle.hamming_model.specs.declared.hit.Hit.{Hit}
use Rattle.hamming_model.specs.Scan.{in_order}
use Rattle.hamming_model.proofs.OrderLemmas.{IsFirst}
use Rattle.hit_source.specs.WindowLaws.{nearer}
use Rattle.hit_source.specs.Sources.{Asked, Standing, IsLawful}
use Rattle.hit_source.specs.Moves.{Pops, first_of}
use Rattle.scatter_gather.specs.Gathering.{Source, source_of, sources_of, Gathered, gathered, seen, all_asked, merged, left_hits, answer_left, next_hit}
use Rattle.scatter_gather.specs.Due.{any_may_have_next, some_due}
use Rattle.scatter_gather.specs.Heads.{IsReadyHead}
use Rattle.scatter_gather.specs.Kept.{length_of, AreOneLength, IsGathering, AreLawful}
use Rattle.scatter_gather.specs.Moves.{GivesOne}
use Rattle.scatter_gather.proofs.MergeLemmas.{all_of_map, all_always, read_seen}
use Rattle.scatter_gather.proofs.KeepLemmas.{asked_seen, set_alike}
use Rattle.scatter_gather.proofs.GiveLemmas.{nobody, best_first_left, next_of_merge, next_of_answer, none_at_end}

-- sources that are lawful at every moment
pub all_lawful : {S : Type 0} (asks : S → Asked) (stands : S → Standing) → ((x : S) → IsLawful (asks x) (stands x))
    → (xs : List S) → AreLawful (sources_of asks stands xs)
all_lawful asks stands law xs =
    all_of_map (source_of asks stands) (λ s. IsLawful s.asked s.standing) xs
    (all_always (λ x. IsLawful (asks x) (stands x)) law xs)

all_nearer : (hit : Hit) (hits : List Hit) → IsFirst hit hits
    → AllByRecursion (λ (other : Hit). hit.dist ≤ other.dist) hits
all_nearer hit [] first = tt
all_nearer hit (other ∷ hits) first = (nearer hit other first.0, all_nearer hit hits first.1)

one_taken : (hits : List Hit) (hit : Hit) → first_of hits ≡ Some hit → length (take 1 hits) ≡ 1
one_taken [] hit e = cc
one_taken (head ∷ rest) hit e = refl

within_drop : (n most : ℕ) (hits : List Hit) → AllByRecursion (λ hit. hit.dist ≤ most) hits
    → AllByRecursion (λ hit. hit.dist ≤ most) (drop n hits)
within_drop zero most hits all = all
within_drop (suc n) most [] all = tt
within_drop (suc n) most (hit ∷ hits) all = within_drop n most hits all.1

-- the first hit that waits is as far as the hits may be
head_within : (waiting : List Hit) (hit : Hit) (n given : ℕ) (hits : List Hit) (most : ℕ) → first_of waiting ≡ Some hit
    → waiting ≡ take n (drop given hits) → AllByRecursion (λ hit. hit.dist ≤ most) hits → hit.dist ≤ most
head_within waiting hit n given hits most first window all =
    go n (drop given hits) (ap first_of (sym window) ∙ first) (within_drop given most hits all)
  where
    go : (n : ℕ) (left : List Hit) → first_of (take n left) ≡ Some hit → AllByRecursion (λ hit. hit.dist ≤ most) left
        → hit.dist ≤ most
    go zero left e all = cc
    go (suc n) [] e all = cc
    go (suc n) (other ∷ left) e all = let same : other ≡ hit = cc in omega (arith, all.0, ap (λ (x : Hit). x.dist) same)

-- where nothing may have the next hit and the limit isn't reached, the best head is the next, and the gathering is as it must be
pub best_given : {S : Type 0} (asks : S → Asked) (stands : S → Standing) (hs : List S) (limit given : ℕ)
    (last : Option ℕ) (shard : ℕ) (hit : Hit) (was new : S) (result : Option Hit)
    → ((x : S) → IsLawful (asks x) (stands x)) → IsGathering (seen asks stands (gathered hs limit given last))
    → (given ≡ limit → ⊥)
    → IsReadyHead (sources_of asks stands hs) (Some (shard, hit)) → was ≡ get_or hs shard was → asks new ≡ asks was
    → Pops (stands was) (stands new) result
    → IsGathering (seen asks stands (gathered (set hs shard new) limit (given + 1) (Some hit.dist))) ×
    (first_of (answer_left (seen asks stands (gathered hs limit given last))) ≡ Some hit) × (shard < length hs) ×
    (result ≡ Some hit)
best_given {S = S} asks stands hs limit given last shard hit was new result law is more ready here asked pops = (
  record {
    some = omega (arith, is.some, size);
    few = omega (arith, is.few, size);
    merge =
        ap (λ asks. drop (given + 1) (merged asks)) same
        ∙ sym (drop-drop 1 given (merged (all_asked all)))
        ∙ ap (drop 1) next
        ∙ ap (λ ss. in_order (left_hits ss)) (sym (map-set (source_of asks stands) hs shard new));
    within = omega (arith, is.within, more);
    one_length = subst AreOneLength (sym same) is.one_length;
    last = subst (λ asks. hit.dist ≤ length_of asks) (sym same) far;
    later = subst (λ ss. AllByRecursion (λ (other : Hit). hit.dist ≤ other.dist) (left_hits ss))
        (sym (map-set (source_of asks stands) hs shard new)) (all_nearer hit _ first_left);
  },
  next_of_answer (seen asks stands (gathered hs limit given last)) hit _ is more next,
  within,
  pops.head ∙ waits,
)
  where
    all : List Source
    all = sources_of asks stands hs

    within : shard < length hs
    within = omega (arith, ready.best.within, length-map hs (source_of asks stands))

    d : Source
    d = source_of asks stands was

    at : get_or all shard d ≡ d
    at = (read_seen (source_of asks stands) hs hs shard was refl within here).1

    size : length (sources_of asks stands (set hs shard new)) ≡ length all
    size = omega (
      arith,
      length-map (set hs shard new) (source_of asks stands),
      length-map hs
          (source_of asks stands),
      length-set hs shard new,
    )

    same : all_asked (sources_of asks stands (set hs shard new)) ≡ all_asked all
    same = asked_seen asks stands (set hs shard new) ∙ set_alike asks hs shard was new within here asked
        ∙ sym (asked_seen asks stands hs)

    waits : first_of (stands was).waiting ≡ Some hit
    waits = sym (ap (λ (s : Source). first_of s.standing.waiting) at) ∙ ready.best.waits d

    counts : (stands new).given ≡ (stands was).given + 1
    counts = pops.given ∙ ap (λ n. (stands was).given + n) (one_taken (stands was).waiting hit waits)

    here_was : was ≡ get_or hs shard was
    here_was = here

    far : hit.dist ≤ length_of (all_asked all)
    far =
        let l : shard < length all = omega (arith, within, length-map hs (source_of asks stands)) in
        let lawful = All-from_recursion (λ (s : Source). IsLawful s.asked s.standing) all
        (all_lawful asks stands law hs) shard d l in
        let seen_asks : all_asked all ≡ map asks hs = asked_seen asks stands hs in
        let there : get_or (map asks hs) shard (asks was) ≡ asks was = get_or-map asks hs shard was (asks was) within
        ∙ ap asks (sym here_was) in
        let size : shard < length (map asks hs) = omega (arith, within, length-map hs asks) in
        let far : (asks was).farthest ≡ length_of (map asks hs) =
        subst (λ a. a.farthest ≡ length_of (map asks hs)) there
        (All-from_recursion (λ (a : Asked). a.farthest ≡ length_of (map asks hs)) (map asks hs)
        (subst AreOneLength seen_asks is.one_length) shard (asks was) size) in
        let within_far = recursion_from_All (λ (hit : Hit). hit.dist ≤ (asks was).farthest) (asks was).hits
        (law was).asked.reached in
        let window = (law was).window in
        let near : hit.dist ≤ (asks was).farthest = head_within (stands was).waiting hit (length (stands was).waiting)
        (stands was).given (asks was).hits (asks was).farthest waits window within_far in
        subst (λ asks. hit.dist ≤ length_of asks) (sym seen_asks) (omega (arith, near, far))

    after_all : List Source
    after_all = set all shard (source_of asks stands new)

    first_left : IsFirst hit (left_hits after_all)
    first_left = best_first_left (seen asks stands (gathered hs limit given last)) shard hit d
        (source_of asks stands new) is (all_lawful asks stands law hs) ready.held ready.best
        (asked ∙ sym (ap (λ (s : Source). s.asked) at)) (counts ∙ ap (λ (s : Source). s.standing.given + 1) (sym at))

    next : drop given (merged (all_asked all)) ≡ hit ∷ in_order (left_hits (set all shard (source_of asks stands new)))
    next = next_of_merge (seen asks stands (gathered hs limit given last)) shard hit d (source_of asks stands new) is
        (all_lawful asks stands law hs) ready.held ready.best
        (asked ∙ sym (ap (λ (s : Source). s.asked) at)) (counts ∙ ap (λ (s : Source). s.standing.given + 1) (sym at))

-- one source gave the hit
pub given_one : {S : Type 0} (asks : S → Asked) (stands : S → Standing) (hs : List S) (limit given : ℕ)
    (last : Option ℕ) (shard : ℕ) (hit : Hit) (was new : S) (result : Option Hit) (old after : Gathered S)
    → shard < length hs → was ≡ get_or hs shard was → asks new ≡ asks was → Pops (stands was) (stands new) result
    → result ≡ Some hit → gathered hs limit given last ≡ old
    → after ≡ gathered (set hs shard new) limit (given + 1) (Some hit.dist)
    → GivesOne asks stands shard old after hit
given_one {S = S} asks stands hs limit given last shard hit was new result old after within here asked pops gives
    before changed =
    subst (λ x. GivesOne asks stands shard x after hit) before
    (subst (λ x. GivesOne asks stands shard (gathered hs limit given last) x hit) (sym changed) record {
      within = within;
      asked = λ d. ap asks (there d) ∙ asked ∙ ap asks (sym (first d));
      pops = λ d. subst (λ x. Pops x (stands (get_or (set hs shard new) shard d)) (Some hit))
          (ap stands (sym (first d))) (subst (λ x. Pops (stands was) x (Some hit)) (ap stands (sym (there d)))
          (subst (λ r. Pops (stands was) (stands new) r) gives pops));
      others = λ d. ap (λ x. gathered (set hs shard x) limit (given + 1) (Some hit.dist)) (sym (there d));
    })
  where
    first : (d : S) → get_or hs shard d ≡ was
    first d = get_or_default hs shard d was within ∙ sym here

    there : (d : S) → get_or (set hs shard new) shard d ≡ new
    there d = get_or-set_same hs shard new d within

-- where no head goes first and nothing is due, no hit of the answer is left
pub none_given : {S : Type 0} (asks : S → Asked) (stands : S → Standing) (hs : List S) (limit given : ℕ)
    (last : Option ℕ) (old : Gathered S)
    → ((x : S) → IsLawful (asks x) (stands x)) → IsGathering (seen asks stands (gathered hs limit given last))
    → (given ≡ limit → ⊥) → IsReadyHead (sources_of asks stands hs) None
    → gathered hs limit given last ≡ old → some_due (seen asks stands old) ≡ false
    → next_hit (seen asks stands old) ≡ None
none_given asks stands hs limit given last old law is more ready before idle =
    let all = sources_of asks stands hs in
    let below : nat_lt given limit ≡ true = lt-ltb given limit (omega (arith, is.within, more)) in
    let here : (nat_lt given limit && any_may_have_next all) ≡ false =
    subst (λ g. some_due (seen asks stands g) ≡ false) (sym before) idle in
    let held : any_may_have_next all ≡ false = rw below at here in
    subst (λ g. next_hit (seen asks stands g) ≡ None) before
    (none_at_end (seen asks stands (gathered hs limit given last)) nobody is (all_lawful asks stands law hs) held
    (ready.held held))
