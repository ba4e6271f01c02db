-- Each source has read at most its bound for the whole answer.
use Rattle.std.proofs.Common.{◌≡◌, ℕ, zero, suc, ◌≤◌, ◌<◌, Bool, true, false, cond, List, [], ◌∷◌, length, take, map, get_or}
use Rattle.std.proofs.Common.{Option, Some, None, refl, sym, ap, ◌∙◌, subst, arith}
use Rattle.std.specs.Prelude.{IfSome}
use Rattle.std.specs.List.{AllByRecursion, flat_map}
use Rattle.std.specs.Ordering.{is_gt}
use Rattle.std.proofs.lemmas.List.Elements.{recursion_from_All}
use Rattle.hamming_model.specs.declared.hit.Hit.{Hit}
use Rattle.hamming_model.specs.Scan.{hit_cmp, placed, in_order}
use Rattle.hamming_model.specs.Order.{IsFirst, Ascends}
use Rattle.hamming_model.proofs.OrderLemmas.{ascends_in_order}
use Rattle.hit_source.specs.Sources.{Asked, Standing, IsLawful}
use Rattle.threshold_model.specs.Bounds.{last_distance}
use Rattle.scatter_gather.specs.Gathering.{Gathered, merged}
use Rattle.scatter_gather.specs.Kept.{IsUpTo, length_of}
use Rattle.scatter_gather.proofs.BeginLemmas.{bound_rises}
use Rattle.hit_source.specs.WindowLaws.{nearer}
use Rattle.scatter_gather.proofs.GiveLemmas.{all_append}
use Rattle.open_queries.specs.Queries.{whole_answer}
use Rattle.open_queries.specs.Kept.{GivesFirst}

-- ---- the last distances of two beginnings of a list that ascends

further : (far : ℕ) (hit : Hit) (hits : List Hit) (n : ℕ) → far ≤ hit.dist
    → AllByRecursion (λ (other : Hit). far ≤ other.dist) hits → IsUpTo (Some far) (last_distance (hit ∷ take n hits))
further far hit hits zero l all = l
further far hit [] (suc n) l all = l
further far hit (other ∷ hits) (suc n) l all = further far other hits n all.0 all.1

all_nearer : (hit : Hit) (hits : List Hit) → IsFirst hit hits
    → AllByRecursion (λ (other : Hit). hit.dist ≤ other.dist) hits
all_nearer hit [] first = tt
all_nearer hit (other ∷ hits) first = (nearer hit other first.0, all_nearer hit hits first.1)

last_rises : (n m : ℕ) (hits : List Hit) → n ≤ m → Ascends hits
    → IsUpTo (last_distance (take n hits)) (last_distance (take m hits))
last_rises zero m hits l up = tt
last_rises (suc n) zero hits l up = absurd (omega (arith, l))
last_rises (suc n) (suc m) [] l up = tt
last_rises (suc zero) (suc m) (hit ∷ hits) l up =
    further hit.dist hit hits m (omega arith) (all_nearer hit hits up.0)
last_rises (suc (suc n)) (suc zero) (hit ∷ hits) l up = absurd (omega (arith, l))
last_rises (suc (suc n)) (suc (suc m)) (hit ∷ []) l up = omega arith
last_rises (suc (suc n)) (suc (suc m)) (hit ∷ other ∷ hits) l up =
    last_rises (suc n) (suc m) (other ∷ hits) (omega (arith, l)) up.1

up_on : (a b c : Option ℕ) → IsUpTo a b → IsUpTo b c → IsUpTo a c
up_on None b c l m = tt
up_on (Some a) None c l m = absurd l
up_on (Some a) (Some b) None l m = absurd m
up_on (Some a) (Some b) (Some c) l m = omega (arith, l, m)

take_again : (n m : ℕ) (hits : List Hit) → (k : ℕ) × (take n (take m hits) ≡ take k hits) × (k ≤ m)
take_again zero m hits = (0, refl, omega arith)
take_again (suc n) zero hits = (0, refl, omega arith)
take_again (suc n) (suc m) [] = (0, refl, omega arith)
take_again (suc n) (suc m) (hit ∷ hits) =
    let later = take_again n m hits in (suc later.0, ap (λ l. hit ∷ l) later.1, omega (arith, later.2))

-- ---- no hit is farther than a hit may be

all_placed : (P : Hit → Type 0) (hit : Hit) (hits : List Hit) → P hit → AllByRecursion P hits
    → AllByRecursion P (placed hit hits)
all_placed P hit [] p all = (p, tt)
all_placed P hit (other ∷ hits) p all = go (all_placed P hit hits p all.1) (is_gt (hit_cmp hit other))
  where
    go : AllByRecursion P (placed hit hits) → (b : Bool)
        → AllByRecursion P (cond b (other ∷ placed hit hits) (hit ∷ other ∷ hits))
    go rest true = (all.0, rest)
    go rest false = (p, all)

pub all_in_order : (P : Hit → Type 0) (hits : List Hit) → AllByRecursion P hits → AllByRecursion P (in_order hits)
all_in_order P [] all = tt
all_in_order P (hit ∷ hits) all = all_placed P hit (in_order hits) all.0 (all_in_order P hits all.1)

all_hits : {S : Type 0} (asks : S → Asked) (stands : S → Standing) → ((x : S) → IsLawful (asks x) (stands x))
    → (far : ℕ) (xs : List S) → AllByRecursion (λ (a : Asked). a.farthest ≡ far) (map asks xs)
    → AllByRecursion (λ (hit : Hit). hit.dist ≤ far) (flat_map (λ (a : Asked). a.hits) (map asks xs))
all_hits asks stands law far [] one = tt
all_hits asks stands law far (x ∷ xs) one =
    all_append _ (asks x).hits (flat_map (λ (a : Asked). a.hits) (map asks xs))
    (subst (λ m. AllByRecursion (λ (hit : Hit). hit.dist ≤ m) (asks x).hits) one.0
    (recursion_from_All (λ (hit : Hit). hit.dist ≤ (asks x).farthest) (asks x).hits (law x).asked.reached))
    (all_hits asks stands law far xs one.1)

pub last_of_all : (far n : ℕ) (hits : List Hit) → AllByRecursion (λ (hit : Hit). hit.dist ≤ far) hits
    → IfSome (last_distance (take n hits)) (λ last. last ≤ far)
last_of_all far zero hits all = tt
last_of_all far (suc n) [] all = tt
last_of_all far (suc zero) (hit ∷ hits) all = all.0
last_of_all far (suc (suc n)) (hit ∷ []) all = all.0
last_of_all far (suc (suc n)) (hit ∷ other ∷ hits) all = last_of_all far (suc n) (other ∷ hits) all.1

length_at : {S : Type 0} (asks : S → Asked) (far : ℕ) (xs : List S)
    → AllByRecursion (λ (a : Asked). a.farthest ≡ far) (map asks xs) → (i : ℕ) (d : S) → i < length xs
    → (asks (get_or xs i d)).farthest ≡ far
length_at asks far [] one i d within = absurd (omega (arith, within))
length_at asks far (x ∷ xs) one zero d within = one.0
length_at asks far (x ∷ xs) one (suc i) d within = length_at asks far xs one.1 i d (omega (arith, within))

-- ---- the bounds

pub reads_within_answer : {S : Type 0} (asks : S → Asked) (stands : S → Standing)
    → ((x : S) → IsLawful (asks x) (stands x)) → (g : Gathered S) → GivesFirst asks stands g
    → (i : ℕ) (d : S) → i < length g.sources
    → (stands (get_or g.sources i d)).reads ≤ (asks (get_or g.sources i d)).bound (last_distance (whole_answer asks g))
reads_within_answer asks stands law g first i d within =
    let x = get_or g.sources i d in
    let asked = map asks g.sources in
    let answer = whole_answer asks g in
    let again = take_again g.given g.limit (merged asked) in
    let last : last_distance (take g.given answer) ≡ last_distance (take again.0 (merged asked)) =
    ap last_distance again.1 in
    let rises = last_rises again.0 g.limit (merged asked) again.2 (ascends_in_order (flat_map (λ (a : Asked). a.hits) asked)) in
    let begun = subst (IsUpTo (stands x).begun) (first.last ∙ last) (first.begun.at i d within) in
    let most = last_of_all (length_of asked) g.limit (merged asked)
    (all_in_order _ _ (all_hits asks stands law (length_of asked) g.sources first.one_length)) in
    let far = subst (λ m. IfSome (last_distance answer) (λ last. last ≤ m))
    (sym (length_at asks (length_of asked) g.sources first.one_length i d within)) most in
    omega (
      arith,
      (law x).bounded,
      bound_rises (asks x) (law x).asked (stands x).begun (last_distance answer)
          (up_on (stands x).begun (last_distance (take again.0 (merged asked))) (last_distance answer) begun rises) far,
    )
