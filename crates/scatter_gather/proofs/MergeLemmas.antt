-- The merge of hits: what a permutation and a first hit do to it, and what the sources have left.
use Rattle.std.proofs.Common.{◌≡◌, ℕ, ◌<◌, List, [], ◌∷◌, ◌++◌, length, get_or, set, drop, map, refl, sym, ap, ◌∙◌, arith, zero, suc, false}
use Rattle.std.specs.List.{AllByRecursion, flat_map}
use Rattle.std.specs.List.Sorted.{IsPermutation}
use Rattle.std.specs.Ordering.{is_gt}
use Rattle.std.proofs.lemmas.List.{length-map, get_or-map}
use Rattle.std.proofs.lemmas.List.Sorted.{IsPermutation-refl, IsPermutation-trans, IsPermutation-append_right, IsPermutation-middle, All-permutation}
use Rattle.std.proofs.lemmas.List.Elements.{recursion_from_All, All-from_recursion}
use Rattle.hamming_model.specs.declared.hit.Hit.{Hit}
use Rattle.hamming_model.specs.Scan.{hit_cmp, placed, in_order}
use Rattle.hamming_model.proofs.OrderLemmas.{IsFirst, in_order_permutation, in_order_sorted, sorted_is_in_order}
use Rattle.hit_source.specs.Sources.{Asked}
use Rattle.scatter_gather.specs.Gathering.{Source, left_hits, all_asked}
use Rattle.hit_source.specs.Sources.{IsFresh}

-- two lists with the same hits have one order
pub order_of_permutation : (xs ys : List Hit) → IsPermutation xs ys → in_order xs ≡ in_order ys
order_of_permutation xs ys same =
    sym (sorted_is_in_order xs (in_order ys) (IsPermutation-trans _ _ _ same (in_order_permutation ys))
    (in_order_sorted ys))

placed_first : (hit : Hit) (hits : List Hit) → IsFirst hit hits → placed hit hits ≡ hit ∷ hits
placed_first hit [] first = refl
placed_first hit (other ∷ hits) first = rw first.0

-- what is after none of some hits is after none of them in another order
pub first_permuted : (hit : Hit) (xs ys : List Hit) → IsPermutation xs ys → IsFirst hit xs → IsFirst hit ys
first_permuted hit xs ys same first =
    recursion_from_All _ ys (All-permutation (λ other. is_gt (hit_cmp hit other) ≡ false) xs ys same
    (All-from_recursion _ xs first))

-- the order of a first hit and others
pub order_from_first : (hit : Hit) (hits : List Hit) → IsFirst hit hits → in_order (hit ∷ hits) ≡ hit ∷ in_order hits
order_from_first hit hits first =
    placed_first hit (in_order hits) (first_permuted hit hits (in_order hits) (in_order_permutation hits) first)

-- a source gives its next hit: that hit and those that are left then are those that were left
pub left_permutation : (sources : List Source) (i : ℕ) (d s : Source) (hit : Hit) → i < length sources
    → drop (get_or sources i d).standing.given
    (get_or sources i d).asked.hits ≡ hit ∷ drop s.standing.given s.asked.hits
    → IsPermutation (left_hits sources) (hit ∷ left_hits (set sources i s))
left_permutation [] i d s hit l next = absurd (omega arith)
left_permutation (first ∷ sources) zero d s hit l next =
    rw next (IsPermutation-refl _)
left_permutation (first ∷ sources) (suc i) d s hit l next =
    IsPermutation-trans _ _ _
    (IsPermutation-append_right (drop first.standing.given first.asked.hits) _ _
    (left_permutation sources i d s hit (omega arith) next))
    (IsPermutation-middle (drop first.standing.given first.asked.hits) hit (left_hits (set sources i s)))

-- where nothing was taken all hits are left
pub all_left : (sources : List Source) → AllByRecursion (λ s. IsFresh s.standing) sources
    → left_hits sources ≡ flat_map (λ (a : Asked). a.hits) (all_asked sources)
all_left [] fresh = refl
all_left (s ∷ sources) fresh = ap (λ n. drop n s.asked.hits ++ left_hits sources) fresh.0.given
    ∙ ap (λ hits. s.asked.hits ++ hits) (all_left sources fresh.1)

-- what holds of all of what a list is seen as
pub all_of_map : {S T : Type 0} (f : S → T) (P : T → Type 0) (xs : List S) → AllByRecursion (λ x. P (f x)) xs
    → AllByRecursion P (map f xs)
all_of_map f P [] all = tt
all_of_map f P (x ∷ xs) all = (all.0, all_of_map f P xs all.1)

-- what always holds holds of all
pub all_always : {S : Type 0} (P : S → Type 0) → ((x : S) → P x) → (xs : List S) → AllByRecursion P xs
all_always P law [] = tt
all_always P law (x ∷ xs) = (law x, all_always P law xs)

-- a source that was read stands at its place among what the sources are seen as
pub read_seen : {S T : Type 0} (f : S → T) (ys xs : List S) (i : ℕ) (x : S) → ys ≡ xs → i < length ys
    → x ≡ get_or ys i x → (i < length (map f xs)) × (get_or (map f xs) i (f x) ≡ f x)
read_seen f ys xs i x same l here =
    let within : i < length xs = omega (arith, l, ap length same) in (
      omega (arith, within, length-map xs f),
      get_or-map f xs i x (f x) within
          ∙ ap f (sym (here ∙ ap (λ zs. get_or zs i x) same)),
    )
