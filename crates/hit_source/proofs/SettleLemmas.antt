-- What the steps of gathering and of settling leave.
use Rattle.std.proofs.Common.{◌≡◌, ℕ, ◌+◌, ◌<◌, ◌≤◌, nat_lt, cond, List, [], ◌∷◌, ◌++◌, length, get_or}
use Rattle.std.proofs.Common.{take, drop, sum_by, refl, sym, ap, ◌∙◌, subst, arith}
use Rattle.std.specs.Prelude.{not, nat_le}
use Rattle.std.specs.List.{AllByRecursion, SwappedAt}
use Rattle.std.specs.List.Sorted.{IsPermutation}
use Rattle.std.proofs.lemmas.Bool.{lt-ltb, le-ltb}
use Rattle.std.proofs.lemmas.Bool.Decides.{nat_tests}
use Rattle.std.proofs.lemmas.List.{get_or_default, take-append-drop, length-take-le, length-drop, drop-drop, length-append}
use Rattle.std.proofs.Math.Seq.{take-append_seam, drop-append_seam, take-append-add}
use Rattle.std.proofs.lemmas.List.Sums.{sum_by-cons, sum_by-append}
use Rattle.std.proofs.lemmas.List.Filters.{FiltersInPlace, FiltersInPlace-more_no, FiltersInPlace-more_swap, sum_by-filter_both}
use Rattle.std.proofs.lemmas.List.Sorted.{sum_by-IsPermutation}
use Rattle.hamming_model.specs.declared.hit.Hit.{Hit}
use Rattle.search_model.specs.Reading.{HasSame}
use Rattle.ring_model.specs.Rings.{hits_nearer, hits_from}
use Rattle.hamming_model.specs.Scan.{in_order}
use Rattle.ball_walk.proofs.SumLemmas.{sum_same, sum_filter}
use Rattle.search_model.proofs.SameLemmas.{sum_none}
use Rattle.hit_source.specs.Settled.{Gathers, OrdersNearer, Settles}
use Rattle.hit_source.specs.Windows.{window_at}

module _ (units : ℕ) (old hits : List Hit) (near at : ℕ) (d : Hit)
    (so_far : FiltersInPlace (λ (hit : Hit). nat_lt hit.dist units) old hits near at) (same : HasSame hits old)
    (more : at < length hits) where
  pub gathers_more : (new : List Hit) → (get_or hits at d).dist < units → SwappedAt hits new near at → IsPermutation hits new
      → FiltersInPlace (λ (hit : Hit). nat_lt hit.dist units) old new (near + 1) (at + 1) × HasSame new old
  gathers_more new less swapped moved = (
    FiltersInPlace-more_swap so_far more (lt-ltb (get_or hits at d).dist units less) (get_or_default hits at d (get_or hits at d) more) swapped,
    record { sums = λ f. sum_by-IsPermutation f hits new moved ∙ same.sums f },
  )

  pub gathers_next : units ≤ (get_or hits at d).dist → FiltersInPlace (λ (hit : Hit). nat_lt hit.dist units) old hits near (at + 1) × HasSame hits old
  gathers_next le =
      (FiltersInPlace-more_no so_far more (le-ltb (get_or hits at d).dist units le) (get_or_default hits at d (get_or hits at d) more), same)

no_near : (d units : ℕ) → cond {A = ℕ} (nat_lt d units) 1 0 ≡ 0 → units ≤ d
no_near d units none = grind (arith, nat_tests)

-- where no hit is near, all are far
none_near : (units : ℕ) (hits : List Hit) → sum_by (λ (hit : Hit). cond (nat_lt hit.dist units) 1 0) hits ≡ 0
    → AllByRecursion (λ hit. units ≤ hit.dist) hits
none_near units [] none = tt
none_near units (hit ∷ hits) none =
    let cut = sum_by-cons (λ (other : Hit). cond (nat_lt other.dist units) 1 0) hit hits in
    (no_near hit.dist units (omega arith), none_near units hits (omega arith))

near_of_from : (d units : ℕ) → cond {A = ℕ} (nat_le units d) (cond (nat_lt d units) 1 0) 0 ≡ 0
near_of_from d units = grind (arith, nat_tests)

none_from : (units : ℕ) (hits : List Hit) → sum_by (λ (hit : Hit). cond (nat_lt hit.dist units) 1 0) (hits_from hits units) ≡ 0
none_from units hits =
    sum_filter (λ (hit : Hit). cond (nat_lt hit.dist units) 1 0) (λ hit. nat_le units hit.dist) hits
    ∙ sum_same (λ (hit : Hit). cond (nat_le units hit.dist) (cond (nat_lt hit.dist units) 1 0) 0) (λ hit. 0) (λ hit. near_of_from hit.dist units) hits
    ∙ sum_none hits

-- hits that are those from so many units on are that far
pub far_of_same : (units : ℕ) (hits old : List Hit) → HasSame hits (hits_from old units) → AllByRecursion (λ hit. units ≤ hit.dist) hits
far_of_same units hits old same = none_near units hits (same.sums (λ hit. cond (nat_lt hit.dist units) 1 0) ∙ none_from units old)

far_or_near : (d units : ℕ) → nat_le units d ≡ not (nat_lt d units)
far_or_near d units = grind (arith, nat_tests)

-- what is gathered and then sorted
pub orders_nearer : (units near : ℕ) (old mid sorted : List Hit) → Gathers units old mid near → length sorted ≡ length (take near mid)
    → sorted ≡ in_order (take near mid) → OrdersNearer units old (sorted ++ drop near mid) near
orders_nearer units near old mid sorted gathers size is_sorted =
    let long : length sorted ≡ near = size ∙ length-take-le near mid gathers.within in
    record {
      front = ap (λ n. take n (sorted ++ drop near mid)) (sym long) ∙ take-append_seam sorted (drop near mid) ∙ is_sorted ∙ ap in_order gathers.front;
      back = record {
        sums = λ f. ap (λ n. sum_by f (drop n (sorted ++ drop near mid))) (sym long)
            ∙ ap (sum_by f) (drop-append_seam sorted (drop near mid)) ∙ rest f;
      };
      size = omega (arith, length-append sorted (drop near mid), length-drop near mid, gathers.within, gathers.size);
      within = omega (arith, length-append sorted (drop near mid));
    }
  where
    rest : (f : Hit → ℕ) → sum_by f (drop near mid) ≡ sum_by f (hits_from old units)
    rest f =
        let cut : sum_by f mid ≡ sum_by f (take near mid) + sum_by f (drop near mid) = ap (sum_by f) (sym (take-append-drop near mid))
        ∙ sum_by-append f (take near mid) (drop near mid) in
        let front = ap (sum_by f) gathers.front in
        let all = gathers.same.sums f in
        let both = sum_by-filter_both (λ (hit : Hit). nat_lt hit.dist units) (λ (hit : Hit). nat_le units hit.dist) (λ hit. far_or_near hit.dist units) f old in
        omega arith

-- the hits behind the first so many are put in order up to a distance
pub settles : (from units near capacity room given moved : ℕ) (found front back new : List Hit) → from ≤ length found → front ≡ take from found
    → back ≡ drop from found → OrdersNearer units back new near
    → Settles from units (window_at found capacity room given moved) (window_at (front ++ new) capacity room given moved) (from + near)
settles from units near capacity room given moved found front back new within is_front is_back orders =
    let long : length front ≡ from = ap length is_front ∙ length-take-le from found within in
    let rest : drop (from + near) (front ++ new) ≡ drop near new =
    sym (drop-drop near from (front ++ new)) ∙ ap (λ n. drop near (drop n (front ++ new))) (sym long)
    ∙ ap (drop near) (drop-append_seam front new) in
    let of_back : (xs : List Hit) → HasSame xs (hits_from back units)
    → HasSame xs (hits_from (drop from found) units) = λ xs same. subst (λ hits. HasSame xs (hits_from hits units)) is_back same in
    let joined = length-append front new in
    let cut = ap length is_back in
    let size = orders.size in
    let near_within = orders.within in
    record {
      front = ap (λ n. take (n + near) (front ++ new)) (sym long) ∙ take-append-add front new near ∙ ap (λ hits. hits ++ take near new) is_front
          ∙ ap (λ hits. take from found ++ hits) orders.front ∙ ap (λ hits. take from found ++ in_order (hits_nearer hits units)) is_back;
      back = of_back (drop (from + near) (front ++ new)) (subst (λ hits. HasSame hits (hits_from back units)) (sym rest) orders.back);
      far = subst (λ hits. AllByRecursion (λ hit. units ≤ hit.dist) hits) (sym rest) (far_of_same units (drop near new) back orders.back);
      size = omega (arith, length-drop from found);
      within = omega (arith, length-drop from found);
      behind = omega arith;
      capacity = refl;
      room = refl;
      given = refl;
      moved = refl;
    }
