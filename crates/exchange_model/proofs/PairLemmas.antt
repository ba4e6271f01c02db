-- The least cost of all parts is that of three: a part, the next, and one that costs what all others cost at least.
use Rattle.std.proofs.Common.{◌≡◌, ℕ, zero, suc, ◌+◌, ◌-◌, ◌<◌, ◌≤◌, cond, List, [], ◌∷◌, length, map, refl, sym, ◌∙◌, ap, arith, subst, inl, inr}
use Rattle.std.proofs.lemmas.Bool.{cases_lt, lt-ltb, le-ltb}
use Rattle.threshold_model.specs.Vectors.{IsLeast, units_of}
use Rattle.threshold_model.specs.Splits.{IsSplit, split_cost, threshold_of, units_total}
use Rattle.threshold_model.proofs.SplitLemmas.{cost_units, split_of_vector, vector_of_split}
use Rattle.exchange_model.specs.Least.{IsLeastSum, least_cost}
use Rattle.exchange_model.specs.Pairs.{counts_beside, counts_of_pair, least_beside, place_beside}
use Rattle.exchange_model.proofs.LeastLemmas.{cost_split, least_cost_is}

-- two numbers put at a place of a list
with_pair : ℕ → ℕ → ℕ → List ℕ → List ℕ
with_pair zero a b us = a ∷ b ∷ us
with_pair (suc i) a b [] = a ∷ b ∷ []
with_pair (suc i) a b (u ∷ us) = u ∷ with_pair i a b us

pair_size : (i a b : ℕ) (us : List ℕ) → length (with_pair i a b us) ≡ length us + 2
unfolding with_pair
pair_size zero a b us = omega arith
pair_size (suc i) a b [] = omega arith
pair_size (suc i) a b (u ∷ us) = let h = pair_size i a b us in omega arith

pair_sum : (i a b : ℕ) (us : List ℕ) → units_total (with_pair i a b us) ≡ a + b + units_total us
unfolding with_pair
pair_sum zero a b us = omega arith
pair_sum (suc i) a b [] = omega arith
pair_sum (suc i) a b (u ∷ us) = let h = pair_sum i a b us in omega arith

-- past the pair a part stands two places on
cost_past : (count : ℕ → ℕ → ℕ) (pair part : ℕ) (us : List ℕ) → pair ≤ part → split_cost (counts_beside count pair) part us ≡ split_cost count (part + 2) us
cost_past count pair part [] past = refl
cost_past count pair part (u ∷ us) past =
    let here : place_beside pair part ≡ part + 2 = ap (λ b. cond b part (part + 2)) (le-ltb part pair past) in
    let rest = cost_past count pair (part + 1) us (omega arith) in
    let next : part + 1 + 2 ≡ part + 2 + 1 = omega arith in
    let one = ap (λ n. count n u) here in
    let two = rest ∙ ap (λ n. split_cost count n us) next in
    omega arith

-- the cost of a split by the pair and the others
pair_cost : (count : ℕ → ℕ → ℕ) (pair i part a b : ℕ) (us : List ℕ) → pair ≡ part + i → i ≤ length us
    → split_cost count part (with_pair i a b us) ≡ count pair a + count (pair + 1) b + split_cost (counts_beside count pair) part us
unfolding with_pair
pair_cost count pair zero part a b us at fits =
    let rest = cost_past count pair part us (omega arith) in
    let here : part ≡ pair = omega arith in
    let next : part + 1 + 1 ≡ part + 2 = omega arith in
    let one = ap (λ n. count n a) here in
    let two = ap (λ n. count (n + 1) b) here in
    let three = ap (λ n. split_cost count n us) next in
    omega arith
pair_cost count pair (suc i) part a b [] at fits = absurd (omega (arith, fits))
pair_cost count pair (suc i) part a b (u ∷ us) at fits =
    let rest = pair_cost count pair i (part + 1) a b us (omega arith) (omega (arith, fits)) in
    let before : part < pair = omega arith in
    let here : place_beside pair part ≡ part = ap (λ t. cond t part (part + 2)) (lt-ltb part pair before) in
    let one = ap (λ n. count n u) here in
    omega arith

-- a list with two places more has a pair at a place
record Pair (i : ℕ) (us : List ℕ) : Type 0 where
  pub first : ℕ
  pub next : ℕ
  pub others : List ℕ
  pub same : us ≡ with_pair i first next others
  pub fits : i ≤ length others

pair_at : (i : ℕ) (us : List ℕ) → i + 1 < length us → Pair i us
unfolding with_pair
pair_at i [] short = absurd (omega (arith, short))
pair_at zero (a ∷ []) short = absurd (omega (arith, short))
pair_at zero (a ∷ (b ∷ us)) short = record { first = a; next = b; others = us; same = refl; fits = omega arith }
pair_at (suc i) (u ∷ us) short =
    let rest = pair_at i us (omega (arith, short)) in
    record {
      first = rest.first;
      next = rest.next;
      others = u ∷ rest.others;
      same = ap (λ xs. u ∷ xs) rest.same;
      fits = let h = rest.fits in omega arith;
    }

-- the least cost of a vector is that of a split
least_split : (count : ℕ → ℕ → ℕ) (tau parts least : ℕ) → IsLeast count tau parts least → IsLeastSum count 0 parts (tau + 1) least
least_split count tau parts least is =
    let there = is.attained in
    record {
      best = map units_of there.0;
      is_split = split_of_vector tau parts there.0 there.1;
      attained = sym (cost_units count 0 there.0) ∙ there.2;
      none_cheaper = λ us split.
          let h = is.none_cheaper (map threshold_of us) (vector_of_split tau parts us split) in
          let same = cost_split count us in
          omega arith;
    }

pub split_least : (count : ℕ → ℕ → ℕ) (tau parts least : ℕ) → IsLeastSum count 0 parts (tau + 1) least → IsLeast count tau parts least
split_least count tau parts least is =
    record {
      attained = (map threshold_of is.best, vector_of_split tau parts is.best is.is_split, cost_split count is.best ∙ is.attained);
      none_cheaper = λ ts vector.
          let h = is.none_cheaper (map units_of ts) (split_of_vector tau parts ts vector) in
          let same = cost_units count 0 ts in
          omega arith;
    }

-- no units cost nothing
nothing : ℕ → List ℕ
nothing zero = []
nothing (suc parts) = 0 ∷ nothing parts

nothing_split : (parts : ℕ) → IsSplit parts 0 (nothing parts)
unfolding nothing
nothing_split zero = record { size = refl; sum = refl }
nothing_split (suc parts) =
    let h = nothing_split parts in
    record { size = (let a = h.size in omega arith); sum = (let b = h.sum in omega arith) }

nothing_cost : (count : ℕ → ℕ → ℕ) (part parts : ℕ) → ((other : ℕ) → other < part + parts → count other 0 ≡ 0) → split_cost count part (nothing parts) ≡ 0
unfolding nothing
nothing_cost count part zero none = refl
nothing_cost count part (suc parts) none =
    let here = none part (omega arith) in
    let rest = nothing_cost count (part + 1) parts (λ other below. none other (omega arith)) in
    omega arith

-- the others have parts of their own
beside_below : (pair parts part : ℕ) → 3 ≤ parts → pair + 1 < parts → part < parts - 2 → place_beside pair part < parts
beside_below pair parts part three inside below = elim (cases_lt part pair) [
  | inl before ↦ rw (ap (λ t. cond t part (part + 2)) (lt-ltb part pair before)) (omega arith)
  | inr past ↦ rw (ap (λ t. cond t part (part + 2)) (le-ltb part pair past)) (omega arith)
]

module _ (count : ℕ → ℕ → ℕ) (pair parts : ℕ) (three : 3 ≤ parts) (inside : pair + 1 < parts) (starts : (part : ℕ) → part < parts → count part 0 ≡ 0) where
  others_least : (units : ℕ) → IsLeastSum (counts_beside count pair) 0 (parts - 2) units (least_beside count pair parts units)
  others_least zero =
      record {
        best = nothing (parts - 2);
        is_split = nothing_split (parts - 2);
        attained = nothing_cost (counts_beside count pair) 0 (parts - 2)
            (λ other below. starts (place_beside pair other) (beside_below pair parts other three inside (omega (arith, below))));
        none_cheaper = λ us split. omega arith;
      }
  others_least (suc tau) =
      let one : tau + 1 ≡ suc tau = omega arith in
      subst (λ n. IsLeastSum (counts_beside count pair) 0 (parts - 2) n (least_cost (counts_beside count pair) tau (parts - 2))) one
      (least_split (counts_beside count pair) tau (parts - 2) (least_cost (counts_beside count pair) tau (parts - 2))
      (least_cost_is (counts_beside count pair) tau (parts - 2) (omega arith)))

  -- a split of three parts, made one of all parts
  record Widened (units : ℕ) (least : ℕ) : Type 0 where
    pub split : List ℕ
    pub is_split : IsSplit parts units split
    pub costs : split_cost count 0 split ≡ least

  widened : (units least : ℕ) (us : List ℕ) → IsSplit 3 units us
      → split_cost (counts_of_pair count pair (least_beside count pair parts)) 0 us ≡ least → Widened units least
  widened units least [] split costs = absurd (let h = split.size in omega arith)
  widened units least (a ∷ []) split costs = absurd (let h = split.size in omega arith)
  widened units least (a ∷ (b ∷ [])) split costs = absurd (let h = split.size in omega arith)
  widened units least (a ∷ (b ∷ (r ∷ (s ∷ us)))) split costs = absurd (let h = split.size in omega arith)
  widened units least (a ∷ (b ∷ (r ∷ []))) split costs =
      let others = others_least r in
      let size = others.is_split.size in
      let sum = others.is_split.sum in
      let whole = split.sum in
      let long = pair_size pair a b others.best in
      let all = pair_sum pair a b others.best in
      let all_cost = pair_cost count pair pair 0 a b others.best (omega arith) (omega arith) in
      let best = others.attained in
      record {
        split = with_pair pair a b others.best;
        is_split = record { size = omega arith; sum = omega arith };
        costs = omega arith;
      }

  pub pair_least : (tau least : ℕ) → IsLeast (counts_of_pair count pair (least_beside count pair parts)) tau 3 least → IsLeast count tau parts least
  pair_least tau least is =
      let of_three = least_split (counts_of_pair count pair (least_beside count pair parts)) tau 3 least is in
      let wide = widened (tau + 1) least of_three.best of_three.is_split of_three.attained in
      split_least count tau parts least
      record {
        best = wide.split;
        is_split = wide.is_split;
        attained = wide.costs;
        none_cheaper = λ us split.
            let size = split.size in
            let sum = split.sum in
            let cut = pair_at pair us (omega arith) in
            let long = ap length cut.same in
            let longer = pair_size pair cut.first cut.next cut.others in
            let whole = ap units_total cut.same in
            let all = pair_sum pair cut.first cut.next cut.others in
            let total = units_total cut.others in
            let costs = ap (split_cost count 0) cut.same in
            let all_cost = pair_cost count pair pair 0 cut.first cut.next cut.others (omega arith) cut.fits in
            let others = (others_least (units_total cut.others)).none_cheaper cut.others (record { size = omega arith; sum = refl }) in
            let h = of_three.none_cheaper (cut.first ∷ cut.next ∷ units_total cut.others ∷ []) (record { size = omega arith; sum = omega arith }) in
            omega arith;
      }
