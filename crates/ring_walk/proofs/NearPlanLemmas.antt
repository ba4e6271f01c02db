-- What was planned for all radii by a table of counts is a plan of a near query.
use Rattle.std.proofs.Common.{◌≡◌, ℕ, zero, suc, ◌+◌, ◌-◌, ◌<◌, ◌≤◌, List, [], ◌∷◌, length, get_or, take, sum, arith, sym, ap, subst, ◌∙◌}
use Rattle.std.proofs.Common.{inl, inr, ⊎_elim}
use Rattle.std.specs.Prelude.{◌⊎◌}
use Rattle.std.proofs.lemmas.Bool.{cases_lt}
use Rattle.std.proofs.lemmas.List.Sums.{sum_by-cons}
use Rattle.ring_model.specs.Rings.{ring_cost}
use Rattle.threshold_dp.specs.Radii.{RadiusPlans, PlansRadii}
use Rattle.shard_probe.specs.Counted.{count_in, HasCounts}
use Rattle.shard_probe.specs.Probed.{Probed, IsProbed}
use Rattle.ring_walk.specs.NearPlanned.{NearPlanned, near_planned_of, near_bits, near_parts, near_counts}
use Rattle.ring_walk.specs.NearKept.{IsNearKept}
use Rattle.shard_probe.proofs.ChoiceLemmas.{NoneOver, choice_agrees, least_agrees}

-- plans by counts that agree at so many parts are plans by the others
pub plans_agree : NoneOver → (one other : ℕ → ℕ → ℕ) (tau parts : ℕ) (plans : RadiusPlans)
    → ((part units : ℕ) → part < parts → units ≤ tau + 1 → one part units ≡ other part units)
    → PlansRadii one tau parts plans → PlansRadii other tau parts plans
plans_agree none_over one other tau parts plans agree are = record {
  parts_are = are.parts_are;
  tau_is = are.tau_is;
  number = are.number;
  small = are.small;
  each = λ radius within.
      let plan = are.each radius within in
      let few = (λ (part units : ℕ) (less : part < parts) (le : units ≤ radius + 1). agree part units less (omega arith)) in
      record {
        vector = choice_agrees none_over one other radius parts few (get_or plans.vectors radius []) plan.vector;
        least = least_agrees none_over one other radius parts few (get_or plans.leasts radius 0) plan.least;
      };
}

module _ (none_over : NoneOver) (words : ℕ) (probe : Probed) (is : IsProbed words probe) (plans : RadiusPlans) where
  abbrev planned : NearPlanned
  planned = near_planned_of probe.version probe.stored plans

  -- a table of counts and the plans by it
  pub near_of_table : (counts : List ℕ) (tau parts bits number : ℕ) → tau ≡ bits → bits ≡ near_bits planned
      → parts ≡ length (near_parts planned) → number ≡ length (near_parts planned)
      → HasCounts counts bits (length (near_parts planned)) (near_counts planned)
      → PlansRadii (count_in counts tau) bits number plans
      → IsNearKept words (near_planned_of probe.version probe.stored plans) tau parts counts
  near_of_table counts tau parts bits number tau_is bits_are parts_are number_is has are =
      let own_counts : HasCounts counts tau parts (near_counts planned) =
      subst (λ t. HasCounts counts t parts (near_counts planned)) (sym tau_is)
      (subst (λ n. HasCounts counts bits n (near_counts planned)) (sym parts_are) has) in
      let own_plans : PlansRadii (count_in counts tau) tau parts plans =
      subst (λ t. PlansRadii (count_in counts tau) t parts plans) (sym tau_is)
      (subst (λ n. PlansRadii (count_in counts tau) bits n plans) (number_is ∙ sym parts_are) are) in
      let agreed = plans_agree none_over (count_in counts tau) (near_counts planned) tau parts plans own_counts own_plans in
      record {
        planned = record {
          probed = is;
          plans = subst (λ t. PlansRadii (near_counts planned) t (length (near_parts planned)) plans) (tau_is ∙ bits_are)
              (subst (λ n. PlansRadii (near_counts planned) tau n plans) parts_are agreed);
        };
        tau_is = tau_is ∙ bits_are;
        parts_are = parts_are;
        counts_are = own_counts;
      }

-- the sum of one number more
pub sum_more : (xs : List ℕ) (i : ℕ) → i < length xs → sum (take (i + 1) xs) ≡ sum (take i xs) + get_or xs i 0
sum_more [] i less = absurd (omega arith)
sum_more (x ∷ xs) zero less = omega (arith, sum_by-cons (λ n. n) x [])
sum_more (x ∷ xs) (suc i) less =
    let e : suc i + 1 ≡ suc (i + 1) = omega arith in
    rw e
    (omega (arith, sum_by-cons (λ n. n) x (take (i + 1) xs), sum_by-cons (λ n. n) x (take i xs), sum_more xs i (omega arith)))

-- how many postings the next ring of a part has, by the counts
pub next_cost : (words : ℕ) (p : NearPlanned) (tau parts : ℕ) (counts : List ℕ) → IsNearKept words p tau parts counts
    → (units : List ℕ) (part searched more fewer : ℕ) → searched ≡ get_or units part 0 → part < length (near_parts p)
    → get_or units part 0 ≤ near_bits p → more ≡ count_in counts tau part (searched + 1) → fewer ≡ count_in counts tau part searched
    → more - fewer ≡ ring_cost (near_counts p) units part
next_cost words p tau parts counts kept units part searched more fewer at within small of_more of_fewer =
    let number = kept.parts_are in
    let bits = kept.tau_is in
    let above = kept.counts_are part (searched + 1) (omega arith) (omega arith) in
    let here = kept.counts_are part searched (omega arith) (omega arith) in
    let one = ap (λ n. near_counts p part (n + 1)) at in
    let other = ap (λ n. near_counts p part n) at in
    omega arith

-- the cheaper of the cheapest so far and the next is cheapest
pub next_cheapest : (cost : ℕ → ℕ) (upto best least part number found amount : ℕ) → best < upto → least ≡ cost best
    → ((other : ℕ) → other < upto → cost best ≤ cost other) → part ≡ upto → number ≡ cost upto
    → ((found ≡ best) × (amount ≡ least)) ⊎ ((found ≡ part) × (amount ≡ number)) → amount ≤ least → amount ≤ number
    → (found < upto + 1) × (amount ≡ cost found) × ((other : ℕ) → other < upto + 1 → cost found ≤ cost other)
next_cheapest cost upto best least part number found amount within least_is none part_is number_is one first second = (
  below one,
  is one,
  λ other less. ⊎_elim (λ (before : other < upto). omega (arith, none other before, is one))
      (λ (last : upto ≤ other). (let same : other ≡ upto = omega arith in omega (arith, ap cost same, is one)))
      (cases_lt other upto),
)
  where
    below : ((found ≡ best) × (amount ≡ least)) ⊎ ((found ≡ part) × (amount ≡ number)) → found < upto + 1
    below (inl old) = omega (arith, old.0)
    below (inr new) = omega (arith, new.0)

    is : ((found ≡ best) × (amount ≡ least)) ⊎ ((found ≡ part) × (amount ≡ number)) → amount ≡ cost found
    is (inl old) = old.1 ∙ least_is ∙ ap cost (sym old.0)
    is (inr new) = new.1 ∙ number_is ∙ ap cost (sym (new.0 ∙ part_is))
