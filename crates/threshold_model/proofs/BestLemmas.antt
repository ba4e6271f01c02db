-- The first of the cheapest splits: of one part, of one more part in front, and as a threshold vector.
use Rattle.std.proofs.Common.{◌≡◌, ℕ, zero, suc, ◌+◌, ◌<◌, ◌≤◌, inl, inr, ℤ, List, [], ◌∷◌, length, get_or, map, sym, refl, ap, ◌∙◌, subst, ⊎_elim, arith}
use Rattle.std.proofs.lemmas.Bool.{cases_lt}
use Rattle.threshold_model.specs.Vectors.{IsVector, IsChoice, IsLeast, ComesBefore, cost, units_of}
use Rattle.threshold_model.specs.Splits.{units_total, split_cost, threshold_of, StandsBefore, IsSplit, IsBest, IsBestUpTo, first_units}
use Rattle.threshold_model.proofs.SplitLemmas.{units_all, thresholds_are_low, entries_are_low, cost_units, before_units, split_of_vector, vector_of_split}

-- the last part takes all units
module _ (count : ℕ → ℕ → ℕ) (part units : ℕ) where
  none_cheaper_last : (us : List ℕ) → IsSplit 1 units us → split_cost count part (units ∷ []) ≤ split_cost count part us
  none_cheaper_last [] split = let size : zero ≡ suc zero = split.size in absurd (omega arith)
  none_cheaper_last (v ∷ []) split =
      let sum : v + 0 ≡ units = split.sum in
      let all : v ≡ units = omega arith in
      omega (arith, ap (count part) all)
  none_cheaper_last (v ∷ w ∷ vs) split = let size : suc (suc (length vs)) ≡ suc zero = split.size in absurd (omega arith)

  none_before_last : (us : List ℕ) → IsSplit 1 units us → split_cost count part us ≡ split_cost count part (units ∷ []) → StandsBefore us (units ∷ []) → ⊥
  none_before_last [] split same before = let size : zero ≡ suc zero = split.size in absurd (omega arith)
  none_before_last (v ∷ []) split same (inl earlier) = let sum : v + 0 ≡ units = split.sum in omega arith
  none_before_last (v ∷ []) split same (inr later) = later.1
  none_before_last (v ∷ w ∷ vs) split same before = let size : suc (suc (length vs)) ≡ suc zero = split.size in absurd (omega arith)

  pub best_last : IsBest count part 1 units (units ∷ [])
  best_last = record {
    splits = record { size = refl; sum = omega arith };
    none_cheaper = none_cheaper_last;
    none_before = none_before_last;
  }

module _ (count : ℕ → ℕ → ℕ) (tau parts : ℕ) (split : List ℕ) (best : IsBest count 0 parts (tau + 1) split) where
  pub cost_is : cost count (map threshold_of split) ≡ split_cost count 0 split
  cost_is = cost_units count 0 (map threshold_of split) ∙ ap (split_cost count 0) (units_all split)

  none_cheaper : (us : List ℤ) → IsVector tau parts us → cost count (map threshold_of split) ≤ cost count us
  none_cheaper us vector = omega (arith, cost_is, cost_units count 0 us, best.none_cheaper (map units_of us) (split_of_vector tau parts us vector))

  none_before : (us : List ℤ) → IsVector tau parts us → cost count us ≡ cost count (map threshold_of split) → ComesBefore us (map threshold_of split) → ⊥
  none_before us vector same before =
      best.none_before (map units_of us) (split_of_vector tau parts us vector) (sym (cost_units count 0 us) ∙ same ∙ cost_is)
      (subst (StandsBefore (map units_of us)) (units_all split)
      (before_units us (map threshold_of split) (entries_are_low tau parts us vector) (thresholds_are_low split) before))

  pub choice_is : IsChoice count tau parts (map threshold_of split)
  choice_is = record { vector = vector_of_split tau parts split best.splits; none_cheaper = none_cheaper; none_before = none_before }

  pub least_is : IsLeast count tau parts (split_cost count 0 split)
  least_is = record {
    attained = (map threshold_of split, vector_of_split tau parts split best.splits, cost_is);
    none_cheaper = λ us vector. omega (arith, cost_is, none_cheaper us vector);
  }

-- one more number of units for the first part
module _ (count : ℕ → ℕ → ℕ) (part parts units pick left : ℕ) (rest : List ℕ) (all : pick + left ≡ units)
    (best_rest : IsBest count (part + 1) parts left rest) where
  front_splits : IsSplit (suc parts) units (pick ∷ rest)
  front_splits =
      let others = best_rest.splits in
      let size : length rest ≡ parts = others.size in
      let sum : units_total rest ≡ left = others.sum in
      record { size = ap suc size; sum = omega arith }

  rest_splits : (vs : List ℕ) → IsSplit (suc parts) units (pick ∷ vs) → IsSplit parts left vs
  rest_splits vs split =
      let sum : pick + units_total vs ≡ units = split.sum in
      let size : suc (length vs) ≡ suc parts = split.size in
      record { size = omega arith; sum = omega arith }

  same_cheaper : (v : ℕ) (vs : List ℕ) → v ≡ pick → IsSplit (suc parts) units (v ∷ vs) → split_cost count part (pick ∷ rest) ≤ split_cost count part (v ∷ vs)
  same_cheaper v vs same split =
      let split_here = subst (λ v. IsSplit (suc parts) units (v ∷ vs)) same split in
      omega (arith, best_rest.none_cheaper vs (rest_splits vs split_here), ap (count part) same)

  same_before : (v : ℕ) (vs : List ℕ) → v ≡ pick → IsSplit (suc parts) units (v ∷ vs)
      → split_cost count part (v ∷ vs) ≡ split_cost count part (pick ∷ rest) → StandsBefore vs rest → ⊥
  same_before v vs same split cost before =
      let split_here = subst (λ v. IsSplit (suc parts) units (v ∷ vs)) same split in
      best_rest.none_before vs (rest_splits vs split_here) (omega (arith, ap (count part) same)) before

  module _ (most : ℕ) (best : List ℕ) (up_to : IsBestUpTo count part (suc parts) units most best) (next : pick ≡ most + 1) where
    cheaper_new : split_cost count part (pick ∷ rest) < split_cost count part best → (us : List ℕ) → IsSplit (suc parts) units us
        → first_units us ≤ pick → split_cost count part (pick ∷ rest) ≤ split_cost count part us
    cheaper_new less [] split le = let size : zero ≡ suc parts = split.size in absurd (omega arith)
    cheaper_new less (v ∷ vs) split le =
        ⊎_elim (λ (lt : v < pick). let fewer : v ≤ most = omega arith in omega (arith, up_to.none_cheaper (v ∷ vs) split fewer))
        (λ (ge : pick ≤ v). same_cheaper v vs (omega arith) split) (cases_lt v pick)

    before_new : split_cost count part (pick ∷ rest) < split_cost count part best → (us : List ℕ) → IsSplit (suc parts) units us
        → first_units us ≤ pick → split_cost count part us ≡ split_cost count part (pick ∷ rest) → StandsBefore us (pick ∷ rest) → ⊥
    before_new less [] split le same before = let size : zero ≡ suc parts = split.size in absurd (omega arith)
    before_new less (v ∷ vs) split le same (inl earlier) = let fewer : v ≤ most = omega arith in omega (arith, up_to.none_cheaper (v ∷ vs) split fewer)
    before_new less (v ∷ vs) split le same (inr later) = same_before v vs later.0 split same later.1

    cheaper_old : split_cost count part best ≤ split_cost count part (pick ∷ rest) → (us : List ℕ) → IsSplit (suc parts) units us
        → first_units us ≤ pick → split_cost count part best ≤ split_cost count part us
    cheaper_old least [] split le = let size : zero ≡ suc parts = split.size in absurd (omega arith)
    cheaper_old least (v ∷ vs) split le =
        ⊎_elim (λ (lt : v < pick). up_to.none_cheaper (v ∷ vs) split (omega arith))
        (λ (ge : pick ≤ v). let more = same_cheaper v vs (omega arith) split in omega arith) (cases_lt v pick)

    not_before : (v : ℕ) (vs old : List ℕ) → length old ≡ suc parts → first_units old ≤ most → pick ≤ v → StandsBefore (v ∷ vs) old → ⊥
    not_before v vs [] size le ge before = before
    not_before v vs (b ∷ bs) size le ge (inl earlier) = omega arith
    not_before v vs (b ∷ bs) size le ge (inr later) = let same : v ≡ b = later.0 in omega arith

    before_old : (us : List ℕ) → IsSplit (suc parts) units us → first_units us ≤ pick
        → split_cost count part us ≡ split_cost count part best → StandsBefore us best → ⊥
    before_old [] split le same before = let size : zero ≡ suc parts = split.size in omega arith
    before_old (v ∷ vs) split le same before =
        ⊎_elim (λ (lt : v < pick). up_to.none_before (v ∷ vs) split (omega arith) same before)
        (λ (ge : pick ≤ v). not_before v vs best up_to.splits.size up_to.among ge before) (cases_lt v pick)

    pub up_to_new : split_cost count part (pick ∷ rest) < split_cost count part best → IsBestUpTo count part (suc parts) units pick (pick ∷ rest)
    up_to_new less = record { splits = front_splits; among = omega arith; none_cheaper = cheaper_new less; none_before = before_new less }

    pub up_to_old : split_cost count part best ≤ split_cost count part (pick ∷ rest) → IsBestUpTo count part (suc parts) units pick best
    up_to_old least =
        let among = up_to.among in
        record { splits = up_to.splits; among = omega arith; none_cheaper = cheaper_old least; none_before = before_old }

-- no unit for the first part
module _ (count : ℕ → ℕ → ℕ) (part parts units : ℕ) (rest : List ℕ) (best_rest : IsBest count (part + 1) parts units rest) where
  cheaper_none : (us : List ℕ) → IsSplit (suc parts) units us → first_units us ≤ 0 → split_cost count part (0 ∷ rest) ≤ split_cost count part us
  cheaper_none [] split le = let size : zero ≡ suc parts = split.size in absurd (omega arith)
  cheaper_none (v ∷ vs) split le = same_cheaper count part parts units 0 units rest (omega arith) best_rest v vs (omega arith) split

  before_none : (us : List ℕ) → IsSplit (suc parts) units us → first_units us ≤ 0
      → split_cost count part us ≡ split_cost count part (0 ∷ rest) → StandsBefore us (0 ∷ rest) → ⊥
  before_none [] split le same before = let size : zero ≡ suc parts = split.size in omega arith
  before_none (v ∷ vs) split le same (inl earlier) = omega arith
  before_none (v ∷ vs) split le same (inr later) = same_before count part parts units 0 units rest (omega arith) best_rest v vs later.0 split same later.1

  pub up_to_none : IsBestUpTo count part (suc parts) units 0 (0 ∷ rest)
  up_to_none = record {
    splits = front_splits count part parts units 0 units rest (omega arith) best_rest;
    among = omega arith;
    none_cheaper = cheaper_none;
    none_before = before_none;
  }

few_first : (parts units : ℕ) (us : List ℕ) → IsSplit parts units us → first_units us ≤ units
few_first parts units [] split = omega arith
few_first parts units (u ∷ us) split = let sum : u + units_total us ≡ units = split.sum in omega arith

pub best_of_all : (count : ℕ → ℕ → ℕ) (part parts units : ℕ) (split : List ℕ) → IsBestUpTo count part parts units units split
    → IsBest count part parts units split
best_of_all count part parts units split h =
    record {
      splits = h.splits;
      none_cheaper = λ us is_split. h.none_cheaper us is_split (few_first parts units us is_split);
      none_before = λ us is_split. h.none_before us is_split (few_first parts units us is_split);
    }

-- the same, for a number of parts that is one more than another
pub up_to_start : (count : ℕ → ℕ → ℕ) (part parts fewer units : ℕ) (rest split : List ℕ) → parts ≡ suc fewer → IsBest count (part + 1) fewer units rest
    → split ≡ 0 ∷ rest → IsBestUpTo count part parts units 0 split
up_to_start count part parts fewer units rest split more best_rest is_split =
    subst (λ n. IsBestUpTo count part n units 0 split) (sym more)
    (subst (IsBestUpTo count part (suc fewer) units 0) (sym is_split) (up_to_none count part fewer units rest best_rest))

module _ (count : ℕ → ℕ → ℕ) (part parts fewer units most pick left : ℕ) (best rest other : List ℕ)
    (more : parts ≡ suc fewer) (all : pick + left ≡ units) (next : pick ≡ most + 1) (best_rest : IsBest count (part + 1) fewer left rest)
    (up_to : IsBestUpTo count part parts units most best) (is_other : other ≡ pick ∷ rest) where
  fewer_up_to : IsBestUpTo count part (suc fewer) units most best
  fewer_up_to = subst (λ n. IsBestUpTo count part n units most best) more up_to

  other_cost : split_cost count part other ≡ split_cost count part (pick ∷ rest)
  other_cost = ap (split_cost count part) is_other

  pub up_to_other : split_cost count part other < split_cost count part best → IsBestUpTo count part parts units pick other
  up_to_other less =
      subst (λ n. IsBestUpTo count part n units pick other) (sym more)
      (subst (IsBestUpTo count part (suc fewer) units pick) (sym is_other)
      (up_to_new count part fewer units pick left rest all best_rest most best fewer_up_to next (omega (arith, other_cost))))

  pub up_to_best : split_cost count part best ≤ split_cost count part other → IsBestUpTo count part parts units pick best
  up_to_best least =
      subst (λ n. IsBestUpTo count part n units pick best) (sym more)
      (up_to_old count part fewer units pick left rest all best_rest most best fewer_up_to next (omega (arith, other_cost)))

pub best_one : (count : ℕ → ℕ → ℕ) (part parts units : ℕ) (split : List ℕ) → parts ≡ 1 → split ≡ units ∷ [] → IsBest count part parts units split
best_one count part parts units split one is_split =
    subst (λ n. IsBest count part n units split) (sym one) (subst (IsBest count part 1 units) (sym is_split) (best_last count part units))

pub each_few : (us : List ℕ) (k : ℕ) → get_or us k 0 ≤ units_total us
each_few [] k = omega arith
each_few (u ∷ us) zero = omega arith
each_few (u ∷ us) (suc k) = omega (arith, each_few us k)
