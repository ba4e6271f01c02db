-- One more part in front of a table: the first least pick gives the first of the cheapest splits.
use Rattle.std.proofs.Common.{◌≡◌, ℕ, zero, suc, ◌+◌, ◌-◌, ◌<◌, ◌≤◌, inl, inr, List, [], ◌∷◌, length, get_or, set, ◌≢◌, ⊎_elim, sym, ap, ◌∙◌, subst, arith}
use Rattle.std.proofs.lemmas.Bool.{cases_eq}
use Rattle.std.proofs.lemmas.List.{get_or-set_same, get_or-set_other}
use Rattle.threshold_model.specs.Splits.{units_total, split_cost, StandsBefore, IsSplit, IsBest}
use Rattle.threshold_model.proofs.BestLemmas.{best_last}
use Rattle.threshold_dp.specs.Table.{follow, AreAsked, IsFirstLeast, joint_cost, IsRowFrom, IsLastRow, IsSolved}

-- two functions that agree are first least at one place
pub same_first : (f g : ℕ → ℕ) (last place : ℕ) → ((x : ℕ) → x ≤ last → f x ≡ g x)
    → IsFirstLeast f last place → IsFirstLeast g last place
same_first f g last place same h =
    record {
      within = h.within;
      least = λ other le. omega (arith, h.least other le, same other le, same place h.within);
      first = λ other less.
          let fits : other ≤ last = omega (arith, h.within) in
          omega (arith, h.first other less, same other fits, same place h.within);
    }

-- one part that takes a pick, and the parts behind it
module _ (count : ℕ → ℕ → ℕ) (part parts units pick : ℕ) (rest : ℕ → List ℕ)
    (best : (left : ℕ) → left ≤ units → IsBest count (part + 1) parts left (rest left))
    (first : IsFirstLeast (λ x. count part x + split_cost count (part + 1) (rest (units - x))) units pick) where
  none_cheaper_more : (us : List ℕ) → IsSplit (suc parts) units us
      → split_cost count part (pick ∷ rest (units - pick)) ≤ split_cost count part us
  none_cheaper_more [] split = let size : zero ≡ suc parts = split.size in absurd (omega arith)
  none_cheaper_more (v ∷ vs) split =
      let sum : v + units_total vs ≡ units = split.sum in
      let size : suc (length vs) ≡ suc parts = split.size in
      let less : v ≤ units = omega arith in
      let left : units - v ≤ units = omega arith in
      let others : IsSplit parts (units - v) vs = record { size = omega arith; sum = omega arith } in
      omega (arith, (best (units - v) left).none_cheaper vs others, first.least v less)

  none_before_more : (us : List ℕ) → IsSplit (suc parts) units us
      → split_cost count part us ≡ split_cost count part (pick ∷ rest (units - pick))
      → StandsBefore us (pick ∷ rest (units - pick)) → ⊥
  none_before_more [] split same before = let size : zero ≡ suc parts = split.size in absurd (omega arith)
  none_before_more (v ∷ vs) split same (inl earlier) =
      let sum : v + units_total vs ≡ units = split.sum in
      let size : suc (length vs) ≡ suc parts = split.size in
      let left : units - v ≤ units = omega arith in
      let others : IsSplit parts (units - v) vs = record { size = omega arith; sum = omega arith } in
      omega (arith, (best (units - v) left).none_cheaper vs others, first.first v earlier)
  none_before_more (v ∷ vs) split same (inr later) =
      let sum : v + units_total vs ≡ units = split.sum in
      let size : suc (length vs) ≡ suc parts = split.size in
      let is_pick : v ≡ pick = later.0 in
      let left : units - pick ≤ units = omega arith in
      let others : IsSplit parts (units - pick) vs = record { size = omega arith; sum = omega arith } in
      let counted : count part v ≡ count part pick = ap (count part) is_pick in
      (best (units - pick) left).none_before vs others (omega arith) later.1

  pub best_more : IsBest count part (suc parts) units (pick ∷ rest (units - pick))
  best_more =
      let within = first.within in
      let left : units - pick ≤ units = omega arith in
      let others = (best (units - pick) left).splits in
      let size : length (rest (units - pick)) ≡ parts = others.size in
      let sum : units_total (rest (units - pick)) ≡ units - pick = others.sum in
      record {
        splits = record { size = ap suc size; sum = omega arith };
        none_cheaper = none_cheaper_more;
        none_before = none_before_more;
      }

-- one more number of units in a row
module _ (units width : ℕ) (asked before costs picks : List ℕ) (cost pick : ℕ)
    (in_costs : units < length costs) (in_picks : units < length picks)
    (rest : IsRowFrom (units + 1) width asked before costs picks)
    (first : IsFirstLeast (joint_cost asked costs units) units pick)
    (is_cost : cost ≡ joint_cost asked costs units pick) where
  same_joint : (x : ℕ) → x ≤ units → joint_cost asked costs units x ≡ joint_cost asked before units x
  same_joint x le =
      let fits : units - x < units + 1 = omega arith in
      ap (λ z. get_or asked x 0 + z) (rest.kept (units - x) fits)

  picked_here : IsFirstLeast (joint_cost asked before units) units (get_or (set picks units pick) units 0)
  picked_here =
      rw get_or-set_same
      (same_first (joint_cost asked costs units) (joint_cost asked before units) units pick same_joint first)

  added_here : get_or (set costs units cost) units 0
      ≡ joint_cost asked before units (get_or (set picks units pick) units 0)
  added_here =
      get_or-set_same costs units cost 0 in_costs ∙ is_cost ∙ same_joint pick first.within
      ∙ ap (joint_cost asked before units) (sym (get_or-set_same picks units pick 0 in_picks))

  picked_at : (other : ℕ) → units ≤ other → other < width
      → IsFirstLeast (joint_cost asked before other) other (get_or (set picks units pick) other 0)
  picked_at other le less =
      ⊎_elim
      (λ (e : other ≡ units).
      subst (λ v. IsFirstLeast (joint_cost asked before v) v (get_or (set picks units pick) v 0))
      (sym e) picked_here)
      (λ (ne : other ≢ units). rw get_or-set_other (rest.picked other (omega arith) less)) (cases_eq other units)

  added_at : (other : ℕ) → units ≤ other → other < width
      → get_or (set costs units cost) other 0
      ≡ joint_cost asked before other (get_or (set picks units pick) other 0)
  added_at other le less =
      ⊎_elim
      (λ (e : other ≡ units).
      subst
      (λ v. get_or (set costs units cost) v 0 ≡ joint_cost asked before v (get_or (set picks units pick) v 0))
      (sym e) added_here)
      (λ (ne : other ≢ units).
      get_or-set_other costs units other cost 0 ne ∙ rest.added other (omega arith) less
      ∙ ap (joint_cost asked before other) (sym (get_or-set_other picks units other pick 0 ne)))
      (cases_eq other units)

  pub row_more : IsRowFrom units width asked before (set costs units cost) (set picks units pick)
  row_more = record {
    picked = picked_at;
    added = added_at;
    kept = λ other less. get_or-set_other costs units other cost 0 (omega arith) ∙ rest.kept other (omega arith);
  }

-- the row of the last part solves it
pub solved_last : (count : ℕ → ℕ → ℕ) (part width : ℕ) (asked costs picks : List ℕ)
    → AreAsked count part width asked → IsLastRow width asked costs picks → IsSolved count part (picks ∷ []) costs width
solved_last count part width asked costs picks asked_all row =
    record {
      best = λ units less.
          subst (λ pick. IsBest count part 1 units (pick ∷ [])) (sym (row.picked units less))
          (best_last count part units);
      cost = λ units less.
          let taken : count part (get_or picks units 0) ≡ count part units =
          ap (count part) (row.picked units less) in
          omega (arith, asked_all.counts units less, row.asked_is units less);
      bound = λ units less. omega (arith, asked_all.small units less, row.asked_is units less);
    }

-- a row of first least picks solves one more part
pub solved_more : (count : ℕ → ℕ → ℕ) (part width : ℕ) (rows : List (List ℕ)) (asked before costs picks : List ℕ)
    → AreAsked count part width asked → IsSolved count (part + 1) rows before width
    → IsRowFrom 0 width asked before costs picks → IsSolved count part (picks ∷ rows) costs width
solved_more count part width rows asked before costs picks asked_all solved row =
    let joint : ℕ → ℕ → ℕ = λ units x. count part x + split_cost count (part + 1) (follow rows (units - x)) in
    let agree : (units x : ℕ) → units < width → x ≤ units → joint_cost asked before units x ≡ joint units x =
    (λ units x less le.
    let here : x < width = omega arith in
    let there : units - x < width = omega arith in
    omega (arith, asked_all.counts x here, solved.cost (units - x) there)) in
    let first : (units : ℕ) → units < width → IsFirstLeast (joint units) units (get_or picks units 0) =
    (λ units less.
    same_first (joint_cost asked before units) (joint units) units (get_or picks units 0)
    (λ x le. agree units x less le) (row.picked units (omega arith) less)) in
    record {
      best = λ units less.
          best_more count part (length rows) units (get_or picks units 0) (follow rows)
          (λ left le. solved.best left (omega arith)) (first units less);
      cost = λ units less.
          let within = (first units less).within in
          let here : get_or picks units 0 < width = omega arith in
          let there : units - get_or picks units 0 < width = omega arith in
          let counted = asked_all.counts (get_or picks units 0) here in
          let rest = solved.cost (units - get_or picks units 0) there in
          omega (arith, row.added units (omega arith) less);
      bound = λ units less.
          let within = (first units less).within in
          let here : get_or picks units 0 < width = omega arith in
          let there : units - get_or picks units 0 < width = omega arith in
          let small = asked_all.small (get_or picks units 0) here in
          let rest = solved.bound (units - get_or picks units 0) there in
          omega (arith, row.added units (omega arith) less);
    }
