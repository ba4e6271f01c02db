-- The least sums of one row more.
use Rattle.std.proofs.Common.{◌≡◌, ℕ, suc, ◌+◌, ◌-◌, ◌<◌, ◌≤◌, min, inl, inr, List, [], ◌∷◌, length, get_or, set, refl, sym, ◌∙◌, ap, arith, subst}
use Rattle.std.proofs.lemmas.Bool.{cases_eq, cases_lt}
use Rattle.std.proofs.lemmas.List.{get_or-set_same, get_or-set_other, get_or-map, length-map, length-set}
use Rattle.std.specs.Global.{Vec}
use Rattle.threshold_model.specs.Splits.{IsSplit, split_cost}
use Rattle.exchange_model.specs.Least.{IsLeastSum}
use Rattle.exchange_model.specs.Pairs.{counts_beside, place_beside}
use Rattle.sample_table.specs.Sums.{AreCountRows, AreLeastJoint, AreLeastSums, IsCountRow, IsLeastAmong, IsLeastJoint, counts_in, kept_rows}

-- one number more is looked at
pub among_more : (row sums : List ℕ) (units most least : ℕ) → IsLeastAmong row sums units most least
    → IsLeastAmong row sums units (most + 1) (min least (get_or row (most + 1) 0 + get_or sums (units - (most + 1)) 0))
among_more row sums units most least among =
    let other = get_or row (most + 1) 0 + get_or sums (units - (most + 1)) 0 in
    let none : (n : ℕ) → n ≤ most + 1 → min least other ≤ get_or row n 0 + get_or sums (units - n) 0 = λ n le.
    elim (cases_eq n (most + 1)) [
      | inl same ↦ subst (λ k. min least other ≤ get_or row k 0 + get_or sums (units - k) 0) (sym same) (omega arith)
      | inr differs ↦ let h = among.none_less n (omega (arith, le, differs)) in omega arith
    ] in
    elim (cases_lt other least) [
      | inl less ↦ record { taken = most + 1; within = omega arith; attained = omega arith; none_less = none }
      | inr more ↦ record {
        taken = among.taken;
        within = let h = among.within in omega arith;
        attained = let h = among.attained in omega arith;
        none_less = none;
      }
    ]

-- the first number that is looked at
pub among_first : (row sums : List ℕ) (units width : ℕ) → IsCountRow width row → IsLeastAmong row sums units 0 (get_or sums units 0)
among_first row sums units width is =
    let starts : get_or row 0 0 ≡ 0 = is.starts in
    let all : units - 0 ≡ units = omega arith in
    let same : get_or sums (units - 0) 0 ≡ get_or sums units 0 = ap (λ n. get_or sums n 0) all in
    record {
      taken = 0;
      within = omega arith;
      attained = omega (arith, starts, same);
      none_less = λ other le.
          let none : other ≡ 0 = omega (arith, le) in
          subst (λ k. get_or sums units 0 ≤ get_or row k 0 + get_or sums (units - k) 0) (sym none) (omega (arith, starts, same));
    }

-- the least sums with a row in front, from so many units on, and those without it below
pub record AreJointFrom (width : ℕ) (row before now : List ℕ) (from : ℕ) : Type 0 where
  pub joint : (units : ℕ) → from ≤ units → units < width → IsLeastJoint row before units (get_or now units 0)
  pub kept : (units : ℕ) → units < from → get_or now units 0 ≡ get_or before units 0

module _ (width : ℕ) (row before now : List ℕ) (from units least : ℕ) (next : from ≡ units + 1) (fits : units < width) (is_row : IsCountRow width row)
    (is_now : IsCountRow width now) (are : AreJointFrom width row before now from) (is : IsLeastJoint row now units least) where
  is_before : IsLeastJoint row before units least
  is_before =
      let same : (k : ℕ) → k ≤ units → get_or now (units - k) 0 ≡ get_or before (units - k) 0 = λ k le. are.kept (units - k) (omega arith) in
      record {
        taken = is.taken;
        within = is.within;
        attained = let h = is.attained in let s = same is.taken is.within in omega arith;
        none_less = λ other le. let h = is.none_less other le in let s = same other le in omega arith;
      }

  pub joint_more : AreJointFrom width row before (set now units least) units
  joint_more =
      let size = is_now.size in
      record {
        joint = λ other le less.
            elim (cases_eq other units) [
              | inl same ↦ subst (λ k. IsLeastJoint row before k (get_or (set now units least) k 0)) (sym same)
                  (rw (get_or-set_same now units least 0 (omega arith)) is_before)
              | inr differs ↦ rw (get_or-set_other now units other least 0 differs) (are.joint other (omega (arith, le, differs)) less)
            ];
        kept = λ other less.
            get_or-set_other now units other least 0 (λ (same : other ≡ units). omega (arith, less, same)) ∙ are.kept other (omega arith);
      }

  pub joint_row : IsCountRow width (set now units least)
  joint_row =
      let size = is_now.size in
      let starts = is_row.starts in
      let below = is.none_less 0 (omega arith) in
      let all : units - 0 ≡ units = omega arith in
      let same = ap (λ n. get_or now n 0) all in
      record {
        size = length-set now units least ∙ is_now.size;
        starts = elim (cases_eq 0 units) [
          | inl first ↦ subst (λ k. get_or (set now units least) k 0 ≡ 0) (sym first)
              (get_or-set_same now units least 0 (omega arith) ∙ (let h = is_now.starts in let s = ap (λ n. get_or now n 0) first in omega arith))
          | inr differs ↦ get_or-set_other now units 0 least 0 differs ∙ is_now.starts
        ];
        small = λ other. elim (cases_eq other units) [
          | inl here ↦ subst (λ k. get_or (set now units least) k 0 ≤ 64) (sym here)
              (rw (get_or-set_same now units least 0 (omega arith)) (let h = is_now.small units in omega arith))
          | inr differs ↦ rw (get_or-set_other now units other least 0 differs) (is_now.small other)
        ];
      }

-- one row alone
module _ (count : ℕ → ℕ → ℕ) (part width : ℕ) (row : List ℕ) (is : (units : ℕ) → units < width → count part units ≡ get_or row units 0) where
  none_first : (units : ℕ) → units < width → (us : List ℕ) → IsSplit 1 units us → get_or row units 0 ≤ split_cost count part us
  none_first units less [] split = absurd (let h = split.size in omega arith)
  none_first units less (u ∷ (v ∷ us)) split = absurd (let h = split.size in omega arith)
  none_first units less (u ∷ []) split =
      let sum = split.sum in
      let same : u ≡ units = omega arith in
      let here = is units less in
      let cost = ap (count part) same in
      omega arith

  pub sums_first : AreLeastSums count part 1 width row
  sums_first = λ units less.
      let here = is units less in
      record {
        best = units ∷ [];
        is_split = record { size = refl; sum = omega arith };
        attained = omega arith;
        none_cheaper = none_first units less;
      }

-- a row more in front
module _ (count : ℕ → ℕ → ℕ) (part parts width : ℕ) (row before : List ℕ)
    (is : (units : ℕ) → units < width → count part units ≡ get_or row units 0)
    (sums : AreLeastSums count (part + 1) parts width before) where
  none_more : (units least : ℕ) → units < width → IsLeastJoint row before units least → (us : List ℕ) → IsSplit (suc parts) units us
      → least ≤ split_cost count part us
  none_more units least less joint [] split = absurd (let h = split.size in omega arith)
  none_more units least less joint (u ∷ us) split =
      let size = split.size in
      let sum = split.sum in
      let rest = (sums (units - u) (omega arith)).none_cheaper us (record { size = omega arith; sum = omega arith }) in
      let here = joint.none_less u (omega arith) in
      let own = is u (omega arith) in
      omega arith

  pub sum_more : (units least : ℕ) → units < width → IsLeastJoint row before units least → IsLeastSum count part (suc parts) units least
  sum_more units least less at =
      let within = at.within in
      let attained = at.attained in
      let rest = sums (units - at.taken) (omega arith) in
      let size = rest.is_split.size in
      let sum = rest.is_split.sum in
      let cost = rest.attained in
      let own = is at.taken (omega arith) in
      record {
        best = at.taken ∷ rest.best;
        is_split = record { size = omega arith; sum = omega arith };
        attained = omega arith;
        none_cheaper = none_more units least less at;
      }

-- the same of all numbers of units, and of parts and their number by other names
pub sums_more : (count : ℕ → ℕ → ℕ) (part parts more next width : ℕ) (row before after : List ℕ)
    → part ≡ next + 1 → more ≡ suc parts → ((units : ℕ) → units < width → count next units ≡ get_or row units 0)
    → AreLeastSums count part parts width before → AreLeastJoint width row before after → AreLeastSums count next more width after
sums_more count part parts more next width row before after front number is sums joint =
    subst (λ n. AreLeastSums count next n width after) (sym number)
    (λ units less. sum_more count next parts width row before is (subst (λ p. AreLeastSums count p parts width before) front sums) units
    (get_or after units 0) less (joint units less))

-- the sums of one row by another name of their number
pub sums_one : (count : ℕ → ℕ → ℕ) (part number width : ℕ) (row : List ℕ) → number ≡ 1
    → ((units : ℕ) → units < width → count part units ≡ get_or row units 0) → AreLeastSums count part number width row
sums_one count part number width row one is = subst (λ n. AreLeastSums count part n width row) (sym one) (sums_first count part width row is)

-- three rows
pub three_least : (first next others sums : List ℕ) (width units least : ℕ) → units < width → AreLeastJoint width next others sums
    → IsLeastJoint first sums units least → IsLeastSum (counts_in (first ∷ next ∷ others ∷ [])) 0 3 units least
three_least first next others sums width units least less joint at =
    let count = counts_in (first ∷ next ∷ others ∷ []) in
    sum_more count 0 2 width first sums (λ u below. refl)
    (sums_more count 2 1 2 1 width next others sums refl refl (λ u below. refl) (sums_first count 2 width others (λ u below. refl)) joint) units least less at

-- two rows
pub two_least : (count : ℕ → ℕ → ℕ) (first next : List ℕ) (units least : ℕ) → ((u : ℕ) → u ≤ units → count 0 u ≡ get_or first u 0)
    → ((u : ℕ) → u ≤ units → count 1 u ≡ get_or next u 0) → IsLeastJoint first next units least → IsLeastSum count 0 2 units least
two_least count first next units least is_first is_next at =
    sum_more count 0 1 (units + 1) first next (λ u below. is_first u (omega arith))
    (sums_first count 1 (units + 1) next (λ u below. is_next u (omega arith))) units least (omega arith) at

-- the row at a place
pub row_kept : (rows : List (Vec ℕ)) (at place : ℕ) (own : Vec ℕ) (row : List ℕ) → at ≡ place → place < length rows → own ≡ get_or rows at own
    → row ≡ own.items → row ≡ get_or (kept_rows rows) place []
row_kept rows at place own row same below is of =
    of ∙ ap (λ (row : Vec ℕ). row.items) (subst (λ k. own ≡ get_or rows k own) same is)
    ∙ sym (get_or-map (λ (row : Vec ℕ). row.items) rows place own [] below)

-- and its counts
pub row_counts_kept : (rows : List (Vec ℕ)) (pair part : ℕ) (row : List ℕ) → row ≡ get_or (kept_rows rows) (place_beside pair part) []
    → (units : ℕ) → counts_beside (counts_in (kept_rows rows)) pair part units ≡ get_or row units 0
row_counts_kept rows pair part row is units = ap (λ (xs : List ℕ). get_or xs units 0) (sym is)

pub counted_row : (rows : List (Vec ℕ)) (width at place : ℕ) (own : Vec ℕ) (row : List ℕ) → at ≡ place → place < length rows → own ≡ get_or rows at own
    → row ≡ own.items → AreCountRows width (kept_rows rows) → IsCountRow width row
counted_row rows width at place own row same below is of are =
    let long = length-map rows (λ (row : Vec ℕ). row.items) in
    subst (IsCountRow width) (sym (row_kept rows at place own row same below is of)) (are place (omega arith))
