-- What a walk that has read nothing will read and keep.
use Rattle.std.proofs.Common.{◌≡◌, ℕ, zero, suc, ◌+◌, ◌^◌, ◌<◌, ◌≤◌, ℤ, List, [], ◌∷◌, length, sum_by, get_or, refl, sym, ap, ◌∙◌, arith}
use Rattle.std.specs.List.{flat_map, range_with_len}
use Rattle.std.proofs.lemmas.List.FromFn.{length-range_with_len}
use Rattle.std.proofs.lemmas.List.Sums.{sum_by-cons, length-filter, count_by-le-length}
use Rattle.hamming_model.specs.Codes.{IsCode}
use Rattle.hamming_model.specs.Layouts.{part_value}
use Rattle.ball_walk.specs.Balls.{ball, values, values_near, is_near}
use Rattle.ball_walk.specs.Flips.{flipped_ball}
use Rattle.threshold_model.specs.Vectors.{units_of, cost, row_counts}
use Rattle.search_model.specs.Reading.{HasSame, IsReading, parts_read}
use Rattle.search_model.proofs.PostingLemmas.{value_below}
use Rattle.search_model.proofs.SameLemmas.{sum_ones, sum_flat_map}
use Rattle.shard_walk.specs.Planned.{Planned, IsPlanned, parts_of, planned_query}
use Rattle.threshold_model.specs.Bounds.{values_of_parts}
use Rattle.shard_walk.specs.Walks.{values_of, parts_walked}

near_few : (value width units : ℕ) → length (values_near value width units) ≤ 2 ^ width
unfolding values_near values
near_few value width units =
    let size = length-filter (is_near value units) (range_with_len 0 (2 ^ width)) in
    let few = count_by-le-length (is_near value units) (range_with_len 0 (2 ^ width)) in
    let all = length-range_with_len 0 (2 ^ width) in
    omega arith

-- what is added up over the values that flips make is what is added up over the ball
abbrev pub FlipsAddUp : Type 0
FlipsAddUp =
    (f : ℕ → ℕ) (value width units : ℕ) → value < 2 ^ width
    → sum_by f (flipped_ball value width units) ≡ sum_by f (ball value width units)

module _ (flipped : FlipsAddUp) (bits : ℕ) (query : List ℕ) (is_code : IsCode bits query) where
  module _ (sums : (f : ℕ → ℕ) (value width units : ℕ) → sum_by f (ball value width units) ≡ sum_by f (values_near value width units)) where
    -- a ball has no more values than its width
    ball_few : (value width units : ℕ) → value < 2 ^ width → length (flipped_ball value width units) ≤ 2 ^ width
    ball_few value width units in_width =
        let same = sym (sum_ones (flipped_ball value width units)) ∙ flipped (λ x. 1) value width units in_width
        ∙ sums (λ x. 1) value width units ∙ sum_ones (values_near value width units) in
        let few = near_few value width units in
        omega arith

    pub values_few : (parts : List (List ℕ)) (ts : List ℤ) → values_of parts ts query ≤ values_of_parts parts
    values_few [] ts = omega arith
    values_few (part ∷ parts) [] = omega arith
    values_few (part ∷ parts) (t ∷ ts) =
        let here = ball_few (part_value query part) (length part) (units_of t) (value_below bits query part is_code) in
        let rest = values_few parts ts in
        omega (arith, sum_by-cons (λ other. 2 ^ length other) part parts)

  module _ (lists : ℕ → ℕ → List (ℕ × List ℕ)) where
    -- a walk reads at each part what is read ball by ball, in an order of its own
    walked_same : (number : ℕ) (layout : List (List ℕ)) (ts : List ℤ) (part : ℕ)
        → HasSame (get_or (parts_walked lists number layout ts query) part []) (get_or (parts_read lists number layout ts query) part [])
    walked_same number [] ts part = record { sums = λ f. refl }
    walked_same number (positions ∷ layout) [] part = record { sums = λ f. refl }
    walked_same number (positions ∷ layout) (t ∷ ts) zero =
        let value = part_value query positions in
        record {
          sums = λ f.
              sum_flat_map f (lists number) (flipped_ball value (length positions) (units_of t))
              ∙ flipped (λ v. sum_by f (lists number v)) value (length positions) (units_of t) (value_below bits query positions is_code)
              ∙ sym (sum_flat_map f (lists number) (ball value (length positions) (units_of t)));
        }
    walked_same number (positions ∷ layout) (t ∷ ts) (suc part) = walked_same (number + 1) layout ts part

    walked_size : (number : ℕ) (layout : List (List ℕ)) (ts : List ℤ)
        → length (parts_walked lists number layout ts query) ≡ length (parts_read lists number layout ts query)
    walked_size number [] ts = refl
    walked_size number (positions ∷ layout) [] = refl
    walked_size number (positions ∷ layout) (t ∷ ts) = ap suc (walked_size (number + 1) layout ts)

    -- so it reads what the parts find
    pub walked_reading : (rows : List (ℕ × List ℕ)) (layout : List (List ℕ)) (ts : List ℤ)
        → IsReading rows layout ts query (parts_read lists 0 layout ts query)
        → IsReading rows layout ts query (parts_walked lists 0 layout ts query)
    walked_reading rows layout ts reading = record {
      size = walked_size 0 layout ts ∙ reading.size;
      each = λ part less. record { sums = λ f. (walked_same 0 layout ts part).sums f ∙ (reading.each part less).sums f };
    }

-- the least cost is that of the thresholds
pub least_is_cost : (words : ℕ) (p : Planned) → IsPlanned words p
    → p.least ≡ cost (row_counts p.version.contents.rows (parts_of p) (planned_query p)) p.thresholds
least_is_cost words p plan =
    let found = plan.least.attained in
    omega (arith, plan.least.none_cheaper p.thresholds plan.choice.vector, plan.choice.none_cheaper found.0 found.1, found.2)
