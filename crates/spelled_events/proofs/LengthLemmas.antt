-- The text of a layout fits a line.
use Rattle.std.proofs.Common.{ℕ, suc, ◌+◌, ◌*◌, ◌<◌, ◌≤◌, All, List, [], ◌∷◌, ◌++◌, length, decimal, arith, length-append}
use Rattle.std.proofs.lemmas.Fmt.{length-decimal-le}
use Rattle.std.specs.List.{flat_map}
use Rattle.part_layout.specs.Laid.{IsLaid, Laid}
use Rattle.part_layout.specs.Text.{layout_text, part_text}
use Rattle.part_layout.proofs.LayoutLemmas.{all_positions}

-- each is below 256
abbrev AreSmall : List ℕ → Type 0
AreSmall [] = Unit {0}
AreSmall (position ∷ positions) = (position < 256) × AreSmall positions

small_each : (positions : List ℕ) → All (λ position. position < 256) positions → AreSmall positions
small_each [] all = tt
small_each (position ∷ positions) all =
    (all 0 0 (omega arith), small_each positions (λ at other inside. all (suc at) other (omega arith)))

small_front : (part rest : List ℕ) → AreSmall (part ++ rest) → AreSmall part × AreSmall rest
small_front [] rest all = (tt, all)
small_front (position ∷ part) rest all = let split = small_front part rest all.1 in ((all.0, split.0), split.1)

position_short : (position : ℕ) → position < 256 → length (decimal position) ≤ 3
position_short position small = length-decimal-le 3 position (omega arith) (omega (arith, small)) (omega (arith, small))

part_short : (part : List ℕ) → AreSmall part → length (part_text part) ≤ 4 * length part
part_short [] all = omega arith
part_short (position ∷ []) all = omega (arith, position_short position all.0)
part_short (position ∷ next ∷ others) all =
    omega (arith, position_short position all.0, part_short (next ∷ others) all.1, length-append (decimal position) (44 ∷ part_text (next ∷ others)))

parts_short : (parts : List (List ℕ)) → AreSmall (flat_map (λ part. part) parts)
    → length (layout_text parts) ≤ 4 * length (flat_map (λ part. part) parts) + length parts
parts_short [] all = omega arith
parts_short (part ∷ []) all =
    let split = small_front part [] all in
    omega (arith, part_short part split.0, length-append part [])
parts_short (part ∷ next ∷ others) all =
    let after = flat_map (λ part. part) (next ∷ others) in
    let split = small_front part after all in
    omega (
      arith,
      part_short part split.0,
      parts_short (next ∷ others) split.1,
      length-append part after,
      length-append (part_text part) (47 ∷ layout_text (next ∷ others)),
    )

-- a layout has at most 256 positions, in at most 64 parts
pub layout_short : (layout : Laid) → IsLaid layout → length (layout_text layout.parts) ≤ 1088
layout_short layout is =
    let small : All (λ position. position < 256) (flat_map (λ part. part) layout.parts) =
    λ at other inside. omega (arith, is.layout.in_range at other inside, is.allowed.few) in
    omega (
      arith,
      parts_short layout.parts (small_each (flat_map (λ part. part) layout.parts) small),
      all_positions layout.bits layout.parts is.layout,
      is.layout.few_parts,
      is.allowed.few,
    )
