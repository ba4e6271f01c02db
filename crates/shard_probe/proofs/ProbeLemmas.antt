-- What a query on a version keeps: its values at the parts.
use Rattle.std.proofs.Common.{◌≡◌, ℕ, ◌+◌, ◌-◌, ◌*◌, ◌^◌, ◌<◌, ◌≤◌, List, [], length, replicate}
use Rattle.std.proofs.Common.{get_or, refl, sym, ap, ◌∙◌, subst, arith}
use Rattle.std.proofs.lemmas.List.{get_or-map, length-append, length-replicate}
use Rattle.hamming_model.specs.Codes.{IsCode, StandsFor}
use Rattle.hamming_model.specs.Layouts.{part_value, part_distance}
use Rattle.threshold_model.specs.Finding.{part_distances}
use Rattle.search_model.proofs.PostingLemmas.{value_below}
use Rattle.shard_probe.specs.Kept.{AreValues}
use Rattle.std.specs.Prelude.{ℤ, pos, negsuc}
use Rattle.ball_walk.specs.Balls.{radius_units}
use Rattle.threshold_model.specs.Vectors.{units_of}

-- the value of a code at a part, below the bound of its width
pub value_small : (bits : ℕ) (parts : List (List ℕ)) (query values : List ℕ) (part value width : ℕ)
    → IsCode bits query → AreValues parts query values → part < length parts
    → value ≡ get_or values part 0 → width ≡ length (get_or parts part []) → value < 2 ^ width
value_small bits parts query values part value width is_code are_values less at wide =
    let positions : List ℕ = get_or parts part [] in
    let below = value_below bits query positions is_code in
    let is : value ≡ part_value query positions = at ∙ are_values.each part less in
    subst (λ n. value < 2 ^ n) (sym wide) (subst (λ n. n < 2 ^ length positions) (sym is) below)

-- words that keep a code have all their positions
pub stored_size : (words bits : ℕ) (stored code : List ℕ)
    → StandsFor words bits stored code → bits ≤ 64 * words
    → length stored ≡ 64 * words
stored_size words bits stored code stands room =
    let size = stands.is_code.size in
    let zeros : length (replicate {A = ℕ} (64 * words - length code) 0) ≡ 64 * words - length code =
    length-replicate (64 * words - length code) 0 in
    let joined = length-append code (replicate (64 * words - length code) 0) in
    let all = ap length stands.is_padded ∙ joined in
    omega arith

-- codes that are alike at all parts are alike at one
pub alike_at : (layout : List (List ℕ)) (part : ℕ) (stored other code query : List ℕ)
    → part < length layout
    → part_distances layout stored other ≡ part_distances layout code query
    → part_distance (get_or layout part []) stored other
    ≡ part_distance (get_or layout part []) code query
alike_at layout part stored other code query less same =
    sym (get_or-map (λ positions. part_distance positions stored other) layout part [] 0 less)
    ∙ ap (λ ns. get_or ns part 0) same
    ∙ get_or-map (λ positions. part_distance positions code query) layout part [] 0 less

-- a radius allows as many units, whether a ball counts them or a threshold
pub same_units : (radius : ℤ) → radius_units radius ≡ units_of radius
same_units (pos n) = omega arith
same_units (negsuc n) = refl
