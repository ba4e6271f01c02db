-- The distance of two numbers is the Hamming distance of their binary digits.
use Rattle.std.proofs.Common.{◌≡◌, ℕ, zero, suc, ◌+◌, ◌*◌, ◌/◌, ◌%◌, ◌^◌, ◌<◌, refl, sym, ◌∙◌, ap, List, [], ◌∷◌, arith, length, subst}
use Rattle.std.specs.Int.RustNames.{count_ones, bit_xor}
use Rattle.std.proofs.lemmas.Nat.{mod-pow-add, xor_block, ones_cat, xor_lt, mod_below, pow_pos}
use Rattle.std.proofs.Math.Nat.{mod-eq_of_lt, mod-one}
use Rattle.std.specs.List.{AllByRecursion}
use Rattle.std.specs.Int.Digits.{number_from_digits, number_from_digits_after}
use Rattle.std.proofs.lemmas.Int.Digits.{number_lt}
use Rattle.hamming_model.specs.Codes.{bits_of, difference, distance, IsCode}
use Rattle.ball_walk.specs.Balls.{value_distance}

-- two binary digits are as far apart as they differ
pub one_digit : (a b : ℕ) → a < 2 → b < 2 → count_ones (bit_xor a b) ≡ difference a b
unfolding count_ones
one_digit zero zero below above = refl
one_digit zero (suc zero) below above = refl
one_digit (suc zero) zero below above = refl
one_digit (suc zero) (suc zero) below above = refl
one_digit zero (suc (suc b)) below above = absurd (omega arith)
one_digit (suc zero) (suc (suc b)) below above = absurd (omega arith)
one_digit (suc (suc a)) b below above = absurd (omega arith)

-- the distance of two numbers of one digit more is that of the top digits and that of the rest
pub distance_top : (width a b low high : ℕ) → low < 2 ^ width → high < 2 ^ width
    → value_distance (a * 2 ^ width + low) (b * 2 ^ width + high) ≡ count_ones (bit_xor a b) + value_distance low high
unfolding value_distance
distance_top width a b low high below above =
    ap count_ones (xor_block width a b low high below above)
    ∙ ones_cat width (bit_xor a b) (bit_xor low high) (xor_lt width low high below above)

-- the low digits and one more
low_digits : (width a : ℕ) → a % 2 ^ suc width ≡ (a / 2 ^ width % 2) * 2 ^ width + a % 2 ^ width
low_digits width a = let e : suc width ≡ 1 + width = omega arith in ap (λ n. a % 2 ^ n) e ∙ mod-pow-add a 1 width

no_digits : (a b : ℕ) → value_distance (a % 1) (b % 1) ≡ 0
unfolding value_distance count_ones
no_digits a b = rw (mod-one a, mod-one b) refl

-- how far the low digits of two numbers are apart
pub distance_low : (width a b : ℕ) → value_distance (a % 2 ^ width) (b % 2 ^ width) ≡ distance (bits_of width a) (bits_of width b)
unfolding bits_of
distance_low zero a b = no_digits a b
distance_low (suc width) a b =
    rw (low_digits width a, low_digits width b)
    (distance_top width (a / 2 ^ width % 2) (b / 2 ^ width % 2) (a % 2 ^ width) (b % 2 ^ width)
    (mod_below a (2 ^ width) (pow_pos width)) (mod_below b (2 ^ width) (pow_pos width))
    ∙ ap (λ n. n + value_distance (a % 2 ^ width) (b % 2 ^ width))
    (one_digit (a / 2 ^ width % 2) (b / 2 ^ width % 2) (mod_below (a / 2 ^ width) 2 (omega arith)) (mod_below (b / 2 ^ width) 2 (omega arith)))
    ∙ ap (λ n. difference (a / 2 ^ width % 2) (b / 2 ^ width % 2) + n) (distance_low width a b))

-- how far two numbers of a width are apart
pub distance_digits : (width a b : ℕ) → a < 2 ^ width → b < 2 ^ width → value_distance a b ≡ distance (bits_of width a) (bits_of width b)
distance_digits width a b below above =
    let x : a % 2 ^ width ≡ a = mod-eq_of_lt below in
    let y : b % 2 ^ width ≡ b = mod-eq_of_lt above in
    sym (ap (λ n. value_distance n (b % 2 ^ width)) x ∙ ap (value_distance a) y) ∙ distance_low width a b

-- one more binary digit
digit_more : (a b x y : ℕ) → x < 2 → y < 2 → value_distance (a * 2 + x) (b * 2 + y) ≡ value_distance a b + difference x y
unfolding value_distance
digit_more a b x y below above =
    distance_top 1 a b x y below above ∙ ap (λ n. count_ones (bit_xor a b) + n) (one_digit x y below above)

digits_after : (a b : ℕ) (xs ys : List ℕ) → length xs ≡ length ys → AllByRecursion (λ bit. bit < 2) xs → AllByRecursion (λ bit. bit < 2) ys
    → value_distance (number_from_digits_after 2 a xs) (number_from_digits_after 2 b ys) ≡ value_distance a b + distance xs ys
digits_after a b [] [] long below above = omega arith
digits_after a b [] (y ∷ ys) long below above = absurd (omega arith)
digits_after a b (x ∷ xs) [] long below above = absurd (omega arith)
digits_after a b (x ∷ xs) (y ∷ ys) long below above =
    let rest = digits_after (a * 2 + x) (b * 2 + y) xs ys (omega arith) below.1 above.1 in
    let here = digit_more a b x y below.0 above.0 in
    omega arith

none_apart : value_distance 0 0 ≡ 0
unfolding value_distance count_ones
none_apart = refl

-- how far the numbers that two codes spell are apart
pub distance_codes : (width : ℕ) (one other : List ℕ) → IsCode width one → IsCode width other
    → value_distance (number_from_digits 2 one) (number_from_digits 2 other) ≡ distance one other
distance_codes width one other is_code is_other =
    let all = digits_after 0 0 one other (is_code.size ∙ sym is_other.size) is_code.binary is_other.binary in
    let none = none_apart in
    omega arith

-- the number that a code spells is below the bound of its width
pub number_below : (width : ℕ) (code : List ℕ) → IsCode width code → number_from_digits 2 code < 2 ^ width
number_below width code is_code =
    let below = number_lt 2 code is_code.binary in
    let P : ℕ → Type 0 = λ n. number_from_digits 2 code < 2 ^ n in
    subst P is_code.size below
