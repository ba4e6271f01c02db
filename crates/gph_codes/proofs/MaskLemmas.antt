-- Distances under masks, of bits that are joined and that words keep; and words with one bit more.
use Rattle.std.proofs.Common.{◌≡◌, ◌≢◌, ℕ, zero, suc, ◌+◌, ◌-◌, ◌*◌, ◌/◌, ◌%◌, ◌^◌, ◌<◌, refl, sym, ap, ◌∙◌}
use Rattle.std.proofs.Common.{List, [], ◌∷◌, ◌++◌, length, take, set, replicate, get_or, subst, inl, inr, arith}
use Rattle.std.specs.Int.{w64}
use Rattle.std.proofs.Math.Nat.{mod-eq_of_lt, mod-lt}
use Rattle.std.proofs.lemmas.Bool.{cases_lt}
use Rattle.std.proofs.lemmas.Grind.{flat_map-append}
use Rattle.std.proofs.lemmas.List.{append-nil, length-take-le, take_more, set-append_left}
use Rattle.std.proofs.lemmas.List.{set-append_right, replicate-append-replicate}
use Rattle.std.proofs.lemmas.Nat.{ones_cat, pow_pos, xor_block, xor_lt, and_block, and_le_l, or_lt}
use Rattle.std.proofs.lemmas.Nat.Bits.{bit_at-zero, bit_at_set_same, bit_at_set_other}
use lib.Bits.{bit_and, bit_or, bit_xor}
use lib.Count.{ones}
use Rattle.hamming_model.specs.Codes.{bits_of}
use Rattle.gph_codes.specs.Masks.{difference_under, distance_under}
use Rattle.gph_codes.specs.Words.{word_bits}
use Rattle.gph_codes.specs.WordsLaw.{length-bits_of, low_bits}
use Rattle.gph_codes.proofs.BitsLemmas.{length-flat_map_bits}

-- the distance under masks that are joined is the sum of those under each
under-append : (k m a x b y : List ℕ) → length a ≡ length k → length b ≡ length k
    → distance_under (k ++ m) (a ++ x) (b ++ y) ≡ distance_under k a b + distance_under m x y
under-append [] m [] x [] y same also = omega arith
under-append [] m [] x (q ∷ b) y same also = absurd (omega arith)
under-append [] m (p ∷ a) x b y same also = absurd (omega arith)
under-append (l ∷ k) m [] x b y same also = absurd (omega arith)
under-append (l ∷ k) m (p ∷ a) x [] y same also = absurd (omega arith)
under-append (l ∷ k) m (p ∷ a) x (q ∷ b) y same also =
    omega (arith, under-append k m a x b y (omega arith) (omega arith))

-- two bits differ under a mask's bit where their exclusive or and the mask are 1
ones_of_bits : (m a b : ℕ) → m < 2 → a < 2 → b < 2
    → ones (bit_and (bit_xor a b) m) ≡ difference_under m a b
unfolding ones
ones_of_bits zero zero zero is low high = refl
ones_of_bits zero zero (suc zero) is low high = refl
ones_of_bits zero (suc zero) zero is low high = refl
ones_of_bits zero (suc zero) (suc zero) is low high = refl
ones_of_bits (suc zero) zero zero is low high = refl
ones_of_bits (suc zero) zero (suc zero) is low high = refl
ones_of_bits (suc zero) (suc zero) zero is low high = refl
ones_of_bits (suc zero) (suc zero) (suc zero) is low high = refl
ones_of_bits m a b is low high = absurd (omega arith)

-- the ones of the exclusive or that the mask has too count the digits that differ there
ones_under : (n m x y : ℕ) → ones (bit_and (bit_xor (x % 2 ^ n) (y % 2 ^ n)) (m % 2 ^ n))
    ≡ distance_under (bits_of n m) (bits_of n x) (bits_of n y)
unfolding bits_of
ones_under zero m x y =
    let mask : m % 2 ^ 0 ≡ 0 = omega arith in
    let left : x % 2 ^ 0 ≡ 0 = omega arith in
    let right : y % 2 ^ 0 ≡ 0 = omega arith in
    rw (mask, left, right) (ones_of_bits 0 0 0 (omega arith) (omega arith) (omega arith))
ones_under (suc n) m x y =
    let low_m : m % 2 ^ n < 2 ^ n = mod-lt m (pow_pos n) in
    let low_x : x % 2 ^ n < 2 ^ n = mod-lt x (pow_pos n) in
    let low_y : y % 2 ^ n < 2 ^ n = mod-lt y (pow_pos n) in
    let top : ℕ = bit_xor (x / 2 ^ n % 2) (y / 2 ^ n % 2) in
    let low : ℕ = bit_xor (x % 2 ^ n) (y % 2 ^ n) in
    let apart : low < 2 ^ n = xor_lt n (x % 2 ^ n) (y % 2 ^ n) low_x low_y in
    let block = xor_block n (x / 2 ^ n % 2) (y / 2 ^ n % 2) (x % 2 ^ n) (y % 2 ^ n) low_x low_y in
    let both = and_block n top (m / 2 ^ n % 2) low (m % 2 ^ n) apart low_m in
    let few = and_le_l low (m % 2 ^ n) in
    let cut = ones_cat n (bit_and top (m / 2 ^ n % 2)) (bit_and low (m % 2 ^ n)) (omega arith) in
    let bits = ones_of_bits (m / 2 ^ n % 2) (x / 2 ^ n % 2) (y / 2 ^ n % 2) (omega arith) (omega arith) (omega arith) in
    rw (low_bits n m, low_bits n x, low_bits n y, block, both, cut, bits, ones_under n m x y) refl

-- the bits of two words that differ under a mask are the ones of their exclusive or there
pub ones_of_words_under : (m a b : ℕ) → m < 2 ^ 64 → a < 2 ^ 64 → b < 2 ^ 64
    → ones (bit_and (bit_xor a b) m) ≡ distance_under (bits_of 64 m) (bits_of 64 a) (bits_of 64 b)
ones_of_words_under m a b fits_m fits_a fits_b =
    rw (mod-eq_of_lt fits_m, mod-eq_of_lt fits_a, mod-eq_of_lt fits_b) at (ones_under 64 m a b)

-- one more word adds its distance under the mask
pub under-more : (m a b : List ℕ) (i : ℕ) → i < length m → i < length a → i < length b
    → distance_under (word_bits (take (i + 1) m)) (word_bits (take (i + 1) a))
    (word_bits (take (i + 1) b))
    ≡ distance_under (word_bits (take i m)) (word_bits (take i a)) (word_bits (take i b))
    + distance_under (bits_of 64 (get_or m i 0)) (bits_of 64 (get_or a i 0)) (bits_of 64 (get_or b i 0))
under-more m a b i in_m in_a in_b =
    let size_m = length-flat_map_bits 64 (take i m) in
    let size_a = length-flat_map_bits 64 (take i a) in
    let size_b = length-flat_map_bits 64 (take i b) in
    let len_m = length-take-le i m (omega arith) in
    let len_a = length-take-le i a (omega arith) in
    let len_b = length-take-le i b (omega arith) in
    rw (
      take_more m i 0 in_m,
      take_more a i 0 in_a,
      take_more b i 0 in_b,
      flat_map-append (bits_of 64) (take i m) (get_or m i 0 ∷ []),
      flat_map-append (bits_of 64) (take i a) (get_or a i 0 ∷ []),
      flat_map-append (bits_of 64) (take i b) (get_or b i 0 ∷ []),
      append-nil (bits_of 64 (get_or m i 0)),
      append-nil (bits_of 64 (get_or a i 0)),
      append-nil (bits_of 64 (get_or b i 0)),
    ) (under-append (word_bits (take i m)) (bits_of 64 (get_or m i 0))
    (word_bits (take i a)) (bits_of 64 (get_or a i 0))
    (word_bits (take i b)) (bits_of 64 (get_or b i 0)) (omega arith) (omega arith))

-- numbers with the same low digits have the same bits
bits_same : (n x y : ℕ) → ((i : ℕ) → i < n → x / 2 ^ i % 2 ≡ y / 2 ^ i % 2) → bits_of n x ≡ bits_of n y
unfolding bits_of
bits_same zero x y same = refl
bits_same (suc n) x y same =
    ap (λ bit. bit ∷ bits_of n x) (same n (omega arith))
    ∙ ap (λ bits. y / 2 ^ n % 2 ∷ bits) (bits_same n x y (λ i less. same i (omega arith)))

-- a number with one digit more, counted from the top
bits_set : (n j x y : ℕ) → j < n → y / 2 ^ (n - 1 - j) % 2 ≡ 1
    → ((i : ℕ) → i ≢ n - 1 - j → y / 2 ^ i % 2 ≡ x / 2 ^ i % 2) → bits_of n y ≡ set (bits_of n x) j 1
unfolding bits_of
bits_set zero j x y less here others = absurd (omega arith)
bits_set (suc n) zero x y less here others =
    let at : suc n - 1 - 0 ≡ n = omega arith in
    let top : y / 2 ^ n % 2 ≡ 1 = subst (λ k. y / 2 ^ k % 2 ≡ 1) at here in
    ap (λ bit. bit ∷ bits_of n y) top
    ∙ ap (λ bits. 1 ∷ bits) (bits_same n y x (λ i below. others i (λ e. omega arith)))
bits_set (suc n) (suc j) x y less here others =
    let at : suc n - 1 - suc j ≡ n - 1 - j = omega arith in
    let top : y / 2 ^ n % 2 ≡ x / 2 ^ n % 2 = others n (λ e. omega arith) in
    ap (λ bit. bit ∷ bits_of n y) top
    ∙ ap (λ bits. x / 2 ^ n % 2 ∷ bits)
    (bits_set n j x y (omega arith) (subst (λ k. y / 2 ^ k % 2 ≡ 1) at here)
    (λ i ne. others i (λ e. ne (e ∙ at))))

-- a word with one bit more, position 0 being the top bit
pub word_set : (x j : ℕ) → j < 64
    → bits_of 64 (bit_or x (1 * 2 ^ (63 - j) % 2 ^ 64)) ≡ set (bits_of 64 x) j 1
word_set x j less =
    let at : 64 - 1 - j ≡ 63 - j = omega arith in
    let y : ℕ = bit_or x (1 * 2 ^ (63 - j) % 2 ^ 64) in
    bits_set 64 j x y less
    (subst (λ k. y / 2 ^ k % 2 ≡ 1) (sym at) (bit_at_set_same w64 x (63 - j) (omega arith)))
    (λ i ne. bit_at_set_other w64 x (63 - j) (omega arith) i (λ e. ne (e ∙ sym at)))

-- words with one bit more
pub word_bits_set : (words : List ℕ) (j word : ℕ) → j < 64 * length words
    → bits_of 64 word ≡ set (bits_of 64 (get_or words (j / 64) 0)) (j % 64) 1
    → word_bits (set words (j / 64) word) ≡ set (word_bits words) j 1
word_bits_set [] j word below is = absurd (omega arith)
word_bits_set (first ∷ words) j word below is =
    let sized = length-bits_of 64 first in
    elim (cases_lt j 64) [
      | inl here ↦
          let at : j / 64 ≡ 0 = omega arith in
          let place : j % 64 ≡ j = omega arith in
          let seam = set-append_left (bits_of 64 first) (word_bits words) j 1 (omega arith) in
          rw at (ap (λ bits. bits ++ word_bits words) (rw (at, place) at is) ∙ sym seam)
      | inr later ↦
          let at : j / 64 ≡ suc ((j - 64) / 64) = omega arith in
          let place : j % 64 ≡ (j - 64) % 64 = omega arith in
          let rest = word_bits_set words (j - 64) word (omega arith) (rw (at, place) at is) in
          let seam = set-append_right (bits_of 64 first) (word_bits words) 64 j 1 sized (omega arith) in
          rw at (ap (λ bits. bits_of 64 first ++ bits) rest ∙ sym seam)
    ]

-- a word with one bit more has no more than 64 bits
pub word_set_fits : (x j : ℕ) → x < 2 ^ 64 → bit_or x (1 * 2 ^ (63 - j) % 2 ^ 64) < 2 ^ 64
word_set_fits x j fits =
    or_lt 64 x (1 * 2 ^ (63 - j) % 2 ^ 64) fits (mod-lt (1 * 2 ^ (63 - j)) (pow_pos 64))

-- the bits of zero
zero_bits : (n : ℕ) → bits_of n 0 ≡ replicate n 0
unfolding bits_of
zero_bits zero = refl
zero_bits (suc n) =
    let none : 0 / 2 ^ n % 2 ≡ 0 = bit_at-zero n in
    ap (λ bit. bit ∷ bits_of n 0) none ∙ ap (λ bits. 0 ∷ bits) (zero_bits n)

-- the bits of words that are zero
pub zero_words : (number : ℕ) → word_bits (replicate number 0) ≡ replicate (64 * number) 0
zero_words zero = refl
zero_words (suc number) =
    let more : 64 * suc number ≡ 64 + 64 * number = omega arith in
    rw (more, zero_bits 64, zero_words number) (replicate-append-replicate 64 (64 * number) 0)
