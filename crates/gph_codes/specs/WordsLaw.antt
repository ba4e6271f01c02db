-- Words are got back from their bits. No public clause cites this module.
use Rattle.std.proofs.Common.{◌≡◌, ℕ, zero, suc, ◌+◌, ◌*◌, ◌/◌, ◌%◌, ◌^◌, ◌<◌, List, [], ◌∷◌, ◌++◌, length, take, drop, refl, ap, ◌∙◌, arith}
use Rattle.std.specs.Int.Digits.{number_from_digits, number_from_digits_after}
use Rattle.std.proofs.Math.Nat.{pow-suc, add-mul, mul_assoc, mul_comm, mod-eq_of_lt}
use Rattle.std.proofs.Math.Seq.{take-append_seam, drop-append_seam}
use Rattle.std.proofs.lemmas.Nat.{mod-pow-add}
use Rattle.hamming_model.specs.Codes.{bits_of}
use Rattle.gph_codes.specs.Words.{word_bits, words_of, IsWords}

-- a number of n bits has n binary digits
pub length-bits_of : (n number : ℕ) → length (bits_of n number) ≡ n
unfolding bits_of
length-bits_of zero number = refl
length-bits_of (suc n) number = ap suc (length-bits_of n number)

-- the low bits of a number, the top one of them apart
pub low_bits : (n number : ℕ) → number % 2 ^ suc n ≡ number / 2 ^ n % 2 * 2 ^ n + number % 2 ^ n
low_bits n number =
    let one_more : 1 + n ≡ suc n = omega arith in
    rw one_more at (mod-pow-add number 1 n)

-- one binary digit after others
one_digit : (power start bit rest : ℕ)
    → (start * 2 + bit) * power + rest ≡ start * (power * 2) + (bit * power + rest)
one_digit power start bit rest =
    let left = add-mul (start * 2) bit power in
    let turned : start * 2 * power ≡ start * (power * 2) =
    mul_assoc start 2 power ∙ ap (λ x. start * x) (mul_comm 2 power) in
    omega (arith, left, turned)

-- the binary digits of a number, after others
pub number_after_bits : (n start number : ℕ)
    → number_from_digits_after 2 start (bits_of n number) ≡ start * 2 ^ n + number % 2 ^ n
unfolding bits_of
number_after_bits zero start number = omega arith
number_after_bits (suc n) start number =
    number_after_bits n (start * 2 + number / 2 ^ n % 2) number
    ∙ one_digit (2 ^ n) start (number / 2 ^ n % 2) (number % 2 ^ n)
    ∙ rw (← low_bits n number, ← pow-suc 2 n) refl

-- the binary digits of a number are those of the number
pub number_of_bits : (n number : ℕ) → number < 2 ^ n
    → number_from_digits 2 (bits_of n number) ≡ number
number_of_bits n number fits = number_after_bits n 0 number ∙ omega (arith, mod-eq_of_lt fits)

-- the first of two lists that are joined
take_first : (xs ys : List ℕ) (n : ℕ) → length xs ≡ n → take n (xs ++ ys) ≡ xs
take_first xs ys n sized = rw (← sized) (take-append_seam xs ys)

-- the second of two lists that are joined
drop_first : (xs ys : List ℕ) (n : ℕ) → length xs ≡ n → drop n (xs ++ ys) ≡ ys
drop_first xs ys n sized = rw (← sized) (drop-append_seam xs ys)

-- words are those that their bits make
pub words_again : (number : ℕ) (words : List ℕ) → IsWords number words
    → words_of number (word_bits words) ≡ words
unfolding words_of
words_again zero [] fits = refl
words_again zero (word ∷ words) fits = absurd (omega arith)
words_again (suc number) [] fits = absurd (omega arith)
words_again (suc number) (word ∷ words) fits =
    let sized = length-bits_of 64 word in
    let first = take_first (bits_of 64 word) (word_bits words) 64 sized in
    let others = drop_first (bits_of 64 word) (word_bits words) 64 sized in
    let rest = words_again number words (record { size = omega arith; fit = fits.fit.1 }) in
    rw (first, others, rest, number_of_bits 64 word fits.fit.0) refl
