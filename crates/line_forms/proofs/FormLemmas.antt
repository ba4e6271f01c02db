-- Decimal digits: what their test tells, and how large the number is that they write.
use Rattle.std.proofs.Common.{◌≡◌, ℕ, ◌^◌, ◌<◌, ◌≤◌, ◌&&◌, nat_lt, Bool, true, List, [], ◌∷◌, ◌++◌, ◌+◌, ◌*◌, ◌-◌, length, take, ap, subst, arith, lit<, lit≤}
use Rattle.std.proofs.Math.Nat.{pow-le-pow_right}
use Rattle.std.proofs.lemmas.Bool.Decides.{nat_tests}
use Rattle.std.proofs.lemmas.Int.Digits.{digits_value-lt, digits_value_push}
use Rattle.std.proofs.lemmas.Str.{digit_value_digit}
use Rattle.std.proofs.lemmas.Str.Parse.{digit_at, digits_value-take-le}
use Rattle.std.specs.Char.{digit_value}
use Rattle.std.specs.List.{list_all}
use Rattle.std.specs.Str.Parse.{digits_value, AllDigits}

-- a first digit and the digits after it
both_pass : (digit : ℕ) (rest : Bool) → (nat_lt digit 10 && rest) ≡ true → (digit < 10) × (rest ≡ true)
both_pass digit rest passed = grind (arith, nat_tests)

-- bytes that all pass the test are digits
pub digits_pass : (word : List ℕ) → list_all (λ byte. nat_lt (digit_value byte) 10) word ≡ true → AllDigits 10 word
digits_pass [] passed = tt
digits_pass (byte ∷ bytes) passed =
    let both = both_pass (digit_value byte) (list_all (λ byte. nat_lt (digit_value byte) 10) bytes) passed in
    (both.0, digits_pass bytes both.1)

-- the number that the first of at most so many digits write
pub value_small : (word : List ℕ) (at most : ℕ) → length word ≤ most → AllDigits 10 word → digits_value 10 (take at word) < 10 ^ most
value_small word at most short digits =
    let whole : digits_value 10 word < 10 ^ length word = digits_value-lt 10 word digits in
    let greatest : 10 ^ length word ≤ 10 ^ most = pow-le-pow_right (lit< tt) short in
    let part : digits_value 10 (take at word) ≤ digits_value 10 word = digits_value-take-le 10 word at (lit≤ tt) in
    omega arith

-- the number that digits write has no more digits than they are
pub whole_small : (word : List ℕ) (most : ℕ) → length word ≤ most → AllDigits 10 word → digits_value 10 word < 10 ^ most
whole_small word most short digits =
    let whole : digits_value 10 word < 10 ^ length word = digits_value-lt 10 word digits in
    let greatest : 10 ^ length word ≤ 10 ^ most = pow-le-pow_right (lit< tt) short in
    omega arith

-- all but the last of digits
but_last : (front : List ℕ) (last : ℕ) → AllDigits 10 (front ++ last ∷ []) → AllDigits 10 front × (digit_value last < 10)
but_last [] last digits = (tt, digits.0)
but_last (digit ∷ front) last digits = let rest = but_last front last digits.1 in ((digits.0, rest.0), rest.1)

-- the number that digits write, by the last of them
pub by_last : (word front : List ℕ) (last : ℕ) → word ≡ front ++ last ∷ [] → AllDigits 10 word
    → AllDigits 10 front × (48 ≤ last) × (digits_value 10 word ≡ digits_value 10 front * 10 + (last - 48))
by_last word front last is digits =
    let both = but_last front last (subst (λ w. AllDigits 10 w) is digits) in
    let one : 0 < length (last ∷ []) = lit< tt in
    let range = digit_at (last ∷ []) 0 (both.1, tt) one in
    let digit = digit_value_digit last range in
    let whole : digits_value 10 word ≡ digits_value 10 (front ++ last ∷ []) = ap (λ w. digits_value 10 w) is in
    let push = digits_value_push 10 front last in
    (both.0, omega arith, omega arith)
