-- A word as a code: the two ways to say that it has the form.
use Rattle.std.proofs.Common.{◌≡◌, ℕ, ◌*◌, ◌/◌, ◌==◌, ◌&&◌, nat_lt, Bool, true, false, ◌-◌, List, length, take, replicate, All, Some, None, refl, sym, ap, subst, ◌∙◌}
use Rattle.std.proofs.lemmas.Bool.Decides.{Decides-and, Decides-eqb, Decides-ltb, Decides-like, Decides-by_and}
use Rattle.std.proofs.lemmas.List.{take_at}
use Rattle.std.specs.Bool.{Decides}
use Rattle.std.specs.Char.{digit_value}
use Rattle.std.specs.List.{list_all}
use Rattle.gph_codes.specs.Digits.{IsSpelled, IsHexDigit}
use Rattle.hamming_model.specs.Codes.{hex_code, StandsFor}
use Rattle.line_forms.specs.Forms.{code_form}

-- the test of the form
abbrev spells : ℕ → List ℕ → Bool
spells bits word = (length word == bits / 4) && list_all (λ byte. nat_lt (digit_value byte) 16) word

-- it is true exactly of the words that spell a code
spells_tells : (bits : ℕ) (word : List ℕ) → Decides (spells bits word) (IsSpelled bits word)
spells_tells bits word =
    let size = Decides-eqb (length word) (bits / 4) in
    let digits =
    Decides-by_and (λ byte. nat_lt (digit_value byte) 16) IsHexDigit (list_all (λ byte. nat_lt (digit_value byte) 16))
    (λ byte. Decides-ltb (digit_value byte) 16) refl (λ _ _. refl) word in
    Decides-like (spells bits word) (λ (both : (length word ≡ bits / 4) × All IsHexDigit word). record { size = both.0; digits = both.1 })
    (λ (spelled : IsSpelled bits word). (spelled.size, spelled.digits)) (Decides-and _ _ size digits)

-- a test that isn't true is false
is_false : (test : Bool) → (test ≡ true → ⊥) → test ≡ false
is_false true never = absurd (never refl)
is_false false never = refl

-- the first bits of what keeps a code are the code
first_bits : (words bits : ℕ) (kept code : List ℕ) → StandsFor words bits kept code → take bits kept ≡ code
first_bits words bits kept code stands =
    ap (take bits) stands.is_padded ∙ take_at code (replicate (64 * words - length code) 0) bits stands.is_code.size

-- so what keeps a code stands for its own first bits
pub stands_for_own : (words bits : ℕ) (kept code : List ℕ) → StandsFor words bits kept code → StandsFor words bits kept (take bits kept)
stands_for_own words bits kept code stands = subst (StandsFor words bits kept) (sym (first_bits words bits kept code stands)) stands

-- a word that spells a code, with the code as words keep it
pub kept_code : (words bits : ℕ) (word kept : List ℕ) → IsSpelled bits word → StandsFor words bits kept (hex_code word)
    → Some (take bits kept) ≡ code_form bits word
kept_code words bits word kept spelled stands =
    let passed : spells bits word ≡ true = (spells_tells bits word).1 spelled in
    rw passed (ap (λ code. Some code) (first_bits words bits kept (hex_code word) stands))

-- a word that spells none
pub no_code : (bits : ℕ) (word : List ℕ) → (IsSpelled bits word → ⊥) → None ≡ code_form bits word
no_code bits word never =
    let failed : spells bits word ≡ false = is_false (spells bits word) (λ passed. never ((spells_tells bits word).0 passed)) in
    rw failed
