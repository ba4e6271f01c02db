-- The words of a new code, one after another.
use Rattle.std.proofs.Common.{◌≡◌, ℕ, zero, suc, ◌+◌, ◌-◌, ◌<◌, nat_lt, true, false, List, [], ◌∷◌, ◌++◌, length, take, slice_set, refl, ap, sym, ◌∙◌, arith, append_assoc}
use Rattle.std.proofs.lemmas.Bool.{lt-ltb, le-ltb, ltb-true, ltb-false}
use Rattle.std.proofs.lemmas.List.{take_more_set}
use Rattle.load_lines.specs.Codes.{code_of_key, state_after_key, codes_from, state_after_keys}
use Rattle.load_lines.specs.Draws.{word_if, state_if, state_after, new_words}

-- the first of some words, and the others
first_word : (words draws state : ℕ) → new_words (suc words) draws state
    ≡ word_if (nat_lt 0 draws) state ∷ new_words words (draws - 1) (state_if (nat_lt 0 draws) state)
first_word words zero state = refl
first_word words (suc draws) state =
    let less : nat_lt 0 (suc draws) ≡ true = lt-ltb 0 (suc draws) (omega arith) in
    let one : suc draws - 1 ≡ draws = omega arith in
    rw (less, one) refl

first_state : (draws state : ℕ) → state_after draws state ≡ state_after (draws - 1) (state_if (nat_lt 0 draws) state)
first_state zero state = refl
first_state (suc draws) state =
    let less : nat_lt 0 (suc draws) ≡ true = lt-ltb 0 (suc draws) (omega arith) in
    let one : suc draws - 1 ≡ draws = omega arith in
    rw (less, one) refl

-- whether a word is drawn, by how many are left
more_left : (place draws : ℕ) → nat_lt place draws ≡ nat_lt 0 (draws - place)
more_left place draws =
    elim (nat_lt 0 (draws - place)) as (λ b. nat_lt 0 (draws - place) ≡ b → nat_lt place draws ≡ b) [
      | true ↦ λ is. lt-ltb place draws (omega (arith, ltb-true 0 (draws - place) is))
      | false ↦ λ is. le-ltb place draws (omega (arith, ltb-false 0 (draws - place) is))
    ] refl

-- one word more
pub word_drawn : (words whole : List ℕ) (place draws state : ℕ) → place < 4 → length words ≡ 4
    → take place words ++ new_words (4 - place) (draws - place) state ≡ whole
    → take (place + 1) (slice_set words place (word_if (nat_lt place draws) state))
    ++ new_words (4 - (place + 1)) (draws - (place + 1)) (state_if (nat_lt place draws) state) ≡ whole
word_drawn words whole place draws state within size is =
    let left : 4 - place ≡ suc (4 - (place + 1)) = omega (arith, within) in
    let fewer : draws - (place + 1) ≡ draws - place - 1 = omega arith in
    let front = take_more_set words place (word_if (nat_lt 0 (draws - place)) state) (omega (arith, size, within)) in
    rw (more_left place draws, front, fewer)
    (append_assoc (take place words) (word_if (nat_lt 0 (draws - place)) state ∷ []) _
    ∙ ap (λ rest. take place words ++ rest) (sym (first_word (4 - (place + 1)) (draws - place) state))
    ∙ ap (λ n. take place words ++ new_words n (draws - place) state) (sym left) ∙ is)

pub state_drawn : (place draws state last : ℕ) → state_after (draws - place) state ≡ last
    → state_after (draws - (place + 1)) (state_if (nat_lt place draws) state) ≡ last
state_drawn place draws state last is =
    let fewer : draws - (place + 1) ≡ draws - place - 1 = omega arith in
    rw (more_left place draws, fewer) (sym (first_state (draws - place) state) ∙ is)

-- one code more
pub code_drawn : (bits keys key : ℕ) (before : List ℕ) (state : ℕ) (front whole : List (List ℕ)) → key < keys
    → front ++ codes_from bits (keys - key) key before state ≡ whole
    → (front ++ code_of_key bits key before state ∷ [])
    ++ codes_from bits (keys - (key + 1)) (key + 1) (code_of_key bits key before state) (state_after_key bits key state) ≡ whole
code_drawn bits keys key before state front whole within is =
    let left : keys - key ≡ suc (keys - (key + 1)) = omega (arith, within) in
    append_assoc front (code_of_key bits key before state ∷ []) _
    ∙ ap (λ n. front ++ codes_from bits n key before state) (sym left) ∙ is

pub key_drawn : (bits keys key state last : ℕ) → key < keys → state_after_keys bits (keys - key) key state ≡ last
    → state_after_keys bits (keys - (key + 1)) (key + 1) (state_after_key bits key state) ≡ last
key_drawn bits keys key state last within is =
    let left : keys - key ≡ suc (keys - (key + 1)) = omega (arith, within) in
    ap (λ n. state_after_keys bits n key state) (sym left) ∙ is
