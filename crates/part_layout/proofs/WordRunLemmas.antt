-- The value of a code at positions that run on in one word, and which parts do.
use Rattle.std.proofs.Common.{◌≡◌, ℕ, zero, suc, ◌+◌, ◌-◌, ◌*◌, ◌/◌, ◌%◌, ◌^◌, ◌<◌, ◌≤◌, ◌++◌, ◌∷◌, inl, inr, List, [], All, Option, Some, None, IfSome, map, length, length-append, get_or, slice_index, refl, sym, ◌∙◌, ap, arith}
use Rattle.std.specs.List.{range_with_len}
use Rattle.std.specs.Int.Digits.{number_from_digits}
use Rattle.std.specs.Global.{Vec}
use Rattle.std.proofs.Math.Nat.{mod-lt}
use Rattle.std.proofs.Math.Pow.{pow_mono}
use Rattle.std.proofs.lemmas.Bool.{cases_lt}
use Rattle.std.proofs.lemmas.Int.Digits.{number_push}
use Rattle.std.proofs.lemmas.List.{get_or_append_left, get_or-append-add, get_or_default}
use Rattle.std.proofs.lemmas.List.FromFn.{get_or-range_with_len, map-range_with_len_more}
use Rattle.std.proofs.lemmas.Nat.{div-mul-add, mod-pow-add, pow_pos, shl-shr, shr-shr}
use Rattle.hamming_model.specs.Codes.{StandsFor}
use Rattle.hamming_model.specs.Layouts.{part_value}
use Rattle.gph_codes.specs.Words.{word_bits}
use Rattle.gph_codes.proofs.BitsLemmas.{get_or-word_bits}
use Rattle.part_layout.specs.Kept.{IsLaidInRuns, RunsOn, laid_of}
use Rattle.part_layout.specs.Laid.{Laid, part_at}
use Rattle.part_layout.proofs.LayoutLemmas.{part_below}

-- the low digits of a number, the last of them apart
low_more : (number k : ℕ) → number % 2 ^ (k + 1) ≡ number / 2 % 2 ^ k * 2 + number % 2
low_more number k = mod-pow-add number k 1

-- what is alike at each of some positions in order
map_range : (f g : ℕ → ℕ) (first k : ℕ) → ((p : ℕ) → first ≤ p → p < first + k → f p ≡ g p)
    → map f (range_with_len first k) ≡ map g (range_with_len first k)
map_range f g first zero same = refl
map_range f g first (suc k) same =
    let here = same first (omega arith) (omega arith) in
    let rest = map_range f g (first + 1) k (λ p low high. same p (omega arith) (omega arith)) in
    rw (here, rest) refl

-- the digits of words at positions that run on in one word
digits_in_word : (words : List ℕ) (first k s : ℕ) → first % 64 + k + s ≡ 64 → first + k ≤ 64 * length words
    → number_from_digits 2 (map (λ p. get_or (word_bits words) p 0) (range_with_len first k)) ≡ get_or words (first / 64) 0 / 2 ^ s % 2 ^ k
digits_in_word words first zero s place inside =
    let none : get_or words (first / 64) 0 / 2 ^ s % 2 ^ 0 ≡ 0 = omega arith in
    sym none
digits_in_word words first (suc k) s place inside =
    let one_more : suc k ≡ k + 1 = omega arith in
    let at : (first + k) / 64 ≡ first / 64 = omega arith in
    let low : 63 - (first + k) % 64 ≡ s = omega arith in
    let before = digits_in_word words first k (s + 1) (omega arith) (omega arith) in
    let bit : get_or (word_bits words) (first + k) 0 ≡ get_or words (first / 64) 0 / 2 ^ s % 2 =
    rw (at, low) at (get_or-word_bits words (first + k) (omega arith)) in
    let more = map-range_with_len_more (λ (p : ℕ). get_or (word_bits words) p 0) first k (first + k) refl in
    let pushed = number_push 2 (map (λ (p : ℕ). get_or (word_bits words) p 0) (range_with_len first k)) (get_or (word_bits words) (first + k) 0) in
    let half : get_or words (first / 64) 0 / 2 ^ s / 2 ≡ get_or words (first / 64) 0 / 2 ^ (s + 1) = shr-shr (get_or words (first / 64) 0) s 1 in
    let digits = low_more (get_or words (first / 64) 0 / 2 ^ s) k in
    let step : number_from_digits 2 (map (λ (p : ℕ). get_or (word_bits words) p 0) (range_with_len first k)) * 2 + get_or (word_bits words) (first + k) 0
    ≡ get_or words (first / 64) 0 / 2 ^ s % 2 ^ (k + 1) = rw (before, bit, digits, half) refl in
    ap (λ (n : ℕ). number_from_digits 2 (map (λ p. get_or (word_bits words) p 0) (range_with_len first n))) one_more
    ∙ ap (λ (digits : List ℕ). number_from_digits 2 digits) more
    ∙ pushed
    ∙ step
    ∙ ap (λ (n : ℕ). get_or words (first / 64) 0 / 2 ^ s % 2 ^ n) (sym one_more)

-- what two shifts leave of a word: the digits above the last ones, without those at its top
word_shifted : (word a k s : ℕ) → a + k + s ≡ 64 → word * 2 ^ a % 2 ^ 64 / 2 ^ (64 - k) ≡ word / 2 ^ s % 2 ^ k
word_shifted word a k s place =
    let whole : 64 ≡ k + s + a = omega arith in
    let kept : 64 - k ≡ a + s = omega arith in
    let cut = ap (λ (n : ℕ). word * 2 ^ a % 2 ^ n) whole ∙ mod-pow-add (word * 2 ^ a) (k + s) a
    ∙ ap (λ (n : ℕ). n % 2 ^ (k + s) * 2 ^ a + word * 2 ^ a % 2 ^ a) (shl-shr word a) in
    let first = div-mul-add (word % 2 ^ (k + s)) (2 ^ a) (word * 2 ^ a % 2 ^ a) (mod-lt (word * 2 ^ a) (pow_pos a)) in
    let last = div-mul-add (word / 2 ^ s % 2 ^ k) (2 ^ s) (word % 2 ^ s) (mod-lt word (pow_pos s)) in
    ap (λ (n : ℕ). word * 2 ^ a % 2 ^ 64 / 2 ^ n) kept
    ∙ sym (shr-shr (word * 2 ^ a % 2 ^ 64) a s)
    ∙ ap (λ (n : ℕ). n / 2 ^ a / 2 ^ s) cut
    ∙ ap (λ (n : ℕ). n / 2 ^ s) (first ∙ mod-pow-add word k s)
    ∙ last

-- the value at positions that run on in one word
pub value_of_run : (size bits : ℕ) (words stored code : List ℕ) (first k : ℕ) → length words ≡ size → word_bits words ≡ stored
    → StandsFor size bits stored code → first + k ≤ bits → first + k ≤ 64 * size → first % 64 + k ≤ 64
    → get_or words (first / 64) 0 * 2 ^ (first % 64) % 2 ^ 64 / 2 ^ (64 - k) ≡ part_value code (range_with_len first k)
value_of_run size bits words stored code first k sized seen stands inside room in_word =
    let shifted = word_shifted (get_or words (first / 64) 0) (first % 64) k (64 - first % 64 - k) (omega arith) in
    let digits = digits_in_word words first k (64 - first % 64 - k) (omega arith) (omega arith) in
    let size_is = stands.is_code.size in
    let same = map_range (λ (p : ℕ). get_or (word_bits words) p 0) (λ (p : ℕ). slice_index code p) first k
    (λ p low high. ap (λ (bits : List ℕ). get_or bits p 0) (seen ∙ stands.is_padded) ∙ get_or_append_left code _ 0 p (omega arith)) in
    shifted ∙ sym digits ∙ ap (λ (digits : List ℕ). number_from_digits 2 digits) same

-- its bound
pub run_bound : (word a k : ℕ) → a + k ≤ 64 → word * 2 ^ a % 2 ^ 64 / 2 ^ (64 - k) < 2 ^ k
run_bound word a k in_word =
    let shifted = word_shifted word a k (64 - a - k) (omega arith) in
    let below = mod-lt (word / 2 ^ (64 - a - k)) (pow_pos k) in
    rw shifted below

-- it fits 16 bits
pub run_fits : (word a k : ℕ) → a + k ≤ 64 → k ≤ 12 → word * 2 ^ a % 2 ^ 64 / 2 ^ (64 - k) < 2 ^ 16
run_fits word a k in_word narrow =
    let below = run_bound word a k in_word in
    let few = pow_mono {i = k} {j = 16} (omega arith) in
    omega (arith, below, few)

-- positions of a code that run on end within it
pub run_in_code : (bits : ℕ) (part : List ℕ) (first : ℕ) → RunsOn part first → All (λ p. p < bits) part → 0 < length part
    → first + length part ≤ bits
run_in_code bits part first runs below some =
    let last = below (length part - 1) 0 (omega arith) in
    let place = ap (λ (xs : List ℕ). get_or xs (length part - 1) 0) runs.in_order
    ∙ get_or-range_with_len first (length part) (length part - 1) 0 (omega arith) in
    omega (arith, place, last)

-- the runs of the first so many parts
pub record RunsSoFar (parts : List (List ℕ)) (runs : List (Option ℕ)) (done : ℕ) : Type 0 where
  pub number : length runs ≡ done
  pub each : (part first : ℕ) → part < done → get_or runs part None ≡ Some first → RunsOn (get_or parts part []) first

-- none
pub no_runs : (parts : List (List ℕ)) → RunsSoFar parts [] 0
no_runs parts = record { number = refl; each = λ part first below is. absurd (omega arith) }

-- one part more
pub one_run_more : (parts : List (List ℕ)) (runs : List (Option ℕ)) (done : ℕ) (run : Option ℕ) → RunsSoFar parts runs done
    → IfSome run (λ first. RunsOn (get_or parts done []) first) → RunsSoFar parts (runs ++ run ∷ []) (done + 1)
one_run_more parts runs done run before told =
    let sized = before.number in
    let joined = length-append runs (run ∷ []) in
    record {
      number = omega arith;
      each = λ part first below is.
          elim (cases_lt part done) [
            | inl earlier ↦ before.each part first earlier (sym (get_or_append_left runs (run ∷ []) None part (omega arith)) ∙ is)
            | inr not_earlier ↦
                let last : part ≡ done = omega arith in
                let at : part ≡ length runs + 0 = omega arith in
                let here : run ≡ Some first =
                sym (ap (λ (n : ℕ). get_or (runs ++ run ∷ []) n None) at ∙ get_or-append-add runs (run ∷ []) 0 None) ∙ is in
                let runs_on : RunsOn (get_or parts done []) first = rw here at told in
                rw last runs_on
          ];
    }

-- what is kept of a part that runs on in one word
pub run_of_part : (bits : ℕ) (parts : List (Vec ℕ)) (runs : List (Option ℕ)) (laid : Laid) (part first : ℕ) (own : Option ℕ)
    → laid_of bits parts ≡ laid → IsLaidInRuns (laid_of bits parts) runs → part < length laid.parts → own ≡ get_or runs part own → own ≡ Some first
    → RunsOn (part_at laid part) first × (first + length (part_at laid part) ≤ laid.bits)
run_of_part bits parts runs laid part first own seen kept below is told =
    let shown : IsLaidInRuns laid runs = rw seen at kept in
    let sized = shown.runs_are.number in
    let here : get_or runs part None ≡ Some first = get_or_default runs part None own (omega arith) ∙ sym is ∙ told in
    let run = shown.runs_are.each part first below here in
    let wide = shown.is_laid.layout.widths part [] below in
    (run, run_in_code laid.bits (part_at laid part) first run (part_below laid.bits laid.parts part below shown.is_laid.layout) wide.0)
