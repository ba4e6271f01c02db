-- Where a text goes wrong, as reading it byte by byte finds it.
use Rattle.std.proofs.Common.{◌≡◌, ℕ, ◌+◌, ◌<◌, nat_lt, true, false, inl, inr, List, [], ◌∷◌, ◌++◌, Some, None, length, take, get_or, refl, sym, ◌∙◌, ap, subst, arith, append_assoc}
use Rattle.std.proofs.lemmas.Bool.{cases_eq}
use Rattle.std.proofs.lemmas.Bool.Decides.{nat_tests}
use Rattle.std.proofs.lemmas.List.{append-nil, take_more}
use Rattle.part_layout.specs.Grammar.{IsBrokenAt, IsCutOffAt, IsLayoutText, IsPrefixBefore, IsPrefixOfText}
use Rattle.part_layout.specs.ReadOn.{digits_after, ends_text}
use Rattle.part_layout.proofs.GrammarLemmas.{follows, text_read}

-- the last position of bytes has so many digits, and each before it is whole
abbrev pub IsBegun : List ℕ → ℕ → Type 0
IsBegun bytes digits = (rest : List ℕ) → ends_text 0 (bytes ++ rest) ≡ ends_text digits rest

-- such bytes begin a text
pub begins : (bytes : List ℕ) (digits : ℕ) → IsBegun bytes digits → IsPrefixOfText bytes
begins bytes digits begun =
    elim (cases_eq digits 0) [
      | inl none ↦
          let same : ends_text digits (48 ∷ []) ≡ true = rw none refl in
          (48 ∷ [], sym (text_read (bytes ++ 48 ∷ [])) ∙ begun (48 ∷ []) ∙ same)
      | inr other ↦
          let test : nat_lt 0 digits ≡ true = grind (arith, nat_tests) in
          ([], sym (text_read (bytes ++ [])) ∙ begun [] ∙ test)
    ]

-- one byte more, as the bytes stand before others
one_more : (text rest : List ℕ) (at : ℕ) → at < length text → take (at + 1) text ++ rest ≡ take at text ++ get_or text at 0 ∷ rest
one_more text rest at inside =
    ap (λ bytes. bytes ++ rest) (take_more text at 0 inside) ∙ append_assoc (take at text) (get_or text at 0 ∷ []) rest

-- a byte that goes on
pub goes_on : (text : List ℕ) (at digits more : ℕ) → at < length text → IsBegun (take at text) digits
    → digits_after digits (get_or text at 0) ≡ Some more → IsBegun (take (at + 1) text) more
goes_on text at digits more inside begun next = λ rest.
    ap (ends_text 0) (one_more text rest at inside) ∙ begun (get_or text at 0 ∷ rest) ∙ follows digits (get_or text at 0) rest (Some more) next

-- the prefixes up to a byte that goes on
pub prefix_more : (text : List ℕ) (at more : ℕ) → IsBegun (take (at + 1) text) more → IsPrefixBefore text at → IsPrefixBefore text (at + 1)
prefix_more text at more begun before = λ k below.
    elim (cases_eq k at) [
      | inl same ↦ subst (λ n. IsPrefixOfText (take (n + 1) text)) (sym same) (begins (take (at + 1) text) more begun)
      | inr other ↦ before k (omega arith)
    ]

-- a byte that doesn't
pub breaks : (text : List ℕ) (at digits : ℕ) → at < length text → IsBegun (take at text) digits
    → digits_after digits (get_or text at 0) ≡ None → IsPrefixBefore text at → IsBrokenAt text at
breaks text at digits inside begun next before =
    record {
      inside = inside;
      broken = λ prefix.
          let found = prefix.1 in
          let read : ends_text 0 (take (at + 1) text ++ prefix.0) ≡ false =
          ap (ends_text 0) (one_more text prefix.0 at inside) ∙ begun (get_or text at 0 ∷ prefix.0) ∙ follows digits (get_or text at 0) prefix.0 None next in
          let both : true ≡ false = sym found ∙ sym (text_read (take (at + 1) text ++ prefix.0)) ∙ read in
          absurd (cc);
      first = before;
    }

-- a text that is read to its end
pub read_whole : (text : List ℕ) (digits : ℕ) → IsBegun text digits → 0 < digits → IsLayoutText text
read_whole text digits begun some =
    let test : nat_lt 0 digits ≡ true = grind (arith, nat_tests) in
    let whole : ends_text 0 text ≡ ends_text digits [] = ap (ends_text 0) (sym (append-nil text)) ∙ begun [] in
    sym (text_read text) ∙ whole ∙ test

pub cut_off : (text : List ℕ) (digits : ℕ) → IsBegun text digits → digits ≡ 0 → IsPrefixBefore text (length text) → IsCutOffAt text (length text)
cut_off text digits begun none before =
    record {
      ended = refl;
      none = λ is_text.
          let test : nat_lt 0 digits ≡ false = rw none refl in
          let whole : ends_text 0 text ≡ ends_text digits [] = ap (ends_text 0) (sym (append-nil text)) ∙ begun [] in
          let both : true ≡ false = sym is_text ∙ sym (text_read text) ∙ whole ∙ test in
          absurd (cc);
      begun = before;
    }
