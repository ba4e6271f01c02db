-- A text has at most one fault, and none where its parts are a layout.
use Rattle.std.proofs.Common.{◌≡◌, ℕ, ◌+◌, not, Bool, true, false, inl, inr, List, [], ◌∷◌, refl, Option, Some, None, Result, Ok, Err, drop, sym, ◌∙◌, ap, subst, arith}
use Rattle.std.specs.Option.{option_map}
use Rattle.std.proofs.lemmas.Bool.{cases_lt}
use Rattle.std.proofs.lemmas.List.{take-append-drop}
use Rattle.part_layout.specs.Faults.{fault_of, first_beyond, first_repeated, first_there, first_wide, least_missing, numbers_of, too_many, IsFault}
use Rattle.part_layout.specs.Grammar.{IsLayoutText, IsSyntaxFault}
use Rattle.part_layout.specs.declared.layout_fault.LayoutFault.{LayoutFault}
use Rattle.part_layout.specs.declared.layout_fault.LayoutFault.TheVariants.{Syntax, Range, Twice, Missing, Width, Parts, NoMemory}

-- a text of the grammar isn't broken, nor cut off
pub whole_text : (text : List ℕ) (at : ℕ) → IsLayoutText text → IsSyntaxFault text at → ⊥
whole_text text at is (inl broken) =
    broken.broken (drop (at + 1) text, subst IsLayoutText (sym (take-append-drop (at + 1) text)) is)
whole_text text at is (inr cut) = cut.none is

-- a text goes wrong at one place
pub one_place : (text : List ℕ) (at other : ℕ) → IsSyntaxFault text at → IsSyntaxFault text other → at ≡ other
one_place text at other (inl one) (inl two) =
    elim (cases_lt at other) [
      | inl before ↦ absurd (one.broken (two.first at before))
      | inr past ↦
          elim (cases_lt other at) [ inl before ↦ absurd (two.broken (one.first other before)) | inr under ↦ omega arith ]
    ]
one_place text at other (inl one) (inr two) =
    let inside = one.inside in let end = two.ended in absurd (one.broken (two.begun at (omega arith)))
one_place text at other (inr one) (inl two) =
    let inside = two.inside in let end = one.ended in absurd (two.broken (one.begun other (omega arith)))
one_place text at other (inr one) (inr two) = one.ended ∙ sym two.ended

-- a fault of the syntax
abbrev pub is_syntax : LayoutFault → Bool
is_syntax (Syntax at) = true
is_syntax (Range n) = false
is_syntax (Twice n) = false
is_syntax (Missing n) = false
is_syntax (Width part) = false
is_syntax (Parts n) = false
is_syntax NoMemory = false

-- the place that it tells
abbrev place_of : LayoutFault → ℕ
place_of (Syntax at) = at
place_of (Range n) = 0
place_of (Twice n) = 0
place_of (Missing n) = 0
place_of (Width part) = 0
place_of (Parts n) = 0
place_of NoMemory = 0

-- whether an answer tells a fault of the syntax, and its place
abbrev pub tells_syntax : {T : Type 0} → Result T LayoutFault → Bool
tells_syntax (Ok value) = false
tells_syntax (Err fault) = is_syntax fault

abbrev place_told : {T : Type 0} → Result T LayoutFault → ℕ
place_told (Ok value) = 0
place_told (Err fault) = place_of fault

-- no fault of the parts is one of the syntax
abbrev is_plain : Option LayoutFault → Bool
is_plain None = true
is_plain (Some fault) = not (is_syntax fault)

plain_first : (fault : Option LayoutFault) (others : List (Option LayoutFault)) → is_plain fault ≡ true → is_plain (first_there others) ≡ true
    → is_plain (first_there (fault ∷ others)) ≡ true
plain_first None others here rest = rest
plain_first (Some fault) others here rest = here

plain_map : (f : ℕ → LayoutFault) (o : Option ℕ) → ((n : ℕ) → is_syntax (f n) ≡ false) → is_plain (option_map f o) ≡ true
plain_map f None plain = refl
plain_map f (Some n) plain = ap not (plain n)

plain_fault : (bits : ℕ) (parts : List (List ℕ)) → is_plain (fault_of bits parts) ≡ true
plain_fault bits parts =
    let twice = option_map Twice (first_repeated [] (numbers_of parts)) in
    let missing = option_map Missing (least_missing bits (numbers_of parts)) in
    let width = option_map Width (first_wide parts) in
    let number = option_map Parts (too_many parts) in
    plain_first (option_map Range (first_beyond bits (numbers_of parts))) (twice ∷ missing ∷ width ∷ number ∷ [])
    (plain_map Range (first_beyond bits (numbers_of parts)) (λ n. refl))
    (plain_first twice (missing ∷ width ∷ number ∷ []) (plain_map Twice (first_repeated [] (numbers_of parts)) (λ n. refl))
    (plain_first missing (width ∷ number ∷ []) (plain_map Missing (least_missing bits (numbers_of parts)) (λ n. refl))
    (plain_first width (number ∷ []) (plain_map Width (first_wide parts) (λ n. refl))
    (plain_first number [] (plain_map Parts (too_many parts) (λ n. refl)) refl))))

not_true : (b : Bool) → not b ≡ true → b ≡ false
not_true true e = absurd (cc)
not_true false e = refl

pub no_syntax : (bits : ℕ) (parts : List (List ℕ)) (fault : LayoutFault) → fault_of bits parts ≡ Some fault → is_syntax fault ≡ false
no_syntax bits parts fault same = not_true (is_syntax fault) (sym (ap is_plain same) ∙ plain_fault bits parts)

-- an answer at the place where a text goes wrong
pub syntax_told : {T : Type 0} (text : List ℕ) (place at : ℕ) (answer : Result T LayoutFault) → answer ≡ Err (Syntax place) → IsSyntaxFault text place
    → (answer ≡ Err (Syntax at) → IsSyntaxFault text at) × (IsSyntaxFault text at → answer ≡ Err (Syntax at))
syntax_told {T} text place at answer is wrong = (
  (λ told. subst (λ n. IsSyntaxFault text n) (sym (ap place_told is) ∙ ap place_told told) wrong),
  (λ other. is ∙ ap (λ n. Err (Syntax n)) (one_place text place at wrong other)),
)

-- another answer, where the text is one of the grammar
pub syntax_apart : {T : Type 0} (text : List ℕ) (at : ℕ) (answer : Result T LayoutFault) → tells_syntax answer ≡ false → IsLayoutText text
    → (answer ≡ Err (Syntax at) → IsSyntaxFault text at) × (IsSyntaxFault text at → answer ≡ Err (Syntax at))
syntax_apart {T} text at answer other is = (
  (λ told. absurd (let both : false ≡ true = sym other ∙ ap tells_syntax told in cc)),
  (λ wrong. absurd (whole_text text at is wrong)),
)

-- a text that goes wrong spells no parts
pub spelled_apart : {T : Type 0} (bits : ℕ) (text : List ℕ) (place : ℕ) (answer : Result T LayoutFault) (fault : LayoutFault)
    → tells_syntax answer ≡ true → is_syntax fault ≡ false → IsSyntaxFault text place
    → (answer ≡ Err fault → IsFault bits text fault) × (IsFault bits text fault → answer ≡ Err fault)
spelled_apart {T} bits text place answer fault tells other wrong = (
  (λ told. absurd (let both : true ≡ false = sym tells ∙ ap tells_syntax told ∙ other in cc)),
  (λ spelled. absurd (whole_text text place spelled.text_of_grammar wrong)),
)
