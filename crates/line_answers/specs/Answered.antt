-- The lines of an input, each answered by a text. What an answer is, a relation says: from these
-- ledgers to those, these lines were answered by these texts.
use Rattle.std.specs.Prelude.{◌≡◌, ℕ, ◌<◌, List, [], ◌∷◌, ◌++◌, length, take}
use Rattle.std.specs.List.{flat_map}
use Rattle.session_model.specs.Ledger.{Ledgers}

-- from these ledgers to those, these lines were answered by these texts, in their order
abbrev pub Answering : Type 1
Answering = Ledgers → Ledgers → List (List ℕ) → List (List ℕ) → Type 0

-- whatever was answered before, one line more was answered by a text
abbrev pub AnswersNext : Answering → Answering → Ledgers → Ledgers → List ℕ → List ℕ → Type 0
AnswersNext Old New old new line text =
    (start : Ledgers) (lines texts : List (List ℕ)) → Old start old lines texts
    → New start new (lines ++ line ∷ []) (texts ++ text ∷ [])

-- the texts one after the other
abbrev pub joined_texts : List (List ℕ) → List ℕ
joined_texts texts = flat_map (λ text. text) texts

-- the lines were answered, and the output is the texts of their answers
pub record AnswersInOrder (Answered : List (List ℕ) → List (List ℕ) → Type 0)
    (lines : List (List ℕ)) (output : List ℕ) : Type 0 where
  pub texts : List (List ℕ)
  pub answered : Answered lines texts
  pub output_is : output ≡ joined_texts texts

-- the output breaks off within the answer to one of the lines; those before it were answered whole
pub record BreaksOff (Answered : List (List ℕ) → List (List ℕ) → Type 0)
    (lines : List (List ℕ)) (output : List ℕ) : Type 0 where
  pub before : List (List ℕ)
  pub line : List ℕ
  pub rest : List (List ℕ)
  pub texts : List (List ℕ)
  pub text : List ℕ
  pub answered : Answered (before ++ line ∷ []) (texts ++ text ∷ [])
  pub lines_are : lines ≡ before ++ line ∷ rest
  pub taken : ℕ
  pub not_all : taken < length text
  pub output_is : output ≡ joined_texts texts ++ take taken text
