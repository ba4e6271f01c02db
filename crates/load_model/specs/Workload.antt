-- What a workload adds and asks: its rows, and its 32 questions on them.
use Rattle.std.specs.Prelude.{ℕ, zero, suc, ◌+◌, ◌%◌, ◌==◌, if◌then◌else◌, List, [], ◌∷◌, length}
use Rattle.std.specs.Prelude.{sum_by}
use Rattle.hamming_model.specs.Codes.{hex_code}
use Rattle.hamming_model.specs.Scan.{Ask, Range, Near, answer}
use Rattle.load_lines.specs.Codes.{codes_drawn, code_of_query, state_after_query, state_after_keys}
use Rattle.load_lines.specs.Lines.{code_text}

-- the code of so many bits that words are
abbrev pub code_in_words : ℕ → List ℕ → List ℕ
code_in_words bits words = hex_code (code_text bits words)

-- the rows of codes whose keys are numbered from one on
abbrev pub rows_numbered : ℕ → ℕ → List (List ℕ) → List (ℕ × List ℕ)
rows_numbered bits key [] = []
rows_numbered bits key (words ∷ others) =
    (key, code_in_words bits words) ∷ rows_numbered bits (key + 1) others

-- the rows of a workload: its codes by their keys
abbrev pub rows_drawn : ℕ → ℕ → ℕ → List (ℕ × List ℕ)
rows_drawn bits number keys = rows_numbered bits 0 (codes_drawn bits number keys)

-- what a query asks: one of an even number a range, one of an odd number the nearest codes
abbrev pub question_numbered : ℕ → ℕ → List ℕ → Ask
question_numbered bits query words =
    if query % 2 == 0 then Range (query % 9) (code_in_words bits words)
    else Near query (code_in_words bits words)

-- what so many queries from one on ask
abbrev pub questions_numbered : ℕ → List (List ℕ) → ℕ → ℕ → ℕ → List Ask
questions_numbered bits keyed zero query state = []
questions_numbered bits keyed (suc queries) query state =
    question_numbered bits query (code_of_query bits keyed query state)
    ∷ questions_numbered bits keyed queries (query + 1) (state_after_query bits keyed state)

-- the questions of a workload
abbrev pub questions_drawn : ℕ → ℕ → ℕ → List Ask
questions_drawn bits number keys =
    questions_numbered bits (codes_drawn bits number keys) 32 0
    (state_after_keys bits keys 0 number)

-- the number of hits of all questions of a workload
abbrev pub hits_drawn : ℕ → ℕ → ℕ → ℕ
hits_drawn bits number keys =
    sum_by (λ asked. length (answer bits (rows_drawn bits number keys) asked))
    (questions_drawn bits number keys)
