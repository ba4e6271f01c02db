-- The codes of a workload: that of each key, and that of each query.
use Rattle.std.specs.Prelude.{ℕ, zero, suc, ◌+◌, ◌*◌, ◌/◌, ◌%◌, ◌==◌, if◌then◌else◌}
use Rattle.std.specs.Prelude.{List, [], ◌∷◌, length, slice_index_or}
use Rattle.load_lines.specs.Draws.{next_state, drawn, new_words, words_of_bits, state_after_code, flipped}

-- a new code of so many bits, in four words
abbrev pub fresh : ℕ → ℕ → List ℕ
fresh bits state = new_words 4 (words_of_bits bits) state

-- the code of a key: new for each sixteenth key, and else the one before with one position turned
abbrev pub code_of_key : ℕ → ℕ → List ℕ → ℕ → List ℕ
code_of_key bits key before state =
    if key % 16 == 0 then fresh bits state
    else flipped (drawn (next_state state) % bits) before

-- the state after the code of a key
abbrev pub state_after_key : ℕ → ℕ → ℕ → ℕ
state_after_key bits key state =
    if key % 16 == 0 then state_after_code bits state else next_state state

-- the codes of so many keys from a key on, after the code of the key before
abbrev pub codes_from : ℕ → ℕ → ℕ → List ℕ → ℕ → List (List ℕ)
codes_from bits zero key before state = []
codes_from bits (suc keys) key before state =
    code_of_key bits key before state
    ∷ codes_from bits keys (key + 1) (code_of_key bits key before state)
    (state_after_key bits key state)

-- the state after them
abbrev pub state_after_keys : ℕ → ℕ → ℕ → ℕ → ℕ
state_after_keys bits zero key state = state
state_after_keys bits (suc keys) key state =
    state_after_keys bits keys (key + 1) (state_after_key bits key state)

-- the codes of the first keys of a workload that is drawn from a number
abbrev pub codes_drawn : ℕ → ℕ → ℕ → List (List ℕ)
codes_drawn bits number keys = codes_from bits keys 0 (0 ∷ 0 ∷ 0 ∷ 0 ∷ []) number

-- the code of a query: that of a key as far along the keys as the query is along the 32, or a new
-- one where there are no keys
abbrev pub code_of_query : ℕ → List (List ℕ) → ℕ → ℕ → List ℕ
code_of_query bits [] query state = fresh bits state
code_of_query bits (code ∷ codes) query state =
    slice_index_or (code ∷ codes) (query * length (code ∷ codes) / 32) []

-- the state after the code of a query
abbrev pub state_after_query : ℕ → List (List ℕ) → ℕ → ℕ
state_after_query bits [] state = state_after_code bits state
state_after_query bits (code ∷ codes) state = state
