-- The lines of a workload, one after another.
use Rattle.std.proofs.Common.{◌≡◌, ℕ, zero, suc, ◌+◌, ◌-◌, ◌<◌, List, [], ◌∷◌, ◌++◌, length, drop, slice_index_or, refl, ap, sym, ◌∙◌, arith, append_assoc, add-one}
use Rattle.load_lines.specs.Codes.{code_of_query, state_after_query}
use Rattle.load_lines.specs.Lines.{digit_at, digits_from, times, add_line, add_lines, open_line, after_opening, query_lines}

-- once more the same text
pub time_put : (text front whole : List ℕ) (time times_in_all : ℕ) → time < times_in_all
    → front ++ times (times_in_all - time) text ≡ whole → (front ++ text) ++ times (times_in_all - (time + 1)) text ≡ whole
time_put text front whole time times_in_all within is =
    let left : times_in_all - time ≡ suc (times_in_all - (time + 1)) = omega (arith, within) in
    append_assoc front text _ ∙ ap (λ n. front ++ times n text) (sym left) ∙ is

-- one digit more
pub digit_put : (words front whole : List ℕ) (place digits : ℕ) → place < digits
    → front ++ digits_from words (digits - place) place ≡ whole
    → (front ++ digit_at words place ∷ []) ++ digits_from words (digits - (place + 1)) (place + 1) ≡ whole
digit_put words front whole place digits within is =
    let left : digits - place ≡ suc (digits - (place + 1)) = omega (arith, within) in
    append_assoc front (digit_at words place ∷ []) _ ∙ ap (λ n. front ++ digits_from words n place) (sym left) ∙ is

-- the codes from one on
next_added : (key : ℕ) (added : List (List ℕ)) → key < length added → drop key added ≡ slice_index_or added key [] ∷ drop (key + 1) added
next_added key [] within = absurd (omega (arith, within))
next_added zero (words ∷ others) within = refl
next_added (suc key) (words ∷ others) within = rw add-one (rw add-one at (next_added key others (omega (arith, within))))

-- one code more
pub addition_put : (bits key : ℕ) (added : List (List ℕ)) (front whole : List ℕ) → key < length added
    → front ++ add_lines bits key (drop key added) ≡ whole
    → (front ++ add_line bits key (slice_index_or added key [])) ++ add_lines bits (key + 1) (drop (key + 1) added) ≡ whole
addition_put bits key added front whole within is =
    append_assoc front (add_line bits key (slice_index_or added key [])) _
    ∙ ap (λ rest. front ++ add_lines bits key rest) (sym (next_added key added within)) ∙ is

-- the lines of a query and those of the others
query_split : (bits queries query state : ℕ) (added : List (List ℕ)) → query_lines bits added (suc queries) query state
    ≡ open_line bits query (code_of_query bits added query state) ++ after_opening
    ++ query_lines bits added queries (query + 1) (state_after_query bits added state)
query_split bits queries query state added = refl

-- one query more
pub query_put : (bits query queries state : ℕ) (added : List (List ℕ)) (front whole : List ℕ) → query < queries
    → front ++ query_lines bits added (queries - query) query state ≡ whole
    → ((front ++ open_line bits query (code_of_query bits added query state)) ++ after_opening)
    ++ query_lines bits added (queries - (query + 1)) (query + 1) (state_after_query bits added state) ≡ whole
query_put bits query queries state added front whole within is =
    let left : queries - query ≡ suc (queries - (query + 1)) = omega (arith, within) in
    let opening = open_line bits query (code_of_query bits added query state) in
    let rest = query_lines bits added (queries - (query + 1)) (query + 1) (state_after_query bits added state) in
    append_assoc (front ++ opening) after_opening rest ∙ append_assoc front opening (after_opening ++ rest)
    ∙ ap (λ text. front ++ text) (sym (append_assoc opening after_opening rest))
    ∙ ap (λ text. front ++ text) (sym (query_split bits (queries - (query + 1)) query state added))
    ∙ ap (λ n. front ++ query_lines bits added n query state) (sym left) ∙ is
