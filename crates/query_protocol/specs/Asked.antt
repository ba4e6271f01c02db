-- What the words after a request word ask, or their first fault: rows and queries.
use Rattle.std.specs.Prelude.{ℕ, nat_lt, if◌then◌else◌, List, [], ◌∷◌}
use Rattle.std.specs.Prelude.{Option, Some, None, Result, Ok, Err, ok_or}
use Rattle.hamming_model.specs.declared.limits.TheConstants.{ENTRIES_MOST}
use Rattle.line_forms.specs.Forms.{key_form, radius_of, count_of, code_form, number_of}
use Rattle.line_forms.specs.Forms.{shard_form, tag_of}
use Rattle.query_protocol.specs.Requests.{LineRequest, LineReading, bad, bad_word}
use Rattle.query_protocol.specs.Requests.{Add, Range, Near, Next, Plan}
use Rattle.query_protocol.specs.declared.bad.Bad.{Bad}

-- how many of the nearest rows are asked: at most as many as there may be
abbrev pub nearest_of : List ℕ → Option ℕ
nearest_of word = number_of 7 1 ENTRIES_MOST word

-- a key and a code, each where its word has the form
abbrev pub add_of : Option ℕ → Option (List ℕ) → LineReading
add_of None code = Err (bad_word 2)
add_of (Some key) None = Err (bad_word 3)
add_of (Some key) (Some code) = Ok (Some (Add key code))

-- a tag, a number and a code: what opens a query
abbrev pub opening_of : (List ℕ → ℕ → List ℕ → LineRequest) → Option (List ℕ) → Option ℕ
    → Option (List ℕ) → LineReading
opening_of ask None number code = Err (bad_word 2)
opening_of ask (Some tag) None code = Err (bad_word 3)
opening_of ask (Some tag) (Some number) None = Err (bad_word 4)
opening_of ask (Some tag) (Some number) (Some code) = Ok (Some (ask tag number code))

-- a tag and how many hits
abbrev pub next_of : Option (List ℕ) → Option ℕ → LineReading
next_of None n = Err (bad_word 2)
next_of (Some tag) None = Err (bad_word 3)
next_of (Some tag) (Some n) = Ok (Some (Next tag n))

-- a tag and a shard, which has to be one of so many
abbrev pub plan_of : ℕ → Option (List ℕ) → Option ℕ → LineReading
plan_of shards None shard = Err (bad_word 2)
plan_of shards (Some tag) None = Err (bad_word 3)
plan_of shards (Some tag) (Some shard) =
    if nat_lt shard shards then Ok (Some (Plan tag shard)) else Err (bad 6)

-- the words after `add`
abbrev pub add_asked : ℕ → List (List ℕ) → LineReading
add_asked bits (key ∷ code ∷ []) = add_of (key_form key) (code_form bits code)
add_asked bits after = Err (bad 4)

-- the three words of a request that opens a query
abbrev pub opening_words : List (List ℕ) → Result (List ℕ × List ℕ × List ℕ) Bad
opening_words (tag ∷ number ∷ code ∷ []) = Ok (tag, number, code)
opening_words after = Err (bad 4)

-- what they ask, where the number has a form of its own
abbrev pub opening_asked : (List ℕ → ℕ → List ℕ → LineRequest) → (List ℕ → Option ℕ) → ℕ
    → Result (List ℕ × List ℕ × List ℕ) Bad → LineReading
opening_asked ask form bits (Ok words) =
    opening_of ask (tag_of words.0) (form words.1) (code_form bits words.2)
opening_asked ask form bits (Err fault) = Err fault

-- the words after `range`
abbrev pub range_asked : ℕ → List (List ℕ) → LineReading
range_asked bits after =
    opening_asked (λ tag tau code. Range tag tau code) (λ word. radius_of bits word) bits
    (opening_words after)

-- the words after `near`
abbrev pub nearest_asked : ℕ → List (List ℕ) → LineReading
nearest_asked bits after =
    opening_asked (λ tag k code. Near tag k code) (λ word. nearest_of word) bits
    (opening_words after)

-- the words after `next`
abbrev pub next_asked : List (List ℕ) → LineReading
next_asked (tag ∷ n ∷ []) = next_of (tag_of tag) (count_of n)
next_asked after = Err (bad 4)

-- the words after `plan`
abbrev pub plan_asked : ℕ → List (List ℕ) → LineReading
plan_asked shards (tag ∷ shard ∷ []) = plan_of shards (tag_of tag) (shard_form shard)
plan_asked shards after = Err (bad 4)

-- the words after `swap` or `quit`, which ask this where there are none
abbrev pub nothing_more : LineRequest → List (List ℕ) → LineReading
nothing_more request [] = Ok (Some request)
nothing_more request after = Err (bad 4)

-- the key of a request that has no other word
abbrev pub key_alone : List (List ℕ) → Result ℕ Bad
key_alone (key ∷ []) = ok_or (key_form key) (bad_word 2)
key_alone after = Err (bad 4)

-- the tag of a request that has no other word
abbrev pub tag_alone : List (List ℕ) → Result (List ℕ) Bad
tag_alone (tag ∷ []) = ok_or (tag_of tag) (bad_word 2)
tag_alone after = Err (bad 4)
