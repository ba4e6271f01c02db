-- What the lines of a workload ask, one after another. No public clause cites this module.
use Rattle.std.specs.Prelude.{ℕ, zero, suc, ◌+◌, ◌%◌, ◌==◌, if◌then◌else◌, List, [], ◌∷◌, ◌++◌, codes}
use Rattle.query_protocol.specs.Requests.{LineRequest, Add, Range, Near, Next, Cost, Cancel}
use Rattle.load_lines.specs.Codes.{codes_drawn, code_of_query, state_after_query, state_after_keys}
use Rattle.load_model.specs.Workload.{code_in_words}

-- the tag of all queries
abbrev pub tag_drawn : List ℕ
tag_drawn = codes "q"

-- the additions of codes whose keys are numbered from one on
abbrev pub additions : ℕ → ℕ → List (List ℕ) → List LineRequest
additions bits key [] = []
additions bits key (words ∷ others) =
    Add key (code_in_words bits words) ∷ additions bits (key + 1) others

-- the opening of a query
abbrev pub opening_drawn : ℕ → ℕ → List ℕ → LineRequest
opening_drawn bits query words =
    if query % 2 == 0 then Range tag_drawn (query % 9) (code_in_words bits words)
    else Near tag_drawn query (code_in_words bits words)

-- so many requests for more hits, before others
abbrev pub asking_on : ℕ → List LineRequest → List LineRequest
asking_on zero others = others
asking_on (suc more) others = Next tag_drawn 65536 ∷ asking_on more others

-- the requests of so many queries from one on
abbrev pub requests_querying : ℕ → List (List ℕ) → ℕ → ℕ → ℕ → List LineRequest
requests_querying bits keyed zero query state = []
requests_querying bits keyed (suc queries) query state =
    opening_drawn bits query (code_of_query bits keyed query state)
    ∷ asking_on 16 (Cost tag_drawn ∷ Cancel tag_drawn
    ∷ requests_querying bits keyed queries (query + 1) (state_after_query bits keyed state))

-- all requests of a workload
abbrev pub requests_drawn : ℕ → ℕ → ℕ → List LineRequest
requests_drawn bits number keys =
    additions bits 0 (codes_drawn bits number keys)
    ++ requests_querying bits (codes_drawn bits number keys) 32 0
    (state_after_keys bits keys 0 number)
