-- The requests of a workload: what they name, and how many there are.
use Rattle.std.proofs.Common.{◌≡◌, ℕ, zero, suc, ◌+◌, ◌*◌, ◌/◌, ◌%◌, ◌<◌, ◌≤◌, ◌^◌, ◌==◌, Bool, true, false, cond, List, [], ◌∷◌, ◌++◌, length, refl, ap, arith, length-append}
use Rattle.std.specs.Char.{digit_value}
use Rattle.hamming_model.specs.Codes.{bits_of, hex_code}
use Rattle.part_layout.specs.declared.config.Config.{Config}
use Rattle.query_protocol.specs.Requests.{LineRequest, Range, Near, Cost, Cancel}
use Rattle.session_model.specs.Entries.{Exchange}
use Rattle.load_lines.specs.Codes.{codes_drawn, code_of_query, state_after_query, state_after_keys}
use Rattle.load_lines.specs.Lines.{code_text}
use Rattle.load_model.specs.Workload.{code_in_words}
use Rattle.load_model.specs.Asked.{tag_drawn, additions, asking_on, requests_querying, requests_drawn}
use Rattle.load_model.proofs.ReadingLemmas.{digits_number}
use Rattle.load_model.proofs.SpellingLemmas.{drawn_number}
use Rattle.load_model.proofs.WalkLemmas.{Asks}
use Rattle.load_model.proofs.WrittenLemmas.{IsSmallRequest, AreSmallRequests}

-- a code has four bits a digit
four_bits : (number : ℕ) → length (bits_of 4 number) ≡ 4
unfolding bits_of
four_bits number = refl

code_length : (text : List ℕ) → length (hex_code text) ≡ 4 * length text
code_length [] = refl
code_length (digit ∷ text) =
    omega (arith, length-append (bits_of 4 (digit_value digit)) (hex_code text), four_bits (digit_value digit), code_length text)

short_code : (bits : ℕ) (words : List ℕ) → bits ≤ 256 → length (code_in_words bits words) < 2 ^ 64
short_code bits words few = omega (arith, few, code_length (code_text bits words), digits_number words (bits / 4) 0)

opening_small : (bits query : ℕ) (words : List ℕ) (even : Bool) → bits ≤ 256
    → IsSmallRequest (cond even (Range tag_drawn (query % 9) (code_in_words bits words)) (Near tag_drawn query (code_in_words bits words)))
opening_small bits query words true few = (refl, short_code bits words few)
opening_small bits query words false few = (refl, short_code bits words few)

more_small : (more : ℕ) (others : List LineRequest) → AreSmallRequests others → AreSmallRequests (asking_on more others)
more_small zero others rest = rest
more_small (suc more) others rest = (refl, more_small more others rest)

querying_small : (bits : ℕ) (keyed : List (List ℕ)) (queries query state : ℕ) → bits ≤ 256
    → AreSmallRequests (requests_querying bits keyed queries query state)
querying_small bits keyed zero query state few = tt
querying_small bits keyed (suc queries) query state few =
    let after : ℕ = state_after_query bits keyed state in (
      opening_small bits query (code_of_query bits keyed query state) (query % 2 == 0) few,
      more_small 16 (Cost tag_drawn ∷ Cancel tag_drawn ∷ requests_querying bits keyed queries (query + 1) after)
          (refl, (refl, querying_small bits keyed queries (query + 1) after few)),
    )

adding_small : (bits key : ℕ) (added : List (List ℕ)) (others : List LineRequest) → key + length added ≤ 2 ^ 64 → AreSmallRequests others
    → AreSmallRequests (additions bits key added ++ others)
adding_small bits key [] others few rest = rest
adding_small bits key (words ∷ added) others few rest =
    (omega (arith, few), adding_small bits (key + 1) added others (omega (arith, few)) rest)

pub drawn_small : (bits number keys : ℕ) → bits ≤ 256 → keys < 2 ^ 63 → AreSmallRequests (requests_drawn bits number keys)
drawn_small bits number keys few small =
    adding_small bits 0 (codes_drawn bits number keys) (requests_querying bits (codes_drawn bits number keys) 32 0 (state_after_keys bits keys 0 number))
    (omega (arith, small, drawn_number bits number keys))
    (querying_small bits (codes_drawn bits number keys) 32 0 (state_after_keys bits keys 0 number) few)

-- how many there are
querying_number : (bits : ℕ) (keyed : List (List ℕ)) (queries query state : ℕ) → length (requests_querying bits keyed queries query state) ≡ 19 * queries
querying_number bits keyed zero query state = refl
querying_number bits keyed (suc queries) query state =
    omega (arith, querying_number bits keyed queries (query + 1) (state_after_query bits keyed state))

adding_number : (bits key : ℕ) (added : List (List ℕ)) → length (additions bits key added) ≡ length added
adding_number bits key [] = refl
adding_number bits key (words ∷ added) = ap suc (adding_number bits (key + 1) added)

asks_number : (config : Config) (exchanges : List Exchange) (requests : List LineRequest) → Asks config exchanges requests
    → length exchanges ≡ length requests
asks_number config [] [] asks = refl
asks_number config [] (request ∷ requests) asks = absurd asks
asks_number config (e ∷ exchanges) [] asks = absurd asks
asks_number config (e ∷ exchanges) (request ∷ requests) asks = ap suc (asks_number config exchanges requests asks.1)

pub few_exchanges : (config : Config) (bits number keys : ℕ) (exchanges : List Exchange) → keys < 2 ^ 63
    → Asks config exchanges (requests_drawn bits number keys) → length exchanges < 2 ^ 64
few_exchanges config bits number keys exchanges small asks =
    let keyed = codes_drawn bits number keys in
    let state : ℕ = state_after_keys bits keys 0 number in
    omega (
      arith,
      small,
      asks_number config exchanges (requests_drawn bits number keys) asks,
      drawn_number bits number keys,
      length-append (additions bits 0 keyed) (requests_querying bits keyed 32 0 state),
      adding_number bits 0 keyed,
      querying_number bits keyed 32 0 state,
    )
