-- What all lines of a workload ask, one after another.
use Rattle.std.proofs.Common.{◌≡◌, ℕ, zero, suc, ◌+◌, ◌-◌, ◌%◌, ◌<◌, ◌≤◌, ◌^◌, ◌==◌, ◌&&◌, nat_le, nat_lt, Bool, true, false, cond, List, [], ◌∷◌, ◌++◌, length, map, take, slice_index, codes, decimal, Some, Ok, refl, sym, ap, ◌∙◌, subst, arith, append_assoc}
use Rattle.std.proofs.lemmas.Bool.{and_parts, and_right, leb-true, eqb-false}
use Rattle.std.proofs.lemmas.Bool.Decides.{nat_tests}
use Rattle.std.proofs.lemmas.List.Elements.{All-cons, All-nil}
use Rattle.byte_lines.specs.Lines.{lines, ended_lines, unended, last_line, line_feed, without_return, HasNoEnd}
use Rattle.byte_lines.proofs.LinesLemmas.{ended_lines-piece, unended-piece}
use Rattle.line_forms.specs.Words.{is_printable}
use Rattle.hamming_model.specs.declared.limits.TheConstants.{ENTRIES_MOST}
use Rattle.part_layout.specs.Ranges.{IsConfig}
use Rattle.part_layout.specs.declared.config.Config.{Config}
use Rattle.query_protocol.specs.Requests.{LineRequest, LineReading, Add, Range, Near, Next, Cost, Cancel}
use Rattle.query_protocol.specs.Lines.{reading}
use Rattle.load_lines.specs.Codes.{codes_drawn, codes_from, code_of_key, state_after_key, code_of_query, state_after_query, state_after_keys}
use Rattle.load_lines.specs.Lines.{code_text, add_line, add_lines, open_line, times, after_opening, query_lines, load_lines}
use Rattle.load_model.specs.Workload.{code_in_words}
use Rattle.load_model.specs.Asked.{additions, opening_drawn, asking_on, requests_querying, requests_drawn, tag_drawn}
use Rattle.load_model.proofs.ReadingLemmas.{line_end, IsRead, add_read, range_read, near_read}

-- ---- the first line of a text

-- a printable byte ends no line, and is no CR
printable_is : (byte : ℕ) → (nat_le 32 byte && nat_le byte 126) ≡ true → 32 ≤ byte
printable_is byte is = leb-true 32 byte (and_parts (nat_le 32 byte) (nat_le byte 126) is).0

printable_ends : (line : List ℕ) → is_printable line ≡ true → HasNoEnd line
printable_ends [] is = All-nil (λ byte. byte ≡ line_feed → ⊥)
printable_ends (byte ∷ line) is =
    let split = and_parts (nat_le 32 byte && nat_le byte 126) (is_printable line) is in
    let least = printable_is byte split.0 in
    All-cons (λ byte. byte ≡ line_feed → ⊥) byte line (λ same. absurd (omega (arith, least, same))) (printable_ends line split.1)

-- the last byte of a printable line is no CR
last_byte : (line : List ℕ) (place : ℕ) → is_printable line ≡ true → (slice_index line place == 13) ≡ false
last_byte [] place is = refl
last_byte (byte ∷ line) zero is =
    let least = printable_is byte (and_parts (nat_le 32 byte && nat_le byte 126) (is_printable line) is).0 in
    grind (arith, nat_tests, least)
last_byte (byte ∷ line) (suc place) is = last_byte line place (and_parts (nat_le 32 byte && nat_le byte 126) (is_printable line) is).1

returns_none : (line : List ℕ) → is_printable line ≡ true → without_return line ≡ line
returns_none line is =
    ap (λ (b : Bool). cond b (take (length line - 1) line) line)
    (and_right (nat_lt 0 (length line)) (slice_index line (length line - 1) == 13) (last_byte line (length line - 1) is))

-- the lines of a line and what follows it
pub first_of_lines : (line rest : List ℕ) → is_printable line ≡ true → lines (line ++ 10 ∷ rest) true ≡ line ∷ lines rest true
first_of_lines line rest is =
    ap (λ (front : List (List ℕ)). front ++ last_line (unended [] (line ++ 10 ∷ rest)))
    (ended_lines-piece [] line rest (printable_ends line is) ∙ ap (λ (first : List ℕ). first ∷ ended_lines [] rest) (returns_none line is))
    ∙ ap (λ (text : List ℕ). (line ∷ ended_lines [] rest) ++ last_line text) (unended-piece [] line rest)

-- ---- what lines ask

abbrev pub asked_request : LineRequest → LineReading
asked_request request = Ok (Some request)

-- the lines of a text ask these, one after another
abbrev pub Spells : Config → List ℕ → List LineRequest → Type 0
Spells config text requests = map (λ line. reading config line) (lines text true) ≡ map asked_request requests

spells_first : (config : Config) (line rest : List ℕ) (request : LineRequest) (requests : List LineRequest)
    → IsRead config line request → Spells config rest requests → Spells config (line ++ 10 ∷ rest) (request ∷ requests)
spells_first config line rest request requests read spells =
    ap (λ (all : List (List ℕ)). map (λ line. reading config line) all) (first_of_lines line rest read.printable)
    ∙ ap (λ (first : LineReading). first ∷ map (λ line. reading config line) (lines rest true)) read.asks
    ∙ ap (λ (others : List LineReading). asked_request request ∷ others) spells

-- a line's words with its end, and the rest
end_apart : (first number code rest : List ℕ)
    → (first ++ number ++ (32 ∷ []) ++ code ++ (10 ∷ [])) ++ rest ≡ (first ++ (number ++ 32 ∷ code)) ++ 10 ∷ rest
end_apart first number code rest =
    append_assoc (first ++ number ++ (32 ∷ []) ++ code) (10 ∷ []) rest
    ∙ ap (λ (front : List ℕ). front ++ 10 ∷ rest) (append_assoc (first ++ number) (32 ∷ []) code ∙ append_assoc first number (32 ∷ code))

-- ---- additions

add_spells : (config : Config) (key : ℕ) (drawn rest : List ℕ) (requests : List LineRequest) → IsConfig config → key < 2 ^ 64
    → Spells config rest requests
    → Spells config (add_line config.bits key drawn ++ rest) (Add key (code_in_words config.bits drawn) ∷ requests)
add_spells config key drawn rest requests is small spells =
    subst (λ text. Spells config text (Add key (code_in_words config.bits drawn) ∷ requests))
    (sym (end_apart (codes "add ") (decimal key) (code_text config.bits drawn) rest))
    (spells_first config (codes "add " ++ line_end config.bits key drawn) rest (Add key (code_in_words config.bits drawn)) requests
    (add_read config key drawn is.least_bits is.greatest_bits small) spells)

adds_spell : (config : Config) (key : ℕ) (added : List (List ℕ)) (rest : List ℕ) (requests : List LineRequest) → IsConfig config
    → key + length added ≤ 2 ^ 64 → Spells config rest requests
    → Spells config (add_lines config.bits key added ++ rest) (additions config.bits key added ++ requests)
adds_spell config key [] rest requests is small spells = spells
adds_spell config key (drawn ∷ added) rest requests is small spells =
    let others = add_lines config.bits (key + 1) added in
    subst (λ text. Spells config text (additions config.bits key (drawn ∷ added) ++ requests))
    (sym (append_assoc (add_line config.bits key drawn) others rest))
    (add_spells config key drawn (others ++ rest) (additions config.bits (key + 1) added ++ requests) is (omega (arith, small))
    (adds_spell config (key + 1) added rest requests is (omega (arith, small)) spells))

-- ---- queries

open_spells_by : (config : Config) (query : ℕ) (drawn rest : List ℕ) (requests : List LineRequest) (even : Bool) → (query % 2 == 0) ≡ even
    → IsConfig config → query < 32 → Spells config rest requests
    → Spells config ((cond even (codes "range q " ++ decimal (query % 9)) (codes "near q " ++ decimal query) ++ codes " "
    ++ code_text config.bits drawn ++ codes "\n") ++ rest)
    (cond even (Range tag_drawn (query % 9) (code_in_words config.bits drawn)) (Near tag_drawn query (code_in_words config.bits drawn)) ∷ requests)
open_spells_by config query drawn rest requests true parity is few spells =
    let asked : LineRequest = Range tag_drawn (query % 9) (code_in_words config.bits drawn) in
    subst (λ text. Spells config text (asked ∷ requests))
    (sym (end_apart (codes "range q ") (decimal (query % 9)) (code_text config.bits drawn) rest))
    (spells_first config (codes "range q " ++ line_end config.bits (query % 9) drawn) rest asked requests
    (range_read config (query % 9) drawn is.least_bits is.greatest_bits (omega arith)) spells)
open_spells_by config query drawn rest requests false parity is few spells =
    let asked : LineRequest = Near tag_drawn query (code_in_words config.bits drawn) in
    let odd = eqb-false (query % 2) 0 parity in
    let some : 1 ≤ query = elim query as (λ n. (n % 2 ≡ 0 → ⊥) → 1 ≤ n) [
      | zero ↦ λ odd. absurd (odd refl)
      | suc n ↦ λ odd. omega arith
    ] odd in
    subst (λ text. Spells config text (asked ∷ requests))
    (sym (end_apart (codes "near q ") (decimal query) (code_text config.bits drawn) rest))
    (spells_first config (codes "near q " ++ line_end config.bits query drawn) rest asked requests
    (near_read config query drawn is.least_bits is.greatest_bits some few) spells)

open_spells : (config : Config) (query : ℕ) (drawn rest : List ℕ) (requests : List LineRequest) → IsConfig config → query < 32
    → Spells config rest requests → Spells config (open_line config.bits query drawn ++ rest) (opening_drawn config.bits query drawn ∷ requests)
open_spells config query drawn rest requests = open_spells_by config query drawn rest requests (query % 2 == 0) refl

nexts_spell : (config : Config) (more : ℕ) (rest : List ℕ) (requests : List LineRequest) → Spells config rest requests
    → Spells config (times more (codes "next q 65536\n") ++ rest) (asking_on more requests)
nexts_spell config zero rest requests spells = spells
nexts_spell config (suc more) rest requests spells =
    spells_first config (codes "next q 65536") (times more (codes "next q 65536\n") ++ rest) (Next tag_drawn 65536) (asking_on more requests)
    (record { printable = refl; asks = refl }) (nexts_spell config more rest requests spells)

ending_spells : (config : Config) (rest : List ℕ) (requests : List LineRequest) → Spells config rest requests
    → Spells config (codes "cost q\ncancel q\n" ++ rest) (Cost tag_drawn ∷ Cancel tag_drawn ∷ requests)
ending_spells config rest requests spells =
    spells_first config (codes "cost q") (codes "cancel q\n" ++ rest) (Cost tag_drawn) (Cancel tag_drawn ∷ requests)
    (record { printable = refl; asks = refl })
    (spells_first config (codes "cancel q") rest (Cancel tag_drawn) requests (record { printable = refl; asks = refl }) spells)

queries_spell : (config : Config) (keyed : List (List ℕ)) (queries query state : ℕ) → IsConfig config → query + queries ≤ 32
    → Spells config (query_lines config.bits keyed queries query state) (requests_querying config.bits keyed queries query state)
queries_spell config keyed zero query state is few = refl
queries_spell config keyed (suc queries) query state is few =
    let drawn = code_of_query config.bits keyed query state in
    let nexts : List ℕ = times 16 (codes "next q 65536\n") in
    let ending : List ℕ = codes "cost q\ncancel q\n" in
    let after : ℕ = state_after_query config.bits keyed state in
    let others = query_lines config.bits keyed queries (query + 1) after in
    let requests = requests_querying config.bits keyed queries (query + 1) after in
    let apart : open_line config.bits query drawn ++ after_opening ++ others ≡ open_line config.bits query drawn ++ (nexts ++ (ending ++ others)) =
    append_assoc (open_line config.bits query drawn) after_opening others
    ∙ ap (λ (text : List ℕ). open_line config.bits query drawn ++ text) (append_assoc nexts ending others) in
    subst (λ text. Spells config text (requests_querying config.bits keyed (suc queries) query state)) (sym apart)
    (open_spells config query drawn (nexts ++ (ending ++ others)) (asking_on 16 (Cost tag_drawn ∷ Cancel tag_drawn ∷ requests)) is (omega (arith, few))
    (nexts_spell config 16 (ending ++ others) (Cost tag_drawn ∷ Cancel tag_drawn ∷ requests)
    (ending_spells config others requests (queries_spell config keyed queries (query + 1) after is (omega (arith, few))))))

-- ---- the whole workload

codes_number : (bits keys key : ℕ) (before : List ℕ) (state : ℕ) → length (codes_from bits keys key before state) ≡ keys
codes_number bits zero key before state = refl
codes_number bits (suc keys) key before state =
    ap suc (codes_number bits keys (key + 1) (code_of_key bits key before state) (state_after_key bits key state))

pub drawn_number : (bits number keys : ℕ) → length (codes_drawn bits number keys) ≡ keys
drawn_number bits number keys = codes_number bits keys 0 (0 ∷ 0 ∷ 0 ∷ 0 ∷ []) number

pub load_spells : (config : Config) (number keys : ℕ) → IsConfig config → keys ≤ ENTRIES_MOST
    → Spells config (load_lines config.bits number keys) (requests_drawn config.bits number keys)
load_spells config number keys is few =
    let keyed = codes_drawn config.bits number keys in
    let state : ℕ = state_after_keys config.bits keys 0 number in
    adds_spell config 0 keyed (query_lines config.bits keyed 32 0 state) (requests_querying config.bits keyed 32 0 state) is
    (omega (arith, few, drawn_number config.bits number keys)) (queries_spell config keyed 32 0 state is (omega arith))
