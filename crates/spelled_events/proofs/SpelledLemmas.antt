-- Each event is read from its line.
use Rattle.std.proofs.Common.{◌≡◌, ℕ, ◌-◌, ◌^◌, ◌<◌, ◌≤◌, ◌==◌, ◌&&◌, nat_le, not, Bool, true, false, cond, List, [], ◌∷◌, length, codes, decimal, Option, Some, None, Ok, is_none, refl, sym, ap, ◌∙◌, arith}
use Rattle.std.proofs.lemmas.Bool.{and_from, and_parts}
use Rattle.std.proofs.lemmas.Bool.Decides.{nat_tests}
use Rattle.std.specs.List.{list_all}
use Rattle.std.specs.Prelude.{ok_or}
use Rattle.hamming_model.specs.Codes.{IsCode}
use Rattle.hamming_model.specs.History.{Add, Delete}
use Rattle.hamming_model.specs.Scan.{Range, Near}
use Rattle.hamming_model.specs.declared.limits.TheConstants.{ENTRIES_MOST}
use Rattle.line_forms.specs.Words.{is_printable}
use Rattle.line_forms.specs.Forms.{code_form, count_of, key_form, radius_of, shard_form}
use Rattle.part_layout.specs.Faults.{IsReadBack, fault_of}
use Rattle.part_layout.specs.Grammar.{IsLayoutText, spelled}
use Rattle.part_layout.specs.Laid.{IsCodeSize, IsLaid, Laid}
use Rattle.part_layout.specs.Text.{HasLayoutBytes, is_layout_byte, layout_text}
use Rattle.part_layout.specs.declared.layout_fault.LayoutFault.{LayoutFault}
use Rattle.query_protocol.specs.ShardsAsked.{layout_form}
use Rattle.query_protocol.specs.Asked.{nearest_of}
use Rattle.query_protocol.specs.Replies.{hex_text}
use Rattle.query_protocol.specs.Requests.{bad_word}
use Rattle.trace_lines.proofs.FormLemmas.{laid_again}
use Rattle.spelled_events.specs.Spelled.{IsSpelledEvent, event_line}
use Rattle.trace_lines.specs.EventAsked.{poll_of, event_repart_of, two_of}
use Rattle.trace_lines.specs.EventForms.{query_form, who_form}
use Rattle.trace_lines.specs.EventLines.{event_reading, something}
use Rattle.trace_lines.specs.EventAsked.{event_naming}
use Rattle.trace_lines.specs.SessionsAsked.{adding_of, asking_of, deleting_of}
use Rattle.world_model.specs.Events.{Event, Commit, Open, Advance, Pin, Poll, Give, Cancel, BuildStart, BuildStep, Follow, Swap, IsLayoutFor}
use Rattle.spelled_events.proofs.LengthLemmas.{layout_short}
use Rattle.spelled_events.proofs.WordsLemmas.{SpellsCode, code_again, code_spelled, code_word, known_word, line_read, number_again, number_word, short_read}

-- ---- forms

who_again : (who : ℕ) → who < 2 ^ 32 → who_form (decimal who) ≡ Some who
who_again who small =
    number_again 10 0 (2 ^ 32 - 1) who (omega arith) (omega (arith, small)) (omega (arith, small)) (omega arith) (omega (arith, small))

key_again : (key : ℕ) → key < 2 ^ 64 → key_form (decimal key) ≡ Some key
key_again key small =
    number_again 20 0 (2 ^ 64 - 1) key (omega arith) (omega (arith, small)) small (omega arith) (omega (arith, small))

query_again : (query : ℕ) → query ≤ 99999 → query_form (decimal query) ≡ Some query
query_again query few = number_again 5 0 99999 query (omega arith) (omega (arith, few)) (omega (arith, few)) (omega arith) few

shard_again : (shard : ℕ) → shard ≤ 99 → shard_form (decimal shard) ≡ Some shard
shard_again shard few = number_again 2 0 99 shard (omega arith) (omega (arith, few)) (omega (arith, few)) (omega arith) few

count_again : (count : ℕ) → 1 ≤ count → count ≤ 65536 → count_of (decimal count) ≡ Some count
count_again count some few = number_again 5 1 65536 count (omega arith) (omega (arith, few)) (omega (arith, few)) some few

radius_again : (bits tau : ℕ) → bits ≤ 256 → tau ≤ bits → radius_of bits (decimal tau) ≡ Some tau
radius_again bits tau most few =
    number_again 3 0 bits tau (omega arith) (omega (arith, most, few)) (omega (arith, most, few)) (omega arith) few

nearest_again : (k : ℕ) → 1 ≤ k → k ≤ ENTRIES_MOST → nearest_of (decimal k) ≡ Some k
nearest_again k some few = number_again 7 1 ENTRIES_MOST k (omega arith) (omega (arith, few)) (omega (arith, few)) some few

spells : (bits : ℕ) (code : List ℕ) → IsCodeSize bits → IsCode bits code → SpellsCode code
spells bits code size is = code_spelled code is.binary (omega (arith, size.whole, is.size))

-- ---- sessions

pub add_read : (bits who key : ℕ) (code : List ℕ) → IsCodeSize bits → who < 2 ^ 32 → key < 2 ^ 64 → IsCode bits code
    → event_reading bits (event_line (Commit who (Add key code))) ≡ Ok (Some (Commit who (Add key code)))
add_read bits who key code size small fits is =
    let text = spells bits code size is in
    short_read bits (codes "commit" ∷ decimal who ∷ codes "add" ∷ decimal key ∷ hex_text code ∷ []) (
      known_word (codes "commit") refl refl refl,
      (
        number_word who (omega (arith, small)),
        (
          known_word (codes "add") refl refl refl,
          (number_word key fits, (code_word bits code size.some size.few is text, tt)),
        ),
      ),
    ) (omega arith)
    ∙ ap (λ (found : Option ℕ). something (adding_of found (key_form (decimal key)) (code_form bits (hex_text code)))) (who_again who small)
    ∙ ap (λ (found : Option ℕ). something (adding_of (Some who) found (code_form bits (hex_text code)))) (key_again key fits)
    ∙ ap (λ (found : Option (List ℕ)). something (adding_of (Some who) (Some key) found)) (code_again bits code is text)

pub delete_read : (bits who key : ℕ) → who < 2 ^ 32 → key < 2 ^ 64
    → event_reading bits (event_line (Commit who (Delete key))) ≡ Ok (Some (Commit who (Delete key)))
delete_read bits who key small fits =
    short_read bits (codes "commit" ∷ decimal who ∷ codes "del" ∷ decimal key ∷ []) (
      known_word (codes "commit") refl refl refl,
      (
        number_word who (omega (arith, small)),
        (
          known_word (codes "del") refl refl refl,
          (number_word key fits, tt),
        ),
      ),
    ) (omega arith)
    ∙ ap (λ (found : Option ℕ). something (deleting_of found (key_form (decimal key)))) (who_again who small)
    ∙ ap (λ (found : Option ℕ). something (deleting_of (Some who) found)) (key_again key fits)

pub range_read : (bits who tau : ℕ) (code : List ℕ) → IsCodeSize bits → who < 2 ^ 32 → tau ≤ bits → IsCode bits code
    → event_reading bits (event_line (Open who (Range tau code))) ≡ Ok (Some (Open who (Range tau code)))
range_read bits who tau code size small few is =
    let text = spells bits code size is in
    short_read bits (codes "open" ∷ decimal who ∷ codes "range" ∷ decimal tau ∷ hex_text code ∷ []) (
      known_word (codes "open") refl refl refl,
      (
        number_word who (omega (arith, small)),
        (
          known_word (codes "range") refl refl refl,
          (number_word tau (omega (arith, few, size.few)), (code_word bits code size.some size.few is text, tt)),
        ),
      ),
    ) (omega arith)
    ∙ ap (λ (found : Option ℕ). something (asking_of (λ tau code. Range tau code) found (radius_of bits (decimal tau)) (code_form bits (hex_text code))))
    (who_again who small)
    ∙ ap (λ (found : Option ℕ). something (asking_of (λ tau code. Range tau code) (Some who) found (code_form bits (hex_text code))))
    (radius_again bits tau size.few few)
    ∙ ap (λ (found : Option (List ℕ)). something (asking_of (λ tau code. Range tau code) (Some who) (Some tau) found)) (code_again bits code is text)

pub near_read : (bits who k : ℕ) (code : List ℕ) → IsCodeSize bits → who < 2 ^ 32 → 1 ≤ k → k ≤ ENTRIES_MOST → IsCode bits code
    → event_reading bits (event_line (Open who (Near k code))) ≡ Ok (Some (Open who (Near k code)))
near_read bits who k code size small some few is =
    let text = spells bits code size is in
    short_read bits (codes "open" ∷ decimal who ∷ codes "near" ∷ decimal k ∷ hex_text code ∷ []) (
      known_word (codes "open") refl refl refl,
      (
        number_word who (omega (arith, small)),
        (
          known_word (codes "near") refl refl refl,
          (number_word k (omega (arith, few)), (code_word bits code size.some size.few is text, tt)),
        ),
      ),
    ) (omega arith)
    ∙ ap (λ (found : Option ℕ). something (asking_of (λ k code. Near k code) found (nearest_of (decimal k)) (code_form bits (hex_text code))))
    (who_again who small)
    ∙ ap (λ (found : Option ℕ). something (asking_of (λ k code. Near k code) (Some who) found (code_form bits (hex_text code))))
    (nearest_again k some few)
    ∙ ap (λ (found : Option (List ℕ)). something (asking_of (λ k code. Near k code) (Some who) (Some k) found)) (code_again bits code is text)

-- ---- queries and builds

pub advance_read : (bits query shard : ℕ) → query ≤ 99999 → shard ≤ 99
    → event_reading bits (event_line (Advance query shard)) ≡ Ok (Some (Advance query shard))
advance_read bits query shard few within =
    short_read bits (codes "advance" ∷ decimal query ∷ decimal shard ∷ []) (
      known_word (codes "advance") refl refl refl,
      (
        number_word query (omega (arith, few)),
        (number_word shard (omega (arith, within)), tt),
      ),
    ) (omega arith)
    ∙ ap (λ (found : Option ℕ). something (event_naming (λ both. Advance both.0 both.1) (two_of found (shard_form (decimal shard)))))
    (query_again query few)
    ∙ ap (λ (found : Option ℕ). something (event_naming (λ both. Advance both.0 both.1) (two_of (Some query) found))) (shard_again shard within)

pub pin_read : (bits query shard : ℕ) → query ≤ 99999 → shard ≤ 99
    → event_reading bits (event_line (Pin query shard)) ≡ Ok (Some (Pin query shard))
pin_read bits query shard few within =
    short_read bits (codes "pin" ∷ decimal query ∷ decimal shard ∷ [])
    (known_word (codes "pin") refl refl refl, (number_word query (omega (arith, few)), (number_word shard (omega (arith, within)), tt))) (omega arith)
    ∙ ap (λ (found : Option ℕ). something (event_naming (λ both. Pin both.0 both.1) (two_of found (shard_form (decimal shard)))))
    (query_again query few)
    ∙ ap (λ (found : Option ℕ). something (event_naming (λ both. Pin both.0 both.1) (two_of (Some query) found))) (shard_again shard within)

pub poll_read : (bits query shard budget : ℕ) → query ≤ 99999 → shard ≤ 99 → 1 ≤ budget → budget ≤ 65536
    → event_reading bits (event_line (Poll query shard budget)) ≡ Ok (Some (Poll query shard budget))
poll_read bits query shard budget few within some most =
    short_read bits (codes "poll" ∷ decimal query ∷ decimal shard ∷ decimal budget ∷ []) (
      known_word (codes "poll") refl refl refl,
      (
        number_word query (omega (arith, few)),
        (
          number_word shard (omega (arith, within)),
          (number_word budget (omega (arith, most)), tt),
        ),
      ),
    ) (omega arith)
    ∙ ap (λ (found : Option ℕ). something (poll_of found (shard_form (decimal shard)) (count_of (decimal budget)))) (query_again query few)
    ∙ ap (λ (found : Option ℕ). something (poll_of (Some query) found (count_of (decimal budget)))) (shard_again shard within)
    ∙ ap (λ (found : Option ℕ). something (poll_of (Some query) (Some shard) found)) (count_again budget some most)

-- the one number of an event
pub give_read : (bits query : ℕ) → query ≤ 99999 → event_reading bits (event_line (Give query)) ≡ Ok (Some (Give query))
give_read bits query few =
    short_read bits (codes "give" ∷ decimal query ∷ [])
    (known_word (codes "give") refl refl refl, (number_word query (omega (arith, few)), tt)) (omega arith)
    ∙ ap (λ (found : Option ℕ). something (event_naming (λ query. Give query) (ok_or found (bad_word 2)))) (query_again query few)

pub cancel_read : (bits query : ℕ) → query ≤ 99999 → event_reading bits (event_line (Cancel query)) ≡ Ok (Some (Cancel query))
cancel_read bits query few =
    short_read bits (codes "cancel" ∷ decimal query ∷ [])
    (known_word (codes "cancel") refl refl refl, (number_word query (omega (arith, few)), tt)) (omega arith)
    ∙ ap (λ (found : Option ℕ). something (event_naming (λ query. Cancel query) (ok_or found (bad_word 2)))) (query_again query few)

pub follow_read : (bits shard : ℕ) → shard ≤ 99 → event_reading bits (event_line (Follow shard)) ≡ Ok (Some (Follow shard))
follow_read bits shard few =
    short_read bits (codes "follow" ∷ decimal shard ∷ [])
    (known_word (codes "follow") refl refl refl, (number_word shard (omega (arith, few)), tt)) (omega arith)
    ∙ ap (λ (found : Option ℕ). something (event_naming (λ shard. Follow shard) (ok_or found (bad_word 2)))) (shard_again shard few)

pub swap_read : (bits shard : ℕ) → shard ≤ 99 → event_reading bits (event_line (Swap shard)) ≡ Ok (Some (Swap shard))
swap_read bits shard few =
    short_read bits (codes "swap" ∷ decimal shard ∷ [])
    (known_word (codes "swap") refl refl refl, (number_word shard (omega (arith, few)), tt)) (omega arith)
    ∙ ap (λ (found : Option ℕ). something (event_naming (λ shard. Swap shard) (ok_or found (bad_word 2)))) (shard_again shard few)

pub build_read : (bits shard rows : ℕ) → shard ≤ 99 → 1 ≤ rows → rows ≤ 65536
    → event_reading bits (event_line (BuildStep shard rows)) ≡ Ok (Some (BuildStep shard rows))
build_read bits shard rows within some most =
    short_read bits (codes "build" ∷ decimal shard ∷ decimal rows ∷ [])
    (known_word (codes "build") refl refl refl, (number_word shard (omega (arith, within)), (number_word rows (omega (arith, most)), tt)))
    (omega arith)
    ∙ ap (λ (found : Option ℕ). something (event_naming (λ both. BuildStep both.0 both.1) (two_of found (count_of (decimal rows)))))
    (shard_again shard within)
    ∙ ap (λ (found : Option ℕ). something (event_naming (λ both. BuildStep both.0 both.1) (two_of (Some shard) found)))
    (count_again rows some most)

-- ---- layouts

-- digits, commas and slashes make a word
layout_byte : (byte : ℕ) → is_layout_byte byte ≡ true
    → (not (byte == 32) ≡ true) × ((nat_le 32 byte && nat_le byte 126) ≡ true)
layout_byte byte is = (grind (arith, nat_tests), grind (arith, nat_tests))

bytes_word : (text : List ℕ) → HasLayoutBytes text
    → (list_all (λ byte. not (byte == 32)) text ≡ true) × (is_printable text ≡ true)
bytes_word [] all = (refl, refl)
bytes_word (byte ∷ bytes) all =
    let split = and_parts (is_layout_byte byte) (list_all is_layout_byte bytes) all in
    let first = layout_byte byte split.0 in
    let rest = bytes_word bytes split.1 in (
      and_from (not (byte == 32)) (list_all (λ byte. not (byte == 32)) bytes) first.0 rest.0,
      and_from (nat_le 32 byte && nat_le byte 126) (is_printable bytes) first.1 rest.1,
    )

-- the text of a layout is a word: one of no bytes has other parts
some_text : (text : List ℕ) (bits : ℕ) → IsLayoutText text → 1 ≤ length text
some_text [] bits is = let never : false ≡ true = is in cc
some_text (byte ∷ bytes) bits is = omega arith

-- a layout is read from its text
layout_again : (layout : Laid) → IsReadBack layout → layout_form layout.bits (layout_text layout.parts) ≡ Some layout.parts
layout_again layout back =
    let text = layout_text layout.parts in
    ap (λ (b : Bool). cond (b && is_none (fault_of layout.bits (spelled text))) (Some (spelled text)) None) back.faultless.text_of_grammar
    ∙ ap (λ (fault : Option LayoutFault). cond (is_none fault) (Some (spelled text)) None) back.faultless.faultless
    ∙ ap (λ (parts : List (List ℕ)). Some parts) back.same_parts

pub repart_read : ((layout : Laid) → IsLaid layout → IsReadBack layout) → ((layout : Laid) → IsLaid layout → HasLayoutBytes (layout_text layout.parts))
    → (bits shard : ℕ) (layout : Laid) → shard ≤ 99 → IsLayoutFor bits layout
    → event_reading bits (event_line (BuildStart shard layout)) ≡ Ok (Some (BuildStart shard layout))
repart_read reads_back bytes bits shard layout within is =
    let text = layout_text layout.parts in
    let back = reads_back layout is.laid in
    let word = bytes_word text (bytes layout is.laid) in
    let first = known_word (codes "repart") refl refl refl in
    let number = number_word shard (omega (arith, within)) in
    line_read bits (codes "repart" ∷ decimal shard ∷ text ∷ []) (
      first.one,
      (
        number.one,
        (
          record {
            plain = word.0;
            printable = word.1;
            some = some_text text bits back.faultless.text_of_grammar;
          },
          tt,
        ),
      ),
    ) (omega (arith, first.short, number.short, layout_short layout is.laid))
    ∙ ap (λ (found : Option ℕ). something (event_repart_of bits found (layout_form bits text))) (shard_again shard within)
    ∙ ap (λ (found : Option (List (List ℕ))). something (event_repart_of bits (Some shard) found))
    (ap (λ (n : ℕ). layout_form n text) (sym is.bits_are) ∙ layout_again layout back)
    ∙ ap (λ (found : Laid). Ok (Some (BuildStart shard found))) (sym (laid_again bits layout is.bits_are))

-- ---- every event

pub event_read : ((layout : Laid) → IsLaid layout → IsReadBack layout) → ((layout : Laid) → IsLaid layout → HasLayoutBytes (layout_text layout.parts))
    → (bits : ℕ) (event : Event) → IsCodeSize bits → IsSpelledEvent bits event → event_reading bits (event_line event) ≡ Ok (Some event)
event_read back bytes bits (Commit who (Add key code)) size is = add_read bits who key code size is.0 is.1 is.2
event_read back bytes bits (Commit who (Delete key)) size is = delete_read bits who key is.0 is.1
event_read back bytes bits (Open who (Range tau code)) size is = range_read bits who tau code size is.0 is.1 is.2
event_read back bytes bits (Open who (Near k code)) size is = near_read bits who k code size is.0 is.1 is.2 is.3
event_read back bytes bits (Advance query shard) size is = advance_read bits query shard is.0 is.1
event_read back bytes bits (Pin query shard) size is = pin_read bits query shard is.0 is.1
event_read back bytes bits (Poll query shard budget) size is = poll_read bits query shard budget is.0 is.1 is.2 is.3
event_read back bytes bits (Give query) size is = give_read bits query is
event_read back bytes bits (Cancel query) size is = cancel_read bits query is
event_read back bytes bits (BuildStart shard layout) size is = repart_read back bytes bits shard layout is.0 is.1
event_read back bytes bits (BuildStep shard rows) size is = build_read bits shard rows is.0 is.1 is.2
event_read back bytes bits (Follow shard) size is = follow_read bits shard is
event_read back bytes bits (Swap shard) size is = swap_read bits shard is
