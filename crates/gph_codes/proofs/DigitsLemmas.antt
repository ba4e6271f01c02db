-- Hexadecimal text: the bits that its digits spell, its first fault, and the digits that bytes are written in.
use Rattle.std.proofs.Common.{◌≡◌, ℕ, zero, suc, ◌+◌, ◌-◌, ◌*◌, ◌/◌, ◌%◌, ◌^◌, ◌<◌, ◌≤◌, ◌&&◌, ◌||◌, Bool, true, false, List, [], ◌∷◌, ◌++◌, length, take, drop, replicate, get_or, Option, Some, None, Result, Ok, Err, is_some, All, refl, sym, ap, ◌∙◌, arith, append_assoc, inl, inr}
use Rattle.std.specs.Prelude.{MatchResult, slice_index, nat_le}
use Rattle.std.specs.Char.{digit_value}
use Rattle.std.specs.List.{list_all}
use Rattle.std.proofs.lemmas.Bool.{and_parts, cases_lt, or_cases}
use Rattle.std.proofs.lemmas.Bool.Decides.{nat_tests}
use Rattle.std.proofs.lemmas.Grind.{flat_map-append}
use Rattle.std.proofs.lemmas.List.{length-take-le, take-take, take-replicate, drop-replicate, get_or-take, take_more}
use borrow.Author.Tests.{leb-true}
use Rattle.std.proofs.Math.Seq.{take-append-add, take-append_seam}
use Rattle.std.proofs.lemmas.List.Elements.{All-cons, All-nil}
use Rattle.hex.specs.Hex.{IsBytes, decode_of, decode_pairs, decode_sized, digit_or_error, encode_lower, encode_with, hex_digit_value, is_hex_digit, lower_digits, pair_value, value_at, ◌>>=◌}
use Rattle.hex.specs.declared.error.FromHexError.{FromHexError}
use Rattle.hex.specs.declared.error.FromHexError.TheVariants.{InvalidHexCharacter}
use Rattle.hex.proofs.HexLemmas.{decode_of-encode_lower, decode_of-ok, decode_of-even, decode_pairs-err, decode_sized-twice, length-encode_with}
use Rattle.hamming_model.specs.Codes.{StandsFor, bits_of, hex_code, padded}
use Rattle.gph_codes.specs.Digits.{IsFirstFault, IsHexDigit, IsLowerDigit, IsSpelled}
use Rattle.gph_codes.specs.Spelling.{Spells}
use Rattle.gph_codes.specs.Words.{byte_bits}
use Rattle.gph_codes.proofs.BitsLemmas.{binary-byte_bits, bits_of-add, bits_of-rest, byte_bits-zeros, flat_map_bits-take, length-flat_map_bits}

-- the value of a digit
value_of_digit : (c v : ℕ) → hex_digit_value c ≡ Some v → digit_value c ≡ v
value_of_digit c v h = grind (arith, nat_tests)

-- it is below 16
value_below : (c v : ℕ) → hex_digit_value c ≡ Some v → v < 16
value_below c v h = grind (arith)

-- a byte with no value is no digit
value_of_none : (c : ℕ) → hex_digit_value c ≡ None → 16 ≤ digit_value c
value_of_none c h = grind (arith, nat_tests)

digit_with : (c : ℕ) (o : Option ℕ) → hex_digit_value c ≡ o → is_some o ≡ true → digit_value c < 16
digit_with c (Some v) is h = let e = value_of_digit c v is in let below = value_below c v is in omega arith
digit_with c None is h = cc h

no_digit_with : (c : ℕ) (o : Option ℕ) → hex_digit_value c ≡ o → is_some o ≡ false → 16 ≤ digit_value c
no_digit_with c (Some v) is h = cc h
no_digit_with c None is h = value_of_none c is

-- a byte that has a value is a digit
digit_is : (c : ℕ) → is_hex_digit c ≡ true → IsHexDigit c
digit_is c h = digit_with c (hex_digit_value c) refl h

-- a byte that has none is not
digit_is_none : (c : ℕ) → is_hex_digit c ≡ false → 16 ≤ digit_value c
digit_is_none c h = no_digit_with c (hex_digit_value c) refl h

-- what an `Ok` after `>>=` shows
bind_ok : {A B : Type 0} (r : Result A FromHexError) (f : A → Result B FromHexError) (y : B)
    → (r >>= f) ≡ Ok y → (x : A) × (r ≡ Ok x) × (f x ≡ Ok y)
bind_ok (Ok x) f y h = (x, refl, h)
bind_ok (Err e) f y h = cc h

-- a digit that reads has that value
digit_read : (c i v : ℕ) (o : Option ℕ) → digit_or_error c i o ≡ Ok v → o ≡ Some v
digit_read c i v (Some w) h = cc
digit_read c i v None h = cc h

-- the bits of two digits are those of their byte
bits_of-pair : (high low : ℕ) → high < 16 → low < 16 → bits_of 8 (high * 16 + low) ≡ bits_of 4 high ++ bits_of 4 low
bits_of-pair high low below_high below_low =
    let top : (high * 16 + low) / 2 ^ 4 ≡ high = omega arith in
    let rest : (high * 16 + low) % 2 ^ 4 ≡ low = omega arith in
    let low_bits : bits_of 4 (high * 16 + low) ≡ bits_of 4 low = sym (bits_of-rest 4 4 (high * 16 + low) (omega arith)) ∙ ap (bits_of 4) rest in
    rw (bits_of-add 4 4 (high * 16 + low), top, low_bits) refl

abbrev ok_number : ℕ → Result ℕ FromHexError
ok_number number = Ok number

abbrev pub ok_bytes : List ℕ → Result (List ℕ) FromHexError
ok_bytes bytes = Ok bytes

-- two digits and those after them spell a byte and those after it
code_of_pair : (a b high low byte : ℕ) (rest tail bytes : List ℕ) → hex_digit_value a ≡ Some high → hex_digit_value b ≡ Some low
    → ok_number (high * 16 + low) ≡ Ok byte → ok_bytes (byte ∷ tail) ≡ Ok bytes
    → hex_code rest ≡ byte_bits tail → hex_code (a ∷ b ∷ rest) ≡ byte_bits bytes
code_of_pair a b high low byte rest tail bytes read_a read_b is whole more =
    let list : bytes ≡ byte ∷ tail = cc in
    let sum : byte ≡ high * 16 + low = cc in
    rw (
      list,
      sum,
      value_of_digit a high read_a,
      value_of_digit b low read_b,
      bits_of-pair high low (value_below a high read_a) (value_below b low read_b),
      more,
      append_assoc,
    ) refl

-- digits spell the bits of the bytes that they decode to
pub code_of_pairs : (i : ℕ) (text bytes : List ℕ) → decode_pairs i text ≡ Ok bytes → hex_code text ≡ byte_bits bytes
unfolding decode_pairs
code_of_pairs i [] bytes h = let e : [] ≡ bytes = cc in rw (← e) refl
code_of_pairs i (a ∷ []) bytes h = cc h
code_of_pairs i (a ∷ b ∷ rest) bytes h =
    let pair = bind_ok (pair_value a b i) _ bytes h in
    let high = bind_ok (value_at a i) _ pair.0 pair.1 in
    let low = bind_ok (value_at b (i + 1)) _ pair.0 high.2 in
    let more = bind_ok (decode_pairs (i + 2) rest) _ bytes pair.2 in
    code_of_pair a b high.0 low.0 pair.0 rest more.0 bytes (digit_read a i high.0 (hex_digit_value a) high.1)
    (digit_read b (i + 1) low.0 (hex_digit_value b) low.1) low.2 more.2 (code_of_pairs (i + 2) rest more.0 more.1)

-- one of bytes that are all digits
pub digit_at : (text : List ℕ) (place : ℕ) → list_all is_hex_digit text ≡ true → place < length text → is_hex_digit (get_or text place 0) ≡ true
digit_at [] place all below = absurd (omega (arith, below))
digit_at (byte ∷ text) zero all below = (and_parts (is_hex_digit byte) (list_all is_hex_digit text) all).0
digit_at (byte ∷ text) (suc place) all below =
    digit_at text place (and_parts (is_hex_digit byte) (list_all is_hex_digit text) all).1 (omega (arith, below))

-- no digits spell no bytes
pub no_pairs : decode_pairs 0 [] ≡ Ok []
unfolding decode_pairs
no_pairs = refl

-- a pair of digits and those after it
with_pair : (x y i byte : ℕ) (text bytes : List ℕ) → pair_value x y i ≡ Ok byte → decode_pairs (i + 2) text ≡ Ok bytes
    → decode_pairs i (x ∷ y ∷ text) ≡ Ok (byte ∷ bytes)
unfolding decode_pairs
with_pair x y i byte text bytes pair more = rw (pair, more) refl

last_pair : (i a b high low : ℕ) → hex_digit_value a ≡ Some high → hex_digit_value b ≡ Some low → pair_value a b i ≡ Ok (high * 16 + low)
last_pair i a b high low read_a read_b = rw (read_a, read_b) refl

-- one pair of digits more
pub pair_more : (i : ℕ) (text bytes : List ℕ) (a b high low : ℕ) → decode_pairs i text ≡ Ok bytes
    → hex_digit_value a ≡ Some high → hex_digit_value b ≡ Some low
    → decode_pairs i (text ++ a ∷ b ∷ []) ≡ Ok (bytes ++ (high * 16 + low) ∷ [])
unfolding decode_pairs
pair_more i [] bytes a b high low h read_a read_b =
    let e : [] ≡ bytes = cc in
    with_pair a b i (high * 16 + low) [] [] (last_pair i a b high low read_a read_b) refl
    ∙ ap (λ l. ok_bytes (l ++ (high * 16 + low) ∷ [])) e
pair_more i (x ∷ []) bytes a b high low h read_a read_b = cc h
pair_more i (x ∷ y ∷ text) bytes a b high low h read_a read_b =
    let pair = bind_ok (pair_value x y i) _ bytes h in
    let more = bind_ok (decode_pairs (i + 2) text) _ bytes pair.2 in
    let e : pair.0 ∷ more.0 ≡ bytes = cc more.2 in
    with_pair x y i pair.0 (text ++ a ∷ b ∷ []) (more.0 ++ (high * 16 + low) ∷ []) pair.1
    (pair_more (i + 2) text more.0 a b high low more.1 read_a read_b)
    ∙ ap (λ l. ok_bytes (l ++ (high * 16 + low) ∷ [])) e

-- the first bytes with two more
pub two_more : (text : List ℕ) (n : ℕ) → n + 2 ≤ length text
    → take (n + 2) text ≡ take n text ++ get_or text n 0 ∷ get_or text (n + 1) 0 ∷ []
two_more text n room =
    let last : n + 2 ≡ n + 1 + 1 = omega arith in
    ap (λ i. take i text) last ∙ take_more text (n + 1) 0 (omega (arith, room))
    ∙ ap (λ l. l ++ get_or text (n + 1) 0 ∷ []) (take_more text n 0 (omega (arith, room)))
    ∙ append_assoc (take n text) (get_or text n 0 ∷ []) (get_or text (n + 1) 0 ∷ [])

-- digits that spell bytes
read_ok : (text old new : List ℕ) (number : ℕ) (d : Result (List ℕ) FromHexError) → decode_of text ≡ d
    → Spells text number old new (Ok tt) → (front : List ℕ) × (decode_of text ≡ Ok front) × (new ≡ front ++ drop number old)
read_ok text old new number (Ok front) is spells = let told = rw is at spells in (front, is, told.1)
read_ok text old new number (Err fault) is spells = cc (rw is at spells)

-- digits that spell none
read_err : (text old new : List ℕ) (number : ℕ) (fault : FromHexError) (d : Result (List ℕ) FromHexError) → decode_of text ≡ d
    → Spells text number old new (Err fault) → decode_of text ≡ Err fault
read_err text old new number fault (Ok front) is spells = let told = rw is at spells in cc told.0
read_err text old new number fault (Err other) is spells = let same : fault ≡ other = cc (rw is at spells) in rw same is

-- what decoding into a part of a buffer tells
spells_as : (text old out : List ℕ) (number : ℕ) (answer : Result (Unit {0}) FromHexError) (d : Result (List ℕ) FromHexError) → decode_of text ≡ d
    → MatchResult d (λ bytes. (answer ≡ Ok tt) × (out ≡ bytes)) (λ e. answer ≡ Err e)
    → Spells text number old (out ++ drop number old) answer
spells_as text old out number answer (Ok bytes) is told = rw is (told.0, ap (λ front. front ++ drop number old) told.1)
spells_as text old out number answer (Err fault) is told = rw is told

pub spells_from : (text old out : List ℕ) (number room : ℕ) (answer : Result (Unit {0}) FromHexError) → length text ≡ 2 * number → room ≡ number
    → MatchResult (decode_sized text room) (λ bytes. (answer ≡ Ok tt) × (out ≡ bytes)) (λ e. answer ≡ Err e)
    → Spells text number old (out ++ drop number old) answer
spells_from text old out number room answer pairs same told =
    spells_as text old out number answer (decode_of text) refl (rw (same, decode_sized-twice text number pairs) at told)

-- a buffer of zeros
abbrev pub buffer : List ℕ
buffer = replicate 64 0

-- a text that was read spells a code
pub read_spelled : (bits : ℕ) (text old new : List ℕ) → length text ≡ bits / 4 → Spells text (bits / 8) old new (Ok tt) → IsSpelled bits text
read_spelled bits text old new size read =
    let front = read_ok text old new (bits / 8) (decode_of text) refl read in
    let told = decode_of-ok text front.0 front.1 in
    record { size = size; digits = λ k d below. digit_is (get_or text k d) (told.1 k d below) }

-- a text that was refused has a first fault, which the refusal names
pub read_refused : (bits : ℕ) (text old new : List ℕ) (fault : FromHexError) → bits % 8 ≡ 0 → length text ≡ bits / 4
    → Spells text (bits / 8) old new (Err fault)
    → (place : ℕ) × (fault ≡ InvalidHexCharacter (slice_index text place) place) × IsFirstFault bits text place
read_refused bits text old new fault whole size refused =
    let even : length text % 2 ≡ 0 = omega arith in
    let err = read_err text old new (bits / 8) fault (decode_of text) refl refused in
    let told = decode_pairs-err 0 text fault even (sym (decode_of-even text even) ∙ err) in
    let place : 0 + told.0 ≡ told.0 = omega arith in
    let sized = length-take-le told.0 text (omega arith) in (
      told.0,
      rw place at told.1,
      record {
        size = size;
        in_text = told.2;
        is_none = digit_is_none (slice_index text told.0) told.3;
        before = λ k below. digit_is (slice_index text k) (rw (get_or-take told.0 text k 0 below) at (told.4 k 0 (omega arith)));
      },
    )

-- a text has one first fault
pub one_fault : (bits a b : ℕ) (text : List ℕ) → IsFirstFault bits text a → IsFirstFault bits text b → a ≡ b
one_fault bits a b text first second =
    elim (cases_lt a b) [
      | inl below ↦ let digit = second.before a below in let none = first.is_none in absurd (omega arith)
      | inr above ↦
          elim (cases_lt b a) [
            | inl below ↦ let digit = first.before b below in let none = second.is_none in absurd (omega arith)
            | inr same ↦ omega arith
          ]
    ]

-- a text with a fault spells no code
pub fault_spells_none : (bits at : ℕ) (text : List ℕ) → IsFirstFault bits text at → IsSpelled bits text → ⊥
fault_spells_none bits at text fault spelled =
    let digit = spelled.digits at 0 fault.in_text in
    let none = fault.is_none in
    omega arith

-- the words of the bytes read stand for the code
pub read_stands : (words bits : ℕ) (text new kept : List ℕ) → words ≤ 8 → bits % 8 ≡ 0 → bits ≤ 64 * words → length text ≡ bits / 4
    → Spells text (bits / 8) (replicate 64 0) new (Ok tt) → kept ≡ byte_bits (take (8 * words) new)
    → StandsFor words bits kept (hex_code text)
read_stands words bits text new kept few whole room size read is =
    let front = read_ok text (replicate 64 0) new (bits / 8) (decode_of text) refl read in
    let told = decode_of-ok text front.0 front.1 in
    let even : length text % 2 ≡ 0 = omega arith in
    let code : hex_code text ≡ byte_bits front.0 = code_of_pairs 0 text front.0 (sym (decode_of-even text even) ∙ front.1) in
    let sized : length front.0 ≡ bits / 8 = omega arith in
    let long : length (byte_bits front.0) ≡ 8 * length front.0 = length-flat_map_bits 8 front.0 in
    let zero : ℕ = 0 in
    let rest : new ≡ front.0 ++ replicate (64 - bits / 8) zero = front.2 ∙ ap (λ zeros. front.0 ++ zeros) (drop-replicate (bits / 8) 64 zero) in
    let fewer : 8 * words - bits / 8 ≤ 64 - bits / 8 = omega arith in
    let first : take (8 * words) (front.0 ++ replicate (64 - bits / 8) zero) ≡ front.0 ++ replicate (8 * words - bits / 8) zero =
    (let cut : 8 * words ≡ length front.0 + (8 * words - bits / 8) = omega arith in
    ap (λ n. take n (front.0 ++ replicate (64 - bits / 8) zero)) cut
    ∙ take-append-add front.0 (replicate (64 - bits / 8) zero) (8 * words - bits / 8)
    ∙ ap (λ zeros. front.0 ++ zeros) (take-replicate (8 * words - bits / 8) (64 - bits / 8) zero fewer)) in
    let zeros : 8 * (8 * words - bits / 8) ≡ 64 * words - length (byte_bits front.0) = omega arith in
    record {
      is_code = record { size = rw code (omega arith); binary = rw code (binary-byte_bits front.0) };
      is_padded =
          is ∙ ap (λ bytes. byte_bits (take (8 * words) bytes)) rest ∙ ap byte_bits first
          ∙ flat_map-append (bits_of 8) front.0 (replicate (8 * words - bits / 8) zero)
          ∙ ap (λ tail. byte_bits front.0 ++ tail) (byte_bits-zeros (8 * words - bits / 8) ∙ ap (λ n. replicate n zero) zeros)
          ∙ ap (padded (64 * words)) (sym code);
    }

-- ---- written digits

-- whether a byte is a lower-case digit
abbrev is_lower : ℕ → Bool
is_lower c = (nat_le 48 c && nat_le c 57) || (nat_le 97 c && nat_le c 102)

is_lower-told : (c : ℕ) → is_lower c ≡ true → IsLowerDigit c
is_lower-told c h = elim (or_cases (nat_le 48 c && nat_le c 57) (nat_le 97 c && nat_le c 102) h) [
  | inl digit ↦ let parts = and_parts (nat_le 48 c) (nat_le c 57) digit in inl (leb-true 48 c parts.0, leb-true c 57 parts.1)
  | inr letter ↦ let parts = and_parts (nat_le 97 c) (nat_le c 102) letter in inr (leb-true 97 c parts.0, leb-true c 102 parts.1)
]

-- the first digits of the table are lower case
all_lower : ℕ → Bool
all_lower zero = true
all_lower (suc n) = is_lower (slice_index lower_digits n) && all_lower n

all_lower-at : (n d : ℕ) → all_lower n ≡ true → d < n → is_lower (slice_index lower_digits d) ≡ true
unfolding all_lower
all_lower-at zero d h below = absurd (omega arith)
all_lower-at (suc n) d h below =
    let parts = and_parts (is_lower (slice_index lower_digits n)) (all_lower n) h in
    elim (cases_lt d n) [
      | inl before ↦ all_lower-at n d parts.1 before
      | inr top ↦ let e : d ≡ n = omega arith in rw e parts.0
    ]

-- each digit of the table is lower case
lower_at : (d : ℕ) → d < 16 → IsLowerDigit (slice_index lower_digits d)
unfolding all_lower
lower_at d below = is_lower-told (slice_index lower_digits d) (all_lower-at 16 d refl below)

-- bytes are written in lower case
pub encode_is_lower : (bytes : List ℕ) → IsBytes bytes → All IsLowerDigit (encode_lower bytes)
unfolding encode_with
encode_is_lower [] fit = All-nil IsLowerDigit
encode_is_lower (byte ∷ bytes) fit =
    let below : byte < 256 = fit 0 in
    All-cons IsLowerDigit (slice_index lower_digits (byte / 16)) (slice_index lower_digits (byte % 16) ∷ encode_lower bytes)
    (lower_at (byte / 16) (omega arith))
    (All-cons IsLowerDigit (slice_index lower_digits (byte % 16)) (encode_lower bytes) (lower_at (byte % 16) (omega arith))
    (encode_is_lower bytes (λ i. fit (suc i))))

-- bytes are written as digits that spell their bits
pub code_of_encode : (bytes : List ℕ) → IsBytes bytes → hex_code (encode_lower bytes) ≡ byte_bits bytes
code_of_encode bytes fit =
    let even : length (encode_lower bytes) % 2 ≡ 0 = let len = length-encode_with lower_digits bytes in omega arith in
    code_of_pairs 0 (encode_lower bytes) bytes (sym (decode_of-even (encode_lower bytes) even) ∙ decode_of-encode_lower bytes fit)

-- the first bytes of words that stand for a code have its bits
pub written_code : (words bits : ℕ) (bytes kept code : List ℕ) → bits % 8 ≡ 0 → bits ≤ 64 * words
    → byte_bits (take (8 * words) bytes) ≡ kept → StandsFor words bits kept code → byte_bits (take (bits / 8) bytes) ≡ code
written_code words bits bytes kept code whole room is stands =
    let size = stands.is_code.size in
    let within : bits / 8 ≤ 8 * words = omega arith in
    let all : 8 * (bits / 8) ≡ length code = omega arith in
    let cut : take (bits / 8) (take (8 * words) bytes) ≡ take (bits / 8) bytes = take-take (bits / 8) (8 * words) bytes within in
    rw (← cut, flat_map_bits-take 8 (bits / 8) (take (8 * words) bytes), is, stands.is_padded, all)
    (take-append_seam code (replicate (64 * words - length code) 0))
