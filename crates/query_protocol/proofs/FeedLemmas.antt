-- No line feed stands within a reply.
use Rattle.std.proofs.Common.{◌≡◌, ℕ, suc, ℤ, pos, negsuc, All, ◌+◌, ◌*◌, ◌<◌, ◌^◌, ◌==◌, ◌&&◌, not, nat_le, Bool, true, false, List, [], ◌∷◌, ◌++◌, if◌then◌else◌, length, codes, decimal, refl, subst, arith}
use Rattle.std.proofs.lemmas.Bool.Decides.{nat_tests}
use Rattle.std.proofs.lemmas.Fmt.{digits_decimal}
use Rattle.std.proofs.lemmas.List.Folds.{list_all-append}
use Rattle.std.proofs.lemmas.Str.Parse.{numerals_by_value, tells_digits, digit_from_value}
use Rattle.std.specs.Char.{digit_char}
use Rattle.std.specs.Int.{IsInRange}
use Rattle.std.specs.List.{list_all}
use Rattle.std.specs.Str.Parse.{AllDigits}
use Rattle.line_forms.specs.Forms.{is_tag, is_letter_or_digit}
use Rattle.part_layout.specs.Text.{layout_text, is_layout_byte, HasLayoutBytes, IsTextOfLayout}
use Rattle.part_layout.specs.Laid.{Laid, IsLaid}
use Rattle.query_protocol.specs.Replies as reply
use Rattle.query_protocol.specs.Replies.{LineReply, hex_text, reply_text, fault_text, threshold_text, thresholds_text}
use Rattle.query_protocol.specs.Written.{has_no_feed, IsWritten, IsSigned64}
use Rattle.query_protocol.specs.declared.bad.Bad.{Bad}

-- two tests that are true
both : (a b : Bool) → a ≡ true → b ≡ true → (a && b) ≡ true
both true true first second = refl
both true false first second = second
both false b first second = first

-- one text after another
pub no_feed_joined : (a b : List ℕ) → has_no_feed a ≡ true → has_no_feed b ≡ true → has_no_feed (a ++ b) ≡ true
no_feed_joined a b first second =
    rw (list_all-append (λ byte. not (byte == 10)) a b) (both (has_no_feed a) (has_no_feed b) first second)

-- a digit is no line feed
digit_no_feed : (byte : ℕ) → IsInRange 48 57 byte → not (byte == 10) ≡ true
digit_no_feed byte range = grind (arith, nat_tests)

-- digits
digits_no_feed : (digits : List ℕ) → AllDigits 10 digits → has_no_feed digits ≡ true
digits_no_feed [] all = refl
digits_no_feed (byte ∷ bytes) all =
    both (not (byte == 10)) (has_no_feed bytes) (digit_no_feed byte (digit_from_value byte all.0)) (digits_no_feed bytes all.1)

-- a number
pub number_no_feed : (number : ℕ) → number < 2 ^ 64 → has_no_feed (decimal number) ≡ true
number_no_feed number small =
    digits_no_feed (decimal number) (digits_decimal (numerals_by_value (AllDigits 10) tells_digits) number small)

-- a byte that passes the test for a line feed
feed_is : (byte : ℕ) → (byte == 10) ≡ true → byte ≡ 10
feed_is byte passed = grind (arith, nat_tests)

-- a letter or a digit, by whether it is a line feed
letter_step : (byte : ℕ) (feed : Bool) → (byte == 10) ≡ feed → is_letter_or_digit byte ≡ true → not feed ≡ true
letter_step byte true passed letter =
    let IsLetter : ℕ → Type 0 = λ (n : ℕ). is_letter_or_digit n ≡ true in subst IsLetter (feed_is byte passed) letter
letter_step byte false passed letter = refl

-- a letter or a digit is no line feed
letter_no_feed : (byte : ℕ) → is_letter_or_digit byte ≡ true → not (byte == 10) ≡ true
letter_no_feed byte letter = letter_step byte (byte == 10) refl letter

-- two tests that are true together
parts : (a b : Bool) → (a && b) ≡ true → (a ≡ true) × (b ≡ true)
parts true b all = (refl, all)
parts false b all = (all, cc)

-- letters and digits
letters_no_feed : (bytes : List ℕ) → list_all is_letter_or_digit bytes ≡ true → has_no_feed bytes ≡ true
letters_no_feed [] all = refl
letters_no_feed (byte ∷ bytes) all =
    let split = parts (is_letter_or_digit byte) (list_all is_letter_or_digit bytes) all in
    both (not (byte == 10)) (has_no_feed bytes) (letter_no_feed byte split.0) (letters_no_feed bytes split.1)

-- a tag
pub tag_no_feed : (tag : List ℕ) → is_tag tag ≡ true → has_no_feed tag ≡ true
tag_no_feed tag is =
    letters_no_feed tag
    (parts (nat_le 1 (length tag) && nat_le (length tag) 16) (list_all is_letter_or_digit tag) is).1

-- a byte of a layout's text, by whether it is a line feed
layout_step : (byte : ℕ) (feed : Bool) → (byte == 10) ≡ feed → is_layout_byte byte ≡ true → not feed ≡ true
layout_step byte true passed is =
    let Is : ℕ → Type 0 = λ (n : ℕ). is_layout_byte n ≡ true in subst Is (feed_is byte passed) is
layout_step byte false passed is = refl

-- digits, commas and slashes
marks_no_feed : (bytes : List ℕ) → HasLayoutBytes bytes → has_no_feed bytes ≡ true
marks_no_feed [] all = refl
marks_no_feed (byte ∷ bytes) all =
    let split = parts (is_layout_byte byte) (list_all is_layout_byte bytes) all in
    both (not (byte == 10)) (has_no_feed bytes) (layout_step byte (byte == 10) refl split.0) (marks_no_feed bytes split.1)

-- the texts of layouts have only such bytes
abbrev AllHaveLayoutBytes : Type 0
AllHaveLayoutBytes = (layout : Laid) → IsLaid layout → HasLayoutBytes (layout_text layout.parts)

-- the text of a layout
layout_no_feed : AllHaveLayoutBytes → (text : List ℕ) → IsTextOfLayout text → has_no_feed text ≡ true
layout_no_feed each text is = rw is.2 (marks_no_feed (layout_text is.0.parts) (each is.0 is.1))

-- two texts after one
and_two : (a b c : List ℕ) → has_no_feed a ≡ true → has_no_feed b ≡ true → has_no_feed c ≡ true → has_no_feed (a ++ b ++ c) ≡ true
and_two a b c first second third = no_feed_joined (a ++ b) c (no_feed_joined a b first second) third

-- a text with three parts of its own, in the order word, text, word, text
four : (a b c d : List ℕ) → has_no_feed a ≡ true → has_no_feed b ≡ true → has_no_feed c ≡ true → has_no_feed d ≡ true
    → has_no_feed (a ++ b ++ c ++ d) ≡ true
four a b c d first second third fourth =
    no_feed_joined (a ++ b ++ c) d (no_feed_joined (a ++ b) c (no_feed_joined a b first second) third) fourth

-- a threshold
threshold_no_feed : (threshold : ℤ) → IsSigned64 threshold → has_no_feed (threshold_text threshold) ≡ true
threshold_no_feed (pos number) small =
    no_feed_joined (codes " ") (decimal number) refl (number_no_feed number small)
threshold_no_feed (negsuc number) small =
    no_feed_joined (codes " -") (decimal (suc number)) refl (number_no_feed (suc number) small)

-- thresholds
thresholds_no_feed : (thresholds : List ℤ) → All IsSigned64 thresholds → has_no_feed (thresholds_text thresholds) ≡ true
thresholds_no_feed [] all = refl
thresholds_no_feed (threshold ∷ others) all =
    let first : IsSigned64 threshold = all 0 (pos 0) (omega arith) in
    let rest : All IsSigned64 others = λ at other inside. all (suc at) other (omega arith) in
    no_feed_joined (threshold_text threshold) (thresholds_text others) (threshold_no_feed threshold first)
    (thresholds_no_feed others rest)

-- the digit of a value below sixteen
digit_of_value : (value : ℕ) → value < 16 → not (digit_char value == 10) ≡ true
digit_of_value value small = grind (arith, nat_tests)

-- hexadecimal digits
hex_no_feed : (code : List ℕ) → All (λ bit. bit < 2) code → has_no_feed (hex_text code) ≡ true
unfolding hex_text
hex_no_feed [] all = refl
hex_no_feed (a ∷ []) all = refl
hex_no_feed (a ∷ b ∷ []) all = refl
hex_no_feed (a ∷ b ∷ c ∷ []) all = refl
hex_no_feed (a ∷ b ∷ c ∷ d ∷ code) all =
    let first : a < 2 = all 0 0 (omega arith) in
    let second : b < 2 = all 1 0 (omega arith) in
    let third : c < 2 = all 2 0 (omega arith) in
    let fourth : d < 2 = all 3 0 (omega arith) in
    both (not (digit_char (8 * a + 4 * b + 2 * c + d) == 10)) (has_no_feed (hex_text code))
    (digit_of_value (8 * a + 4 * b + 2 * c + d) (omega arith))
    (hex_no_feed code (λ at other inside. all (suc (suc (suc (suc at)))) other (omega arith)))

-- the text of a fault
fault_no_feed : (fault : Bad) → fault.number < 2 ^ 64 → fault.word < 2 ^ 64 → has_no_feed (fault_text fault) ≡ true
fault_no_feed fault number word = step (fault.number == 5)
  where
    front : has_no_feed (codes "bad " ++ decimal fault.number) ≡ true
    front = no_feed_joined (codes "bad ") (decimal fault.number) refl (number_no_feed fault.number number)

    back : has_no_feed (codes " " ++ decimal fault.word) ≡ true
    back = no_feed_joined (codes " ") (decimal fault.word) refl (number_no_feed fault.word word)

    step : (five : Bool) → has_no_feed (codes "bad " ++ decimal fault.number ++ (if five then codes " " ++ decimal fault.word else [])) ≡ true
    step true = no_feed_joined (codes "bad " ++ decimal fault.number) (codes " " ++ decimal fault.word) front back
    step false = no_feed_joined (codes "bad " ++ decimal fault.number) [] front refl

-- the text of a reply
pub reply_no_feed : AllHaveLayoutBytes → (one : LineReply) → IsWritten one → has_no_feed (reply_text one) ≡ true
reply_no_feed each (reply.Added key at) is =
    four (codes "added ") (decimal key) (codes " at ") (decimal at) refl (number_no_feed key is.0) refl (number_no_feed at is.1)
reply_no_feed each (reply.Deleted key at) is =
    four (codes "deleted ") (decimal key) (codes " at ") (decimal at) refl (number_no_feed key is.0) refl (number_no_feed at is.1)
reply_no_feed each (reply.Absent key at) is =
    four (codes "absent ") (decimal key) (codes " at ") (decimal at) refl (number_no_feed key is.0) refl (number_no_feed at is.1)
reply_no_feed each (reply.Code key code at) is =
    no_feed_joined (codes "code " ++ decimal key ++ codes " " ++ hex_text code ++ codes " at ") (decimal at)
    (no_feed_joined (codes "code " ++ decimal key ++ codes " " ++ hex_text code) (codes " at ")
    (four (codes "code ") (decimal key) (codes " ") (hex_text code) refl (number_no_feed key is.0) refl (hex_no_feed code is.1)) refl)
    (number_no_feed at is.2)
reply_no_feed each (reply.Cancelled tag count) is =
    four (codes "cancelled ") tag (codes " ") (decimal count) refl (tag_no_feed tag is.0) refl (number_no_feed count is.1)
reply_no_feed each (reply.Closed tag count) is =
    four (codes "closed ") tag (codes " ") (decimal count) refl (tag_no_feed tag is.0) refl (number_no_feed count is.1)
reply_no_feed each (reply.Taken key at) is =
    four (codes "taken ") (decimal key) (codes " at ") (decimal at) refl (number_no_feed key is.0) refl (number_no_feed at is.1)
reply_no_feed each (reply.Full at) is = no_feed_joined (codes "full at ") (decimal at) refl (number_no_feed at is)
reply_no_feed each (reply.Open tag at) is =
    four (codes "open ") tag (codes " at ") (decimal at) refl (tag_no_feed tag is.0) refl (number_no_feed at is.1)
reply_no_feed each (reply.Hit tag dist key) is =
    no_feed_joined (codes "hit " ++ tag ++ codes " " ++ decimal dist ++ codes " ") (decimal key)
    (no_feed_joined (codes "hit " ++ tag ++ codes " " ++ decimal dist) (codes " ")
    (four (codes "hit ") tag (codes " ") (decimal dist) refl (tag_no_feed tag is.0) refl (number_no_feed dist is.1)) refl)
    (number_no_feed key is.2)
reply_no_feed each (reply.More tag) is = no_feed_joined (codes "more ") tag refl (tag_no_feed tag is)
reply_no_feed each (reply.Done tag count) is =
    four (codes "done ") tag (codes " ") (decimal count) refl (tag_no_feed tag is.0) refl (number_no_feed count is.1)
reply_no_feed each (reply.Cost tag reads bound) is =
    no_feed_joined (codes "cost " ++ tag ++ codes " reads " ++ decimal reads ++ codes " bound ") (decimal bound)
    (no_feed_joined (codes "cost " ++ tag ++ codes " reads " ++ decimal reads) (codes " bound ")
    (four (codes "cost ") tag (codes " reads ") (decimal reads) refl (tag_no_feed tag is.0) refl (number_no_feed reads is.1)) refl)
    (number_no_feed bound is.2)
reply_no_feed each (reply.Plan tag shard cost thresholds) is =
    no_feed_joined (codes "plan " ++ tag ++ codes " " ++ decimal shard ++ codes " cost " ++ decimal cost) (thresholds_text thresholds)
    (no_feed_joined (codes "plan " ++ tag ++ codes " " ++ decimal shard ++ codes " cost ") (decimal cost)
    (no_feed_joined (codes "plan " ++ tag ++ codes " " ++ decimal shard) (codes " cost ")
    (four (codes "plan ") tag (codes " ") (decimal shard) refl (tag_no_feed tag is.0) refl (number_no_feed shard is.1)) refl)
    (number_no_feed cost is.2)) (thresholds_no_feed thresholds is.3)
reply_no_feed each (reply.Layout shard text) is =
    four (codes "layout ") (decimal shard) (codes " ") text refl (number_no_feed shard is.0) refl (layout_no_feed each text is.1)
reply_no_feed each (reply.Building shard left at) is =
    no_feed_joined (codes "building " ++ decimal shard ++ codes " left " ++ decimal left ++ codes " at ") (decimal at)
    (no_feed_joined (codes "building " ++ decimal shard ++ codes " left " ++ decimal left) (codes " at ")
    (four (codes "building ") (decimal shard) (codes " left ") (decimal left) refl (number_no_feed shard is.0) refl
    (number_no_feed left is.1)) refl) (number_no_feed at is.2)
reply_no_feed each (reply.Built shard left) is =
    four (codes "built ") (decimal shard) (codes " left ") (decimal left) refl (number_no_feed shard is.0) refl
    (number_no_feed left is.1)
reply_no_feed each (reply.Swapped shard at) is =
    four (codes "swapped ") (decimal shard) (codes " at ") (decimal at) refl (number_no_feed shard is.0) refl
    (number_no_feed at is.1)
reply_no_feed each (reply.Moved shard front at) is =
    no_feed_joined (codes "moved " ++ decimal shard ++ codes " front " ++ decimal front ++ codes " shard ") (decimal at)
    (no_feed_joined (codes "moved " ++ decimal shard ++ codes " front " ++ decimal front) (codes " shard ")
    (four (codes "moved ") (decimal shard) (codes " front ") (decimal front) refl (number_no_feed shard is.0) refl
    (number_no_feed front is.1)) refl) (number_no_feed at is.2)
reply_no_feed each (reply.Searched shard before after swaps at text) is =
    let to_before = codes "searched " ++ decimal shard ++ codes " before " ++ decimal before in
    let to_after = to_before ++ codes " after " ++ decimal after in
    let to_swaps = to_after ++ codes " swaps " ++ decimal swaps in
    let to_at = to_swaps ++ codes " at " ++ decimal at in
    and_two to_at (codes " ") text
    (and_two to_swaps (codes " at ") (decimal at)
    (and_two to_after (codes " swaps ") (decimal swaps)
    (and_two to_before (codes " after ") (decimal after)
    (four (codes "searched ") (decimal shard) (codes " before ") (decimal before) refl (number_no_feed shard is.0) refl
    (number_no_feed before is.1))
    refl (number_no_feed after is.2)) refl (number_no_feed swaps is.3)) refl (number_no_feed at is.4)) refl
    (layout_no_feed each text is.5)
reply_no_feed each (reply.Bad fault) is = fault_no_feed fault is.0 is.1
reply_no_feed each reply.NoMemory is = refl
