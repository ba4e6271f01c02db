-- Lemmas on where the next LF stands, and on the bytes up to it.
use Rattle.std.proofs.Common.{◌≡◌, ℕ, ◌+◌, ◌<◌, ◌≢◌, List, [], ◌∷◌, ◌++◌, length, take, drop}
use Rattle.std.proofs.Common.{get_or, refl, sym, ap, ◌∙◌, take-append-drop, append_assoc, arith}
use Rattle.std.proofs.lemmas.List.{take_more, length-take, get_or-take, get_or_default}
use Rattle.std.proofs.lemmas.Bool.{eqb-true, eq-eqb}
use Rattle.std.proofs.lemmas.List.Elements.{All-head, All-tail}
use Rattle.std.specs.Io.BufRead.{take_through}
use Rattle.memchr.specs.Find.{is_byte, Nowhere, NoneBefore, Passes}
use Rattle.byte_lines.specs.Lines.{line_feed, without_return, ended_lines, unended, HasNoEnd}
use Rattle.byte_lines.proofs.LinesLemmas.{not_feed, ended_lines-piece, unended-piece}

-- bytes without LF are taken whole
pub take_through-clean : (bytes : List ℕ) → HasNoEnd bytes → take_through line_feed bytes ≡ bytes
take_through-clean [] h = refl
take_through-clean (x ∷ xs) h =
    rw (not_feed x (All-head (λ b. b ≢ line_feed) x xs h))
    (ap (λ l. x ∷ l) (take_through-clean xs (All-tail (λ b. b ≢ line_feed) x xs h)))

-- with an LF behind them the bytes are taken with it
pub take_through-piece : (piece more : List ℕ) → HasNoEnd piece
    → take_through line_feed (piece ++ line_feed ∷ more) ≡ piece ++ line_feed ∷ []
take_through-piece [] more h = refl
take_through-piece (x ∷ xs) more h =
    rw (not_feed x (All-head (λ b. b ≢ line_feed) x xs h))
    (ap (λ l. x ∷ l) (take_through-piece xs more (All-tail (λ b. b ≢ line_feed) x xs h)))

-- the first LF of the bytes stands here
abbrev pub IsFeedAt : List ℕ → ℕ → Type 0
IsFeedAt bytes at = NoneBefore (Passes (is_byte line_feed) bytes) 0 (length bytes) at
    × Passes (is_byte line_feed) bytes at

-- a search that found no LF says so of each byte
pub clean_from_search : (bytes : List ℕ)
    → Nowhere (Passes (is_byte line_feed) bytes) 0 (length bytes) → HasNoEnd bytes
clean_from_search bytes h = λ (k d : ℕ) (lt : k < length bytes) (e : get_or bytes k d ≡ line_feed).
    h k (omega arith) lt (eq-eqb (get_or bytes k 0) line_feed (get_or_default bytes k 0 d lt ∙ e))

-- no byte before the first LF is one
pub clean_before : (bytes : List ℕ) (at : ℕ) → IsFeedAt bytes at → HasNoEnd (take at bytes)
clean_before bytes at found = λ (k d : ℕ) (lt : k < length (take at bytes)) e.
    let below : k < at = omega (arith, length-take at bytes) in
    let inside : k < length bytes = omega (arith, length-take at bytes) in
    let same : get_or bytes k 0 ≡ line_feed =
    get_or_default bytes k 0 d inside ∙ sym (get_or-take at bytes k d below) ∙ e in
    found.0.before k (omega arith) below (eq-eqb (get_or bytes k 0) line_feed same)

-- the bytes up to and with the first LF
pub taken_with_feed : (bytes : List ℕ) (at : ℕ) → IsFeedAt bytes at
    → take (at + 1) bytes ≡ take at bytes ++ line_feed ∷ []
taken_with_feed bytes at found =
    take_more bytes at 0 found.0.high
    ∙ ap (λ b. take at bytes ++ b ∷ []) (eqb-true (get_or bytes at 0) line_feed found.1)

-- they are what is taken up to the next LF
pub taken_through : (bytes : List ℕ) (at : ℕ) → IsFeedAt bytes at
    → take (at + 1) bytes ≡ take_through line_feed bytes
taken_through bytes at found =
    let whole : (take at bytes ++ line_feed ∷ []) ++ drop (at + 1) bytes ≡ bytes =
    ap (λ l. l ++ drop (at + 1) bytes) (sym (taken_with_feed bytes at found))
    ∙ take-append-drop (at + 1) bytes in
    let split : take at bytes ++ line_feed ∷ drop (at + 1) bytes ≡ bytes =
    sym (append_assoc (take at bytes) (line_feed ∷ []) (drop (at + 1) bytes)) ∙ whole in
    taken_with_feed bytes at found
    ∙ sym (take_through-piece (take at bytes) (drop (at + 1) bytes) (clean_before bytes at found))
    ∙ ap (λ l. take_through line_feed l) split

-- they end one line
pub line_taken : (raw bytes : List ℕ) (at : ℕ) → IsFeedAt bytes at
    → ended_lines raw (take (at + 1) bytes) ≡ without_return (raw ++ take at bytes) ∷ []
line_taken raw bytes at found =
    ap (λ l. ended_lines raw l) (taken_with_feed bytes at found)
    ∙ ended_lines-piece raw (take at bytes) [] (clean_before bytes at found)

-- and leave none begun
pub none_begun : (raw bytes : List ℕ) (at : ℕ) → IsFeedAt bytes at
    → unended raw (take (at + 1) bytes) ≡ []
none_begun raw bytes at found =
    ap (λ l. unended raw l) (taken_with_feed bytes at found) ∙ unended-piece raw (take at bytes) []
