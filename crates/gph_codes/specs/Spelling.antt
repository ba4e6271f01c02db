-- What reading digits into a buffer leaves. No public clause cites this module.
use Rattle.std.specs.Prelude.{◌≡◌, ℕ, List, ◌++◌, drop, Result, Ok, Err, MatchResult}
use Rattle.hex.specs.Hex.{decode_of}
use Rattle.hex.specs.declared.error.FromHexError.{FromHexError}

-- digits read into the first bytes of a buffer: the bytes that they spell,
-- before the rest of the buffer, or their fault
abbrev pub Spells : List ℕ → ℕ → List ℕ → List ℕ → Result (Unit {0}) FromHexError → Type 0
Spells text number old new answer =
    MatchResult (decode_of text) (λ front. (answer ≡ Ok tt) × (new ≡ front ++ drop number old))
    (λ fault. answer ≡ Err fault)
