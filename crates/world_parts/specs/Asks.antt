-- The program's questions in the definitions' words.
use Rattle.std.specs.Prelude.{ℕ, List, take}
use Rattle.hamming_model.specs.Codes.{StandsFor}
use Rattle.hamming_model.specs.Scan as scan
use Rattle.world_parts.specs.declared.ask.Ask.{Ask}
use Rattle.world_parts.specs.declared.ask.Ask.TheVariants.{Range, Near}

-- what the words of a question's code keep
abbrev pub stored_code : {W : ℕ} → Ask W → List ℕ
stored_code (Range tau code) = code
stored_code (Near number code) = code

-- a question with the first so many bits of its code
abbrev pub ask_seen : {W : ℕ} → ℕ → Ask W → scan.Ask
ask_seen bits (Range tau code) = scan.Range tau (take bits code)
ask_seen bits (Near number code) = scan.Near number (take bits code)

-- the words of a question stand for a code of so many bits
abbrev pub IsStoredAsk : {W : ℕ} → ℕ → Ask W → Type 0
IsStoredAsk {W} bits ask = StandsFor W bits (stored_code ask) (take bits (stored_code ask))
