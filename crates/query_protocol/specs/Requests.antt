-- What a line asks, or its first fault. Codes have just their own bits.
use Rattle.std.specs.Prelude.{ℕ, List, Option, Some, Result, Ok, Err}
use Rattle.query_protocol.specs.declared.bad.Bad.{Bad}

-- what a line asks, each code with its own bits
pub data LineRequest : Type 0 where
  Add : ℕ → List ℕ → LineRequest
  Del : ℕ → LineRequest
  Get : ℕ → LineRequest
  Range : List ℕ → ℕ → List ℕ → LineRequest
  Near : List ℕ → ℕ → List ℕ → LineRequest
  Next : List ℕ → ℕ → LineRequest
  Cost : List ℕ → LineRequest
  Plan : List ℕ → ℕ → LineRequest
  Cancel : List ℕ → LineRequest
  Layout : ℕ → LineRequest
  Repart : ℕ → List (List ℕ) → LineRequest
  Build : ℕ → LineRequest
  Swap : LineRequest
  Search : ℕ → ℕ → LineRequest
  Quit : LineRequest

-- what a line is read as: a request, nothing, or its first fault
abbrev pub LineReading : Type 0
LineReading = Result (Option LineRequest) Bad

-- a fault of the whole line
abbrev pub bad : ℕ → Bad
bad number = record { number = number; word = 0 }

-- the word that is the first not of its form
abbrev pub bad_word : ℕ → Bad
bad_word place = record { number = 5; word = place }

-- what is asked of what a request names, or its fault
abbrev pub request_naming : {A : Type 0} → (A → LineRequest) → Result A Bad → LineReading
request_naming ask (Ok named) = Ok (Some (ask named))
request_naming ask (Err fault) = Err fault
