-- How a text is taken line by line. No public clause cites this module.
use Rattle.std.specs.Prelude.{◌≡◌, ℕ, ◌==◌, List, take, drop, ◌+◌, Some, position}

-- a line is what stands before the first line feed, and what follows it is left
pub record IsFirstLine (text line after : List ℕ) : Type 0 where
  pub place : ℕ
  pub feed : Some place ≡ position (λ byte. byte == 10) text
  pub line_is : line ≡ take place text
  pub after_is : after ≡ drop (place + 1) text
