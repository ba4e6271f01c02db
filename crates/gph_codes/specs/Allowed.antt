-- Which numbers of bits a code may have.
use Rattle.std.specs.Prelude.{◌≡◌, ℕ, ◌*◌, ◌%◌, ◌≤◌}

-- a code of so many bits is spelled by whole bytes and fits so many words of 64 bits
pub record IsAllowed (words bits : ℕ) : Type 0 where
  pub whole : bits % 8 ≡ 0
  pub some : 8 ≤ bits
  pub room : bits ≤ 64 * words
