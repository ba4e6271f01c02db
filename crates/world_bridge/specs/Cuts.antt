-- A front in its codes alone.
use Rattle.std.specs.Prelude.{ℕ}
use Rattle.hamming_model.specs.Recoded.{cut_history}
use Rattle.commit_journal.specs.Fronts.{FrontState, front_of}

-- a front with its entries in codes of so many bits; its number and its session aren't told
abbrev pub cut_front : ℕ → FrontState → FrontState
cut_front bits front = front_of 0 0 front.older (cut_history bits front.entries)
