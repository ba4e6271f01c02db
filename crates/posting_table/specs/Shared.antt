-- What a change of one list of a bucket leaves. No public clause cites this module.
use Rattle.std.specs.Prelude.{ℕ, List, [], ◌∷◌, ◌++◌, slice_index_or, slice_set}
use Rattle.posting_table.specs.Tables.{Loses, key_at}

-- a list of a bucket
abbrev pub list_at : List (List (ℕ × List ℕ)) → ℕ → List (ℕ × List ℕ)
list_at lists at = slice_index_or lists at []

-- the bucket with one entry more at the end of a list
abbrev pub with_last : List (List (ℕ × List ℕ)) → ℕ → ℕ × List ℕ → List (List (ℕ × List ℕ))
with_last lists at entry = slice_set lists at (list_at lists at ++ entry ∷ [])

-- the entry at a place is gone, whatever its key is
pub record LosesAt (old new : List (ℕ × List ℕ)) (place : ℕ) : Type 0 where
  pub of : (key : ℕ) → key_at old place key → Loses key old new
