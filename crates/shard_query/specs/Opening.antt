-- What a range query on a version asks, and where it stands when it is opened.
use Rattle.std.specs.Prelude.{◌≡◌, ℕ, ◌+◌, ◌*◌, ◌≤◌, true, false, List, [], length, take, Option, None}
use Rattle.hamming_model.specs.Scan.{scan}
use Rattle.threshold_model.specs.Bounds.{values_of_parts}
use Rattle.threshold_model.specs.Vectors.{IsChoice, IsLeast, row_counts}
use Rattle.shard_version.specs.Contents.{Contents}
use Rattle.hit_source.specs.Sources.{Asked, Standing}

-- the code that the words of a query keep
abbrev pub opened_code : Contents → List ℕ → List ℕ
opened_code version stored = take version.layout.bits stored

-- the counts of a version's rows at the parts of its layout round a query
abbrev pub opened_counts : Contents → List ℕ → ℕ → ℕ → ℕ
opened_counts version query = row_counts version.rows version.layout.parts query

-- a range query's hits are the scan of the version's rows; its one radius has the first of the
-- cheapest vectors as its plan and the least cost as its bound
pub record AsksRange (version : Contents) (query : List ℕ) (tau room : ℕ) (a : Asked) : Type 0 where
  pub hits : a.hits ≡ scan version.rows query tau
  pub rows : a.rows ≡ length version.rows
  pub near : a.near ≡ false
  pub room_is : a.room ≡ room
  pub farthest : a.farthest ≡ version.layout.bits
  pub vector : (given : Option ℕ)
      → IsChoice (opened_counts version query) tau (length version.layout.parts) (a.plan given).0
  pub cost : (given : Option ℕ)
      → IsLeast (opened_counts version query) tau (length version.layout.parts) (a.plan given).1
  pub bound : (given : Option ℕ)
      → IsLeast (opened_counts version query) tau (length version.layout.parts) (a.bound given)

-- a range query that has read and given nothing: its units are at most the values of all parts,
-- twice its bound and one, and where its bound is 0 it has ended
pub record BeginsRange (version : Contents) (a : Asked) (s : Standing) : Type 0 where
  pub given : s.given ≡ 0
  pub waiting : s.waiting ≡ []
  pub reads : s.reads ≡ 0
  pub begun : s.begun ≡ None
  pub units : s.units ≤ values_of_parts version.layout.parts + 2 * a.bound None + 1
  pub ended : a.bound None ≡ 0 → s.ended ≡ true
