-- What a session knows between two lines.
use Rattle.std.specs.Prelude.{ℕ, ◌&&◌, not, Bool, if◌then◌else◌}
use Rattle.std.specs.Prelude.{List, [], ◌∷◌, filter, Option, Some, None}
use Rattle.std.specs.Str.{bytes_eq}
use Rattle.hamming_model.specs.Scan.{Ask}

-- a query that was opened: its tag, the prefix of the history that it stands on, what it asks, the
-- layout that it pinned of each shard, how many of its hits were given, whether it was said that
-- all were, how many postings it has read on each shard, and whether it is closed
pub record Query : Type 0 where
  pub tag : List ℕ
  pub position : ℕ
  pub ask : Ask
  pub pinned : List (List (List ℕ))
  pub given : ℕ
  pub done : Bool
  pub reads : List ℕ
  pub closed : Bool

-- a layout that is being built for a shard, and how many of the shard's rows are left to place
pub record Build : Type 0 where
  pub shard : ℕ
  pub layout : List (List ℕ)
  pub left : ℕ

-- the session's number, the position of its last answer, every query that it opened, in order, the
-- layout of each shard, and the build that goes on, if there is one
pub record State : Type 0 where
  pub who : ℕ
  pub position : ℕ
  pub queries : List Query
  pub layouts : List (List (List ℕ))
  pub build : Option Build

-- a query is open
abbrev pub is_open : Query → Bool
is_open query = not query.closed

-- a query is open and has the tag
abbrev pub has_tag : List ℕ → Query → Bool
has_tag tag query = is_open query && bytes_eq query.tag tag

-- the open query of a tag
abbrev pub query_of : List ℕ → List Query → Option Query
query_of tag [] = None
query_of tag (query ∷ queries) = if has_tag tag query then Some query else query_of tag queries

-- the queries with this one in the place of the tag's open one
abbrev pub replaced : List ℕ → Query → List Query → List Query
replaced tag this [] = []
replaced tag this (query ∷ queries) =
    if has_tag tag query then this ∷ queries else query ∷ replaced tag this queries

-- the queries that are open, in order
abbrev pub open_queries : List Query → List Query
open_queries queries = filter is_open queries

-- a session with this number that has seen so many entries, where the shards have these layouts,
-- and that has opened and built nothing
abbrev pub new_session : ℕ → ℕ → List (List (List ℕ)) → State
new_session who position layouts =
    record { who = who; position = position; queries = []; layouts = layouts; build = None }
