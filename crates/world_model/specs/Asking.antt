-- What the sources of a query are asked, and the gathering of them.
use Rattle.std.specs.Prelude.{◌≡◌, ℕ, ◌≤◌, min, Bool, true, false, List, length, map, take, Option, Some, IfSome, slice_get}
use Rattle.hamming_model.specs.History.{JournalEntry, rows_of}
use Rattle.hamming_model.specs.Scan.{Ask, Range, Near, scan}
use Rattle.threshold_model.specs.Bounds.{IsBoundOf, IsUnitsOf}
use Rattle.part_layout.specs.Laid.{Laid}
use Rattle.shard_version.specs.Contents.{Contents}
use Rattle.hit_source.specs.Sources.{Asked, Standing, IsFresh, IsLawful}
use Rattle.scatter_gather.specs.Gathering.{Source, Gathering}
use Rattle.world_model.specs.Events.{Setting}
use Rattle.world_model.specs.WorldState.{WorldQuery, pinned_version}

-- the code of a question
abbrev pub code_of : Ask → List ℕ
code_of (Range tau code) = code
code_of (Near number code) = code

-- how far a question looks, on codes of so many bits: a near one as far as there are codes
abbrev pub reach_of : ℕ → Ask → ℕ
reach_of bits (Range tau code) = tau
reach_of bits (Near number code) = bits

-- whether a question is for the nearest rows
abbrev pub asks_near : Ask → Bool
asks_near (Range tau code) = false
asks_near (Near number code) = true

-- what the source of a question on a version is asked, where so many hits may wait: all hits of the
-- version's rows in reach, in order, each read within the question's bound
pub record AsksOf (room : ℕ) (version : Contents) (ask : Ask) (a : Asked) : Type 0 where
  pub hits : a.hits ≡ scan version.rows (code_of ask) (reach_of version.layout.bits ask)
  pub rows : a.rows ≡ length version.rows
  pub near : a.near ≡ asks_near ask
  pub room_is : a.room ≡ room
  pub farthest : a.farthest ≡ version.layout.bits
  pub bound : (last : Option ℕ) → IfSome last (λ radius. radius ≤ version.layout.bits)
      → IsBoundOf ask version.rows version.layout.parts last (a.bound last)

-- the source of a query on a shard is asked on the version that the query pinned there
pub record SourceAsks (z : Setting) (history : List JournalEntry) (query : WorldQuery) (shard : ℕ)
    (a : Asked) : Type 0 where
  pub layout : Laid
  pub is_pinned : slice_get query.pinned shard ≡ Some (Some layout)
  pub asks : AsksOf z.room (pinned_version z history query shard layout) query.ask a

-- a source that has done nothing yet: its units of work are at most those of the question
pub record BeginsSource (z : Setting) (history : List JournalEntry) (query : WorldQuery) (shard : ℕ)
    (source : Standing) : Type 0 where
  pub asked : Asked
  pub asks : SourceAsks z history query shard asked
  pub lawful : IsLawful asked source
  pub fresh : IsFresh source
  pub most : ℕ
  pub units_of : IsUnitsOf z.bits query.ask
      (pinned_version z history query shard asks.layout).rows asks.layout.parts most
  pub units : source.units ≤ most

-- the greatest number of 64 bits
abbrev pub hits_most : ℕ
hits_most = 18446744073709551615

-- the most hits that a query on so many rows gives: a near one no more than it asks for and than
-- there are rows, a range as many as can be counted
abbrev pub most_given : ℕ → Ask → ℕ
most_given rows (Range tau code) = hits_most
most_given rows (Near number code) = min number rows

-- the gathering of a query: what each source is asked with where it stands, the most hits that the
-- query gives, and how many were given
pub record IsGatheringOf (z : Setting) (history : List JournalEntry) (query : WorldQuery)
    (g : Gathering) : Type 0 where
  pub asked : (shard : ℕ) (source : Source) → slice_get g.sources shard ≡ Some source
      → SourceAsks z history query shard source.asked
  pub standings : map (λ s. s.standing) g.sources ≡ query.sources
  pub limit : g.limit ≡ most_given (length (rows_of (take query.position history))) query.ask
  pub given : g.given ≡ query.given
