-- Polls of many sources, each on its own ledger.
use Rattle.std.specs.Prelude.{◌≡◌, ℕ, ◌≤◌, ◌<◌, Bool, true, false, List, [], length, Option, slice_index, slice_index_or}
use Rattle.std.specs.Bool.{MatchBool}
use Rattle.hit_source.specs.declared.polled.Polled.{Polled}
use Rattle.hit_source.specs.Sources.{Asked, Standing}
use Rattle.hit_source.specs.Moves.{Polls}
use Rattle.scatter_gather.specs.Gathering.{Source, source_of, sources_of}
use Rattle.scatter_gather.specs.Due.{least_floor, may_have_next}

-- a source and its ledger before and after a poll
pub record PollsOnce {S : Type 0} (asks : S → Asked) (stands : S → Standing) (budget : ℕ)
    (old : S) (from : ℕ)
    (new : S) (to : ℕ) : Type 0 where
  pub asked : asks new ≡ asks old
  pub answer : Polled
  pub polls : Polls budget (asks old) (stands old) (stands new) from to answer

-- R holds of each source that is marked and of its ledger, and the others are as they were
pub record EachMarked {S : Type 0} (R : S → ℕ → S → ℕ → Type 0) (marks : List Bool) (hs : List S)
    (ss : List ℕ)
    (hs' : List S) (ss' : List ℕ) : Type 0 where
  pub at : (i : ℕ) (d : S) → i < length hs → MatchBool (slice_index_or marks i false)
      (R (slice_index_or hs i d) (slice_index_or ss i 0) (slice_index_or hs' i d)
      (slice_index_or ss' i 0))
      ((slice_index_or hs' i d ≡ slice_index_or hs i d)
      × (slice_index_or ss' i 0 ≡ slice_index_or ss i 0))

-- no hit waits at a source that is marked
pub record MarkedAreEmpty {S : Type 0} (stands : S → Standing) (marks : List Bool)
    (hs : List S) : Type 0 where
  pub at : (i : ℕ) (d : S) → i < length hs → slice_index_or marks i false ≡ true
      → (stands (slice_index_or hs i d)).waiting ≡ []

-- the sources that may have the next hit are marked
pub record IsMarked (sources : List Source) (marks : List Bool) : Type 0 where
  pub at : (i : ℕ) (d : Source) → i < length sources
      → slice_index_or marks i false
      ≡ may_have_next (least_floor sources) (slice_index_or sources i d)

-- each source that may have the next hit was polled on its own ledger,
-- and the others are as they were
pub record PollsAll {S : Type 0} (asks : S → Asked) (stands : S → Standing) (budget : ℕ)
    (old new : List S)
    (from to : List ℕ) : Type 0 where
  pub count : length new ≡ length old
  pub at : (i : ℕ) (d : S) → i < length old
      → MatchBool
      (may_have_next (least_floor (sources_of asks stands old))
      (source_of asks stands (slice_index_or old i d)))
      (PollsOnce asks stands budget (slice_index_or old i d) (slice_index from i)
      (slice_index_or new i d) (slice_index to i))
      ((slice_index_or new i d ≡ slice_index_or old i d) × (slice_index to i ≡ slice_index from i))
  pub beyond : (i : ℕ) → length old ≤ i → slice_index to i ≡ slice_index from i

-- the sources that may have the next hit were polled with some budget
pub record PollsSome {S : Type 0} (asks : S → Asked) (stands : S → Standing) (old new : List S)
    (from to : List ℕ)
    : Type 0 where
  pub budget : ℕ
  pub polls : PollsAll asks stands budget old new from to

-- a source and its ledger before and after: polled where it may have the next hit,
-- else as they were
pub record PollsIfNext {S : Type 0} (asks : S → Asked) (stands : S → Standing) (budget : ℕ)
    (least : Option ℕ)
    (old : S) (from : ℕ) (new : S) (to : ℕ) : Type 0 where
  pub at : MatchBool (may_have_next least (source_of asks stands old))
      (PollsOnce asks stands budget old from new to)
      ((new ≡ old) × (to ≡ from))

-- the first n sources were polled where they may have the next hit, and the others are as they were
pub record PollsFirst {S : Type 0} (asks : S → Asked) (stands : S → Standing) (budget : ℕ)
    (least : Option ℕ) (n : ℕ)
    (old new : List S) (from to : List ℕ) : Type 0 where
  pub count : length new ≡ length old
  pub steps : length to ≡ length from
  pub at : (i : ℕ) (d : S) → i < n
      → PollsIfNext asks stands budget least (slice_index_or old i d) (slice_index from i)
      (slice_index_or new i d) (slice_index to i)
  pub later : (i : ℕ) (d : S) → n ≤ i → slice_index_or new i d ≡ slice_index_or old i d
  pub beyond : (i : ℕ) → n ≤ i → slice_index to i ≡ slice_index from i
