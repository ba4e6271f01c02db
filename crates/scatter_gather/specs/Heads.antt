-- The first of the hits that wait at some sources, and when it may go.
use Rattle.std.specs.Prelude.{◌≡◌, ℕ, ◌<◌, nat_le, Bool, true, false, List, take, length, Option, Some, None, IfSome, slice_index_or, if◌then◌else◌}
use Rattle.std.specs.Option.{MatchOption}
use Rattle.std.specs.List.{AllByRecursion}
use Rattle.std.specs.Ordering.{is_gt}
use Rattle.hamming_model.specs.declared.hit.Hit.{Hit}
use Rattle.hamming_model.specs.Scan.{hit_cmp}
use Rattle.hit_source.specs.Moves.{first_of}
use Rattle.scatter_gather.specs.Gathering.{Source, Gathering}
use Rattle.scatter_gather.specs.Due.{is_empty, any_may_have_next}

-- a source lets a hit go first: its own head isn't before it,
-- or none waits and its floor is greater, if it has one
abbrev pub LetsGo : Hit → Source → Type 0
LetsGo hit s =
    MatchOption (first_of s.standing.waiting)
    (IfSome s.standing.floor (λ floor. hit.dist < floor))
    (λ other. is_gt (hit_cmp hit other) ≡ false)

-- a hit is the head of some source, and every source lets it go first
pub record GoesFirst (sources : List Source) (hit : Hit) : Type 0 where
  pub shard : ℕ
  pub within : shard < length sources
  pub waits : (d : Source) → first_of (slice_index_or sources shard d).standing.waiting ≡ Some hit
  pub lets : AllByRecursion (LetsGo hit) sources

-- a hit may go where it goes first and the limit isn't reached
pub record MayGo (g : Gathering) (hit : Hit) : Type 0 where
  pub below : g.given < g.limit
  pub first : GoesFirst g.sources hit

-- the first hit that waits at a source, if one does, isn't before this one
abbrev pub HeadNotBefore : Hit → Source → Type 0
HeadNotBefore hit s =
    IfSome (first_of s.standing.waiting) (λ other. is_gt (hit_cmp hit other) ≡ false)

-- this hit is the first that waits at one source,
-- and among the first n sources none waits before it
pub record IsBestHead (sources : List Source) (n shard : ℕ) (hit : Hit) : Type 0 where
  pub within : shard < length sources
  pub waits : (d : Source) → first_of (slice_index_or sources shard d).standing.waiting ≡ Some hit
  pub first : AllByRecursion (HeadNotBefore hit) (take n sources)

-- the first of the hits that wait at the first n sources, with the number of its source
abbrev pub BestOf : List Source → ℕ → Option (ℕ × Hit) → Type 0
BestOf sources n None = AllByRecursion (λ s. first_of s.standing.waiting ≡ None) (take n sources)
BestOf sources n (Some best) = IsBestHead sources n best.0 best.1

-- the better of the best so far and the head of a source, if one waits
abbrev pub better : Option (ℕ × Hit) → ℕ → Option Hit → Option (ℕ × Hit)
better best shard None = best
better None shard (Some head) = Some (shard, head)
better (Some best) shard (Some head) =
    if is_gt (hit_cmp best.1 head) then Some (shard, head) else Some best

-- the floor of a source at which no hit waits
abbrev pub empty_floor : Source → Option ℕ
empty_floor s = if is_empty s.standing.waiting then s.standing.floor else None

-- the best head has to wait for a source at which none waits: its floor isn't greater
abbrev pub has_to_wait : Option (ℕ × Hit) → Option ℕ → Bool
has_to_wait best None = false
has_to_wait None (Some floor) = true
has_to_wait (Some best) (Some floor) = nat_le floor best.1.dist

-- the best head where it goes first; where none does, some source may have the next hit,
-- or no hit waits
pub record IsReadyHead (sources : List Source) (result : Option (ℕ × Hit)) : Type 0 where
  pub best : IfSome result (λ best. IsBestHead sources (length sources) best.0 best.1)
  pub held : MatchOption result
      (any_may_have_next sources ≡ false
      → AllByRecursion (λ s. first_of s.standing.waiting ≡ None) sources)
      (λ best. any_may_have_next sources ≡ false)
  pub goes : MatchOption result ((hit : Hit) → GoesFirst sources hit → ⊥)
      (λ best. GoesFirst sources best.1 × ((hit : Hit) → GoesFirst sources hit → hit ≡ best.1))
