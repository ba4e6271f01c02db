-- What the events on a query's sources do: a poll, and the giving of the next hit.
use Rattle.std.specs.Prelude.{◌≡◌, ℕ, ◌+◌, ◌<◌, ◌≤◌, ◌⊎◌, true, false, List, length, Option, Some, None, slice_get, slice_set}
use Rattle.std.specs.List.{AllByRecursion}
use Rattle.hamming_model.specs.History.{JournalEntry}
use Rattle.hamming_model.specs.declared.hit.Hit.{Hit}
use Rattle.hit_source.specs.Sources.{Standing, IsLawful}
use Rattle.hit_source.specs.Moves.{Polls, Pops}
use Rattle.hit_source.specs.declared.polled.Polled.{Polled}
use Rattle.scatter_gather.specs.Due.{is_due}
use Rattle.scatter_gather.specs.Gathering.{Source, Gathering}
use Rattle.scatter_gather.specs.Heads.{MayGo}
use Rattle.scatter_gather.specs.Kept.{IsUpTo}
use Rattle.scatter_gather.specs.Moves.{distance_of}
use Rattle.world_model.specs.declared.told.Told.{Told}
use Rattle.world_model.specs.declared.told.Told.TheVariants as told
use Rattle.world_model.specs.Asking.{IsGatheringOf}
use Rattle.world_model.specs.Events.{Setting}
use Rattle.world_model.specs.WorldState.{WorldState, WorldQuery, answer_on, with_query}

-- the query with so many hits given, and another source on a shard
abbrev pub with_source : WorldQuery → ℕ → ℕ → Standing → WorldQuery
with_source query given shard source =
    record query { given = given; sources = slice_set query.sources shard source }

-- a query with its gathering
pub record HasGathering (z : Setting) (s : WorldState) (number : ℕ) (query : WorldQuery)
    (g : Gathering) : Type 0 where
  pub is_query : slice_get s.queries number ≡ Some query
  pub gathers : IsGatheringOf z s.history query g

-- ---- polls

-- the distance of the next hit of the answer
abbrev pub next_distance : Setting → List JournalEntry → WorldQuery → Option ℕ
next_distance z history query =
    distance_of (slice_get (answer_on z history query) query.given)

-- a source was polled: it is lawful as before, and has begun no radius above the distance of the
-- next hit; nothing else changed
pub record PollsSource (z : Setting) (s : WorldState) (number shard budget : ℕ) (query : WorldQuery)
    (source : Source) (result : Polled) (t : WorldState) : Type 0 where
  pub new : Standing
  pub polls : Polls budget source.asked source.standing new source.standing.reads new.reads result
  pub lawful : IsLawful source.asked new
  pub begun : (new.begun ≡ source.standing.begun)
      ⊎ IsUpTo new.begun (next_distance z s.history query)
  pub after : t ≡ with_query s number (with_source query query.given shard new)

-- the query's source on a shard is polled exactly where it may have the next hit
pub record PollsAt (z : Setting) (s : WorldState) (number shard budget : ℕ) (said : Told)
    (t : WorldState) : Type 0 where
  pub query : WorldQuery
  pub g : Gathering
  pub source : Source
  pub has : HasGathering z s number query g
  pub is_source : slice_get g.sources shard ≡ Some source
  pub held : is_due g source ≡ false → (said ≡ told.Held) × (t ≡ s)
  pub polled : is_due g source ≡ true → (result : Polled) × (said ≡ told.Polled result)
      × PollsSource z s number shard budget query source result t

-- ---- giving

-- no hit may go yet
abbrev pub NoneMayGo : Gathering → Type 0
NoneMayGo g = (hit : Hit) → MayGo g hit → ⊥

-- no source has a floor: each gave all its hits and has ended
abbrev pub HaveNoFloor : List Standing → Type 0
HaveNoFloor sources = AllByRecursion (λ source. source.floor ≡ None) sources

-- the hit that may go is given, by its source: it is the next of the answer
pub record GivesHit (z : Setting) (s : WorldState) (number : ℕ) (query : WorldQuery) (g : Gathering)
    (said : Told) (t : WorldState) : Type 0 where
  pub hit : Hit
  pub may_go : MayGo g hit
  pub next : slice_get (answer_on z s.history query) query.given ≡ Some hit
  pub shard : ℕ
  pub source : Source
  pub is_source : slice_get g.sources shard ≡ Some source
  pub new : Standing
  pub pops : Pops source.standing new (Some hit)
  pub lawful : IsLawful source.asked new
  pub after : t ≡ with_query s number (with_source query (query.given + 1) shard new)
  pub said_is : said ≡ told.Gave hit

-- every hit of the answer was given
pub record EndsGiving (z : Setting) (s : WorldState) (query : WorldQuery) (g : Gathering)
    (said : Told) (t : WorldState) : Type 0 where
  pub none : NoneMayGo g
  pub ended : (g.limit ≤ query.given) ⊎ HaveNoFloor query.sources
  pub whole : query.given ≡ length (answer_on z s.history query)
  pub same : t ≡ s
  pub said_is : said ≡ told.Ended query.given

-- a source has to be polled first
pub record AwaitsPoll (s : WorldState) (query : WorldQuery) (g : Gathering) (said : Told)
    (t : WorldState) : Type 0 where
  pub none : NoneMayGo g
  pub goes_on : query.given < g.limit
  pub floor_left : HaveNoFloor query.sources → ⊥
  pub same : t ≡ s
  pub said_is : said ≡ told.NotYet

-- the next hit is given, or all were, or it isn't known yet
pub record GivesNext (z : Setting) (s : WorldState) (number : ℕ) (said : Told)
    (t : WorldState) : Type 0 where
  pub query : WorldQuery
  pub g : Gathering
  pub has : HasGathering z s number query g
  pub gives : GivesHit z s number query g said t
      ⊎ (EndsGiving z s query g said t ⊎ AwaitsPoll s query g said t)
