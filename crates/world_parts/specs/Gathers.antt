-- What calls do to the gathering of a query.
use Rattle.std.specs.Prelude.{◌≡◌, ◌⊎◌, ℕ, ◌<◌, ◌≤◌, true, false, List, length, map, Option, Some, None, slice_get}
use Rattle.std.specs.List.{AllByRecursion}
use Rattle.hamming_model.specs.declared.hit.Hit.{Hit}
use Rattle.hit_source.specs.Sources.{Asked, Standing, IsLawful}
use Rattle.hit_source.specs.declared.polled.Polled.{Polled}
use Rattle.scatter_gather.specs.Due.{is_due}
use Rattle.scatter_gather.specs.Gathering.{Gathered, next_hit, seen, source_of}
use Rattle.scatter_gather.specs.Heads.{MayGo}
use Rattle.scatter_gather.specs.Kept.{IsGathering}
use Rattle.scatter_gather.specs.Moves.{BeginsForNext, GivesOne, PollsOne}
use Rattle.world_model.specs.declared.told.Told.{Told}
use Rattle.world_model.specs.declared.told.Told.TheVariants as told
use Rattle.world_parts.specs.Sources.{QuerySource, question_asked, standing_told}
use Rattle.world_parts.specs.declared.held.Held.{Held}

-- the query with this gathering, which is known
abbrev pub with_gather : {W : ℕ} → Held W → Option (Gathered (QuerySource W)) → Held W
with_gather held gather =
    record held { gather = gather; gathered = record held.gathered { value = gather } }

-- every source is lawful
abbrev pub AreAllLawful : {S : Type 0} → (S → Asked) → (S → Standing) → Type 0
AreAllLawful {S} asks stands = (source : S) → IsLawful (asks source) (stands source)

-- ---- the next hit

-- the hit that may go was given, by its source
pub record GivesReadyHit {S : Type 0} (asks : S → Asked) (stands : S → Standing)
    (old new : Gathered S) (said : Told) : Type 0 where
  pub hit : Hit
  pub said_is : said ≡ told.Gave hit
  pub may_go : MayGo (seen asks stands old) hit
  pub next : next_hit (seen asks stands old) ≡ Some hit
  pub shard : ℕ
  pub gives : GivesOne asks stands shard old new hit
  pub holds : IsGathering (seen asks stands new)

-- none may go, and nothing changed
pub record HoldsBack {S : Type 0} (asks : S → Asked) (stands : S → Standing)
    (old new : Gathered S) : Type 0 where
  pub none : (hit : Hit) → MayGo (seen asks stands old) hit → ⊥
  pub same : new ≡ old

-- each of the sources has given all its hits and has ended
abbrev pub HaveNoFloors : {S : Type 0} → (S → Standing) → List S → Type 0
HaveNoFloors stands sources = AllByRecursion (λ source. source.floor ≡ None) (map stands sources)

-- every hit was given: the limit is reached, or each source has ended
pub record TellsEnd {S : Type 0} (asks : S → Asked) (stands : S → Standing)
    (old new : Gathered S) (said : Told) : Type 0 where
  pub said_is : said ≡ told.Ended old.given
  pub holds_back : HoldsBack asks stands old new
  pub over : (old.limit ≤ old.given) ⊎ HaveNoFloors stands old.sources
  pub whole : next_hit (seen asks stands old) ≡ None

-- a source has to be polled first
pub record TellsLater {S : Type 0} (asks : S → Asked) (stands : S → Standing)
    (old new : Gathered S) (said : Told) : Type 0 where
  pub said_is : said ≡ told.NotYet
  pub holds_back : HoldsBack asks stands old new
  pub goes_on : old.given < old.limit
  pub floor_left : HaveNoFloors stands old.sources → ⊥

-- what is told where the next hit of a gathering is asked for
abbrev pub TellsNext : {S : Type 0} → (S → Asked) → (S → Standing) → Gathered S → Gathered S
    → Told → Type 0
TellsNext asks stands old new said = GivesReadyHit asks stands old new said
    ⊎ (TellsEnd asks stands old new said ⊎ TellsLater asks stands old new said)

-- a query may be asked for its next hit, or for a poll: it has a gathering, of so many sources
pub record HasSources {W : ℕ} (held : Held W) (number : ℕ) : Type 0 where
  pub gather : Gathered (QuerySource W)
  pub is_there : held.gather ≡ Some gather
  pub is_known : held.gathered.value ≡ Some gather
  pub holds : IsGathering (seen question_asked standing_told gather)
  pub number_is : length gather.sources ≡ number
  pub limit : held.limit ≡ gather.limit

-- what is told where the next hit of a query is asked for
pub record GivesHeld {W : ℕ} (old new : Held W) (said : Told) : Type 0 where
  pub before : Gathered (QuerySource W)
  pub after : Gathered (QuerySource W)
  pub was : old.gathered.value ≡ Some before
  pub now : new ≡ with_gather old (Some after)
  pub tells : TellsNext question_asked standing_told before after said
  pub lawful : AreAllLawful {S = QuerySource W} question_asked standing_told

-- ---- polls

-- a source that is due was polled on its own ledger
pub record PollsDue {S : Type 0} (asks : S → Asked) (stands : S → Standing) (budget shard : ℕ)
    (old new : Gathered S) (from to : List ℕ) (said : Told) : Type 0 where
  pub answer : Polled
  pub said_is : said ≡ told.Polled answer
  pub due : (source : S) → slice_get old.sources shard ≡ Some source
      → is_due (seen asks stands old) (source_of asks stands source) ≡ true
  pub polls : PollsOne asks stands budget shard old new from to answer
  pub begins : BeginsForNext asks stands old new

-- one that isn't due wasn't, and nothing changed
pub record PollsNone {S : Type 0} (asks : S → Asked) (stands : S → Standing) (shard : ℕ)
    (old new : Gathered S) (from to : List ℕ) (said : Told) : Type 0 where
  pub said_is : said ≡ told.Held
  pub not_due : (source : S) → slice_get old.sources shard ≡ Some source
      → is_due (seen asks stands old) (source_of asks stands source) ≡ false
  pub same : new ≡ old
  pub ledgers : to ≡ from

-- what is told where a source is polled
abbrev pub PollsTold : {S : Type 0} → (S → Asked) → (S → Standing) → ℕ → ℕ
    → Gathered S → Gathered S → List ℕ → List ℕ → Told → Type 0
PollsTold asks stands budget shard old new from to said =
    PollsDue asks stands budget shard old new from to said
    ⊎ PollsNone asks stands shard old new from to said

-- what a poll of a source of a query does
pub record PollsHeld {W : ℕ} (budget shard : ℕ) (old new : Held W) (from to : List ℕ) (said : Told)
    : Type 0 where
  pub before : Gathered (QuerySource W)
  pub after : Gathered (QuerySource W)
  pub was : old.gathered.value ≡ Some before
  pub now : new ≡ with_gather old (Some after)
  pub polls : PollsTold question_asked standing_told budget shard before after from to said
  pub lawful : AreAllLawful {S = QuerySource W} question_asked standing_told
