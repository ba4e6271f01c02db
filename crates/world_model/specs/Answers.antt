-- What any list of events answers: each query that ends has answered exactly the scan of its own
-- prefix.
use Rattle.std.specs.Prelude.{◌≡◌, ℕ, ◌≤◌, true, Bool, List, ◌++◌, length, map, take, Option, Some, None, slice_get}
use Rattle.hamming_model.specs.History.{JournalEntry}
use Rattle.hamming_model.specs.Scan.{Ask}
use Rattle.hamming_model.specs.declared.hit.Hit.{Hit}
use Rattle.threshold_model.specs.Bounds.{IsBoundOf, last_distance}
use Rattle.part_layout.specs.Laid.{Laid}
use Rattle.hit_source.specs.Sources.{Standing}
use Rattle.world_model.specs.Events.{Setting, Event}
use Rattle.world_model.specs.WorldState.{WorldState, WorldQuery, answer_on, pinned_version}
use Rattle.world_model.specs.Runs.{Answer, IsSoundRun, committed_entries, has_ended, hits_given, questions_from, TellOpenings}

-- a question with how many entries it stands on
abbrev pub question : WorldQuery → Ask × ℕ
question query = (query.ask, query.position)

-- the most postings that a query may read on a shard: those of the cheapest threshold vectors for
-- the version that it pinned there, at its radius, or at each up to the distance of its last hit
pub record IsPinnedBound (z : Setting) (history : List JournalEntry) (query : WorldQuery)
    (shard bound : ℕ) : Type 0 where
  pub layout : Laid
  pub is_pinned : slice_get query.pinned shard ≡ Some (Some layout)
  pub is_bound : IsBoundOf query.ask (pinned_version z history query shard layout).rows
      layout.parts (last_distance (answer_on z history query)) bound

-- the source of a query on a shard has read at most that
pub record ReadsWithinBound (z : Setting) (history : List JournalEntry) (query : WorldQuery)
    (shard : ℕ) (source : Standing) : Type 0 where
  pub bound : ℕ
  pub is_bound : IsPinnedBound z history query shard bound
  pub within : source.reads ≤ bound

-- how many hits of a query had been given before: none, where it wasn't opened
abbrev pub given_before : Option WorldQuery → ℕ
given_before None = 0
given_before (Some query) = query.given

-- what a query was given are the next hits of the answer on its own prefix, up to the last one
-- where it has ended; and each shard has read at most its bound
pub record AnswersItsPrefix (z : Setting) (history : List JournalEntry) (before : Option WorldQuery)
    (query : WorldQuery) (given : List Hit) (ended : Bool) : Type 0 where
  pub next : take query.given (answer_on z history query)
      ≡ take (given_before before) (answer_on z history query) ++ given
  pub within : query.given ≤ length (answer_on z history query)
  pub whole : ended ≡ true → query.given ≡ length (answer_on z history query)
  pub reads : (shard : ℕ) (source : Standing) → slice_get query.sources shard ≡ Some source
      → ReadsWithinBound z history query shard source

-- any list of events and its answers, from one state to another: each answer is that of its step,
-- and the state is sound between any two; the history has what was committed, and the queries are
-- those opened, each on all entries committed before it, as it was told; and each query has
-- answered its own prefix
pub record AnswersAll (z : Setting) (s : WorldState) (events : List Event) (answers : List Answer)
    (t : WorldState) : Type 0 where
  pub run : IsSoundRun z s events answers t
  pub history : t.history ≡ s.history ++ committed_entries events answers
  pub questions : map question t.queries
      ≡ map question s.queries ++ questions_from (length s.history) events answers
  pub openings : TellOpenings (length s.queries) (length s.history) events answers
  pub each : (number : ℕ) (query : WorldQuery) → slice_get t.queries number ≡ Some query
      → AnswersItsPrefix z t.history (slice_get s.queries number) query
      (hits_given number events answers) (has_ended number events answers)
