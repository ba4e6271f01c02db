-- Open queries: which has a tag, what becomes of the list of them, and what each is asked.
use Rattle.std.specs.Prelude.{◌≡◌, ℕ, ◌<◌, ◌≤◌, false, map, Option}
use Rattle.std.specs.Prelude.{List, ◌∷◌, ◌++◌, length, take, slice_index_or}
use Rattle.std.specs.List.{AllByRecursion}
use Rattle.std.specs.Str.{bytes_eq}
use Rattle.hamming_model.specs.declared.hit.Hit.{Hit}
use Rattle.hit_source.specs.Sources.{Asked, Standing}
use Rattle.threshold_model.specs.Bounds.{last_distance}
use Rattle.scatter_gather.specs.Gathering.{Gathered, merged}
use Rattle.open_queries.specs.declared.open_query.OpenQuery.{OpenQuery}

-- ---- one query

-- the answer of a gathering: the merge of what its sources are asked, cut at its limit
abbrev pub whole_answer : {S : Type 0} → (S → Asked) → Gathered S → List Hit
whole_answer asks gather = take gather.limit (merged (map asks gather.sources))

-- a query that was opened now
abbrev pub opened_query : {S : Type 0} → List ℕ → Gathered S → OpenQuery S
opened_query tag gather = record { tag = tag; gather = gather; done = false }

-- what the sources of a query are asked
abbrev pub asked_in : {S : Type 0} → (S → Asked) → OpenQuery S → List Asked
asked_in asks query = map asks query.gather.sources

-- the answer of a query
abbrev pub answer_in : {S : Type 0} → (S → Asked) → OpenQuery S → List Hit
answer_in asks query = whole_answer asks query.gather

-- the distance of the last hit that a query gave
abbrev pub last_in : {S : Type 0} → (S → Asked) → OpenQuery S → Option ℕ
last_in asks query = last_distance (take query.gather.given (answer_in asks query))

-- where the sources of a query stand
abbrev pub standings_in : {S : Type 0} → (S → Standing) → OpenQuery S → List Standing
standings_in stands query = map stands query.gather.sources

-- each source has read at most its bound for the whole answer
pub record ReadsWithin {S : Type 0} (asks : S → Asked) (stands : S → Standing) (query : OpenQuery S)
    : Type 0 where
  pub at : (shard : ℕ) (d : S) → shard < length query.gather.sources
      → (stands (slice_index_or query.gather.sources shard d)).reads
      ≤ (asks (slice_index_or query.gather.sources shard d)).bound
      (last_distance (answer_in asks query))

-- a query is as it was, but for the threshold vectors that its sources planned last
pub record IsSame {S : Type 0} (asks : S → Asked) (stands : S → Standing)
    (before after : OpenQuery S) : Type 0 where
  pub tag : after.tag ≡ before.tag
  pub done : after.done ≡ before.done
  pub limit : after.gather.limit ≡ before.gather.limit
  pub given : after.gather.given ≡ before.gather.given
  pub asked : asked_in asks after ≡ asked_in asks before
  pub standing : standings_in stands after ≡ standings_in stands before

-- ---- the list

-- no query has the tag
abbrev pub IsFree : {S : Type 0} → List (OpenQuery S) → List ℕ → Type 0
IsFree queries tag = AllByRecursion (λ query. bytes_eq query.tag tag ≡ false) queries

-- the first query of the tag is at a place
pub record IsFirstAt {S : Type 0} (queries : List (OpenQuery S)) (tag : List ℕ) (place : ℕ)
    : Type 0 where
  pub within : place < length queries
  pub is_first : IsFree (take place queries) tag
  pub has_tag : (query : OpenQuery S) → (slice_index_or queries place query).tag ≡ tag

-- a query has the tag
pub record IsUsed {S : Type 0} (queries : List (OpenQuery S)) (tag : List ℕ) : Type 0 where
  pub place : ℕ
  pub is_first : IsFirstAt queries tag place

-- the first query of the tag was changed, and no other
pub record Changes {S : Type 0} (old new : List (OpenQuery S)) (tag : List ℕ)
    (before after : OpenQuery S) : Type 0 where
  pub front : List (OpenQuery S)
  pub back : List (OpenQuery S)
  pub old_is : old ≡ front ++ before ∷ back
  pub new_is : new ≡ front ++ after ∷ back
  pub is_first : IsFree front tag
  pub has_tag : before.tag ≡ tag

-- the first query of the tag was taken out, and no other, and the tag is free
pub record Removes {S : Type 0} (old new : List (OpenQuery S)) (tag : List ℕ)
    (before : OpenQuery S) : Type 0 where
  pub front : List (OpenQuery S)
  pub back : List (OpenQuery S)
  pub old_is : old ≡ front ++ before ∷ back
  pub new_is : new ≡ front ++ back
  pub is_first : IsFree front tag
  pub freed : IsFree new tag
  pub has_tag : before.tag ≡ tag

-- a source stands behind each query for this shard
abbrev pub HaveShard : {S : Type 0} → List (OpenQuery S) → ℕ → Type 0
HaveShard queries shard = AllByRecursion (λ query. shard < length query.gather.sources) queries
