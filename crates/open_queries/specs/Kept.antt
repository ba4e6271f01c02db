-- What is true of an open query at every moment. One public clause cites it: that of an opening.
use Rattle.std.specs.Prelude.{◌≡◌, ℕ, ◌≤◌, ◌⊎◌, ◌&&◌, nat_le, Bool, true, false, None}
use Rattle.std.specs.Prelude.{List, [], ◌∷◌, length, map, take, sum_by}
use Rattle.std.specs.List.{AllByRecursion, list_all}
use Rattle.hit_source.specs.Sources.{Asked, Standing, IsFresh}
use Rattle.threshold_model.specs.Bounds.{last_distance}
use Rattle.scatter_gather.specs.Gathering.{Gathered, gathered}
use Rattle.scatter_gather.specs.Kept.{AreOneLength}
use Rattle.scatter_gather.specs.Moves.{BegunWithin}
use Rattle.open_queries.specs.declared.open_query.OpenQuery.{OpenQuery}
use Rattle.open_queries.specs.Queries.{whole_answer, IsFree}

-- every row is a hit of these sources, and there are as many as a limit
abbrev pub have_rows : List Asked → ℕ → Bool
have_rows asked limit = list_all (λ a. a.near) asked && nat_le limit (sum_by (λ a. a.rows) asked)

-- the sources are all ranges, or near queries whose rows reach the limit
abbrev pub AreOfOneKind : List Asked → ℕ → Type 0
AreOfOneKind asked limit =
    AllByRecursion (λ a. a.near ≡ false) asked ⊎ (have_rows asked limit ≡ true)

-- a gathering that has given nothing, of sources on codes of one length that have read nothing
pub record IsUntouched {S : Type 0} (asks : S → Asked) (stands : S → Standing)
    (gather : Gathered S) : Type 0 where
  pub is_new : gather ≡ gathered gather.sources gather.limit 0 None
  pub fresh : AllByRecursion (λ source. IsFresh (stands source)) gather.sources
  pub one_length : AreOneLength (map asks gather.sources)
  pub one_kind : AreOfOneKind (map asks gather.sources) gather.limit

-- the hits given are the first of the answer, and no source began a radius above the last one's
-- distance
pub record GivesFirst {S : Type 0} (asks : S → Asked) (stands : S → Standing)
    (gather : Gathered S) : Type 0 where
  pub given : gather.given ≤ length (whole_answer asks gather)
  pub last : gather.last ≡ last_distance (take gather.given (whole_answer asks gather))
  pub one_length : AreOneLength (map asks gather.sources)
  pub one_kind : AreOfOneKind (map asks gather.sources) gather.limit
  pub begun : BegunWithin stands gather.last gather.sources

-- the hits given of a query are the first of its answer, and all of them where it is done
pub record IsKept {S : Type 0} (asks : S → Asked) (stands : S → Standing) (query : OpenQuery S)
    : Type 0 where
  pub first : GivesFirst asks stands query.gather
  pub done : query.done ≡ true
      → query.gather.given ≡ length (whole_answer asks query.gather)

-- no two queries have one tag
abbrev pub HaveOwnTags : {S : Type 0} → List (OpenQuery S) → Type 0
HaveOwnTags [] = Unit {0}
HaveOwnTags (query ∷ queries) = IsFree queries query.tag × HaveOwnTags queries

-- each open query is so, and has a tag of its own
pub record AreKept {S : Type 0} (asks : S → Asked) (stands : S → Standing)
    (queries : List (OpenQuery S)) : Type 0 where
  pub each : AllByRecursion (IsKept asks stands) queries
  pub own : HaveOwnTags queries
