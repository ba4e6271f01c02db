-- What giving hits does to a gathering and to the sink. No public clause cites this module.
use Rattle.std.specs.Prelude.{◌≡◌, ℕ, ◌+◌, min, nat_lt, Bool, Option, Result, OnOk, IfOk}
use Rattle.std.specs.Prelude.{List, length, map, take, drop}
use Rattle.std.specs.Io.KnownBytes.{Appends}
use Rattle.hit_source.specs.Sources.{Asked, Standing}
use Rattle.line_io.specs.declared.source.Failed.{Failed}
use Rattle.query_protocol.specs.Replies.{text}
use Rattle.session_model.specs.QuerySteps.{hit_replies}
use Rattle.scatter_gather.specs.Gathering.{Gathered}
use Rattle.scatter_gather.specs.Moves.{ReadsRise}
use Rattle.open_queries.specs.Queries.{whole_answer}
use Rattle.open_queries.specs.Kept.{GivesFirst}
use Rattle.open_queries.specs.Writing.{Writes}

-- so many of the next hits of a gathering were given and written
pub record HasGiven {S : Type 0} (asks : S → Asked) (stands : S → Standing) (tag : List ℕ)
    (number : ℕ) (old new : Gathered S) (sink sink' : Option (List ℕ)) (from to : List ℕ)
    : Type 0 where
  pub asked : map asks new.sources ≡ map asks old.sources
  pub limit : new.limit ≡ old.limit
  pub ledgers : ReadsRise stands old.sources new.sources from to
  pub first : GivesFirst asks stands new
  pub given : new.given ≡ old.given + number
  pub wrote : Appends sink sink'
      (text (hit_replies tag (take number (drop old.given (whole_answer asks old)))))

-- the next hits of a gathering, at most so many, were given and written, and whether there are more
pub record GivesHits {S : Type 0} (asks : S → Asked) (stands : S → Standing) (tag : List ℕ)
    (count : ℕ) (old new : Gathered S) (sink sink' : Option (List ℕ)) (from to : List ℕ)
    (result : Result Bool Failed) : Type 0 where
  pub asked : map asks new.sources ≡ map asks old.sources
  pub limit : new.limit ≡ old.limit
  pub ledgers : ReadsRise stands old.sources new.sources from to
  pub first : GivesFirst asks stands new
  pub wrote : Writes sink sink' result
      (text (hit_replies tag (take count (drop old.given (whole_answer asks old)))))
  pub given : OnOk result (new.given ≡ min (old.given + count) (length (whole_answer asks old)))
  pub more : IfOk result
      (λ more. more ≡ nat_lt (old.given + count) (length (whole_answer asks old)))
