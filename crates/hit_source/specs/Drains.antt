-- Taking the hits of a source.
use Rattle.std.specs.Prelude.{◌≡◌, ◌-◌, ◌≤◌, ◌++◌, true, List, length, take, drop, None}
use Rattle.hamming_model.specs.declared.hit.Hit.{Hit}
use Rattle.hit_source.specs.Sources.{Asked, Standing, reached}

-- the next hits were taken from a source, and put behind others
pub record TakesHits (a : Asked) (old new : Standing) (before after : List Hit) : Type 0 where
  pub rises : old.given ≤ new.given
  pub next : after ≡ before ++ take (new.given - old.given) (drop old.given a.hits)

-- all hits that were left were taken from a source, and put behind others, and it has ended
pub record Drains (a : Asked) (old new : Standing) (before after : List Hit) : Type 0 where
  pub all : after ≡ before ++ drop old.given a.hits
  pub given : new.given ≡ length a.hits
  pub ended : new.ended ≡ true
  pub none_left : new.floor ≡ None

-- a call that took hits and did no other work
pub record OnlyGives (old new : Standing) : Type 0 where
  pub reached : reached new ≡ reached old
  pub reads : new.reads ≡ old.reads
  pub ended : new.ended ≡ old.ended
  pub units : new.units ≡ old.units
