-- What becomes of a session's queries as it goes on.
use Rattle.std.specs.Prelude.{◌≡◌, true, List, [], ◌∷◌}
use Rattle.session_model.specs.State.{Query}
use Rattle.session_model.specs.QuerySteps.{ReadsOn}

-- a query later on: the same question on the same rows and layouts, with no fewer postings read,
-- and no more where it was done
pub record IsLater (before after : Query) : Type 0 where
  pub tag : after.tag ≡ before.tag
  pub position : after.position ≡ before.position
  pub ask : after.ask ≡ before.ask
  pub pinned : after.pinned ≡ before.pinned
  pub done : before.done ≡ true → after.done ≡ true
  pub reads_on : ReadsOn before after.reads

-- the queries later on: each in its place, and after them those that were opened meanwhile
abbrev pub AreLater : List Query → List Query → Type 0
AreLater [] later = Unit {0}
AreLater (query ∷ queries) [] = ⊥
AreLater (query ∷ queries) (after ∷ later) = IsLater query after × AreLater queries later
