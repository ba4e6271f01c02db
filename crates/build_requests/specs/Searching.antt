-- What becomes of a search, between two moments of a session. No public clause cites this module.
use Rattle.std.specs.Prelude.{◌≡◌, ℕ, ◌+◌, ◌-◌, ◌≤◌, length}
use Rattle.exchange_model.specs.declared.limits.TheConstants.{SEARCH_ROWS_MOST}
use Rattle.layout_search.specs.declared.found.Found.{Found}
use Rattle.query_opening.specs.Pinning.{ComesOn}
use Rattle.session_desk.specs.Desks.{pinned_at}
use Rattle.shard_rebuild.specs.Searching.{FindsLayout}
use Rattle.open_session.specs.Moments.{Moment}
use Rattle.build_requests.specs.Rebuilding.{IsOverDesk}

-- the shard may have come on, and nothing else is changed
pub record SearchesOver (W : ℕ) (old new : Moment W) (shard : ℕ) : Type 0 where
  pub over : IsOverDesk W old new shard
  pub comes : ComesOn old.desk new.desk
  pub build : new.build ≡ old.build

-- there was no memory to search
pub record LacksSearch (W : ℕ) (old new : Moment W) (shard : ℕ) : Type 0 where
  pub over : SearchesOver W old new shard
  pub position : new.position ≡ old.position
  pub steps : new.ledgers.upkeep ≤ old.ledgers.upkeep
      + (length new.desk.seen - pinned_at old.desk shard) + SEARCH_ROWS_MOST

-- a layout was found at the last position
pub record HasSearched (W : ℕ) (old new : Moment W) (shard rounds : ℕ) (found : Found)
    (at : ℕ) : Type 0 where
  pub over : SearchesOver W old new shard
  pub finds : FindsLayout old.desk new.desk shard old.samples rounds found at
  pub position : new.position ≡ at
  pub steps : new.ledgers.upkeep ≤ old.ledgers.upkeep
      + (at - pinned_at old.desk shard) + SEARCH_ROWS_MOST
