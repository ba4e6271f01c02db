-- A query that was just opened.
use Rattle.std.specs.Prelude.{◌≡◌, ℕ, List, Option, None, Some, false}
use Rattle.std.specs.declared.alloc.Global.{Global}
use Rattle.std.specs.declared.sync.Arc.{Arc}
use Rattle.shard_version.specs.Tables.{Tabled}
use Rattle.commit_journal.specs.Fronts.{FrontState, position_of}
use Rattle.world_parts.specs.declared.ask.Ask.{Ask}
use Rattle.world_parts.specs.Whole.{IsWhole}
use Rattle.world_parts.specs.declared.held.Held.{Held}

-- a query stands at its front, with these pins, and no source has begun
pub record IsJustOpened {W : ℕ} (ask : Ask W) (front : FrontState)
    (pins : List (Option (Arc Tabled Global))) (held : Held W) : Type 0 where
  pub ask_is : held.ask ≡ ask
  pub position_is : held.position ≡ position_of front
  pub front_is : held.front ≡ Some front
  pub pins_are : held.pins.items ≡ pins
  pub no_sources : held.gather ≡ None
  pub whole : IsWhole held
  pub goes_on : held.cancelled ≡ false
