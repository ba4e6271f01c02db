-- Shards before the first entry.
use Rattle.std.specs.Prelude.{◌≡◌, ℕ, List, map}
use Rattle.part_layout.specs.Laid.{Laid}
use Rattle.world_model.specs.Events.{Setting}
use Rattle.world_model.specs.WorldState.{empty_places}
use Rattle.world_parts.specs.Seen.{place_seen}
use Rattle.world_parts.specs.declared.place.Place.{Place}

-- the first so many shards are seen as those before the first entry
pub record ArePlacesBegun {W : ℕ} (shards : ℕ) (layout : Laid) (places : List (Place W))
    (number : ℕ) : Type 0 where
  pub are : (z : Setting) → z.shards ≡ shards
      → map place_seen places ≡ empty_places z layout 0 number
