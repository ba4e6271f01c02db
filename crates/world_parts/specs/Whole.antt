-- What is known of a query's versions and sources, also where it let them go.
use Rattle.std.specs.Prelude.{◌≡◌, ℕ}
use Rattle.world_parts.specs.declared.held.Held.{Held}

-- a query has the versions that it pinned, and the gathering of its sources: it let none go
pub record IsWhole {W : ℕ} (held : Held W) : Type 0 where
  pub pins : held.pins ≡ held.pinned.value
  pub gather : held.gather ≡ held.gathered.value
