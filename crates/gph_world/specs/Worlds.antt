-- What a contract sees of a world.
use Rattle.std.specs.Prelude.{ℕ, refl}
use Rattle.std.specs.Coded.{Coded, code_by, coded×}
use Rattle.part_layout.specs.Laid.{Laid}
use Rattle.world_model.specs.Events.{Setting}
use Rattle.world_model.specs.WorldState.{WorldState, new_world}
use Rattle.gph_world.specs.Codes.{setting_code, state_code}

-- what no event changes, and the state
pub record WorldView : Type 0 where
  pub setting : Setting
  pub state : WorldState

-- a world as a pair
abbrev pub world_code : Coded WorldView
world_code =
    code_by (Setting × WorldState) (coded× setting_code state_code) (λ w. (w.setting, w.state))
    (λ pair. record { setting = pair.0; state = pair.1 }) (λ _. refl)

-- a setting of these parts
abbrev pub setting_of : ℕ → ℕ → ℕ → ℕ → Setting
setting_of bits shards room limit =
    record { bits = bits; shards = shards; room = room; limit = limit }

-- a world to which nothing happened, with every shard in one layout
abbrev pub start_of : ℕ → ℕ → ℕ → ℕ → Laid → WorldView
start_of bits shards room limit layout = record {
  setting = setting_of bits shards room limit;
  state = new_world (setting_of bits shards room limit) layout;
}
