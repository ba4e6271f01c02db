-- What a trace keeps. No public clause cites the rule.
use Rattle.std.specs.Prelude.{◌≡◌, ℕ, ◌≤◌}
use Rattle.gph_codes.specs.Allowed.{IsAllowed}
use Rattle.hamming_model.specs.declared.limits.TheConstants.{WORDS_MOST}
use Rattle.part_layout.specs.Laid.{IsCodeSize}
use Rattle.part_layout.specs.declared.config.Config.{Config}
use Rattle.world_model.specs.Events.{IsLayoutFor, Setting}
use Rattle.world_traces.specs.Traced.{first_layout, setting_for}

-- what a contract sees of a trace: what it was asked for, and its world
pub record TracedWorld (C : Type 0) : Type 0 where
  pub config : Config
  pub world : C

-- a trace of these
abbrev pub traced_world : {C : Type 0} → Config → C → TracedWorld C
traced_world config world = record { config = config; world = world }

-- the rule: the words fit the bits of a code, and the world is of what was asked for
pub record KeepsTrace (W : ℕ) (config : Config) (setting : Setting) : Type 0 where
  pub few_words : W ≤ WORDS_MOST
  pub allowed : IsAllowed W config.bits
  pub size : IsCodeSize config.bits
  pub setting_is : setting ≡ setting_for config
  pub first : IsLayoutFor config.bits (first_layout config)
