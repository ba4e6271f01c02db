-- What is true of a table's fields.
-- No public clause cites this module.
use Rattle.std.specs.Prelude.{◌≡◌, ◌+◌, ◌*◌, ◌≤◌, vec_len}
use Rattle.hamming_model.specs.declared.limits.TheConstants.{PARTS_MOST}
use Rattle.threshold_dp.specs.declared.scratch.Scratch.TheInside.{Inside}

-- the counts asked, the costs and the rows of picks have room for all units of the greatest radius
pub record HasRoom (scratch : Inside) : Type 0 where
  pub few : scratch.parts ≤ PARTS_MOST
  pub near : scratch.tau ≤ 512
  pub asked : vec_len scratch.asked ≡ scratch.tau + 2
  pub costs : vec_len scratch.costs ≡ scratch.tau + 2
  pub picks : vec_len scratch.picks ≡ scratch.parts * (scratch.tau + 2)
