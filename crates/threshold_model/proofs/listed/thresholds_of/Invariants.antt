use Rattle.std.proofs.Common.{◌≡◌, map, take}
use Rattle.threshold_model.specs.Splits.{threshold_of}
use Rattle.threshold_model.proofs.listed.thresholds_of.Given as goal

abbrev pub invariant-loop-allowed : goal.invariant-loop-allowed
invariant-loop-allowed l = l.thresholds.items ≡ map threshold_of (take l.allowed-index l.units)
