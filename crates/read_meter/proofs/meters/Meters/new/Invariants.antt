use Rattle.std.proofs.Common.{◌≡◌, replicate}
use Rattle.read_meter.proofs.meters.Meters.new.Given as goal

abbrev pub invariant-loop-i : goal.invariant-loop-i
invariant-loop-i g l = l.all.items ≡ replicate l._i 0
