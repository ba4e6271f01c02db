use Rattle.std.proofs.Common.{◌≡◌, ◌≤◌, ◌+◌, ◌*◌, ◌++◌, length, take}
use Rattle.query_protocol.specs.Replies.{thresholds_text}
use Rattle.query_protocol.proofs.reply.write_thresholds.Given as goal

abbrev pub invariant-loop-threshold : goal.invariant-loop-threshold
invariant-loop-threshold l =
    (l.out ≡ l.fn.out ++ thresholds_text (take l.threshold-index l.thresholds))
    × (length l.out ≤ length l.fn.out + 22 * l.threshold-index)
