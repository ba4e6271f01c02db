use Rattle.std.proofs.Common.{◌≡◌, List, length}
use Rattle.std.specs.List.{AllByRecursion}
use Rattle.query_protocol.specs.Replies.{LineReply, text}
use Rattle.query_protocol.specs.Written.{IsWritten}
use Rattle.load_sums.proofs.TextLemmas.{Left}
use Rattle.load_sums.proofs.sums.Sums.of.Given as goal

abbrev pub invariant-loop-rest : goal.invariant-loop-rest
invariant-loop-rest l =
    (said : List LineReply) → l.fn.replies ≡ text said → AllByRecursion IsWritten said → Left said l.rest l.sums

abbrev pub decreases-loop-rest : goal.decreases-loop-rest
decreases-loop-rest l = length l.rest
