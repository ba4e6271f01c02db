use Rattle.std.proofs.Common.{◌≡◌, ◌≤◌, ◌-◌, length, take, drop}
use Rattle.line_forms.specs.Words.{words, words_after}
use Rattle.line_forms.proofs.words.blocks_end.Given as goal

abbrev pub invariant-loop-end : goal.invariant-loop-end
invariant-loop-end l = (l.end ≤ length l.begun) × (words l.begun ≡ words_after (take l.end l.begun) (drop l.end l.begun))

abbrev pub decreases-loop-end : goal.decreases-loop-end
decreases-loop-end l = length l.begun - l.end
