use Rattle.std.proofs.Common.{◌≡◌, ◌-◌, ◌++◌, codes}
use Rattle.load_lines.specs.Lines.{times}
use Rattle.load_lines.proofs.lines.put_after_opening.Given as goal

abbrev pub invariant-loop-time : goal.invariant-loop-time
invariant-loop-time l =
    l.text.items ++ times (16 - l._time) (codes "next q 65536\n") ≡ l.fn.text.items ++ times 16 (codes "next q 65536\n")
