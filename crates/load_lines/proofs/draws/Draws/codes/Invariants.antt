use Rattle.std.proofs.Common.{◌≡◌, ◌-◌, ◌++◌, length}
use Rattle.load_lines.specs.Codes.{codes_from, codes_drawn, state_after_keys}
use Rattle.load_lines.proofs.draws.Draws.codes.Given as goal

abbrev pub invariant-loop-key : goal.invariant-loop-key
invariant-loop-key l =
    (l.codes.items ++ codes_from l.bits (l.keys - l.key) l.key l.code l.self.state ≡ codes_drawn l.bits l.fn.self.state l.keys)
    × (length l.codes.items ≡ l.key)
    × (state_after_keys l.bits (l.keys - l.key) l.key l.self.state ≡ state_after_keys l.bits l.keys 0 l.fn.self.state)
