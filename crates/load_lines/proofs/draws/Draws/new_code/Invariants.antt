use Rattle.std.proofs.Common.{◌≡◌, ◌-◌, ◌++◌, length, take}
use Rattle.load_lines.specs.Draws.{new_words, words_of_bits, state_after, state_after_code}
use Rattle.load_lines.proofs.draws.Draws.new_code.Given as goal

abbrev pub invariant-loop-place : goal.invariant-loop-place
invariant-loop-place l =
    (length l.words ≡ 4)
    × (take l.place l.words ++ new_words (4 - l.place) (words_of_bits l.bits - l.place) l.self.state
    ≡ new_words 4 (words_of_bits l.bits) l.fn.self.state)
    × (state_after (words_of_bits l.bits - l.place) l.self.state ≡ state_after_code l.bits l.fn.self.state)
