use Rattle.std.proofs.Common.{◌+◌, ◌/◌, ◌∙◌}
use Rattle.std.proofs.lemmas.List.{length-set}
use Rattle.load_lines.proofs.DrawLemmas.{word_drawn, state_drawn}
use Rattle.load_lines.proofs.draws.Draws.new_code.Goals as goal

pub loop-place-preserved : goal.loop-place-preserved
loop-place-preserved c =
    let held = c.loop-place.invariant in
    let draws = (c.args.bits + 63) / 64 in
    let word = word_drawn c.loop-place.words _ c.loop-place.place draws c.loop-place.self.state c.loop-place-test.true held.0 held.1 in
    let state = state_drawn c.loop-place.place draws c.loop-place.self.state _ held.2 in
    let size = length-set c.loop-place.words c.loop-place.place c.draw_if.result ∙ held.0 in
    (size, rw (c.draw_if.ensures.value, c.draw_if.ensures.state) word, rw c.draw_if.ensures.state state)
