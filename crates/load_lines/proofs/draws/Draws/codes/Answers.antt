use Rattle.std.proofs.Common.{rules, ◌∷◌, [], length-append}
use Rattle.load_lines.proofs.DrawLemmas.{code_drawn, key_drawn}
use Rattle.load_lines.proofs.draws.Draws.codes.Goals as goal

pub loop-key-preserved : goal.loop-key-preserved
loop-key-preserved c =
    let held = c.loop-key.invariant in
    let code = code_drawn c.args.bits c.args.keys c.loop-key.key c.loop-key.code c.loop-key.self.state c.loop-key.codes.items _
    c.loop-key-test.true held.0 in
    let state = key_drawn c.args.bits c.args.keys c.loop-key.key c.loop-key.self.state _ c.loop-key-test.true held.2 in
    let more = length-append c.loop-key.codes.items (c.code_of_key-code.result ∷ []) in
    (search (rules, code), search (rules, more, held.1), search (rules, state))
