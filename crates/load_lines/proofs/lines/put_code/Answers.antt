use Rattle.std.proofs.Common.{rules, ◌/◌}
use Rattle.load_lines.proofs.LineLemmas.{digit_put}
use Rattle.load_lines.proofs.lines.put_code.Goals as goal

pub loop-place-preserved : goal.loop-place-preserved
loop-place-preserved c =
    let put = digit_put c.args.code.now c.loop-place.text.items _ c.loop-place.place (c.args.bits / 4) c.loop-place-test.true
    c.loop-place.invariant in
    search (rules, put)
