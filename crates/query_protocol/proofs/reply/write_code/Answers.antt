use Rattle.std.proofs.Common.{rules, ◌∙◌, sym, ap}
use Rattle.query_protocol.proofs.HexLemmas.{hex_again}
use Rattle.query_protocol.specs.Replies.{hex_text}
use Rattle.query_protocol.proofs.reply.write_code.Goals as goal

pub returns : goal.returns
returns g c = λ one stands.
    let same = hex_again c.to_hex.new.out c.to_hex.ensures.lower in
    let text = ap hex_text (sym (c.to_hex.ensures.code one stands)) ∙ same in
    rw text (search rules)
