use Rattle.command_line.proofs.LawLemmas.{order_free}
use Rattle.command_line.proofs.laws.options_in_any_order.Goals as goal

pub returns : goal.returns
returns c = order_free
