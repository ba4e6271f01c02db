use Rattle.exchange_model.proofs.OrderLemmas.{found_cheaper, found_inside, none_cheaper}
use Rattle.exchange_model.proofs.laws.an_exchange_is_found_where_one_is_cheaper.Goals as goal

pub returns : goal.returns
returns c = record { found = found_inside; cheaper = found_cheaper; none = none_cheaper }
