use Rattle.exchange_model.proofs.ExchangeLemmas.{exchanged_layout, exchanged_twice, inside_again}
use Rattle.exchange_model.proofs.laws.exchanges_keep_a_layout.Goals as goal

pub returns : goal.returns
returns c = record { layout = exchanged_layout; inside = inside_again; twice = exchanged_twice }
