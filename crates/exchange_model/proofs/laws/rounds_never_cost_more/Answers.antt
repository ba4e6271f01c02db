use Rattle.exchange_model.proofs.RoundLemmas.{cheaper_by_swaps, end_reached, few_swaps, still_layout}
use Rattle.exchange_model.proofs.laws.rounds_never_cost_more.Goals as goal

pub returns : goal.returns
returns c = record { layout = still_layout; few = few_swaps; cheaper = cheaper_by_swaps; end = end_reached }
