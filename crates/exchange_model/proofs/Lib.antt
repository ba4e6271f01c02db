pub mod AgreeLemmas
pub mod AmongLemmas
pub mod ExchangeLemmas
pub mod LeastLemmas
pub mod OrderLemmas
pub mod PairLemmas
pub mod RoundLemmas
