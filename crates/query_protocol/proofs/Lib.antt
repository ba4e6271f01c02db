pub mod FeedLemmas
pub mod HexLemmas
