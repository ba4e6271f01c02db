-- Queries as the history grows.
use Rattle.std.proofs.Common.{◌≡◌, ℕ, ◌≤◌, List, ◌++◌, ◌∷◌, [], length, take, Bool, true, false, cond, refl, sym, ap, subst, ◌∙◌}
use Rattle.std.proofs.lemmas.List.{take-append-le}
use Rattle.hamming_model.specs.History.{Decision, JournalEntry, after_decision, is_accepted, rows_of}
use Rattle.shard_version.specs.Prefixes.{prefix_of}
use Rattle.hit_source.specs.Sources.{Asked}
use Rattle.scatter_gather.specs.Gathering.{Gathering}
use Rattle.world_model.specs.Asking.{AsksOf, IsGatheringOf, SourceAsks, most_given}
use Rattle.world_model.specs.Events.{Setting}
use Rattle.world_model.specs.WorldState.{WorldQuery}
use Rattle.gph_world.specs.Kept.{IsGatheringHeld, IsQueryHeld}
use Rattle.world_parts.specs.Seen.{query_seen}
use Rattle.world_parts.specs.declared.held.Held.{Held}

-- the first so many entries stay where those of a decision come behind
pub first_stay : (history : List JournalEntry) (entry : JournalEntry) (decision : Decision) (position : ℕ) → position ≤ length history
    → take position (after_decision history entry decision) ≡ take position history
first_stay history entry decision position within = go (is_accepted decision)
  where
    go : (accepted : Bool) → take position (cond accepted (history ++ entry ∷ []) history) ≡ take position history
    go true = take-append-le position history (entry ∷ []) within
    go false = refl

module _ (z : Setting) (old new : List JournalEntry) where
  -- a source asks as before where the entries below its query are the same
  pub asks_same : (query : WorldQuery) (shard : ℕ) (a : Asked) → take query.position new ≡ take query.position old
      → SourceAsks z old query shard a → SourceAsks z new query shard a
  asks_same query shard a same asks = record {
    layout = asks.layout;
    is_pinned = asks.is_pinned;
    asks = subst (λ version. AsksOf z.room version query.ask a) (sym (ap (prefix_of shard z.shards asks.layout) same)) asks.asks;
  }

  pub gathering_same : (query : WorldQuery) (g : Gathering) → take query.position new ≡ take query.position old
      → IsGatheringOf z old query g → IsGatheringOf z new query g
  gathering_same query g same is = record {
    asked = λ shard source there. asks_same query shard source.asked same (is.asked shard source there);
    standings = is.standings;
    limit = is.limit ∙ ap (λ (entries : List JournalEntry). most_given (length (rows_of entries)) query.ask) (sym same);
    given = is.given;
  }

  -- a query is kept as before
  pub held_same_prefix : {W : ℕ} (held : Held W) → take held.position new ≡ take held.position old → IsQueryHeld z old held → IsQueryHeld z new held
  held_same_prefix {W} held same is = record {
    stored = is.stored;
    front = is.front;
    pins = λ shard version there. is.pins shard version there ∙ ap (prefix_of shard z.shards _) (sym same);
    whole = is.whole;
    gathered = λ g there. (let was : IsGatheringHeld z old held g = is.gathered g there in record {
      gathers = gathering_same (query_seen z.bits held) _ same was.gathers;
      holds = was.holds;
      limit = was.limit;
    });
  }
