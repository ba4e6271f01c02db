-- What a longer history leaves as it is.
use Rattle.std.proofs.Common.{◌≡◌, ℕ, ◌≤◌, List, ◌++◌, length, take, sym, ap, ◌∙◌, subst, arith}
use Rattle.std.proofs.lemmas.List.{take-append-le, length-append}
use Rattle.std.proofs.lemmas.Option.{IfSome_then}
use Rattle.hamming_model.specs.History.{JournalEntry, rows_of}
use Rattle.hamming_model.specs.Scan.{answer}
use Rattle.threshold_model.specs.Bounds.{last_distance}
use Rattle.shard_version.specs.Prefixes.{prefix_of}
use Rattle.hit_source.specs.Sources.{Asked, Standing}
use Rattle.commit_journal.specs.Fronts.{IsFront, front_of}
use Rattle.commit_journal.specs.Journals.{IsKnown}
use Rattle.scatter_gather.specs.Kept.{IsUpTo}
use Rattle.versioned_shard.proofs.AlongLemmas.{follows_longer}
use Rattle.versioned_shard.proofs.RuleLemmas.{rule_longer}
use Rattle.world_model.specs.Asking.{AsksOf, SourceAsks}
use Rattle.world_model.specs.Events.{Setting}
use Rattle.world_model.specs.WorldState.{ShardWithBuild, WorldQuery, Rebuild, answer_on, front_on, live_fronts}
use Rattle.world_model.specs.Sound.{IsBuild, KeepsShard, IsSource, IsQuery, KeepsOlder}

module _ (z : Setting) (history more : List JournalEntry) where
  longer : length history ≤ length (history ++ more)
  longer = omega (arith, length-append history more)

  -- a shard keeps its rule
  pub place_grows : (queries : List WorldQuery) (shard : ℕ) (place : ShardWithBuild) → KeepsShard z history queries shard place
      → KeepsShard z (history ++ more) queries shard place
  place_grows queries shard place is = record {
    rule = rule_longer (live_fronts queries) history more place.shard is.rule;
    of_shard = is.of_shard;
    build = IfSome_then place.build is.build build_grows;
  }
    where
      build_grows : (build : Rebuild) → IsBuild z history shard build → IsBuild z (history ++ more) shard build
      build_grows build has = record {
        of_shard = has.of_shard;
        within = omega (arith, has.within, longer);
        follows = follows_longer history more build.version has.within has.follows;
        few = has.few;
      }

  -- an open front keeps the rule of older fronts
  pub older_grows : (queries : List WorldQuery) (query : WorldQuery) (older : List ℕ) → query.position ≤ length history
      → KeepsOlder history queries query older → KeepsOlder (history ++ more) queries query older
  older_grows queries query older within is = record {
    front = subst IsFront (sym same) is.front;
    known = subst (IsKnown (live_fronts queries) (history ++ more)) (sym same) (record {
      begins = is.known.begins ∙ sym (take-append-le (length (take query.position history)) history more is.known.within);
      within = omega (arith, is.known.within, longer);
      older = is.known.older;
    });
  }
    where
      same : front_on (history ++ more) query older ≡ front_on history query older
      same = ap (front_of 0 0 older) (take-append-le query.position history more within)

  -- the answer to a query
  pub answer_grows : (query : WorldQuery) → query.position ≤ length history → answer_on z (history ++ more) query ≡ answer_on z history query
  answer_grows query within = ap (λ entries. answer z.bits (rows_of entries) query.ask) (take-append-le query.position history more within)

  asks_grows : (query : WorldQuery) (shard : ℕ) (a : Asked) → query.position ≤ length history → SourceAsks z history query shard a
      → SourceAsks z (history ++ more) query shard a
  asks_grows query shard a within asks = record {
    layout = asks.layout;
    is_pinned = asks.is_pinned;
    asks = subst (λ version. AsksOf z.room version query.ask a)
        (sym (ap (prefix_of shard z.shards asks.layout) (take-append-le query.position history more within)))
        asks.asks;
  }

  source_grows : (query : WorldQuery) (shard : ℕ) (source : Standing) → query.position ≤ length history → IsSource z history query shard source
      → IsSource z (history ++ more) query shard source
  source_grows query shard source within is = record {
    asked = is.asked;
    asks = asks_grows query shard is.asked within is.asks;
    lawful = is.lawful;
    begun = subst (λ hits. IsUpTo source.begun (last_distance hits)) (sym (answer_grows query within)) is.begun;
  }

  -- a query stays on its prefix
  pub query_grows : (query : WorldQuery) → IsQuery z history query → IsQuery z (history ++ more) query
  query_grows query is = record {
    within = omega (arith, is.within, longer);
    question = is.question;
    number = is.number;
    layouts = is.layouts;
    given = subst (λ hits. query.given ≤ length hits) (sym (answer_grows query is.within)) is.given;
    fronted = is.fronted;
    waits = is.waits;
    sourced = is.sourced;
    sources = λ shard source there. source_grows query shard source is.within (is.sources shard source there);
  }
