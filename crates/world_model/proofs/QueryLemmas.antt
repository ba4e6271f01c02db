-- A query stays on its prefix, within its answer and its bound, where it is pinned, polled, given or cancelled.
use Rattle.std.proofs.Common.{◌≡◌, ℕ, ◌≤◌, List, length, take, refl, sym, ap, ◌∙◌, subst, arith, true, inl, inr}
use Rattle.std.specs.Prelude.{nat_lt, Option, Some, None, slice_get, slice_set}
use Rattle.std.proofs.lemmas.Bool.{cond_both, ltb-true, ltb-false}
use Rattle.std.proofs.lemmas.List.{length-set, length-replicate}
use Rattle.std.proofs.lemmas.Option.{none-some, same_Some}
use Rattle.hamming_model.specs.History.{JournalEntry, rows_of}
use Rattle.hamming_model.specs.Scan.{Ask}
use Rattle.part_layout.specs.Laid.{Laid}
use Rattle.hit_source.specs.Sources.{Asked, Standing, IsLawful}
use Rattle.threshold_model.specs.Bounds.{last_distance}
use Rattle.scatter_gather.specs.Kept.{IsUpTo}
use Rattle.world_model.specs.Answering.{next_distance, with_source}
use Rattle.world_model.specs.Asking.{SourceAsks, BeginsSource}
use Rattle.world_model.specs.Events.{Setting, IsLayoutFor, IsQuestion}
use Rattle.world_model.specs.QuerySteps.{Completes, with_pin}
use Rattle.world_model.specs.Sound.{IsSource, IsQuery}
use Rattle.world_model.specs.WorldState.{WorldQuery, answer_on, unpinned, fresh_query}
use Rattle.world_model.proofs.Lookups.{get_set, none_missing, none_there, some_missing}
use Rattle.world_model.proofs.AnswerLemmas.{answer_ascends, next_within_last}

-- the query with its front closed and these sources
abbrev pub with_sources : WorldQuery → List Standing → WorldQuery
with_sources query sources = record query { front = None; sources = sources }

-- a query that was just opened
pub new_is_query : (z : Setting) (history : List JournalEntry) (ask : Ask) (older : List ℕ) → IsQuestion z.bits ask
    → IsQuery z history (fresh_query z ask (length history) older)
new_is_query z history ask older formed = record {
  within = omega arith;
  question = formed;
  number = length-replicate z.shards None;
  layouts = λ shard layout there. absurd (none_there z.shards shard layout there);
  given = omega arith;
  fronted = λ goes_on closed. absurd (none-some older (sym closed));
  waits = λ missing. refl;
  sourced = λ all. sym (sym (none_missing Laid z.shards) ∙ all);
  sources = λ shard source there. absurd (none-some source there);
}

-- the same question on another query with the same pins, position and question
module _ (z : Setting) (history : List JournalEntry) (query : WorldQuery) (is : IsQuery z history query) where
  -- a query that was cancelled
  pub cancelled_is_query : IsQuery z history (record query { front = None; cancelled = true })
  cancelled_is_query = record {
    within = is.within;
    question = is.question;
    number = is.number;
    layouts = is.layouts;
    given = is.given;
    fronted = λ goes_on closed. cc;
    waits = is.waits;
    sourced = is.sourced;
    sources = λ shard source there. carried shard source (is.sources shard source there);
  }
    where
      carried : (shard : ℕ) (source : Standing) → IsSource z history query shard source
          → IsSource z history (record query { front = None; cancelled = true }) shard source
      carried shard source was = record {
        asked = was.asked;
        asks = record { layout = was.asks.layout; is_pinned = was.asks.is_pinned; asks = was.asks.asks };
        lawful = was.lawful;
        begun = was.begun;
      }

  -- a query one of whose sources changed, and which gave so many hits
  pub moved_is_query : (given shard : ℕ) (asked : Asked) (new : Standing) → given ≤ length (answer_on z history query)
      → SourceAsks z history query shard asked → IsLawful asked new → IsUpTo new.begun (last_distance (answer_on z history query))
      → IsQuery z history (record query { given = given; sources = slice_set query.sources shard new })
  moved_is_query given shard asked new few asks lawful begun = record {
    within = is.within;
    question = is.question;
    number = is.number;
    layouts = is.layouts;
    given = few;
    fronted = is.fronted;
    waits = λ missing. ap (λ sources. slice_set sources shard new) (is.waits missing);
    sourced = λ all. length-set query.sources shard new ∙ is.sourced all;
    sources = λ other source there. elim (get_set query.sources shard other new source there) [
      | inr before ↦ carried other source (is.sources other source before)
      | inl both ↦ subst (λ k. IsSource z history (with_source query given shard new) k source) (sym both.0)
          (subst (λ x. IsSource z history (with_source query given shard new) shard x) (sym both.1) this)
    ];
  }
    where
      carried : (other : ℕ) (source : Standing) → IsSource z history query other source
          → IsSource z history (record query { given = given; sources = slice_set query.sources shard new }) other source
      carried other source was = record {
        asked = was.asked;
        asks = record { layout = was.asks.layout; is_pinned = was.asks.is_pinned; asks = was.asks.asks };
        lawful = was.lawful;
        begun = was.begun;
      }

      this : IsSource z history (record query { given = given; sources = slice_set query.sources shard new }) shard new
      this = record {
        asked = asked;
        asks = record { layout = asks.layout; is_pinned = asks.is_pinned; asks = asks.asks };
        lawful = lawful;
        begun = begun;
      }

  -- a query that pinned one shard more
  pub pinned_is_query : (shard : ℕ) (layout : Laid) (after : WorldQuery) → IsLayoutFor z.bits layout → slice_get query.pinned shard ≡ Some None
      → (older : List ℕ) → query.front ≡ Some older → Completes z history (with_pin query shard layout) after → IsQuery z history after
  pinned_is_query shard layout after laid not_pinned older is_open completes =
      subst (IsQuery z history) (sym completes.after_is)
      (cond_both (nat_lt 0 (unpinned (with_pin query shard layout))) (with_pin query shard layout)
      (with_sources (with_pin query shard layout) completes.sources) (IsQuery z history)
      (λ more. record {
        within = is.within;
        question = is.question;
        number = number_pinned;
        layouts = layouts_pinned;
        given = is.given;
        fronted = λ goes_on closed. absurd (none-some older (sym closed ∙ is_open));
        waits = λ missing. is.waits (some_missing query.pinned shard not_pinned);
        sourced = λ all. absurd (omega (arith, ltb-true 0 (unpinned (with_pin query shard layout)) more, all));
        sources = λ other source there. absurd (none-some source
            (sym (ap (λ sources. slice_get sources other) (is.waits (some_missing query.pinned shard not_pinned))) ∙ there));
      })
      (λ all_pinned.
      (let none : unpinned (with_pin query shard layout) ≡ 0 = omega (arith, ltb-false 0 (unpinned (with_pin query shard layout)) all_pinned) in
      let begun = completes.are_begun none in
      record {
        within = is.within;
        question = is.question;
        number = number_pinned;
        layouts = layouts_pinned;
        given = is.given;
        fronted = λ goes_on closed. none;
        waits = λ missing. absurd (omega (arith, missing, none));
        sourced = λ all. begun.number;
        sources = λ other source there. of_begun other source (begun.each other source there);
      })))
    where
      number_pinned : length (slice_set query.pinned shard (Some layout)) ≡ z.shards
      number_pinned = length-set query.pinned shard (Some layout) ∙ is.number

      layouts_pinned : (other : ℕ) (there : Laid) → slice_get (slice_set query.pinned shard (Some layout)) other ≡ Some (Some there)
          → IsLayoutFor z.bits there
      layouts_pinned other there has = elim (get_set query.pinned shard other (Some layout) (Some there) has) [
        | inr before ↦ is.layouts other there before
        | inl both ↦ subst (IsLayoutFor z.bits) (sym (same_Some there layout both.1)) laid
      ]

      of_begun : (other : ℕ) (source : Standing) → BeginsSource z history (with_pin query shard layout) other source
          → IsSource z history (record (with_pin query shard layout) { front = None; sources = completes.sources }) other source
      of_begun other source begins = record {
        asked = begins.asked;
        asks = record { layout = begins.asks.layout; is_pinned = begins.asks.is_pinned; asks = begins.asks.asks };
        lawful = begins.lawful;
        begun = subst (λ radius. IsUpTo radius (last_distance (answer_on z history query))) (sym begins.fresh.begun) tt;
      }

  -- the next hit of the answer is no farther than the last
  pub next_is_within : (begun : Option ℕ) → IsUpTo begun (next_distance z history query) → IsUpTo begun (last_distance (answer_on z history query))
  next_is_within begun near = next_within_last (answer_on z history query) query.given begun
      (answer_ascends z.bits (rows_of (take query.position history)) query.ask) near
