-- What the sources of a query give together.
use Rattle.std.proofs.Common.{◌≡◌, ℕ, zero, suc, ◌≤◌, ◌<◌, List, [], ◌∷◌, ◌++◌, length, map, take, refl, sym, ap, ◌∙◌, arith}
use Rattle.std.specs.Prelude.{Some, slice_get, slice_index_or}
use Rattle.std.specs.List.{flat_map}
use Rattle.std.proofs.lemmas.List.{length-map, take_all}
use Rattle.std.proofs.lemmas.Option.{none-some, same_Some}
use Rattle.hamming_model.specs.History.{JournalEntry, rows_of, shard_rows}
use Rattle.hamming_model.specs.Scan.{Ask, Range, Near, answer, in_order, scan}
use Rattle.hamming_model.specs.Shards.{AreShardScans}
use Rattle.hamming_model.specs.Stored.{AreCodeRows, AreCodes}
use Rattle.hamming_model.specs.declared.hit.Hit.{Hit}
use Rattle.hamming_model.proofs.RowLemmas.{codes_of_history}
use Rattle.hamming_model.proofs.ShardLemmas.{merged_is_scan, nearest}
use Rattle.scatter_gather.specs.Gathering.{Gathering, Source, all_asked, answer_of, merged}
use Rattle.world_model.specs.Answering.{HasGathering}
use Rattle.world_model.specs.Asking.{code_of, hits_most, most_given, reach_of}
use Rattle.world_model.specs.Events.{Setting}
use Rattle.world_model.specs.Sound.{IsQuery, IsSound}
use Rattle.world_model.specs.WorldState.{WorldQuery, WorldState, answer_on, unpinned}
use Rattle.world_model.proofs.Lookups.{get_mapped}

-- an element stands at each place within a list
get_within : {A : Type 0} (xs : List A) (i : ℕ) → i < length xs → (x : A) × (slice_get xs i ≡ Some x)
get_within [] i below = absurd (omega (arith, below))
get_within (x ∷ xs) zero below = (x, refl)
get_within (x ∷ xs) (suc i) below = get_within xs i (omega (arith, below))

or_of_get : {A : Type 0} (xs : List A) (i : ℕ) (x other : A) → slice_get xs i ≡ Some x → slice_index_or xs i other ≡ x
or_of_get [] i x other h = absurd (none-some x h)
or_of_get (y ∷ xs) zero x other h = same_Some y x h
or_of_get (y ∷ xs) (suc i) x other h = or_of_get xs i x other h

hits_joined : (sources : List Source)
    → flat_map (λ a. a.hits) (all_asked sources) ≡ flat_map (λ (each : List Hit). each) (map (λ source. source.asked.hits) sources)
hits_joined [] = refl
hits_joined (source ∷ sources) = ap (λ hits. source.asked.hits ++ hits) (hits_joined sources)

codes_taken : (bits n : ℕ) (history : List JournalEntry) → AreCodes bits history → AreCodes bits (take n history)
codes_taken bits zero history codes = tt
codes_taken bits (suc n) [] codes = tt
codes_taken bits (suc n) (entry ∷ history) codes = (codes.0, codes_taken bits n history codes.1)

-- the scan, cut at the most hits that a query gives, is its answer
cut_is_answer : (bits : ℕ) (rows : List (ℕ × List ℕ)) (ask : Ask) → AreCodeRows bits rows → length (answer bits rows ask) ≤ hits_most
    → take (most_given (length rows) ask) (scan rows (code_of ask) (reach_of bits ask)) ≡ answer bits rows ask
cut_is_answer bits rows (Range tau code) codes few = take_all hits_most (scan rows code tau) few
cut_is_answer bits rows (Near number code) codes few = nearest bits number rows code codes

module _ (z : Setting) (s : WorldState) (number : ℕ) (query : WorldQuery) (g : Gathering) (is : IsSound z s)
    (has : HasGathering z s number query g) where
  abbrev rows : List (ℕ × List ℕ)
  rows = rows_of (take query.position s.history)

  query_is : IsQuery z s.history query
  query_is = is.queries number query has.is_query

  are_scans : 0 < z.shards → unpinned query ≡ 0
      → AreShardScans z.shards rows (code_of query.ask) (reach_of z.bits query.ask) (map (λ source. source.asked.hits) g.sources)
  are_scans some all = record {
    some = some;
    number = length-map g.sources (λ source. source.asked.hits) ∙ sources_are;
    each = λ shard other below. scan_there shard other (omega (arith, below, sources_are));
  }
    where
      sources_are : length g.sources ≡ z.shards
      sources_are = sym (length-map g.sources (λ source. source.standing)) ∙ ap length has.gathers.standings ∙ query_is.sourced all

      scan_there : (shard : ℕ) (other : List Hit) → shard < length g.sources
          → slice_index_or (map (λ source. source.asked.hits) g.sources) shard other ≡ scan (shard_rows shard z.shards rows) (code_of query.ask)
          (reach_of z.bits query.ask)
      scan_there shard other below =
          let there = get_within g.sources shard below in
          let asks = has.gathers.asked shard there.0 there.1 in
          or_of_get (map (λ source. source.asked.hits) g.sources) shard there.0.asked.hits other
          (get_mapped (λ source. source.asked.hits) g.sources shard there.0 there.1)
          ∙ asks.asks.hits
          ∙ ap (λ bits. scan (shard_rows shard z.shards rows) (code_of query.ask) (reach_of bits query.ask))
          (query_is.layouts shard asks.layout asks.is_pinned).bits_are

  -- the merge of a query's sources, cut at the most hits that it gives, is its answer
  pub sources_answer : 0 < z.shards → unpinned query ≡ 0 → length (answer_on z s.history query) ≤ hits_most
      → answer_of g ≡ answer_on z s.history query
  sources_answer some all few =
      ap (λ n. take n (merged (all_asked g.sources))) has.gathers.limit
      ∙ ap (λ hits. take (most_given (length rows) query.ask) hits)
      (ap in_order (hits_joined g.sources)
      ∙ merged_is_scan z.shards rows (code_of query.ask) (reach_of z.bits query.ask) (map (λ source. source.asked.hits) g.sources)
      (are_scans some all))
      ∙ cut_is_answer z.bits rows query.ask
      (codes_of_history z.bits (take query.position s.history) (codes_taken z.bits query.position s.history is.codes)) few
