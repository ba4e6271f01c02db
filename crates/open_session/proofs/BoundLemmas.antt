-- Lemmas on what a cursor may read and gives: within the bounds of the query that it stands for, and in
-- the order of all its shards.
use Rattle.std.proofs.Common.{◌≡◌, ℕ, zero, suc, ◌+◌, ◌*◌, ◌≤◌, ◌<◌, min, List, [], ◌∷◌, ◌++◌, length, map, take}
use Rattle.std.proofs.Common.{sum, slice_index, slice_index_or, Option, IfSome}
use Rattle.std.proofs.Common.{refl, sym, ap, ◌∙◌, subst, arith, length-append}
use Rattle.std.specs.List.{AllByRecursion, flat_map, sum_by}
use Rattle.std.proofs.lemmas.List.{take-append-le, length-map, get_or-map}
use Rattle.std.proofs.lemmas.List.Sums.{sum-map, sum_by-cons}
use Rattle.hamming_model.specs.declared.limits.TheConstants.{ENTRIES_MOST, PARTS_MOST}
use Rattle.hamming_model.specs.declared.hit.Hit.{Hit}
use Rattle.hamming_model.specs.History.{JournalEntry, rows_of, shard_rows}
use Rattle.hamming_model.specs.Layouts.{IsLayout}
use Rattle.hamming_model.specs.Scan.{answer, scan, in_order}
use Rattle.hamming_model.specs.Shards.{AreShardScans, AreShardNumbers}
use Rattle.hamming_model.proofs.ShardLemmas.{merged_is_scan, numbers_add_up}
use Rattle.hit_source.specs.Sources.{Asked}
use Rattle.threshold_model.specs.Bounds.{IsBoundOf, last_distance}
use Rattle.part_layout.specs.declared.config.Config.{Config}
use Rattle.part_layout.specs.Ranges.{IsConfig}
use Rattle.scatter_gather.specs.Gathering.{merged}
use Rattle.open_queries.specs.Queries.{answer_in, last_in}
use Rattle.session_model.specs.State.{Query}
use Rattle.session_model.specs.Step.{AreLayouts}
use Rattle.session_model.specs.Ledger.{IsBoundAt, IsBound, IsPlanOfQuery, layout_at}
use Rattle.session_model.specs.Ledger.{answer_to, last_given, rows_at, sum_of}
use Rattle.open_session.specs.Questions.{asked_code, radius_in, limit_in}
use Rattle.open_session.specs.Cursors.{ShardSource, Cursor, asks}
use Rattle.open_session.specs.Meaning.{Keeps, IsSettled}
use Rattle.open_session.proofs.QuestionLemmas.{asked_plan, bound_few, bound_most, cut_answer, last_near, last_near_all}

-- ---- lists by place

get_at-map : {S B : Type 0} (f : S → B) (xs : List S) (i : ℕ) (d : S) (e : B) → i < length xs
    → slice_index_or (map f xs) i e ≡ f (slice_index_or xs i d)
get_at-map f xs i d e lt = get_or-map f xs i d e lt

pub first_of_some : {S : Type 0} (xs : List S) → 0 < length xs → S
first_of_some [] some = absurd (omega (arith, some))
first_of_some (x ∷ xs) some = x

-- the sum of as many numbers, none of them greater than the most
sum_few : (numbers : List ℕ) (most : ℕ) → ((i : ℕ) → i < length numbers → slice_index numbers i ≤ most)
    → sum_of numbers ≤ length numbers * most
sum_few [] most each = omega arith
sum_few (number ∷ numbers) most each =
    let rest = sum_few numbers most (λ i lt. each (suc i) (omega (arith, lt))) in
    let first = each zero (omega arith) in
    omega (arith, rest, first)

pub sum_is_of : (numbers : List ℕ) → sum numbers ≡ sum_of numbers
sum_is_of [] = refl
sum_is_of (number ∷ numbers) = sum_by-cons (λ x. x) number numbers ∙ ap (λ n. number + n) (sum_is_of numbers)

flat_of_map : {S : Type 0} (f : S → List Hit) (xs : List S)
    → flat_map (λ hits. hits) (map f xs) ≡ flat_map f xs
flat_of_map f [] = refl
flat_of_map f (x ∷ xs) = ap (λ l. f x ++ l) (flat_of_map f xs)

flat_of_asks : {S : Type 0} (f : S → Asked) (xs : List S)
    → flat_map (λ (a : Asked). a.hits) (map f xs) ≡ flat_map (λ x. (f x).hits) xs
flat_of_asks f [] = refl
flat_of_asks f (x ∷ xs) = ap (λ l. (f x).hits ++ l) (flat_of_asks f xs)

-- what holds of each layout holds of the one of a shard
layout_by : (P : List (List ℕ) → Type 0) (layouts : List (List (List ℕ))) (shard : ℕ)
    → AllByRecursion P layouts → shard < length layouts → P (layout_at layouts shard)
layout_by P [] shard all lt = absurd (omega (arith, lt))
layout_by P (layout ∷ layouts) zero all lt = all.0
layout_by P (layout ∷ layouts) (suc shard) all lt =
    layout_by P layouts shard all.1 (omega (arith, lt))

pub layout_of : (config : Config) (layouts : List (List (List ℕ))) (shard : ℕ) → AreLayouts config layouts
    → shard < config.shards → IsLayout config.bits (layout_at layouts shard)
layout_of config layouts shard are lt =
    layout_by (IsLayout config.bits) layouts shard are.each (omega (arith, are.number, lt))

-- ---- a cursor of a query

module _ {W : ℕ} (config : Config) (history : List JournalEntry) (cursor : Cursor W) (query : Query)
    (keeps : Keeps config history cursor query) (ranges : IsConfig config) where
  abbrev sources : List (ShardSource W)
  sources = cursor.gather.sources

  -- the rows on which the query stands
  abbrev rows : List (ℕ × List ℕ)
  rows = rows_of (take query.position history)

  -- no hit of a query is farther than its codes have bits
  abbrev IsNear : Option ℕ → Type 0
  IsNear last = IfSome last (λ distance. distance ≤ config.bits)

  some_parts : (shard : ℕ) → shard < config.shards → 0 < length (layout_at query.pinned shard)
  some_parts shard lt = (layout_of config query.pinned shard keeps.pinned lt).some_part

  rows_at_few : (shard : ℕ) (d : ShardSource W) → shard < config.shards
      → length (rows_at config history query shard) ≤ ENTRIES_MOST
  rows_at_few shard d lt = (keeps.each_asks shard d lt).few

  -- a number of each source is at its place
  at_place : (f : ShardSource W → ℕ) (shard : ℕ) (d : ShardSource W) → shard < config.shards
      → slice_index (map f sources) shard ≡ f (slice_index_or sources shard d)
  at_place f shard d lt = get_at-map f sources shard d 0 (omega (arith, lt, keeps.sources))

  size_of_map : {B : Type 0} (f : ShardSource W → B) → length (map f sources) ≡ config.shards
  size_of_map f = length-map sources f ∙ keeps.sources

  -- the first source, since there is one
  first : ShardSource W
  first = first_of_some sources (omega (arith, ranges.some_shards, keeps.sources))

  radius_low : radius_in config.bits query.ask ≤ config.bits
  radius_low = (keeps.each_asks 0 first (omega (arith, ranges.some_shards))).radius

  pub given_near : (n : ℕ) → IsNear (last_distance (take n (answer_to config history query)))
  given_near n = last_near config.bits rows query.ask radius_low n

  pub answer_near : IsNear (last_distance (answer_to config history query))
  answer_near = last_near_all config.bits rows query.ask radius_low

  -- the numbers of the rows of the shards
  abbrev numbers : List ℕ
  numbers = map (λ source. (asks {W = W} source).rows) sources

  are_numbers : AreShardNumbers config.shards rows numbers
  are_numbers = record {
    some = ranges.some_shards;
    number = size_of_map (λ source. (asks {W = W} source).rows);
    each = λ shard other lt.
        get_at-map (λ source. (asks {W = W} source).rows) sources shard first other (omega (arith, lt, keeps.sources))
        ∙ (keeps.each_asks shard first lt).rows_are;
  }

  rows_few : length rows ≤ config.shards * ENTRIES_MOST
  rows_few =
      let all = numbers_add_up config.shards rows numbers are_numbers in
      let few = sum_few numbers ENTRIES_MOST (λ shard lt.
      let within : shard < config.shards = subst (λ n. shard < n) (size_of_map (λ source. (asks {W = W} source).rows)) lt in
      omega (
        arith,
        at_place (λ source. (asks {W = W} source).rows) shard first within,
        (keeps.each_asks shard first within).rows_are,
        rows_at_few shard first within,
      )) in
      let size = size_of_map (λ source. (asks {W = W} source).rows) in
      let same : sum_of numbers ≡ length rows = sym (sum_is_of numbers) ∙ all in
      let most : sum_of numbers ≤ config.shards * ENTRIES_MOST =
      subst (λ n. sum_of numbers ≤ n * ENTRIES_MOST) size few in
      omega (arith, same, most)

  -- what all sources are asked for is the scan of all rows, and cut at the limit the answer
  merged_is : merged (map (asks {W = W}) sources) ≡ scan rows (asked_code query.ask) (radius_in config.bits query.ask)
  merged_is =
      let hits = λ (source : ShardSource W). (asks {W = W} source).hits in
      let scans = map hits sources in
      let are : AreShardScans config.shards rows (asked_code query.ask) (radius_in config.bits query.ask) scans = record {
        some = ranges.some_shards;
        number = size_of_map hits;
        each = λ shard other lt.
            get_at-map hits sources shard first other (omega (arith, lt, keeps.sources)) ∙ (keeps.each_asks shard first lt).hits;
      } in
      ap in_order (flat_of_asks (asks {W = W}) sources ∙ sym (flat_of_map hits sources))
      ∙ merged_is_scan config.shards rows (asked_code query.ask) (radius_in config.bits query.ask) scans are

  pub answer_is : answer_in (asks {W = W}) cursor ≡ answer_to config history query
  answer_is =
      ap (λ n. take n (merged (map (asks {W = W}) sources))) keeps.limit
      ∙ ap (take (limit_in query.ask (length rows))) merged_is
      ∙ cut_answer config.bits rows query.ask (omega (arith, rows_few, ranges.few_shards))

  pub last_is : last_in (asks {W = W}) cursor ≡ last_given config history query
  last_is =
      ap (λ l. last_distance (take cursor.gather.given l)) answer_is
      ∙ ap (λ n. last_distance (take n (answer_to config history query))) keeps.given

  -- the bound of a shard, and the sum of all
  pub bound_at : (last : Option ℕ) → IsNear last → (shard : ℕ) (d : ShardSource W) → shard < config.shards
      → IsBoundAt config history query last shard ((asks (slice_index_or sources shard d)).bound last)
  bound_at last near shard d lt = (keeps.each_asks shard d lt).bound last near

  few_at : (last : Option ℕ) → IsNear last → (shard : ℕ) (bound : ℕ) → shard < config.shards
      → IsBoundAt config history query last shard bound → bound ≤ bound_most
  few_at last near shard bound lt is =
      bound_few config.bits query.ask (rows_at config history query shard) (layout_at query.pinned shard)
      ranges.greatest_bits (some_parts shard lt) (rows_at_few shard first lt) last near bound is

  -- the bounds of the shards
  abbrev bounds : Option ℕ → List ℕ
  bounds last = map (λ source. (asks {W = W} source).bound last) sources

  bounds_few : (last : Option ℕ) → IsNear last → sum_of (bounds last) ≤ config.shards * bound_most
  bounds_few last near =
      let f = λ (source : ShardSource W). (asks {W = W} source).bound last in
      let few = sum_few (bounds last) bound_most (λ shard lt.
      let within : shard < config.shards = subst (λ n. shard < n) (size_of_map f) lt in
      omega (
        arith,
        at_place f shard first within,
        few_at last near shard (f (slice_index_or sources shard first)) within (bound_at last near shard first within),
      )) in
      subst (λ n. sum_of (bounds last) ≤ n * bound_most) (size_of_map f) few

  pub all_bounds_are : (last : Option ℕ) → IsNear last
      → min (sum_by (λ source. (asks {W = W} source).bound last) sources) 18446744073709551615
      ≡ sum_of (bounds last)
  all_bounds_are last near =
      let f = λ (source : ShardSource W). (asks {W = W} source).bound last in
      let same : sum_by f sources ≡ sum_of (bounds last) = sym (sum-map f sources) ∙ sum_is_of (bounds last) in
      omega (arith, same, bounds_few last near, ranges.few_shards)

  pub is_bound : (last : Option ℕ) → IsNear last → IsBound config history query last (sum_of (bounds last))
  is_bound last near = record {
    bounds = bounds last;
    number = size_of_map (λ source. (asks {W = W} source).bound last);
    each = λ shard lt. subst (IsBoundAt config history query last shard)
        (sym (at_place (λ source. (asks {W = W} source).bound last) shard first lt))
        (bound_at last near shard first lt);
    all = refl;
  }

  -- the plan for the distance of the last hit given
  pub plan_at : (last : Option ℕ) → last ≡ last_given config history query → (shard : ℕ) (d : ShardSource W)
      → shard < config.shards
      → IsPlanOfQuery config history query shard
      (take PARTS_MOST ((asks (slice_index_or sources shard d)).plan last).0)
      ((asks (slice_index_or sources shard d)).plan last).1
  plan_at last same shard d lt =
      let a = asks (slice_index_or sources shard d) in
      let given = last_given config history query in
      subst (λ l. IsPlanOfQuery config history query shard (take PARTS_MOST (a.plan l).0) (a.plan l).1) (sym same)
      (asked_plan config.bits query.ask (rows_at config history query shard) (layout_at query.pinned shard) a
      (keeps.each_asks shard d lt) given (given_near query.given)
      (layout_of config query.pinned shard keeps.pinned lt).few_parts)

  -- what it has read on all shards is a small number
  pub reads_few : IsSettled config history query → sum_of query.reads ≤ config.shards * bound_most
  reads_few settled =
      let few = sum_few query.reads bound_most (λ shard lt.
      let within : shard < config.shards = subst (λ n. shard < n) settled.bounded.number lt in
      let one = settled.bounded.within shard within in
      omega (arith, one.within, few_at _ answer_near shard one.bound within one.is_bound)) in
      subst (λ n. sum_of query.reads ≤ n * bound_most) settled.bounded.number few

-- ---- what a settled query has read

-- each query stands in the longer history, and has read within its bounds there
pub settled_later : (config : Config) (history later : List JournalEntry) (query : Query)
    → IsSettled config history query → IsSettled config (history ++ later) query
settled_later config history later query settled =
    let within : query.position ≤ length history = settled.within in
    let same : take query.position (history ++ later) ≡ take query.position history =
    take-append-le query.position history later within in
    record {
      within = omega (arith, within, length-append history later);
      bounded = record {
        number = settled.bounded.number;
        within = λ shard lt.
            let one = settled.bounded.within shard lt in
            record {
              bound = one.bound;
              is_bound = subst (λ h. IsBoundOf query.ask (shard_rows shard config.shards (rows_of h))
                  (layout_at query.pinned shard) (last_distance (answer config.bits (rows_of h) query.ask)) one.bound)
                  (sym same) one.is_bound;
              within = one.within;
            };
      };
    }

pub all_settled_later : (config : Config) (history later : List JournalEntry) (queries : List Query)
    → AllByRecursion (IsSettled config history) queries
    → AllByRecursion (IsSettled config (history ++ later)) queries
all_settled_later config history later [] all = tt
all_settled_later config history later (query ∷ queries) all =
    (settled_later config history later query all.0, all_settled_later config history later queries all.1)
