-- The tables of a layout after an exchange, and what they cost.
use Rattle.std.proofs.Common.{◌≡◌, ℕ, suc, ◌+◌, ◌<◌, ◌≤◌, min, List, [], ◌∷◌, length, map, take, sum_by, get_or, set, refl, sym, ◌∙◌, ap, arith}
use Rattle.std.specs.List.{AllByRecursion}
use Rattle.std.proofs.lemmas.List.{length-set, get_or-map, length-map, map-set}
use Rattle.std.proofs.lemmas.List.Sums.{sum_by-cons}
use Rattle.hamming_model.specs.Codes.{StandsFor, IsCode}
use Rattle.hamming_model.specs.Layouts.{part_value}
use Rattle.hamming_model.specs.Stored.{AreCodeRows}
use Rattle.exchange_model.specs.Exchanges.{IsInside, exchanged, first_part_of, next_part_of}
use Rattle.part_layout.specs.Laid.{Laid, IsLaid}
use Rattle.exchange_model.specs.declared.position_exchange.PositionExchange.{PositionExchange}
use Rattle.shard_version.specs.Tables.{part_values}
use Rattle.std.proofs.lemmas.List.Elements.{recursion_from_All}
use Rattle.shard_version.proofs.PartLemmas.{near_counted}
use Rattle.threshold_model.specs.Vectors.{row_counts}
use Rattle.sample_table.specs.Levels.{LevelTable, level_count}
use Rattle.layout_search.specs.Counted.{sample_levels, level_table}
use Rattle.layout_search.specs.Improves.{plain_sample}
use Rattle.layout_search.specs.Inside.{AreCounted, AreStoredRows, AreTables, HaveParts, HaveRadii, IsSearchTask, cost_at, plain_rows, with_levels}
use Rattle.exchange_model.specs.Least.{least_cost}
use Rattle.exchange_model.specs.Rounds.{PlainSample}
use Rattle.layout_search.specs.Seen.{levels_in}
use Rattle.layout_search.specs.Totals.{AreSolvable, table_cost}
use Rattle.layout_search.specs.declared.sample.Sample.{Sample}
use Rattle.sample_table.specs.Levels.{PairTable}
use Rattle.exchange_model.proofs.ExchangeLemmas.{first_exchanged, next_exchanged}
use Rattle.sample_table.proofs.CountLemmas.{level_at}

-- the least cost depends on no count of more than tau + 1 units
abbrev pub LeastAgrees : Type 0
LeastAgrees = (one other : ℕ → ℕ → ℕ) (tau parts : ℕ) → 0 < parts
    → ((part units : ℕ) → part < parts → units ≤ tau + 1 → one part units ≡ other part units)
    → least_cost one tau parts ≡ least_cost other tau parts

-- any sample
abbrev pub some_sample : {W : ℕ} → Sample W
some_sample = record { query = []; tau = 0 }

-- tables of a layout have its parts and the samples' radii
pub tables_parts : {W : ℕ} (bits : ℕ) (rows : List (ℕ × List ℕ)) (samples : List (Sample W)) (parts : List (List ℕ)) (tables : List PairTable)
    → AreTables bits rows samples parts tables → HaveParts (length parts) (length tables) tables
tables_parts {W} bits rows samples parts tables are =
    record {
      sizes = λ k table below.
          let n = are.number in
          ap (λ (t : LevelTable). length t.rows) (are.each k some_sample table (omega arith))
          ∙ length-map parts (sample_levels (plain_rows bits rows) (plain_sample bits (get_or samples k some_sample)));
    }

pub tables_radii : {W : ℕ} (bits : ℕ) (rows : List (ℕ × List ℕ)) (samples : List (Sample W)) (parts : List (List ℕ)) (tables : List PairTable)
    → AreTables bits rows samples parts tables → HaveRadii samples tables
tables_radii {W} bits rows samples parts tables are =
    record { radii = λ k sample table below. ap (λ (t : LevelTable). t.tau) (are.each k sample table below) }

-- and so have those with a part counted anew
pub counted_parts : {W : ℕ} (bits : ℕ) (rows : List (ℕ × List ℕ)) (samples : List (Sample W)) (number : ℕ) (part : List ℕ) (old new : List PairTable)
    (parts : ℕ)
    → AreCounted bits rows samples number part old new (length old) → HaveParts parts (length old) old → HaveParts parts (length new) new
counted_parts {W} bits rows samples number part old new parts counted have =
    record {
      sizes = λ k table below.
          let n = counted.size in
          let at = ap (λ (t : LevelTable). length t.rows) (counted.done k some_sample table (omega arith) (omega arith)) in
          let same = length-set (levels_in (get_or old k table)).rows number
          (sample_levels (plain_rows bits rows) (plain_sample bits (get_or samples k some_sample)) part) in
          at ∙ same ∙ have.sizes k table (omega arith);
    }

pub counted_radii : {W : ℕ} (bits : ℕ) (rows : List (ℕ × List ℕ)) (samples : List (Sample W)) (number : ℕ) (part : List ℕ) (old new : List PairTable)
    → AreCounted bits rows samples number part old new (length old) → length old ≡ length samples → HaveRadii samples old → HaveRadii samples new
counted_radii {W} bits rows samples number part old new counted size have =
    record {
      radii = λ k sample table below.
          ap (λ (t : LevelTable). t.tau) (counted.done k sample table (omega arith) (omega arith)) ∙ have.radii k sample table below;
    }

-- the tables with both parts counted anew are those of the layout after the exchange
pub tables_exchanged : {W : ℕ} (bits : ℕ) (rows : List (ℕ × List ℕ)) (samples : List (Sample W)) (parts : List (List ℕ)) (e : PositionExchange)
    (old between new : List PairTable)
    → IsInside parts e → AreTables bits rows samples parts old
    → AreCounted bits rows samples e.part (get_or (exchanged parts e) e.part []) old between (length old)
    → AreCounted bits rows samples (e.part + 1) (get_or (exchanged parts e) (e.part + 1) []) between new (length between)
    → AreTables bits rows samples (exchanged parts e) new
tables_exchanged {W} bits rows samples parts e old between new inside are one two =
    record {
      number = two.size ∙ one.size ∙ are.number;
      each = λ k sample table below.
          let size_one = one.size in
          let size = are.number in
          let levels = sample_levels (plain_rows bits rows) (plain_sample bits (get_or samples k sample)) in
          let p = set (first_part_of parts e) e.place (get_or (next_part_of parts e) e.other 0) in
          let q = set (next_part_of parts e) e.other (get_or (first_part_of parts e) e.place 0) in
          let maps = map-set levels (set parts e.part p) (e.part + 1) q ∙ ap (λ ts. set ts (e.part + 1) (levels q)) (map-set levels parts e.part p) in
          two.done k sample table (omega arith) (omega arith)
          ∙ ap (λ t. with_levels (plain_rows bits rows) t (e.part + 1) (plain_sample bits (get_or samples k sample))
          (get_or (exchanged parts e) (e.part + 1) [])) (one.done k sample table (omega arith) (omega arith)
          ∙ ap (λ t. with_levels (plain_rows bits rows) t e.part (plain_sample bits (get_or samples k sample)) (get_or (exchanged parts e) e.part []))
          (are.each k sample table below))
          ∙ rw (first_exchanged parts e inside, next_exchanged parts e inside, maps) refl;
    }

-- the counts of a table of a layout are those of the rows
module _ (bits : ℕ) (rows : List (ℕ × List ℕ)) (sample : PlainSample) (codes : AreCodeRows bits rows) (is_query : IsCode bits sample.query) where
  pub counts_are : (parts : List (List ℕ)) (part units : ℕ) → part < length parts → units ≤ sample.tau + 1
      → level_count (level_table rows parts sample) part units ≡ row_counts rows parts sample.query part units
  counts_are parts part units below few =
      let at = get_or-map (sample_levels rows sample) parts part [] [] below in
      let same : min units (sample.tau + 1) ≡ units = omega arith in
      ap (λ (ls : List ℕ). get_or ls (min units (sample.tau + 1)) 0) at
      ∙ ap (λ n. get_or (sample_levels rows sample (get_or parts part [])) n 0) same
      ∙ level_at (part_values rows (get_or parts part [])) (part_value sample.query (get_or parts part [])) (sample.tau + 2) units (omega arith)
      ∙ near_counted bits units rows (get_or parts part []) sample.query codes is_query

  pub least_is_of_rows : (agrees : LeastAgrees) (parts : List (List ℕ)) → 0 < length parts
      → least_cost (level_count (level_table rows parts sample)) sample.tau (length parts)
      ≡ least_cost (row_counts rows parts sample.query) sample.tau (length parts)
  least_is_of_rows agrees parts some =
      agrees (level_count (level_table rows parts sample)) (row_counts rows parts sample.query) sample.tau (length parts) some (counts_are parts)

-- the codes of the rows
codes_by_row : (W bits : ℕ) (rows : List (ℕ × List ℕ)) → AllByRecursion (λ row. StandsFor W bits row.1 (take bits row.1)) rows
    → AreCodeRows bits (plain_rows bits rows)
codes_by_row W bits [] stored = tt
codes_by_row W bits (row ∷ rows) stored = (stored.0.is_code, codes_by_row W bits rows stored.1)

pub plain_codes : (W bits : ℕ) (rows : List (ℕ × List ℕ)) → AreStoredRows W bits rows → AreCodeRows bits (plain_rows bits rows)
plain_codes W bits rows kept = codes_by_row W bits rows (recursion_from_All (λ (row : ℕ × List ℕ). StandsFor W bits row.1 (take bits row.1)) rows kept)

-- a sum over one list is the sum over another whose elements give as much
pub sums_agree : {X Y : Type 0} (f : X → ℕ) (g : Y → ℕ) (xs : List X) (ys : List Y) → length xs ≡ length ys
    → ((k : ℕ) (x : X) (y : Y) → k < length xs → f (get_or xs k x) ≡ g (get_or ys k y)) → sum_by f xs ≡ sum_by g ys
sums_agree f g [] [] size each = refl
sums_agree f g [] (y ∷ ys) size each = absurd (omega (arith, size))
sums_agree f g (x ∷ xs) [] size each = absurd (omega (arith, size))
sums_agree f g (x ∷ xs) (y ∷ ys) size each =
    let one = sum_by-cons f x xs in
    let two = sum_by-cons g y ys in
    let here : f x ≡ g y = each 0 x y (omega arith) in
    let rest = sums_agree f g xs ys (omega arith) (λ k a b below. each (suc k) a b (omega arith)) in
    omega arith

module _ {W : ℕ} (layout : Laid) (rows : List (ℕ × List ℕ)) (samples : List (Sample W)) (tables : List PairTable) (laid : IsLaid layout)
    (task : IsSearchTask layout.bits rows samples) (are : AreTables layout.bits rows samples layout.parts tables) (agrees : LeastAgrees) where
  -- the cost of a sample
  own_cost : (k : ℕ) (table : PairTable) (sample : Sample W) → k < length tables → table_cost (get_or tables k table)
      ≡ least_cost (row_counts (plain_rows layout.bits rows) layout.parts (take layout.bits (get_or samples k sample).query))
      (get_or samples k sample).tau (length layout.parts)
  own_cost k table sample below =
      let size = are.number in
      let there = are.each k sample table (omega arith) in
      let some = laid.layout.some_part in
      ap (λ (t : LevelTable). least_cost (level_count t) t.tau (length t.rows)) there
      ∙ ap (λ n. least_cost (level_count (level_table (plain_rows layout.bits rows) layout.parts (plain_sample layout.bits (get_or samples k sample))))
      (get_or samples k sample).tau n)
      (length-map layout.parts (sample_levels (plain_rows layout.bits rows) (plain_sample layout.bits (get_or samples k sample))))
      ∙ least_is_of_rows layout.bits (plain_rows layout.bits rows) (plain_sample layout.bits (get_or samples k sample))
      (plain_codes W layout.bits rows task.codes)
      (task.each k sample (omega arith)).query.is_code agrees layout.parts some

  -- the sum of the tables' costs is the cost of the layout
  pub total_is : sum_by table_cost tables ≡ cost_at layout.bits rows samples layout.parts
  total_is =
      let size = are.number in
      let long = length-map samples (plain_sample layout.bits) in
      sums_agree table_cost
      (λ (s : PlainSample). least_cost (row_counts (plain_rows layout.bits rows) layout.parts s.query) s.tau (length layout.parts)) tables
      (map (plain_sample layout.bits) samples) (omega arith)
      (λ k table asked below.
      own_cost k table some_sample below
      ∙ ap (λ (s : PlainSample). least_cost (row_counts (plain_rows layout.bits rows) layout.parts s.query) s.tau (length layout.parts))
      (sym (get_or-map (plain_sample layout.bits) samples k some_sample asked (omega arith))))

  -- each table has parts
  pub solvable : AreSolvable tables
  solvable =
      let size = are.number in
      record {
        number = let h = task.few_samples in omega arith;
        some = λ k table below.
            let parts = (tables_parts layout.bits rows samples layout.parts tables are).sizes k table below in
            let some = laid.layout.some_part in
            omega arith;
      }
