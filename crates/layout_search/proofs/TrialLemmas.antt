-- A trial of an exchange: the counts of two parts beside those that the tables have.
use Rattle.std.proofs.Common.{◌≡◌, ℕ, ◌+◌, ◌<◌, List, [], length, map, take, sum_by, get_or, set, refl, sym, ◌∙◌, ap, arith, subst, inl, inr}
use Rattle.std.proofs.lemmas.Bool.{cases_eq}
use Rattle.std.proofs.lemmas.List.{get_or-map, get_or-set_same, get_or-set_other, length-map, length-set, map-set}
use Rattle.hamming_model.specs.Layouts.{part_value}
use Rattle.threshold_model.specs.Vectors.{row_counts}
use Rattle.exchange_model.specs.Exchanges.{IsInside, exchanged, first_part_of, next_part_of}
use Rattle.exchange_model.specs.Least.{least_cost}
use Rattle.exchange_model.specs.Rounds.{PlainSample}
use Rattle.exchange_model.specs.declared.position_exchange.PositionExchange.{PositionExchange}
use Rattle.exchange_model.proofs.ExchangeLemmas.{first_exchanged, length_exchanged, next_exchanged}
use Rattle.part_layout.specs.Laid.{Laid, IsLaid, part_at}
use Rattle.sample_table.specs.Levels.{IsTurnedTo, PairTable, least_of_levels, level_count, with_part}
use Rattle.shard_version.specs.Tables.{part_values}
use Rattle.layout_search.specs.Counted.{level_table, sample_levels}
use Rattle.layout_search.specs.Improves.{IsSmallSample, plain_sample}
use Rattle.layout_search.specs.Inside.{AreTables, HaveParts, IsSearchTask, cost_at, plain_rows, with_levels}
use Rattle.layout_search.specs.Trial.{AreTablesBeside, AreTurned, HaveSameCounts}
use Rattle.layout_search.specs.Seen.{levels_in}
use Rattle.layout_search.specs.declared.sample.Sample.{Sample}
use Rattle.layout_search.proofs.CountingLemmas.{levels_counted}
use Rattle.layout_search.proofs.SearchLemmas.{LeastAgrees, least_is_of_rows, plain_codes, sums_agree, tables_parts, tables_radii}

-- what a sample costs over a layout
abbrev pub sample_cost : {W : ℕ} → Laid → List (ℕ × List ℕ) → Sample W → ℕ
sample_cost layout rows sample =
    least_cost (row_counts (plain_rows layout.bits rows) layout.parts (take layout.bits sample.query)) sample.tau (length layout.parts)

-- the samples' costs add up to the layout's
pub costs_in_all : {W : ℕ} (layout : Laid) (rows : List (ℕ × List ℕ)) (samples : List (Sample W))
    → sum_by (sample_cost layout rows) samples ≡ cost_at layout.bits rows samples layout.parts
costs_in_all {W} layout rows samples =
    let cost_of = λ (s : PlainSample). least_cost (row_counts (plain_rows layout.bits rows) layout.parts s.query) s.tau (length layout.parts) in
    sums_agree (sample_cost layout rows) cost_of samples (map (plain_sample layout.bits) samples) (sym (length-map samples (plain_sample layout.bits)))
    (λ k x y below. ap cost_of (sym (get_or-map (plain_sample layout.bits) samples k x y below)))

-- the tables of a layout are those of the layout after an exchange, once both parts are counted anew
pub beside_exchanged : {W : ℕ} (bits : ℕ) (rows : List (ℕ × List ℕ)) (samples : List (Sample W)) (parts : List (List ℕ)) (e : PositionExchange)
    (tables : List PairTable)
    → IsInside parts e → AreTables bits rows samples parts tables → AreTablesBeside bits rows samples (exchanged parts e) e.part tables
beside_exchanged {W} bits rows samples parts e tables inside are =
    record {
      number = are.number;
      wide = subst (λ n. HaveParts n (length tables) tables) (sym (length_exchanged parts e)) (tables_parts bits rows samples parts tables are);
      near = tables_radii bits rows samples parts tables are;
      each = λ k sample table below.
          let levels = sample_levels (plain_rows bits rows) (plain_sample bits (get_or samples k sample)) in
          let p = set (first_part_of parts e) e.place (get_or (next_part_of parts e) e.other 0) in
          let q = set (next_part_of parts e) e.other (get_or (first_part_of parts e) e.place 0) in
          let maps = map-set levels (set parts e.part p) (e.part + 1) q ∙ ap (λ ts. set ts (e.part + 1) (levels q)) (map-set levels parts e.part p) in
          ap (λ t. with_levels (plain_rows bits rows) (with_levels (plain_rows bits rows) t e.part (plain_sample bits (get_or samples k sample))
          (get_or (exchanged parts e) e.part [])) (e.part + 1) (plain_sample bits (get_or samples k sample))
          (get_or (exchanged parts e) (e.part + 1) [])) (are.each k sample table below)
          ∙ rw (first_exchanged parts e inside, next_exchanged parts e inside, maps) refl;
    }

module _ {W : ℕ} (layout : Laid) (rows : List (ℕ × List ℕ)) (samples : List (Sample W)) (pair : ℕ) (tables : List PairTable) (laid : IsLaid layout)
    (task : IsSearchTask layout.bits rows samples) (beside : AreTablesBeside layout.bits rows samples layout.parts pair tables) (agrees : LeastAgrees) where
  -- what a trial of a sample costs
  pub tried_cost : (k : ℕ) (table : PairTable) (sample : Sample W) (values next_values : List ℕ) (value next_value least : ℕ) → k < length samples
      → table ≡ get_or tables k table → sample ≡ get_or samples k sample
      → values ≡ part_values (plain_rows layout.bits rows) (part_at layout pair)
      → next_values ≡ part_values (plain_rows layout.bits rows) (part_at layout (pair + 1))
      → value ≡ part_value (take layout.bits sample.query) (part_at layout pair)
      → next_value ≡ part_value (take layout.bits sample.query) (part_at layout (pair + 1))
      → least ≡ least_of_levels (with_part (with_part (levels_in table) pair values value) (pair + 1) next_values next_value)
      → least ≡ sample_cost layout rows sample
  tried_cost k table sample values next_values value next_value least below is_table is_sample is_values is_next value_is next_is is =
      let number = beside.number in
      let plain = plain_rows layout.bits rows in
      let asked = plain_sample layout.bits sample in
      let near : (levels_in table).tau ≡ sample.tau = ap (λ (t : PairTable). (levels_in t).tau) is_table ∙ beside.near.radii k sample table below
      ∙ ap (λ (s : Sample W). s.tau) (sym is_sample) in
      let one = levels_counted plain (levels_in table) (with_part (levels_in table) pair values value) pair (part_at layout pair) values value asked refl
      is_values value_is near in
      let two = levels_counted plain (with_part (levels_in table) pair values value)
      (with_part (with_part (levels_in table) pair values value) (pair + 1) next_values next_value) (pair + 1) (part_at layout (pair + 1)) next_values
      next_value asked refl is_next next_is near in
      let all = two ∙ ap (λ t. with_levels plain t (pair + 1) asked (part_at layout (pair + 1))) one
      ∙ ap (λ (t : PairTable). with_levels plain (with_levels plain (levels_in t) pair asked (part_at layout pair)) (pair + 1) asked
      (part_at layout (pair + 1))) is_table
      ∙ ap (λ (s : Sample W). with_levels plain (with_levels plain (levels_in (get_or tables k table)) pair (plain_sample layout.bits s)
      (part_at layout pair)) (pair + 1) (plain_sample layout.bits s) (part_at layout (pair + 1))) is_sample
      ∙ beside.each k sample table below
      ∙ ap (λ (s : Sample W). level_table plain layout.parts (plain_sample layout.bits s)) (sym is_sample) in
      let query = subst (λ (s : Sample W). IsSmallSample layout.bits s) (sym is_sample) (task.each k sample below) in
      is ∙ ap least_of_levels all
      ∙ ap (λ n. least_cost (level_count (level_table plain layout.parts asked)) sample.tau n)
      (length-map layout.parts (sample_levels plain asked))
      ∙ least_is_of_rows layout.bits plain asked (plain_codes W layout.bits rows task.codes) query.query.is_code agrees layout.parts laid.layout.some_part

-- one table more is turned
pub turned_more : (pair count : ℕ) (tables : List PairTable) (own : PairTable) → count < length tables → IsTurnedTo pair own → AreTurned pair count tables
    → AreTurned pair (count + 1) (set tables count own)
turned_more pair count tables own below turned are =
    let long = length-set tables count own in
    record {
      each = λ k table less inside.
          elim (cases_eq k count) [
            | inl same ↦ subst (λ i. IsTurnedTo pair (get_or (set tables count own) i table)) (sym same)
                (rw (get_or-set_same tables count own table below) turned)
            | inr differs ↦ rw (get_or-set_other tables count k own table differs) (are.each k table (omega (arith, less, differs)) (omega arith))
          ];
    }

-- and the counts stay
pub same_more : (old now : List PairTable) (k : ℕ) (own : PairTable) → k < length now
    → ((table : PairTable) → levels_in own ≡ levels_in (get_or now k table)) → HaveSameCounts old now → HaveSameCounts old (set now k own)
same_more old now k own below same have =
    record {
      number = length-set now k own ∙ have.number;
      each = λ j table less.
          elim (cases_eq j k) [
            | inl here ↦ subst (λ i. levels_in (get_or (set now k own) i table) ≡ levels_in (get_or old i table)) (sym here)
                (ap levels_in (get_or-set_same now k own table below) ∙ same table
                ∙ have.each k table (let n = have.number in omega arith))
            | inr differs ↦ ap levels_in (get_or-set_other now k j own table differs) ∙ have.each j table less
          ];
    }

-- tables of one layout with the same counts
pub tables_same : {W : ℕ} (bits : ℕ) (rows : List (ℕ × List ℕ)) (samples : List (Sample W)) (parts : List (List ℕ)) (old new : List PairTable)
    → AreTables bits rows samples parts old → HaveSameCounts old new → AreTables bits rows samples parts new
tables_same bits rows samples parts old new are same =
    record {
      number = same.number ∙ are.number;
      each = λ k sample table below. same.each k table (let n = are.number in omega arith) ∙ are.each k sample table below;
    }
