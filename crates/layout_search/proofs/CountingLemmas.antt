-- The counts of a part, sample by sample.
use Rattle.std.proofs.Common.{◌≡◌, ℕ, ◌+◌, ◌<◌, ◌≤◌, List, [], ◌∷◌, ◌++◌, length, map, take, get_or, set, refl, sym, ◌∙◌, ap, arith, subst, inl, inr}
use Rattle.std.proofs.lemmas.Bool.{cases_eq}
use Rattle.std.proofs.lemmas.List.{get_or-set_same, get_or-set_other, length-set, get_or-map, length-map, get_or_default, get_or_push, get_or_append_left, same_lists}
use Rattle.hamming_model.specs.Codes.{StandsFor}
use Rattle.hamming_model.specs.Layouts.{part_value}
use Rattle.part_layout.specs.Laid.{Laid, IsValue, part_at}
use Rattle.search_model.specs.Reading.{unpadded}
use Rattle.shard_version.specs.Tables.{part_values}
use Rattle.sample_table.specs.Levels.{LevelTable, levels_of, with_part}
use Rattle.layout_search.specs.Counted.{sample_levels, level_table}
use Rattle.layout_search.specs.Improves.{plain_sample}
use Rattle.layout_search.specs.Inside.{plain_rows, AreCounted, AreStoredRows, ArePartly, AreTables, HaveParts, with_levels}
use Rattle.exchange_model.specs.Rounds.{PlainSample}
use Rattle.layout_search.specs.Seen.{levels_in}
use Rattle.layout_search.specs.declared.sample.Sample.{Sample}
use Rattle.sample_table.specs.Levels.{PairTable}

-- the values of the first so many rows at a part
abbrev pub AreValues : ℕ → List (ℕ × List ℕ) → List ℕ → ℕ → List ℕ → Type 0
AreValues bits rows part count values =
    (length values ≡ length rows)
    × ((k : ℕ) (other : ℕ × List ℕ) → k < count → get_or values k 0 ≡ part_value (take bits (get_or rows k other).1) part)

pub value_more : (W : ℕ) (layout : Laid) (rows : List (ℕ × List ℕ)) (values : List ℕ) (part k value : ℕ) (row : ℕ × List ℕ) → k < length rows
    → row ≡ get_or rows k row → AreStoredRows W layout.bits rows → IsValue W layout row.1 part value
    → AreValues layout.bits rows (part_at layout part) k values → AreValues layout.bits rows (part_at layout part) (k + 1) (set values k value)
value_more W layout rows values part k value row below is stored valued before =
    let long = length-set values k value in
    let own = subst (λ (entry : ℕ × List ℕ). StandsFor W layout.bits entry.1 (take layout.bits entry.1)) (sym is) (stored k row below) in
    let here = valued (take layout.bits row.1) own in (
      long ∙ before.0,
      λ j other less.
          elim (cases_eq j k) [
            | inl same ↦ subst (λ i. get_or (set values k value) i 0 ≡ part_value (take layout.bits (get_or rows i other).1) (part_at layout part))
                (sym same)
                (get_or-set_same values k value 0 (let h = before.0 in omega arith) ∙ here
                ∙ ap (λ (entry : ℕ × List ℕ). part_value (take layout.bits entry.1) (part_at layout part)) (is ∙ get_or_default rows k row other below))
            | inr differs ↦ get_or-set_other values k j value 0 differs ∙ before.1 j other (omega (arith, less, differs))
          ],
    )

pub values_all : (bits : ℕ) (rows : List (ℕ × List ℕ)) (values part : List ℕ) (k : ℕ) → length rows ≤ k → AreValues bits rows part k values
    → values ≡ part_values (plain_rows bits rows) part
values_all bits rows values part k all are =
    let one = length-map rows (unpadded bits) in
    let two = length-map (plain_rows bits rows) (λ (row : ℕ × List ℕ). part_value row.1 part) in
    let zero_row : ℕ × List ℕ = (0, []) in
    same_lists values (part_values (plain_rows bits rows) part) (let h = are.0 in omega arith)
    (λ j d less.
    let h = are.0 in
    get_or_default values j d 0 less ∙ are.1 j zero_row (omega arith)
    ∙ ap (λ (entry : ℕ × List ℕ). part_value entry.1 part) (sym (get_or-map (unpadded bits) rows j zero_row zero_row (omega arith)))
    ∙ sym (get_or-map (λ (row : ℕ × List ℕ). part_value row.1 part) (plain_rows bits rows) j zero_row d (omega arith)))

-- one table more is counted anew
pub counted_more : {W : ℕ} (bits : ℕ) (rows : List (ℕ × List ℕ)) (samples : List (Sample W)) (number : ℕ) (part : List ℕ) (old new : List PairTable)
    (k : ℕ) (own : PairTable)
    → k < length old
    → ((sample : Sample W) (table : PairTable) → levels_in own ≡ with_levels (plain_rows bits rows) (levels_in (get_or old k table)) number
    (plain_sample bits (get_or samples k sample)) part)
    → AreCounted bits rows samples number part old new k → AreCounted bits rows samples number part old (set new k own) (k + 1)
counted_more {W} bits rows samples number part old new k own below counted before =
    let long = length-set new k own in
    record {
      size = long ∙ before.size;
      done = λ j sample table less short.
          elim (cases_eq j k) [
            | inl same ↦ subst (λ i. levels_in (get_or (set new k own) i table)
                ≡ with_levels (plain_rows bits rows) (levels_in (get_or old i table)) number (plain_sample bits (get_or samples i sample)) part) (sym same)
                (ap levels_in (get_or-set_same new k own table (let h = before.size in omega arith)) ∙ counted sample table)
            | inr differs ↦ ap levels_in (get_or-set_other new k j own table differs) ∙ before.done j sample table (omega (arith, less, differs)) short
          ];
      left = λ j table beyond. get_or-set_other new k j own table (λ (same : j ≡ k). omega (arith, beyond, same)) ∙ before.left j table (omega arith);
    }

-- a table with a part counted anew has the levels of its sample there
pub levels_counted : (rows : List (ℕ × List ℕ)) (old new : LevelTable) (number : ℕ) (part values : List ℕ) (value : ℕ) (sample : PlainSample)
    → new ≡ with_part old number values value → values ≡ part_values rows part → value ≡ part_value sample.query part → old.tau ≡ sample.tau
    → new ≡ with_levels rows old number sample part
levels_counted rows old new number part values value sample is is_values is_value is_tau =
    let same : levels_of values value (old.tau + 2) ≡ sample_levels rows sample part = rw (is_values, is_value, is_tau) refl in
    is ∙ ap (λ (ls : List ℕ). record { tau = old.tau; rows = set old.rows number ls }) same

-- the table of a sample that is counted is that of before
pub own_table : {W : ℕ} (bits : ℕ) (rows : List (ℕ × List ℕ)) (samples : List (Sample W)) (number : ℕ) (part : List ℕ) (old between : List PairTable)
    (k : ℕ) (own table : PairTable)
    → k < length old → own ≡ get_or between k own → AreCounted bits rows samples number part old between k → own ≡ get_or old k table
own_table bits rows samples number part old between k own table below is counted =
    is ∙ counted.left k own (omega arith) ∙ get_or_default old k own table below

-- tables with the same radius and rows are the same
table_same : (one other : LevelTable) → one.tau ≡ other.tau → one.rows ≡ other.rows → one ≡ other
table_same one other tau rows = ap (λ n. record { tau = n; rows = one.rows }) tau ∙ ap (λ rs. record { tau = other.tau; rows = rs }) rows

-- one part more is counted
pub partly_more : {W : ℕ} (bits : ℕ) (rows : List (ℕ × List ℕ)) (samples : List (Sample W)) (parts : List (List ℕ)) (old new : List PairTable)
    (count : ℕ) → count < length parts
    → ArePartly bits rows samples parts old count → AreCounted bits rows samples count (get_or parts count []) old new (length old)
    → ArePartly bits rows samples parts new (count + 1)
partly_more {W} bits rows samples parts old new count below before counted =
    let size = counted.size in
    let number = before.number in
    let levels = λ (k : ℕ) (s : Sample W). sample_levels (plain_rows bits rows) (plain_sample bits (get_or samples k s)) (get_or parts count []) in
    record {
      number = size ∙ number;
      wide = record {
        sizes = λ k table short.
            let s : Sample W = record { query = []; tau = 0 } in
            ap (λ (t : LevelTable). length t.rows) (counted.done k s table (omega arith) (omega arith))
            ∙ length-set (levels_in (get_or old k table)).rows count (levels k s) ∙ before.wide.sizes k table (omega arith);
      };
      near = record {
        radii = λ k sample table short.
            ap (λ (t : LevelTable). t.tau) (counted.done k sample table (omega arith) (omega arith)) ∙ before.near.radii k sample table short;
      };
      each = λ k part sample table short less inside.
          let wide = before.wide.sizes k table (omega arith) in
          ap (λ (t : LevelTable). get_or t.rows part []) (counted.done k sample table (omega arith) (omega arith))
          ∙ elim (cases_eq part count) [
            | inl same ↦ subst (λ p. get_or (set (levels_in (get_or old k table)).rows count (levels k sample)) p []
                ≡ sample_levels (plain_rows bits rows) (plain_sample bits (get_or samples k sample)) (get_or parts p [])) (sym same)
                (get_or-set_same (levels_in (get_or old k table)).rows count (levels k sample) [] (omega arith))
            | inr differs ↦ get_or-set_other (levels_in (get_or old k table)).rows count part (levels k sample) [] differs
                ∙ before.each k part sample table short (omega (arith, less, differs)) inside
          ];
    }

-- and at the end all
pub partly_all : {W : ℕ} (bits : ℕ) (rows : List (ℕ × List ℕ)) (samples : List (Sample W)) (parts : List (List ℕ)) (tables : List PairTable)
    (count : ℕ) → length parts ≤ count
    → ArePartly bits rows samples parts tables count → AreTables bits rows samples parts tables
partly_all {W} bits rows samples parts tables count all are =
    let number = are.number in
    record {
      number = are.number;
      each = λ k sample table below.
          let wide = are.wide.sizes k table (omega arith) in
          let levels = sample_levels (plain_rows bits rows) (plain_sample bits (get_or samples k sample)) in
          let long = length-map parts levels in
          table_same (levels_in (get_or tables k table)) (level_table (plain_rows bits rows) parts (plain_sample bits (get_or samples k sample)))
          (are.near.radii k sample table below)
          (same_lists (levels_in (get_or tables k table)).rows (map levels parts) (omega arith)
          (λ part d less.
          get_or_default (levels_in (get_or tables k table)).rows part d [] less ∙ are.each k part sample table below (omega arith) (omega arith)
          ∙ sym (get_or-map levels parts part [] d (omega arith))));
    }

-- a table more at the end
module _ (at : ℕ) (tables : List PairTable) (own : PairTable) (size : length tables ≡ at) where
  pushed_before : (k : ℕ) (table : PairTable) → k < at → get_or (tables ++ own ∷ []) k table ≡ get_or tables k table
  pushed_before k table less = get_or_append_left tables (own ∷ []) table k (omega arith)

  pub parts_pushed : (parts : ℕ) → length (levels_in own).rows ≡ parts → HaveParts parts at tables → HaveParts parts (at + 1) (tables ++ own ∷ [])
  parts_pushed parts wide have =
      record {
        sizes = λ k table less.
            elim (cases_eq k at) [
              | inl same ↦ ap (λ (t : PairTable). length (levels_in t).rows) (get_or_push tables own table k (size ∙ sym same)) ∙ wide
              | inr differs ↦ ap (λ (t : PairTable). length (levels_in t).rows) (pushed_before k table (omega (arith, less, differs)))
                  ∙ have.sizes k table (omega (arith, less, differs))
            ];
      }

  pub radii_pushed : {W : ℕ} (samples : List (Sample W)) → ((sample : Sample W) → (levels_in own).tau ≡ (get_or samples at sample).tau)
      → ((k : ℕ) (sample : Sample W) (table : PairTable) → k < at → (levels_in (get_or tables k table)).tau ≡ (get_or samples k sample).tau)
      → (k : ℕ) (sample : Sample W) (table : PairTable) → k < at + 1 → (levels_in (get_or (tables ++ own ∷ []) k table)).tau
      ≡ (get_or samples k sample).tau
  radii_pushed {W} samples near have k sample table less =
      elim (cases_eq k at) [
        | inl same ↦ ap (λ (t : PairTable). (levels_in t).tau) (get_or_push tables own table k (size ∙ sym same)) ∙ near sample
            ∙ ap (λ n. (get_or samples n sample).tau) (sym same)
        | inr differs ↦ ap (λ (t : PairTable). (levels_in t).tau) (pushed_before k table (omega (arith, less, differs)))
            ∙ have k sample table (omega (arith, less, differs))
      ]
