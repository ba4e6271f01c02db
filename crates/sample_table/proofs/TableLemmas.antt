-- Tables with parts counted anew, and the least costs over them.
use Rattle.std.proofs.Common.{◌≡◌, ℕ, zero, suc, ◌+◌, ◌-◌, ◌<◌, ◌≤◌, min, cond, inl, inr, List, [], ◌∷◌, length, get_or, set, refl, sym, ◌∙◌, ap, arith, subst}
use Rattle.std.proofs.lemmas.Bool.{cases_eq, cases_lt, lt-ltb, le-ltb}
use Rattle.std.proofs.lemmas.List.{get_or-set_same, get_or-set_other, get_or-map, length-map, length-set, map-set}
use Rattle.std.specs.Global.{Vec}
use Rattle.exchange_model.specs.Least.{IsLeastSum, least_cost}
use Rattle.exchange_model.specs.declared.limits.TheConstants.{SEARCH_ROWS_MOST}
use Rattle.exchange_model.specs.Pairs.{counts_beside, counts_of_pair, least_beside, place_beside}
use Rattle.sample_table.specs.Kept.{IsTableKept, sample_table_of}
use Rattle.sample_table.specs.Levels.{LevelTable, PairTable, least_of_levels, level_count, levels_of, with_part}
use Rattle.sample_table.specs.Sums.{AreCountRows, AreLeastSums, IsCountRow, IsLeastJoint, counts_in, kept_rows}
use Rattle.sample_table.proofs.CountLemmas.{levels_row}
use Rattle.sample_table.proofs.SumLemmas.{two_least}

-- the laws of the least cost
abbrev pub SplitsLaw : Type 0
SplitsLaw = (count : ℕ → ℕ → ℕ) (tau parts least : ℕ) → 0 < parts → IsLeastSum count 0 parts (tau + 1) least → least ≡ least_cost count tau parts

abbrev pub AgreeLaw : Type 0
AgreeLaw = (one other : ℕ → ℕ → ℕ) (tau parts : ℕ) → 0 < parts
    → ((part units : ℕ) → part < parts → units ≤ tau + 1 → one part units ≡ other part units)
    → least_cost one tau parts ≡ least_cost other tau parts

abbrev pub ThreeLaw : Type 0
ThreeLaw = (count : ℕ → ℕ → ℕ) (tau pair parts : ℕ) → 3 ≤ parts → pair + 1 < parts → ((part : ℕ) → part < parts → count part 0 ≡ 0)
    → least_cost (counts_of_pair count pair (least_beside count pair parts)) tau 3 ≡ least_cost count tau parts

-- a row of so many counts put at a part
pub rows_with : (width : ℕ) (rows : List (List ℕ)) (part : ℕ) (row : List ℕ) → AreCountRows width rows → IsCountRow width row
    → AreCountRows width (set rows part row)
rows_with width rows part row are is = λ other below.
    let long = length-set rows part row in
    elim (cases_eq other part) [
      | inl same ↦ subst (λ k. IsCountRow width (get_or (set rows part row) k [])) (sym same)
          (rw (get_or-set_same rows part row [] (omega (arith, below, long, same))) is)
      | inr differs ↦ rw (get_or-set_other rows part other row [] differs) (are other (omega arith))
    ]

-- a part of a kept table counted anew
module _ (tau : ℕ) (rows : List (Vec ℕ)) (others : List ℕ) (table : PairTable) (part : ℕ) (own new : Vec ℕ) (values : List ℕ) (value : ℕ)
    (seen : sample_table_of tau rows others ≡ table) (below : part < length rows) (is : own ≡ get_or rows part own)
    (counted : AreCountRows (tau + 2) (kept_rows rows)) (put : length own.items ≡ tau + 2 → new.items ≡ levels_of values value (tau + 2)) where
  items_are : new.items ≡ levels_of values value (tau + 2)
  items_are =
      let long = length-map rows (λ (row : Vec ℕ). row.items) in
      let same : own.items ≡ get_or (kept_rows rows) part [] = ap (λ (row : Vec ℕ). row.items) is
      ∙ sym (get_or-map (λ (row : Vec ℕ). row.items) rows part own [] below) in
      put (ap length same ∙ (counted part (omega arith)).size)

  rows_are : kept_rows (set rows part new) ≡ set (kept_rows rows) part (levels_of values value (tau + 2))
  rows_are = map-set (λ (row : Vec ℕ). row.items) rows part new ∙ ap (set (kept_rows rows) part) items_are

  pub part_seen : ◌≡◌ {A = LevelTable} (record { tau = tau; rows = kept_rows (set rows part new) }) (with_part table.levels part values value)
  part_seen = subst (λ (t : PairTable). ◌≡◌ {A = LevelTable} (record { tau = tau; rows = kept_rows (set rows part new) })
      (with_part t.levels part values value)) seen (ap (λ (rs : List (List ℕ)). record { tau = tau; rows = rs }) rows_are)

  pub part_kept : (first next sums : List ℕ) → length values ≤ 64 → IsTableKept tau rows others first next sums
      → IsTableKept tau (set rows part new) others first next sums
  part_kept first next sums few is_kept =
      record {
        near = is_kept.near;
        counted = subst (AreCountRows (tau + 2)) (sym rows_are)
            (rows_with (tau + 2) (kept_rows rows) part (levels_of values value (tau + 2)) counted (levels_row values value (tau + 2) few (omega arith)));
        beside = is_kept.beside;
        first_fits = is_kept.first_fits;
        next_fits = is_kept.next_fits;
        sums_fit = is_kept.sums_fit;
      }

-- up to tau + 1 units a row has the counts themselves
own_count : (table : LevelTable) (part units : ℕ) → units ≤ table.tau + 1 → counts_in table.rows part units ≡ level_count table part units
own_count table part units few =
    let same : units ≡ min units (table.tau + 1) = omega arith in
    ap (λ n. get_or (get_or table.rows part []) n 0) same

-- the last of the least sums of all rows is the least cost
pub whole_least : (splits : SplitsLaw) (agrees : AgreeLaw) (table : LevelTable) (parts width : ℕ) (sums : List ℕ) → parts ≡ length table.rows → 0 < parts
    → width ≡ table.tau + 2
    → AreLeastSums (counts_beside (counts_in table.rows) parts) 0 parts width sums
    → get_or sums (table.tau + 1) 0 ≡ least_of_levels table
whole_least splits agrees table parts width sums number some wide are =
    splits (counts_beside (counts_in table.rows) parts) table.tau parts (get_or sums (table.tau + 1) 0) some (are (table.tau + 1) (omega arith))
    ∙ agrees (counts_beside (counts_in table.rows) parts) (level_count table) table.tau parts some
    (λ part units below few.
    ap (λ b. counts_in table.rows (cond b part (part + 2)) units) (lt-ltb part parts below) ∙ own_count table part units few)
    ∙ ap (least_cost (level_count table) table.tau) number

-- the least sums of all rows but a pair are the least costs beside it
module _ (splits : SplitsLaw) (agrees : AgreeLaw) (table : LevelTable) (pair parts width : ℕ) (sums : List ℕ) (number : parts ≡ length table.rows)
    (three : 3 ≤ parts) (wide : width ≡ table.tau + 2) (row : IsCountRow width sums)
    (are : AreLeastSums (counts_beside (counts_in table.rows) pair) 0 (parts - 2) width sums) where
  pub beside_least : (units : ℕ) → units ≤ table.tau + 1 → get_or sums units 0 ≡ least_beside (level_count table) pair parts units
  beside_least zero few = row.starts
  beside_least (suc tau) few =
      let one : suc tau ≡ tau + 1 = omega arith in
      splits (counts_beside (counts_in table.rows) pair) tau (parts - 2) (get_or sums (suc tau) 0) (omega arith)
      (subst (λ n. IsLeastSum (counts_beside (counts_in table.rows) pair) 0 (parts - 2) n (get_or sums (suc tau) 0)) one (are (suc tau) (omega arith)))
      ∙ agrees (counts_beside (counts_in table.rows) pair) (counts_beside (level_count table) pair) tau (parts - 2) (omega arith)
      (λ part units below less. own_count table (place_beside pair part) units (omega arith))

-- a trial of other counts at a pair
module _ (splits : SplitsLaw) (agrees : AgreeLaw) (three : ThreeLaw) (table : LevelTable) (pair : ℕ) (values : List ℕ) (value : ℕ) (next_values : List ℕ)
    (next_value : ℕ) (inside : pair + 1 < length table.rows) (counted : AreCountRows (table.tau + 2) table.rows) (few : length values ≤ 64)
    (few_next : length next_values ≤ 64) where
  abbrev pub first_row : List ℕ
  first_row = levels_of values value (table.tau + 2)

  abbrev pub next_row : List ℕ
  next_row = levels_of next_values next_value (table.tau + 2)

  abbrev pub tried : LevelTable
  tried = with_part (with_part table pair values value) (pair + 1) next_values next_value

  tried_size : length tried.rows ≡ length table.rows
  tried_size =
      length-set (set table.rows pair (levels_of values value (table.tau + 2))) (pair + 1) (levels_of next_values next_value (table.tau + 2))
      ∙ length-set table.rows pair (levels_of values value (table.tau + 2))

  tried_first : (units : ℕ) → units ≤ table.tau + 1 → level_count tried pair units ≡ get_or first_row units 0
  tried_first units few_units =
      let same : min units (table.tau + 1) ≡ units = omega arith in
      ap (λ n. get_or (get_or tried.rows pair []) n 0) same
      ∙ ap (λ (row : List ℕ). get_or row units 0)
      (get_or-set_other (set table.rows pair (levels_of values value (table.tau + 2))) (pair + 1) pair (levels_of next_values next_value (table.tau + 2)) []
      (λ (same : pair ≡ pair + 1). omega (arith, same))
      ∙ get_or-set_same table.rows pair (levels_of values value (table.tau + 2)) [] (omega arith))

  tried_next : (units : ℕ) → units ≤ table.tau + 1 → level_count tried (pair + 1) units ≡ get_or next_row units 0
  tried_next units few_units =
      let same : min units (table.tau + 1) ≡ units = omega arith in
      let long = length-set table.rows pair (levels_of values value (table.tau + 2)) in
      ap (λ n. get_or (get_or tried.rows (pair + 1) []) n 0) same
      ∙ ap (λ (row : List ℕ). get_or row units 0)
      (get_or-set_same (set table.rows pair (levels_of values value (table.tau + 2))) (pair + 1) (levels_of next_values next_value (table.tau + 2)) []
      (omega arith))

  tried_other : (part units : ℕ) → (part ≡ pair → ⊥) → (part ≡ pair + 1 → ⊥) → level_count tried part units ≡ level_count table part units
  tried_other part units not_first not_next =
      ap (λ (row : List ℕ). get_or row (min units (table.tau + 1)) 0)
      (get_or-set_other (set table.rows pair (levels_of values value (table.tau + 2))) (pair + 1) part (levels_of next_values next_value (table.tau + 2)) []
      not_next
      ∙ get_or-set_other table.rows pair part (levels_of values value (table.tau + 2)) [] not_first)

  tried_rows : AreCountRows (table.tau + 2) tried.rows
  tried_rows =
      rows_with (table.tau + 2) (set table.rows pair (levels_of values value (table.tau + 2))) (pair + 1) (levels_of next_values next_value (table.tau + 2))
      (rows_with (table.tau + 2) table.rows pair (levels_of values value (table.tau + 2)) counted
      (levels_row values value (table.tau + 2) few (omega arith))) (levels_row next_values next_value (table.tau + 2) few_next (omega arith))

  tried_starts : (part : ℕ) → part < length table.rows → level_count tried part 0 ≡ 0
  tried_starts part below =
      let size = tried_size in
      let none : min 0 (table.tau + 1) ≡ 0 = omega arith in
      ap (λ n. get_or (get_or tried.rows part []) n 0) none ∙ (tried_rows part (omega arith)).starts

  -- what all others cost stays
  others_stay : (units : ℕ) → units ≤ table.tau + 1 → 3 ≤ length table.rows
      → least_beside (level_count table) pair (length table.rows) units ≡ least_beside (level_count tried) pair (length table.rows) units
  others_stay zero few_units many = refl
  others_stay (suc tau) few_units many =
      agrees (counts_beside (level_count table) pair) (counts_beside (level_count tried) pair) tau (length table.rows - 2) (omega arith)
      (λ part units below less. elim (cases_lt part pair) [
        | inl before ↦ rw (lt-ltb part pair before)
            (sym (tried_other part units (λ (same : part ≡ pair). omega (arith, same, before)) (λ (same : part ≡ pair + 1). omega (arith, same, before))))
        | inr past ↦ rw (le-ltb part pair past)
            (sym (tried_other (part + 2) units (λ (same : part + 2 ≡ pair). omega (arith, same, past))
            (λ (same : part + 2 ≡ pair + 1). omega (arith, same, past))))
      ])

  each : (others : List ℕ) → 3 ≤ length table.rows
      → ((units : ℕ) → units ≤ table.tau + 1 → get_or others units 0 ≡ least_beside (level_count table) pair (length table.rows) units)
      → (part units : ℕ) → part < 3 → units ≤ table.tau + 1 → counts_in (first_row ∷ next_row ∷ others ∷ []) part units
      ≡ counts_of_pair (level_count tried) pair (least_beside (level_count tried) pair (length table.rows)) part units
  each others many turned zero units below less = sym (tried_first units less)
  each others many turned (suc zero) units below less = sym (tried_next units less)
  each others many turned (suc (suc zero)) units below less = turned units less ∙ others_stay units less many
  each others many turned (suc (suc (suc part))) units below less = absurd (omega (arith, below))

  pub three_tried : (others : List ℕ) (least : ℕ) → 3 ≤ length table.rows
      → ((units : ℕ) → units ≤ table.tau + 1 → get_or others units 0 ≡ least_beside (level_count table) pair (length table.rows) units)
      → IsLeastSum (counts_in (first_row ∷ next_row ∷ others ∷ [])) 0 3 (table.tau + 1) least → least ≡ least_of_levels tried
  three_tried others least many turned is =
      splits (counts_in (first_row ∷ next_row ∷ others ∷ [])) table.tau 3 least (omega arith) is
      ∙ agrees (counts_in (first_row ∷ next_row ∷ others ∷ []))
      (counts_of_pair (level_count tried) pair (least_beside (level_count tried) pair (length table.rows))) table.tau 3 (omega arith) (each others many turned)
      ∙ three (level_count tried) table.tau pair (length table.rows) many inside tried_starts
      ∙ ap (least_cost (level_count tried) table.tau) (sym tried_size)

  pub two_tried : (least : ℕ) → length table.rows ≡ 2 → IsLeastJoint first_row next_row (table.tau + 1) least → least ≡ least_of_levels tried
  two_tried least two is =
      let none : 0 ≡ pair = omega arith in
      let one : 1 ≡ pair + 1 = omega arith in
      splits (level_count tried) table.tau 2 least (omega arith)
      (two_least (level_count tried) first_row next_row (table.tau + 1) least
      (λ u le. ap (λ part. level_count tried part u) none ∙ tried_first u le)
      (λ u le. ap (λ part. level_count tried part u) one ∙ tried_next u le) is)
      ∙ ap (least_cost (level_count tried) table.tau) (sym (tried_size ∙ two))

-- how many rows a kept table has
pub rows_number : (tau : ℕ) (rows : List (Vec ℕ)) (others : List ℕ) (table : PairTable) → sample_table_of tau rows others ≡ table
    → length rows ≡ length table.levels.rows
rows_number tau rows others table seen =
    sym (length-map rows (λ (row : Vec ℕ). row.items)) ∙ ap (λ (t : PairTable). length t.levels.rows) seen

pub row_below : (tau : ℕ) (rows : List (Vec ℕ)) (others : List ℕ) (table : PairTable) (part : ℕ) → sample_table_of tau rows others ≡ table
    → part < length table.levels.rows → part < length rows
row_below tau rows others table part seen below = let size = rows_number tau rows others table seen in omega arith

-- a row of a trial, as it was written and is read
pub row_read : (tau : ℕ) (own lent values : List ℕ) (value : ℕ) (written : List ℕ) → lent ≡ written → written ≡ levels_of values value (length own)
    → length own ≡ tau + 2 → lent ≡ levels_of values value (tau + 2)
row_read tau own lent values value written same is fits = same ∙ is ∙ ap (levels_of values value) fits

-- it counts, for as many numbers as another row has
pub row_counts : (tau number : ℕ) (lent values : List ℕ) (value : ℕ) → lent ≡ levels_of values value (tau + 2) → number ≡ tau + 2
    → length values ≤ SEARCH_ROWS_MOST → IsCountRow number lent
row_counts tau number lent values value is many few =
    subst (λ n. IsCountRow n lent) (sym many) (subst (IsCountRow (tau + 2)) (sym is) (levels_row values value (tau + 2) few (omega arith)))
