-- A row written into the rows of picks, and a split read out of them.
use Rattle.std.proofs.Common.{◌≡◌, ℤ, ℕ, zero, suc, ◌+◌, ◌-◌, ◌*◌, ◌<◌, ◌≤◌, List, [], ◌∷◌, ◌++◌, length, take, get_or, map}
use Rattle.std.proofs.Common.{drop, set, refl, sym, ap, ◌∙◌, subst, arith}
use Rattle.std.proofs.Math.Nat.{mul_comm}
use Rattle.std.proofs.lemmas.List.{length-take-le, length-drop, length-append, take_at, drop_at}
use Rattle.std.proofs.lemmas.List.{drop-drop, get_or-take, get_or-drop, get_or-set_same, drop-set-lt, append_assoc}
use Rattle.std.proofs.lemmas.Nat.{mul-add-lt}
use borrow.Rule.Slice.PartMut.{put_mid, post_of}
use Rattle.threshold_model.specs.Splits.{units_total, split_cost, threshold_of, IsBest}
use Rattle.threshold_dp.specs.Table.{pick_rows, follow, joint_cost, AreAsked, IsFirstLeast, IsRowFrom, IsLastRow, IsSolved}
use Rattle.threshold_dp.proofs.TableLemmas.{best_more, same_first, solved_last, solved_more}

-- a place in a row
pub place_below : (part parts width at : ℕ) → part < parts → at < width → part * width + at < parts * width
place_below part parts width at less within =
    omega (arith, mul-add-lt part width at parts less within, mul_comm width parts)

-- a row lies within all rows
pub row_within : (part parts width : ℕ) → part < parts → 0 < width → part * width + width ≤ parts * width
row_within part parts width less some =
    let last = place_below part parts width (width - 1) less (omega arith) in
    omega arith

-- the next row begins a width later
next_row : (part width : ℕ) → part * width + width ≡ (part + 1) * width
next_row part width = omega arith

-- the rows of one part more
rows_more : (width parts part : ℕ) (picks : List ℕ) → part < parts
    → pick_rows width (parts - part) (drop (part * width) picks)
    ≡ take width (drop (part * width) picks) ∷ pick_rows width (parts - (part + 1)) (drop ((part + 1) * width) picks)
rows_more width parts part picks less =
    let more : parts - part ≡ suc (parts - (part + 1)) = omega arith in
    let rest : List ℕ = drop (part * width) picks in
    ap (λ n. pick_rows width n rest) more
    ∙ ap (λ xs. take width rest ∷ pick_rows width (parts - (part + 1)) xs)
    (drop-drop width (part * width) picks ∙ ap (λ n. drop n picks) (next_row part width))

-- the row of one part is written
module _ (picks row : List ℕ) (width parts part span : ℕ) (wide : span ≡ width) (less : part < parts) (some : 0 < width)
    (size : length row ≡ width) (room : parts * width ≤ length picks) where
  abbrev pub written : List ℕ
  written = put_mid (part * width) span picks row

  front_size : length (take (part * width) picks) ≡ part * width
  front_size = length-take-le (part * width) picks (omega (arith, row_within part parts width less some, room))

  from_row : drop (part * width) written ≡ row ++ drop width (drop (part * width) picks)
  from_row =
      drop_at (take (part * width) picks) (row ++ post_of (part * width) span picks) (part * width) front_size
      ∙ ap (λ n. row ++ post_of (part * width) n picks) wide

  row_there : take width (drop (part * width) written) ≡ row
  row_there = ap (take width) from_row ∙ take_at row (drop width (drop (part * width) picks)) width size

  rest_kept : drop ((part + 1) * width) written ≡ drop ((part + 1) * width) picks
  rest_kept =
      ap (λ n. drop n written) (sym (next_row part width)) ∙ sym (drop-drop width (part * width) written)
      ∙ ap (drop width) from_row ∙ drop_at row (drop width (drop (part * width) picks)) width size
      ∙ drop-drop width (part * width) picks ∙ ap (λ n. drop n picks) (next_row part width)

  rows_written : pick_rows width (parts - part) (drop (part * width) written)
      ≡ row ∷ pick_rows width (parts - (part + 1)) (drop ((part + 1) * width) picks)
  rows_written =
      rows_more width parts part written less
      ∙ ap (λ one. one ∷ pick_rows width (parts - (part + 1)) (drop ((part + 1) * width) written)) row_there
      ∙ ap (λ xs. row ∷ pick_rows width (parts - (part + 1)) xs) rest_kept

  -- the last part is solved
  pub solved_first : (count : ℕ → ℕ → ℕ) (asked costs : List ℕ) → parts ≡ part + 1 → AreAsked count part width asked
      → IsLastRow width asked costs row
      → IsSolved count part (pick_rows width (parts - part) (drop (part * width) written)) costs width
  solved_first count asked costs last asks is_row =
      let none : parts - (part + 1) ≡ 0 = omega arith in
      subst (λ rows. IsSolved count part rows costs width)
      (sym (rows_written ∙ ap (λ n. row ∷ pick_rows width n (drop ((part + 1) * width) picks)) none))
      (solved_last count part width asked costs row asks is_row)

  -- one part more is solved
  pub solved_next : (count : ℕ → ℕ → ℕ) (next : ℕ) (asked before costs : List ℕ) → next ≡ part + 1
      → AreAsked count part width asked
      → IsSolved count next (pick_rows width (parts - next) (drop (next * width) picks)) before width
      → IsRowFrom 0 width asked before costs row
      → IsSolved count part (pick_rows width (parts - part) (drop (part * width) written)) costs width
  solved_next count next asked before costs is_next asks solved is_row =
      subst (λ rows. IsSolved count part rows costs width) (sym rows_written)
      (solved_more count part width (pick_rows width (parts - (part + 1)) (drop ((part + 1) * width) picks))
      asked before costs row asks
      (subst (λ n. IsSolved count n (pick_rows width (parts - n) (drop (n * width) picks)) before width) is_next solved)
      is_row)

  -- and all rows are as many as before
  pub written_size : length written ≡ length picks
  written_size =
      let from : ℕ = part * width in
      let within = row_within part parts width less some in
      let past : length (drop width (drop from picks)) ≡ length (drop from picks) - width = length-drop width (drop from picks) in
      let back : length (drop from picks) ≡ length picks - from = length-drop from picks in
      let same = ap (λ n. length (put_mid from n picks row)) wide in
      let joined = length-append (take from picks) (row ++ post_of from width picks) in
      let both = length-append row (post_of from width picks) in
      omega (arith, front_size, within)

-- the part of the rows that is lent for one row
pub lent_size : (picks : List ℕ) (width parts part span : ℕ) → span ≡ width → part < parts → 0 < width
    → parts * width ≤ length picks → length (take span (drop (part * width) picks)) ≡ width
lent_size picks width parts part span wide less some room =
    let back : length (drop (part * width) picks) ≡ length picks - part * width = length-drop (part * width) picks in
    length-take-le span (drop (part * width) picks) (omega (arith, row_within part parts width less some)) ∙ wide

-- there are so many rows
pub rows_number : (width parts : ℕ) (picks : List ℕ) → length (pick_rows width parts picks) ≡ parts
rows_number width zero picks = refl
rows_number width (suc parts) picks = ap suc (rows_number width parts (drop width picks))

-- all rows, from the first on
pub from_first : (count : ℕ → ℕ → ℕ) (width parts part : ℕ) (picks costs : List ℕ) → part ≡ 0
    → IsSolved count part (pick_rows width (parts - part) (drop (part * width) picks)) costs width
    → IsSolved count 0 (pick_rows width parts picks) costs width
from_first count width parts part picks costs none solved =
    let all : parts - part ≡ parts = omega arith in
    let start : part * width ≡ 0 = ap (λ n. n * width) none ∙ omega arith in
    subst (λ n. IsSolved count n (pick_rows width parts picks) costs width) none
    (subst (λ n. IsSolved count part (pick_rows width n picks) costs width) all
    (subst (λ n. IsSolved count part (pick_rows width (parts - part) (drop n picks)) costs width) start solved))

-- the first part is solved for some units alone, in front of parts that are solved
module _ (count : ℕ → ℕ → ℕ) (width parts units pick : ℕ) (asked costs picks : List ℕ) (less : units < width) (wide : width ≤ length picks)
    (asks : AreAsked count 0 width asked) (solved : IsSolved count 1 (pick_rows width parts (drop (1 * width) picks)) costs width)
    (first : IsFirstLeast (joint_cost asked costs units) units pick) where
  abbrev others : List (List ℕ)
  others = pick_rows width parts (drop (1 * width) picks)

  first_split : follow (pick_rows width (suc parts) (set picks units pick)) units ≡ pick ∷ follow others (units - pick)
  first_split =
      let once : width ≡ 1 * width = omega arith in
      let there : get_or (take width (set picks units pick)) units 0 ≡ pick =
      get_or-take width (set picks units pick) units 0 less ∙ get_or-set_same picks units pick 0 (omega arith) in
      let kept : drop width (set picks units pick) ≡ drop (1 * width) picks =
      drop-set-lt width picks units pick less ∙ ap (λ n. drop n picks) once in
      ap (λ n. n ∷ follow (pick_rows width parts (drop width (set picks units pick))) (units - n)) there
      ∙ ap (λ xs. pick ∷ follow (pick_rows width parts xs) (units - pick)) kept

  pub first_best : IsBest count 0 (suc parts) units (follow (pick_rows width (suc parts) (set picks units pick)) units)
  first_best =
      let joint : ℕ → ℕ = λ x. count 0 x + split_cost count 1 (follow others (units - x)) in
      let agree : (x : ℕ) → x ≤ units → joint_cost asked costs units x ≡ joint x =
      (λ x le. omega (arith, asks.counts x (omega arith), solved.cost (units - x) (omega arith))) in
      let best = best_more count 0 (length others) units pick (follow others)
      (λ left le. solved.best left (omega arith)) (same_first (joint_cost asked costs units) joint units pick agree first) in
      subst (λ n. IsBest count 0 (suc n) units (follow (pick_rows width (suc parts) (set picks units pick)) units)) (rows_number width parts (drop (1
      * width) picks))
      (subst (IsBest count 0 (suc (length others)) units) (sym first_split) best)

  pub first_cost : joint_cost asked costs units pick ≡ split_cost count 0 (follow (pick_rows width (suc parts) (set picks units pick)) units)
  first_cost =
      let within = first.within in
      let here : joint_cost asked costs units pick ≡ split_cost count 0 (pick ∷ follow others (units - pick)) =
      omega (arith, asks.counts pick (omega arith), solved.cost (units - pick) (omega arith)) in
      here ∙ ap (split_cost count 0) (sym first_split)

-- one more entry is read out
module _ (picks : List ℕ) (width parts part left pick taken : ℕ) (less : part < parts) (inside : left < width)
    (read : pick ≡ get_or picks (part * width + left) 0) (is_taken : taken ≡ pick)
    (sum : units_total (follow (pick_rows width (parts - part) (drop (part * width) picks)) left) ≡ left) where
  abbrev rest : List (List ℕ)
  rest = pick_rows width (parts - (part + 1)) (drop ((part + 1) * width) picks)

  picked : get_or (take width (drop (part * width) picks)) left 0 ≡ pick
  picked =
      get_or-take width (drop (part * width) picks) left 0 inside
      ∙ get_or-drop (part * width) picks left 0 ∙ sym read

  read_next : follow (pick_rows width (parts - part) (drop (part * width) picks)) left ≡ pick ∷ follow rest (left - pick)
  read_next =
      ap (λ rows. follow rows left) (rows_more width parts part picks less)
      ∙ ap (λ n. n ∷ follow rest (left - n)) picked

  next_total : pick + units_total (follow rest (left - pick)) ≡ left
  next_total = sym (ap units_total read_next) ∙ sum

  pub read_fits : taken ≤ left
  read_fits = omega (arith, next_total)

  pub read_total : units_total (follow rest (left - taken)) ≡ left - taken
  read_total =
      let same : units_total (follow rest (left - taken)) ≡ units_total (follow rest (left - pick)) =
      ap (λ n. units_total (follow rest (left - n))) is_taken in
      omega (arith, next_total)

  pub read_entries : (out all : List ℤ)
      → out ++ map threshold_of (follow (pick_rows width (parts - part) (drop (part * width) picks)) left) ≡ all
      → (out ++ threshold_of pick ∷ []) ++ map threshold_of (follow rest (left - taken)) ≡ all
  read_entries out all so_far =
      append_assoc out (threshold_of pick ∷ []) (map threshold_of (follow rest (left - taken)))
      ∙ ap (λ n. out ++ (threshold_of pick ∷ map threshold_of (follow rest (left - n)))) is_taken
      ∙ ap (λ us. out ++ map threshold_of us) (sym read_next) ∙ so_far
