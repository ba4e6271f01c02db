-- Tables of counts, the counts of one part behind those of another.
use Rattle.std.proofs.Common.{◌≡◌, ℕ, ◌+◌, ◌-◌, ◌*◌, ◌<◌, ◌≤◌, min, List, ◌++◌, length, take, drop}
use Rattle.std.proofs.Common.{get_or, sym, ap, ◌∙◌, subst, ⊎_elim, arith}
use Rattle.std.proofs.lemmas.Bool.{cases_lt}
use Rattle.std.specs.Global.{Vec}
use Rattle.std.specs.Vec.{with_items}
use Rattle.std.proofs.lemmas.List.{get_or_append_left, get_or-append_right, get_or-take}
use Rattle.std.proofs.lemmas.List.{length-take-le, length-append, length-drop, with_items_is}
use borrow.Rule.Slice.PartMut.{put_mid, post_of}
use Rattle.threshold_model.specs.Vectors.{NeverFalls}
use Rattle.threshold_dp.proofs.RowsLemmas.{place_below, row_within}
use Rattle.shard_probe.specs.Counted.{HasCounts, IsTable}

module _ (counts row : List ℕ) (from width : ℕ) (within : from + width ≤ length counts)
    (size : length row ≡ width) where
  -- what was written is there
  written_here : (at : ℕ) → at < width
      → get_or (put_mid from width counts row) (from + at) 0 ≡ get_or row at 0
  written_here at less =
      let front : length (take from counts) ≡ from = length-take-le from counts (omega arith) in
      let back : from + at - from ≡ at = omega arith in
      get_or-append_right (take from counts) (row ++ post_of from width counts) from (from + at) 0
      front (omega arith)
      ∙ ap (λ n. get_or (row ++ post_of from width counts) n 0) back
      ∙ get_or_append_left row (post_of from width counts) 0 at (omega arith)

  -- and what stood before it too
  kept_before : (at : ℕ) → at < from
      → get_or (put_mid from width counts row) at 0 ≡ get_or counts at 0
  kept_before at less =
      let front : length (take from counts) ≡ from = length-take-le from counts (omega arith) in
      get_or_append_left (take from counts) (row ++ post_of from width counts) 0 at (omega arith)
      ∙ get_or-take from counts at 0 less

-- the counts of one part more
pub counts_more : (counts row : List ℕ) (tau part : ℕ) (count : ℕ → ℕ → ℕ)
    → part * (tau + 2) + (tau + 2) ≤ length counts → length row ≡ tau + 2
    → HasCounts counts tau part count
    → ((units : ℕ) → units ≤ tau + 1 → get_or row units 0 ≡ count part units)
    → HasCounts (put_mid (part * (tau + 2)) (tau + 2) counts row) tau (part + 1) count
counts_more counts row tau part count within size has of_row other units less few =
    let from : ℕ = part * (tau + 2) in
    let new : List ℕ = put_mid from (tau + 2) counts row in
    let same : min units (tau + 1) ≡ units = omega arith in
    ⊎_elim
    (λ (before : other < part).
    let place = place_below other part (tau + 2) (min units (tau + 1)) before (omega arith) in
    kept_before counts row from (tau + 2) within size (other * (tau + 2) + min units (tau + 1)) place
    ∙ has other units before few)
    (λ (at : part ≤ other).
    let here : part ≡ other = omega arith in
    subst (λ one. get_or new (one * (tau + 2) + min units (tau + 1)) 0 ≡ count one units) here
    (written_here counts row from (tau + 2) within size (min units (tau + 1)) (omega arith)
    ∙ ap (λ n. get_or row n 0) same ∙ of_row units few))
    (cases_lt other part)

-- a part's counts are written in the table
module _ (table : Vec ℕ) (held row : List ℕ) (tau part parts span : ℕ)
    (same : held ≡ table.items) (wide : span ≡ tau + 2)
    (all : length table.items ≡ parts * (tau + 2)) (less : part < parts)
    (size : length row ≡ tau + 2) where
  abbrev written : List ℕ
  written = put_mid (part * (tau + 2)) span held row

  within : part * (tau + 2) + (tau + 2) ≤ length table.items
  within = omega (arith, row_within part parts (tau + 2) less (omega arith))

  as_rows : written ≡ put_mid (part * (tau + 2)) (tau + 2) table.items row
  as_rows =
      ap (λ n. put_mid (part * (tau + 2)) n held row) wide
      ∙ ap (λ xs. put_mid (part * (tau + 2)) (tau + 2) xs row) same

  written_size : length written ≡ length table.items
  written_size =
      let from : ℕ = part * (tau + 2) in
      let front : length (take from table.items) ≡ from =
      length-take-le from table.items (omega (arith, within)) in
      let rest : List ℕ = post_of from (tau + 2) table.items in
      let past : length (drop (tau + 2) (drop from table.items))
      ≡ length (drop from table.items) - (tau + 2) =
      length-drop (tau + 2) (drop from table.items) in
      let back : length (drop from table.items) ≡ length table.items - from =
      length-drop from table.items in
      let joined = length-append (take from table.items) (row ++ rest) in
      let both = length-append row rest in
      omega (arith, ap length as_rows, within)

  items_are : (with_items table written).items ≡ put_mid (part * (tau + 2)) (tau + 2) table.items row
  items_are = with_items_is table written (written_size ∙ sym table.ok.0) ∙ as_rows

  pub part_written : (count : ℕ → ℕ → ℕ) → HasCounts table.items tau part count
      → ((units : ℕ) → units ≤ tau + 1 → get_or row units 0 ≡ count part units)
      → (length (with_items table written).items ≡ parts * (tau + 2))
      × HasCounts (with_items table written).items tau (part + 1) count
  part_written count has of_row = (
    ap length (items_are ∙ sym as_rows) ∙ written_size ∙ all,
    subst (λ xs. HasCounts xs tau (part + 1) count) (sym items_are)
        (counts_more table.items row tau part count within size has of_row),
  )

-- lawful counts make a lawful table
pub table_lawful : (counts : List ℕ) (tau parts : ℕ) (count : ℕ → ℕ → ℕ)
    → length counts ≡ parts * (tau + 2) → HasCounts counts tau parts count
    → ((part : ℕ) → count part 0 ≡ 0) → ((part : ℕ) → NeverFalls (count part))
    → IsTable counts tau parts
table_lawful counts tau parts count size has starts rises =
    record {
      size = size;
      starts = λ part less. has part 0 less (omega arith) ∙ starts part;
      rises = λ part less fewer more le.
          let a = has part (min fewer (tau + 1)) less (omega arith) in
          let b = has part (min more (tau + 1)) less (omega arith) in
          let up = rises part (min fewer (tau + 1)) (min more (tau + 1)) (omega arith) in
          let at : min (min fewer (tau + 1)) (tau + 1) ≡ min fewer (tau + 1) = omega arith in
          let to : min (min more (tau + 1)) (tau + 1) ≡ min more (tau + 1) = omega arith in
          let c = ap (λ n. get_or counts (part * (tau + 2) + n) 0) at in
          let d = ap (λ n. get_or counts (part * (tau + 2) + n) 0) to in
          omega arith;
    }
