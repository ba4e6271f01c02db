-- How posting lists with room are kept, and how they are dealt out to buckets.
-- No public clause cites this module.
use Rattle.std.specs.Prelude.{◌≡◌, ℕ, ◌+◌, ◌*◌, ◌^◌, ◌≤◌, List, [], All, map, length, slice_index_or, vec_capacity}
use Rattle.std.specs.Global.{Vec}
use Rattle.std.specs.List.{range_with_len}
use Rattle.hamming_model.specs.declared.limits.TheConstants.{ENTRIES_MOST, PART_WIDTH_MOST}
use Rattle.posting_table.specs.Reserved.{Reserved}
use Rattle.posting_table.specs.declared.postings.TheConstants.{BUCKETS}

-- what each list holds
abbrev pub held_by : List (Vec (ℕ × List ℕ)) → List (List (ℕ × List ℕ))
held_by lists = map (λ list. list.items) lists

-- how much each list has room for
abbrev pub rooms_of : List (Vec (ℕ × List ℕ)) → List ℕ
rooms_of lists = map (λ list. vec_capacity list) lists

-- the lists and their room as callers see them
abbrev pub reserved_of : ℕ → List (Vec (ℕ × List ℕ)) → Reserved
reserved_of width lists =
    record { table = record { width = width; lists = held_by lists }; room = rooms_of lists }

-- there is a list for each value, and neither a list nor its room is too large
pub record AreKeptLists (width : ℕ) (lists : List (Vec (ℕ × List ℕ))) : Type 0 where
  pub some : 1 ≤ width
  pub narrow : width ≤ PART_WIDTH_MOST
  pub number : length lists ≡ 2 ^ width
  pub short : All (λ list. length list ≤ ENTRIES_MOST) (held_by lists)
  pub few : All (λ room. room ≤ ENTRIES_MOST) (rooms_of lists)

-- so many lists of the values that have one rest, in order
abbrev pub lists_of_rest : List (List (ℕ × List ℕ)) → ℕ → ℕ → List (List (ℕ × List ℕ))
lists_of_rest lists rest number =
    map (λ round. slice_index_or lists (round * BUCKETS + rest) []) (range_with_len 0 number)

-- the lists of all values in buckets, one for each rest
abbrev pub dealt_out : List (List (ℕ × List ℕ)) → ℕ → ℕ → List (List (List (ℕ × List ℕ)))
dealt_out lists rests number =
    map (λ rest. lists_of_rest lists rest number) (range_with_len 0 rests)
