-- A part at a place among all parts, as its text is put behind the others'.
use Rattle.std.proofs.Common.{◌≡◌, ℕ, ◌+◌, ◌*◌, ◌<◌, ◌≤◌, min, List, [], All, length, take, get_or, ◌∙◌, ap, arith}
use Rattle.std.specs.Global.{Vec}
use Rattle.std.specs.List.{flat_map}
use Rattle.std.proofs.lemmas.List.{length-map}
use Rattle.std.proofs.lemmas.List.Folds.{length-flat_map-take}
use Rattle.part_layout.specs.Kept.{FitsText, lists_of, mark_before}
use Rattle.part_layout.proofs.LayoutLemmas.{own_part}
use Rattle.part_layout.proofs.TextLemmas.{length-mark_before}

-- its place is one of the lists'
pub inside_lists : (parts : List (Vec ℕ)) (place : ℕ) → place < length parts → place < length (lists_of parts)
inside_lists parts place kept =
    let sized = length-map parts (λ (part : Vec ℕ). part.items) in
    omega arith

-- there is room for the mark before it
pub mark_room : (bytes : ℕ) (parts : List (Vec ℕ)) (place at : ℕ) → FitsText bytes (lists_of parts) → place < length parts
    → at + min place 1 ≤ 4 * length (flat_map (λ part. part) (take place (lists_of parts))) → at + 1 ≤ bytes
mark_room bytes parts place at fits kept so_far =
    let inside = inside_lists parts place kept in
    let all = length-flat_map-take (λ (part : List ℕ). part) (lists_of parts) place [] inside in
    omega (arith, all, fits.some place [] inside, fits.room, so_far)

-- its positions, as they are read
pub own_positions : (parts : List (Vec ℕ)) (place : ℕ) (own : Vec ℕ) (positions : List ℕ) → place < length parts
    → own ≡ get_or parts place own → positions ≡ own.items → positions ≡ get_or (lists_of parts) place []
own_positions parts place own positions kept is read = read ∙ own_part parts place own kept is

-- behind the mark there is room for four bytes a position
pub part_room : (bytes : ℕ) (parts : List (Vec ℕ)) (place at marked : ℕ) (positions : List ℕ) → FitsText bytes (lists_of parts)
    → place < length parts → at + min place 1 ≤ 4 * length (flat_map (λ part. part) (take place (lists_of parts)))
    → marked ≡ at + length (mark_before place 47) → positions ≡ get_or (lists_of parts) place [] → marked + 4 * length positions ≤ bytes + 1
part_room bytes parts place at marked positions fits kept so_far put same =
    let inside = inside_lists parts place kept in
    let all = length-flat_map-take (λ (part : List ℕ). part) (lists_of parts) place [] inside in
    let long = ap length same in
    omega (arith, all, long, put, length-mark_before place 47, fits.some place [] inside, fits.room, so_far)

-- it has a position
pub part_some : (bytes : ℕ) (parts : List (Vec ℕ)) (place : ℕ) (positions : List ℕ) → FitsText bytes (lists_of parts) → place < length parts
    → positions ≡ get_or (lists_of parts) place [] → 0 < length positions
part_some bytes parts place positions fits kept same =
    let long = ap length same in
    omega (arith, long, fits.some place [] (inside_lists parts place kept))

-- its positions have at most three digits
pub part_short : (bytes : ℕ) (parts : List (Vec ℕ)) (place : ℕ) (positions : List ℕ) → FitsText bytes (lists_of parts) → place < length parts
    → positions ≡ get_or (lists_of parts) place [] → All (λ position. position < 1000) positions
part_short bytes parts place positions fits kept same = rw same (fits.short place [] (inside_lists parts place kept))
