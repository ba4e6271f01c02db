-- What an exchange of two positions keeps: the widths of the parts, and how often each position stands.
use Rattle.std.proofs.Common.{◌≡◌, ℕ, suc, ◌+◌, ◌-◌, ◌<◌, ◌≤◌, ◌==◌, cond, List, [], ◌∷◌, All, length, sum_by, get_or, set, slice_index, refl, ◌∙◌, ap, arith}
use Rattle.std.specs.List.{flat_map}
use Rattle.std.proofs.lemmas.List.{length-set, get_or-set_same, get_or-set_other, set-set, set_comm, set-get_or}
use Rattle.std.proofs.lemmas.List.Sums.{sum_by-cons, sum_by-append, sum_by-set, get_or-le-sum_by, sum_by-le}
use Rattle.std.proofs.lemmas.List.Elements.{All-set}
use Rattle.hamming_model.specs.Layouts.{IsLayout}
use Rattle.hamming_model.specs.declared.limits.TheConstants.{PART_WIDTH_MOST}
use Rattle.exchange_model.specs.Exchanges.{IsInside, exchanged, first_part_of, next_part_of}
use Rattle.exchange_model.specs.declared.position_exchange.PositionExchange.{PositionExchange}

-- a sum over all positions is the sum of those over the parts
pub sum_all : (f : ℕ → ℕ) (parts : List (List ℕ)) → sum_by f (flat_map (λ part. part) parts) ≡ sum_by (sum_by f) parts
sum_all f [] = refl
sum_all f (part ∷ parts) =
    let rest = sum_all f parts in
    let front = sum_by-append f part (flat_map (λ part. part) parts) in
    let here = sum_by-cons (sum_by f) part parts in
    omega arith

-- what is added up over all positions stays
pub sum_exchanged : (f : ℕ → ℕ) (parts : List (List ℕ)) (e : PositionExchange) → IsInside parts e
    → sum_by f (flat_map (λ part. part) (exchanged parts e)) ≡ sum_by f (flat_map (λ part. part) parts)
sum_exchanged f parts e inside =
    let before = sum_all f parts in
    let after = sum_all f (exchanged parts e) in
    let new_first = set (first_part_of parts e) e.place (slice_index (next_part_of parts e) e.other) in
    let new_next = set (next_part_of parts e) e.other (slice_index (first_part_of parts e) e.place) in
    let one = sum_by-set f (first_part_of parts e) e.place (slice_index (next_part_of parts e) e.other) 0 inside.here in
    let two = sum_by-set f (next_part_of parts e) e.other (slice_index (first_part_of parts e) e.place) 0 inside.there in
    let within : e.part < length parts = let h = inside.within in omega arith in
    let three = sum_by-set (sum_by f) parts e.part new_first [] within in
    let longer = length-set parts e.part new_first in
    let within_next : e.part + 1 < length (set parts e.part new_first) = let h = inside.within in omega arith in
    let four = sum_by-set (sum_by f) (set parts e.part new_first) (e.part + 1) new_next [] within_next in
    let same = get_or-set_other parts e.part (e.part + 1) new_first [] (λ (h : e.part + 1 ≡ e.part). omega arith) in
    let four_same = rw same at four in
    omega arith

-- the positions stay below the number of bits
pub exchanged_range : (bits : ℕ) (parts : List (List ℕ)) (e : PositionExchange) → IsInside parts e
    → All (λ position. position < bits) (flat_map (λ part. part) parts)
    → All (λ position. position < bits) (flat_map (λ part. part) (exchanged parts e))
exchanged_range bits parts e inside range = λ k d below.
    let over = λ (position : ℕ). suc position - bits in
    let none : All (λ position. over position ≤ 0) (flat_map (λ part. part) parts) = λ k d below. let h = range k d below in omega arith in
    let before = sum_by-le over 0 (flat_map (λ part. part) parts) none in
    let same = sum_exchanged over parts e inside in
    let one = get_or-le-sum_by over (flat_map (λ part. part) (exchanged parts e)) k d below in
    omega arith

-- the exchanged parts
pub first_exchanged : (parts : List (List ℕ)) (e : PositionExchange) → IsInside parts e
    → get_or (exchanged parts e) e.part [] ≡ set (first_part_of parts e) e.place (get_or (next_part_of parts e) e.other 0)
first_exchanged parts e inside =
    get_or-set_other (set parts e.part (set (first_part_of parts e) e.place (get_or (next_part_of parts e) e.other 0))) (e.part + 1) e.part
    (set (next_part_of parts e) e.other (get_or (first_part_of parts e) e.place 0)) [] (λ (h : e.part ≡ e.part + 1). omega arith)
    ∙ get_or-set_same parts e.part (set (first_part_of parts e) e.place (get_or (next_part_of parts e) e.other 0)) [] (let h = inside.within in omega arith)

pub next_exchanged : (parts : List (List ℕ)) (e : PositionExchange) → IsInside parts e
    → get_or (exchanged parts e) (e.part + 1) [] ≡ set (next_part_of parts e) e.other (get_or (first_part_of parts e) e.place 0)
next_exchanged parts e inside =
    let long = length-set parts e.part (set (first_part_of parts e) e.place (get_or (next_part_of parts e) e.other 0)) in
    get_or-set_same (set parts e.part (set (first_part_of parts e) e.place (get_or (next_part_of parts e) e.other 0))) (e.part + 1)
    (set (next_part_of parts e) e.other (get_or (first_part_of parts e) e.place 0)) [] (let h = inside.within in omega arith)

pub length_exchanged : (parts : List (List ℕ)) (e : PositionExchange) → length (exchanged parts e) ≡ length parts
length_exchanged parts e =
    length-set (set parts e.part (set (first_part_of parts e) e.place (get_or (next_part_of parts e) e.other 0))) (e.part + 1)
    (set (next_part_of parts e) e.other (get_or (first_part_of parts e) e.place 0))
    ∙ length-set parts e.part (set (first_part_of parts e) e.place (get_or (next_part_of parts e) e.other 0))

-- the places of an exchange are in the parts after it
pub inside_again : (parts : List (List ℕ)) (e : PositionExchange) → IsInside parts e → IsInside (exchanged parts e) e
inside_again parts e inside =
    let number = length_exchanged parts e in
    let first = ap length (first_exchanged parts e inside) ∙ length-set (first_part_of parts e) e.place (get_or (next_part_of parts e) e.other 0) in
    let next = ap length (next_exchanged parts e inside) ∙ length-set (next_part_of parts e) e.other (get_or (first_part_of parts e) e.place 0) in
    let a = inside.within in
    let b = inside.here in
    let d = inside.there in
    record { within = omega arith; here = omega arith; there = omega arith }

-- an exchange made twice changes nothing
pub exchanged_twice : (parts : List (List ℕ)) (e : PositionExchange) → IsInside parts e → exchanged (exchanged parts e) e ≡ parts
exchanged_twice parts e inside =
    let f = first_part_of parts e in
    let n = next_part_of parts e in
    let x = get_or f e.place 0 in
    let y = get_or n e.other 0 in
    let is_first = first_exchanged parts e inside in
    let is_next = next_exchanged parts e inside in
    let own_first = get_or-set_same f e.place y 0 inside.here in
    let own_next = get_or-set_same n e.other x 0 inside.there in
    let back_first : set (set f e.place y) e.place x ≡ f = set-set f e.place y x ∙ set-get_or f e.place 0 in
    let back_next : set (set n e.other x) e.other y ≡ n = set-set n e.other x y ∙ set-get_or n e.other 0 in
    let inner : set (exchanged parts e) e.part f ≡ set parts (e.part + 1) (set n e.other x) =
    set_comm (set parts e.part (set f e.place y)) (e.part + 1) e.part (set n e.other x) f (λ (h : e.part + 1 ≡ e.part). omega arith)
    ∙ ap (λ ps. set ps (e.part + 1) (set n e.other x)) (set-set parts e.part (set f e.place y) f ∙ set-get_or parts e.part []) in
    rw (is_first, is_next, own_first, own_next, back_first, back_next, inner)
    (set-set parts (e.part + 1) (set n e.other x) n ∙ set-get_or parts (e.part + 1) [])

-- the parts are a layout as before
pub exchanged_layout : (bits : ℕ) (parts : List (List ℕ)) (e : PositionExchange) → IsInside parts e → IsLayout bits parts
    → IsLayout bits (exchanged parts e)
exchanged_layout bits parts e inside is =
    let new_first = set (first_part_of parts e) e.place (slice_index (next_part_of parts e) e.other) in
    let new_next = set (next_part_of parts e) e.other (slice_index (first_part_of parts e) e.place) in
    let same_first = length-set (first_part_of parts e) e.place (slice_index (next_part_of parts e) e.other) in
    let same_next = length-set (next_part_of parts e) e.other (slice_index (first_part_of parts e) e.place) in
    let number = length_exchanged parts e in
    let within : e.part < length parts = let h = inside.within in omega arith in
    let wide_first = is.widths e.part [] within in
    let wide_next = is.widths (e.part + 1) [] inside.within in
    record {
      some_part = let h = is.some_part in omega arith;
      few_parts = let h = is.few_parts in omega arith;
      widths =
          All-set (λ part. (0 < length part) × (length part ≤ PART_WIDTH_MOST)) (set parts e.part new_first) (e.part + 1) new_next
          (let a = wide_next.0 in omega arith, let b = wide_next.1 in omega arith)
          (All-set (λ part. (0 < length part) × (length part ≤ PART_WIDTH_MOST)) parts e.part new_first
          (let a = wide_first.0 in omega arith, let b = wide_first.1 in omega arith) is.widths);
      in_range = exchanged_range bits parts e inside is.in_range;
      once = λ position below. sum_exchanged (λ other. cond (other == position) 1 0) parts e inside ∙ is.once position below;
    }
