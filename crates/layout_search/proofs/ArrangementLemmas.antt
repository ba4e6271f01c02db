-- The positions of a layout as they are kept: copied, and put in other places.
use Rattle.std.proofs.Common.{◌≡◌, ℕ, ◌+◌, ◌<◌, List, [], ◌∷◌, ◌++◌, length, take, get_or, set, slice_index, refl, sym, ◌∙◌, ap, arith}
use Rattle.std.specs.Global.{Vec}
use Rattle.std.proofs.lemmas.List.{get_or-map, get_or-set_other, map-set, map-append, take_more}
use Rattle.exchange_model.specs.Exchanges.{IsInside, exchanged, first_part_of, next_part_of}
use Rattle.exchange_model.specs.declared.position_exchange.PositionExchange.{PositionExchange}
use Rattle.exchange_model.proofs.ExchangeLemmas.{exchanged_layout}
use Rattle.part_layout.specs.Kept.{lists_of}
use Rattle.part_layout.specs.Laid.{IsLaid}

-- the items of a kept part
abbrev pub items_of : Vec ℕ → List ℕ
items_of part = part.items

-- a position put at a place of a part, in the list of the parts
pub put_seen : (parts : List (Vec ℕ)) (part place position : ℕ) (own new : Vec ℕ) → part < length parts → own ≡ get_or parts part own
    → new.items ≡ set own.items place position
    → lists_of (set parts part new) ≡ set (lists_of parts) part (set (get_or (lists_of parts) part []) place position)
put_seen parts part place position own new below is put =
    let here = get_or-map items_of parts part own [] below in
    let same : own.items ≡ get_or (lists_of parts) part [] = ap items_of is ∙ sym here in
    rw (map-set items_of parts part new, put, same) refl

-- the two positions put one after the other make the exchange
pub exchange_put : (before between after : List (List ℕ)) (e : PositionExchange) (first next : ℕ)
    → between ≡ set before e.part (set (get_or before e.part []) e.place next)
    → after ≡ set between (e.part + 1) (set (get_or between (e.part + 1) []) e.other first)
    → first ≡ slice_index (first_part_of before e) e.place → next ≡ slice_index (next_part_of before e) e.other → after ≡ exchanged before e
exchange_put before between after e first next one two is_first is_next =
    let other = get_or-set_other before e.part (e.part + 1) (set (get_or before e.part []) e.place next) [] (λ (h : e.part + 1 ≡ e.part). omega arith) in
    rw (two, one, other, is_first, is_next) refl

-- parts that an exchange of a layout's makes are a layout
pub exchanged_kept : (bits : ℕ) (parts after : List (List ℕ)) (e : PositionExchange) → after ≡ exchanged parts e → IsInside parts e
    → IsLaid (record { bits = bits; parts = parts }) → IsLaid (record { bits = bits; parts = after })
exchanged_kept bits parts after e same inside laid =
    record { allowed = laid.allowed; layout = rw same (exchanged_layout bits parts e inside laid.layout) }

-- one part more is there, as it is in a layout
pub part_added : (kept : List (Vec ℕ)) (parts : List (List ℕ)) (k : ℕ) (part : Vec ℕ) → k < length parts → part.items ≡ get_or parts k []
    → lists_of kept ≡ take k parts → lists_of (kept ++ part ∷ []) ≡ take (k + 1) parts
part_added kept parts k part below is before = rw (take_more parts k [] below, map-append items_of kept (part ∷ []), before, is) refl
