-- Distances along an answer: they rise, so that the next hit is no farther than the last.
use Rattle.std.proofs.Common.{◌≡◌, ℕ, zero, suc, ◌≤◌, List, [], ◌∷◌, take, refl, sym, subst, arith}
use Rattle.std.specs.Prelude.{Option, Some, None, slice_get}
use Rattle.std.proofs.lemmas.Option.{none-some, same_Some}
use Rattle.hamming_model.specs.Scan.{Ask, Range, Near, answer, hits_within, scan}
use Rattle.hamming_model.specs.declared.hit.Hit.{Hit}
use Rattle.hamming_model.proofs.OrderLemmas.{Ascends, IsFirst, ascends_in_order}
use Rattle.hit_source.specs.WindowLaws.{nearer}
use Rattle.threshold_model.specs.Bounds.{last_distance}
use Rattle.scatter_gather.specs.Kept.{IsUpTo}

first_of_taken : (n : ℕ) (hit : Hit) (hits : List Hit) → IsFirst hit hits → IsFirst hit (take n hits)
first_of_taken zero hit hits first = tt
first_of_taken (suc n) hit [] first = tt
first_of_taken (suc n) hit (other ∷ hits) first = (first.0, first_of_taken n hit hits first.1)

ascends_taken : (n : ℕ) (hits : List Hit) → Ascends hits → Ascends (take n hits)
ascends_taken zero hits up = tt
ascends_taken (suc n) [] up = tt
ascends_taken (suc n) (hit ∷ hits) up = (first_of_taken n hit hits up.0, ascends_taken n hits up.1)

-- every answer ascends
pub answer_ascends : (bits : ℕ) (rows : List (ℕ × List ℕ)) (ask : Ask) → Ascends (answer bits rows ask)
answer_ascends bits rows (Range tau code) = ascends_in_order (hits_within rows code tau)
answer_ascends bits rows (Near number code) = ascends_taken number (scan rows code bits) (ascends_in_order (hits_within rows code bits))

at_most_later : (radius : ℕ) (hit : Hit) (hits : List Hit) → IsFirst hit hits → radius ≤ hit.dist → IsUpTo (Some radius) (last_distance (hit ∷ hits))
at_most_later radius hit [] first near = near
at_most_later radius hit (next ∷ []) first near = omega (arith, near, nearer hit next first.0)
at_most_later radius hit (next ∷ other ∷ hits) first near = at_most_later radius hit (other ∷ hits) first.1 near

at_most_last : (hits : List Hit) (given radius : ℕ) (hit : Hit) → Ascends hits → slice_get hits given ≡ Some hit → radius ≤ hit.dist
    → IsUpTo (Some radius) (last_distance hits)
at_most_last [] given radius hit up there near = absurd (none-some hit there)
at_most_last (first ∷ hits) zero radius hit up there near = at_most_later radius first hits up.0
    (subst (λ h. radius ≤ h.dist) (sym (same_Some first hit there)) near)
at_most_last (first ∷ []) (suc given) radius hit up there near = absurd (none-some hit there)
at_most_last (first ∷ next ∷ hits) (suc given) radius hit up there near = at_most_last (next ∷ hits) given radius hit up.1 there near

pub next_within_last : (hits : List Hit) (given : ℕ) (begun : Option ℕ) → Ascends hits
    → IsUpTo begun (elim (slice_get hits given) [ None ↦ None | Some hit ↦ Some hit.dist ]) → IsUpTo begun (last_distance hits)
next_within_last hits given None up near = tt
next_within_last hits given (Some radius) up near = by_next (slice_get hits given) refl near
  where
    by_next : (next : Option Hit) → slice_get hits given ≡ next → IsUpTo (Some radius) (elim next [ None ↦ None | Some hit ↦ Some hit.dist ])
        → IsUpTo (Some radius) (last_distance hits)
    by_next None there near = absurd near
    by_next (Some hit) there near = at_most_last hits given radius hit up there near
