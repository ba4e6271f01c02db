-- The exchanges of a layout are those of places that are there, and the first that serves is one of them.
use Rattle.std.proofs.Common.{◌≡◌, ℕ, ◌+◌, ◌-◌, ◌<◌, ◌≤◌, nat_lt, Bool, true, false, cond, List, [], ◌∷◌, length, get_or, sym, ◌∙◌, ap, arith, subst, None, Some, inl, inr}
use Rattle.std.specs.List.{find, range_with_len}
use Rattle.std.proofs.lemmas.Bool.{cases_Bool, ltb-true, lt-ltb, cases_lt}
use Rattle.exchange_model.specs.Exchanges.{IsInside, exchanged, exchange_of, exchanges, exchanges_of_part, exchanges_of_place}
use Rattle.exchange_model.specs.Rounds.{first_below}
use Rattle.exchange_model.specs.declared.position_exchange.PositionExchange.{PositionExchange}
use Rattle.exchange_model.proofs.AmongLemmas.{Stands, in_range, stands_flat_map, stands_from_flat_map, stands_from_map, stands_map, stands_range}

-- an exchange of the list is one of places that are there
pub listed_inside : (parts : List (List ℕ)) (e : PositionExchange) → Stands e (exchanges parts) → IsInside parts e
listed_inside parts e stands =
    let part = stands_from_flat_map (exchanges_of_part parts) e (range_with_len 0 (length parts - 1)) stands in
    let place = stands_from_flat_map (exchanges_of_place parts part.0) e (range_with_len 0 (length (get_or parts part.0 []))) part.2 in
    let places = range_with_len 0 (length (get_or parts (part.0 + 1) [])) in
    let other = stands_from_map (λ other. exchange_of part.0 place.0 other) e places place.2 in
    let below_part = in_range part.0 0 (length parts - 1) part.1 in
    let below_place = in_range place.0 0 (length (get_or parts part.0 [])) place.1 in
    let below_other = in_range other.0 0 (length (get_or parts (part.0 + 1) [])) other.1 in
    rw (← other.2) (record { within = omega arith; here = omega arith; there = omega arith })

-- and each of them is in the list
pub inside_listed : (parts : List (List ℕ)) (e : PositionExchange) → IsInside parts e → Stands e (exchanges parts)
inside_listed parts e inside =
    let within = inside.within in
    let places = range_with_len 0 (length (get_or parts (e.part + 1) [])) in
    let other = stands_map (λ other. exchange_of e.part e.place other) e.other places
    (stands_range e.other 0 (length (get_or parts (e.part + 1) [])) (omega arith) (let h = inside.there in omega arith)) in
    let place = stands_flat_map (exchanges_of_place parts e.part) e.place e (range_with_len 0 (length (get_or parts e.part [])))
    (stands_range e.place 0 (length (get_or parts e.part [])) (omega arith) (let h = inside.here in omega arith)) other in
    stands_flat_map (exchanges_of_part parts) e.part e (range_with_len 0 (length parts - 1))
    (stands_range e.part 0 (length parts - 1) (omega arith) (omega arith)) place

-- what is found serves
pub found_serves : {X : Type 0} (test : X → Bool) (xs : List X) (x : X) → find test xs ≡ Some x → test x ≡ true
found_serves test [] x found = absurd (let h = found in cc)
found_serves test (y ∷ ys) x found = elim (cases_Bool (test y)) [
  | inl serves ↦ (let same : Some y ≡ Some x = sym (ap (λ b. cond b (Some y) (find test ys)) serves) ∙ found in
      let own : y ≡ x = cc in subst (λ z. test z ≡ true) own serves)
  | inr fails ↦ found_serves test ys x (sym (ap (λ b. cond b (Some y) (find test ys)) fails) ∙ found)
]

-- and stands in the list
found_stands : {X : Type 0} (test : X → Bool) (xs : List X) (x : X) → find test xs ≡ Some x → Stands x xs
found_stands test [] x found = absurd (let h = found in cc)
found_stands test (y ∷ ys) x found = elim (cases_Bool (test y)) [
  | inl serves ↦ (let same : Some y ≡ Some x = sym (ap (λ b. cond b (Some y) (find test ys)) serves) ∙ found in
      let own : y ≡ x = cc in inl own)
  | inr fails ↦ inr (found_stands test ys x (sym (ap (λ b. cond b (Some y) (find test ys)) fails) ∙ found))
]

-- where none is found, none serves
none_serves : {X : Type 0} (test : X → Bool) (xs : List X) (x : X) → find test xs ≡ None → Stands x xs → test x ≡ false
none_serves test [] x none stands = absurd stands
none_serves test (y ∷ ys) x none stands = elim (cases_Bool (test y)) [
  | inl serves ↦ absurd (let h : Some y ≡ None = sym (ap (λ b. cond b (Some y) (find test ys)) serves) ∙ none in cc)
  | inr fails ↦ elim stands [
    | inl same ↦ subst (λ z. test z ≡ false) same fails
    | inr rest ↦ none_serves test ys x (sym (ap (λ b. cond b (Some y) (find test ys)) fails) ∙ none) rest
  ]
]

module _ (cost : List (List ℕ) → ℕ) (parts : List (List ℕ)) (bound : ℕ) (e : PositionExchange) where
  pub found_inside : first_below cost parts bound (exchanges parts) ≡ Some e → IsInside parts e
  found_inside found = listed_inside parts e (found_stands (λ other. nat_lt (cost (exchanged parts other)) bound) (exchanges parts) e found)

  pub found_cheaper : first_below cost parts bound (exchanges parts) ≡ Some e → cost (exchanged parts e) < bound
  found_cheaper found =
      ltb-true (cost (exchanged parts e)) bound (found_serves (λ other. nat_lt (cost (exchanged parts other)) bound) (exchanges parts) e found)

  pub none_cheaper : first_below cost parts bound (exchanges parts) ≡ None → IsInside parts e → bound ≤ cost (exchanged parts e)
  none_cheaper none inside =
      let fails = none_serves (λ other. nat_lt (cost (exchanged parts other)) bound) (exchanges parts) e none (inside_listed parts e inside) in
      elim (cases_lt (cost (exchanged parts e)) bound) [
        | inl less ↦ absurd (let h = sym (lt-ltb (cost (exchanged parts e)) bound less) ∙ fails in cc)
        | inr more ↦ more
      ]
