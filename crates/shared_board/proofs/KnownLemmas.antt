-- The fronts that a desk knows.
use Rattle.std.proofs.Common.{◌≡◌, ◌≢◌, ℕ, ◌==◌, Bool, true, false, cond, List, [], ◌∷◌, inl, inr, refl, sym, ap, subst, ◌∙◌, eqb-true, eq-eqb, Some, None}
use Rattle.std.specs.Prelude.{IfOk, OnErr}
use Rattle.std.specs.declared.result.Result.{Result}
use Rattle.std.specs.declared.result.Result.TheVariants.{Ok, Err}
use Rattle.std.specs.FinMap as map
use Rattle.commit_journal.specs.Fronts.{FrontState, position_of}
use Rattle.session_desk.specs.Calls.{KeepsKnown}
use Rattle.session_desk.specs.Desks.{DeskState}
use Rattle.board_seats.specs.Views.{AmongFronts, without_id}
use Rattle.board_seats.proofs.FrontLemmas.{map_remove}
use Rattle.shared_board.specs.Shared.{SharedState, live_map, shared_desk}
use Rattle.shared_board.proofs.MapLemmas.{without_map}

-- the same fronts are known
pub known_same : (desk : DeskState) (old new : List FrontState) → new ≡ old → KeepsKnown desk (AmongFronts old) (AmongFronts new)
known_same desk old new same front own has = subst (λ (fronts : List FrontState). AmongFronts fronts front) (sym same) has

-- and with one more
pub known_more : (desk : DeskState) (old new : List FrontState) (more : FrontState) → new ≡ more ∷ old → KeepsKnown desk (AmongFronts old) (AmongFronts new)
known_more desk old new more same front own has = subst (λ (fronts : List FrontState). AmongFronts fronts front) (sym same) (inr has)

pub known_first : (new old : List FrontState) (front : FrontState) → new ≡ front ∷ old → AmongFronts new front
known_first new old front same = subst (λ (fronts : List FrontState). AmongFronts fronts front) (sym same) (inl refl)

-- a front of another number stays among those without a number
stays_among : (id : ℕ) (fronts : List FrontState) (front : FrontState) → front.id ≢ id → AmongFronts fronts front → AmongFronts (without_id id fronts) front
stays_among id [] front apart has = has
stays_among id (first ∷ fronts) front apart has = go (first.id == id) refl has (stays_among id fronts front apart)
  where
    go : (b : Bool) → (first.id == id) ≡ b → AmongFronts (first ∷ fronts) front → (AmongFronts fronts front → AmongFronts (without_id id fronts) front)
        → AmongFronts (cond b (without_id id fronts) (first ∷ without_id id fronts)) front
    go true e has' more = elim has' [
      | inl same ↦ absurd (apart (ap (λ (f : FrontState). f.id) same ∙ eqb-true first.id id e))
      | inr there ↦ more there
    ]
    go false e has' more = elim has' [
      | inl same ↦ inl same
      | inr there ↦ inr (more there)
    ]

-- a front that is live after another was closed has another number
pub known_without : (s : SharedState) (old new : List FrontState) (id : ℕ) → s.fronts ≡ without_id id old → new ≡ without_id id old
    → KeepsKnown (shared_desk s) (AmongFronts old) (AmongFronts new)
known_without s old new id is same front own has =
    subst (λ (fronts : List FrontState). AmongFronts fronts front) (sym same) (stays_among id old front apart has)
  where
    apart : front.id ≢ id
    apart one =
        let gone : map.get (live_map s.fronts) front.id ≡ None =
        ap (λ (fronts : List FrontState). map.get (live_map fronts) front.id) is
        ∙ ap (λ (m : Rattle.commit_journal.specs.Fronts.Live). map.get m front.id)
        (without_map id old)
        ∙ map_remove (live_map old) id front.id
        ∙ ap (λ (b : Bool). cond b None (map.get (live_map old) front.id)) (eq-eqb front.id id one) in
        let there : map.get (live_map s.fronts) front.id ≡ Some (front.who, position_of front) = own in cc

-- ---- what a call that may fail keeps
pub known_either : {A B : Type 0} (result : Result A B) (desk : DeskState) (old new : List FrontState) (F : A → FrontState)
    → IfOk result (λ a. new ≡ F a ∷ old) → OnErr result (new ≡ old) → KeepsKnown desk (AmongFronts old) (AmongFronts new)
known_either {A} {B} (Ok a) desk old new F more same = known_more desk old new (F a) more
known_either {A} {B} (Err b) desk old new F more same = known_same desk old new same

pub known_ok : {A B : Type 0} (result : Result A B) (old new : List FrontState) (F : A → FrontState)
    → IfOk result (λ a. new ≡ F a ∷ old) → IfOk result (λ a. AmongFronts new (F a))
known_ok {A} {B} (Ok a) old new F more = known_first new old (F a) more
known_ok {A} {B} (Err b) old new F more = tt
