-- Live fronts as a finite map, with one more and with one less.
use Rattle.std.proofs.Common.{◌≡◌, ℕ, ◌==◌, Bool, true, false, cond, List, [], ◌∷◌, inl, inr, refl, ap, ◌∙◌, Some, None, is_some}
use Rattle.std.specs.Cmp.{nat_cmp_total, unsigned_tied}
use Rattle.std.specs.FinMap.{FinMap, get, insert, remove, get-insert, get-remove}
use Rattle.std.specs.Ordering.{nat_cmp}
use Rattle.commit_journal.specs.Fronts.{FrontState, live_at}
use Rattle.commit_journal.specs.Journals.{JournalState}
use Rattle.board_seats.specs.Views.{AmongFronts, living_fronts}

module _ {T : Type 0} (live : FinMap nat_cmp T) (id : ℕ) where
  pub map_insert : (value : T) (q : ℕ) → get (insert live id value) q ≡ cond (q == id) (Some value) (get live q)
  map_insert value q = get-insert nat_cmp_total live id value q ∙ ap (λ (here : Bool). cond here (Some value) (get live q)) (unsigned_tied q id)

  pub map_remove : (q : ℕ) → get (remove live id) q ≡ cond (q == id) None (get live q)
  map_remove q = get-remove nat_cmp_total live id q ∙ ap (λ (here : Bool). cond here None (get live q)) (unsigned_tied q id)

-- a front that lives on was there, and the journal has it
pub lives_on : (new : JournalState) (fronts : List FrontState) (front : FrontState) → AmongFronts (living_fronts new fronts) front
    → AmongFronts fronts front × (is_some (live_at new.live front.id) ≡ true)
lives_on new [] front has = absurd has
lives_on new (first ∷ fronts) front has = go (is_some (live_at new.live first.id)) refl has (lives_on new fronts front)
  where
    go : (b : Bool) → is_some (live_at new.live first.id) ≡ b
        → AmongFronts (cond b (first ∷ living_fronts new fronts) (living_fronts new fronts)) front
        → (AmongFronts (living_fronts new fronts) front → AmongFronts fronts front × (is_some (live_at new.live front.id) ≡ true))
        → AmongFronts (first ∷ fronts) front × (is_some (live_at new.live front.id) ≡ true)
    go false e has' more = (inr (more has').0, (more has').1)
    go true e has' more = elim has' [
      | inl same ↦ (inl same, ap (λ (f : FrontState). is_some (live_at new.live f.id)) same ∙ e)
      | inr there ↦ (inr (more there).0, (more there).1)
    ]
