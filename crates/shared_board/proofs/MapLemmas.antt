-- The live fronts of a desk as a map, with one more and with one less.
use Rattle.std.proofs.Common.{◌≡◌, ℕ, ◌==◌, Bool, true, false, cond, List, [], ◌∷◌, ◌⊎◌, inl, inr, refl, sym, ap, subst, ◌∙◌, Option, Some, None, eqb-true, eq-eqb, is_some}
use Rattle.std.specs.Cmp.{nat_cmp_total}
use Rattle.std.specs.FinMap.{get, get-empty, nat_cmp-IsAntisymmetric, same_map}
use Rattle.std.specs.FinMap as map
use Rattle.std.specs.Ordering.{nat_cmp}
use Rattle.commit_journal.specs.Fronts.{FrontState, live_at, position_of}
use Rattle.commit_journal.specs.Journals.{IsLive, JournalState, without_front}
use Rattle.board_seats.specs.Views.{AmongFronts, living_fronts, without_id}
use Rattle.board_seats.proofs.FrontLemmas.{map_insert, map_remove}
use Rattle.shared_board.specs.Shared.{live_map}

abbrev Place : Type 0
Place = ℕ × ℕ

-- a number that no live front of a journal has no front among live ones has
pub fresh_in : (journal : JournalState) (id : ℕ) (fronts : List FrontState) → ((front : FrontState) → AmongFronts fronts front → IsLive journal front)
    → live_at journal.live id ≡ None → live_at (live_map fronts) id ≡ None
fresh_in journal id [] all none = get-empty nat_cmp id
fresh_in journal id (first ∷ fronts) all none =
    map_insert (live_map fronts) first.id (first.who, position_of first) id
    ∙ go (id == first.id) refl (fresh_in journal id fronts (λ front has. all front (inr has)) none)
  where
    go : (b : Bool) → (id == first.id) ≡ b → live_at (live_map fronts) id ≡ None
        → cond b (Some (first.who, position_of first)) (live_at (live_map fronts) id) ≡ None
    go true e more = absurd (
        let same : id ≡ first.id = eqb-true id first.id e in
        let there : live_at journal.live id ≡ Some (first.who, position_of first) = ap (live_at journal.live) same ∙ all first (inl refl) in cc)
    go false e more = more

-- a front that was put in is live
pub own_there : (fronts : List FrontState) (front : FrontState) → live_at (live_map (front ∷ fronts)) front.id ≡ Some (front.who, position_of front)
own_there fronts front =
    map_insert (live_map fronts) front.id (front.who, position_of front) front.id
    ∙ ap (λ (b : Bool). cond b (Some (front.who, position_of front)) (live_at (live_map fronts) front.id)) (eq-eqb front.id front.id refl)

dropped : (b : Bool) (x y : Option Place) → cond b None y ≡ cond b None (cond b x y)
dropped true x y = refl
dropped false x y = refl

turned : (a b : Bool) (x y : Option Place) → (a ≡ true → b ≡ true → ⊥) → cond a x (cond b None y) ≡ cond b None (cond a x y)
turned true true x y apart = absurd (apart refl refl)
turned true false x y apart = refl
turned false b x y apart = refl

module _ (id : ℕ) where
  gone : (fronts : List FrontState) (q : ℕ) → get (live_map (without_id id fronts)) q ≡ cond (q == id) None (get (live_map fronts) q)
  gone [] q = go (q == id) (get-empty nat_cmp q)
    where
      go : (b : Bool) → get (live_map []) q ≡ None → get (live_map []) q ≡ cond b None (get (live_map []) q)
      go true e = e
      go false e = refl
  gone (first ∷ fronts) q = go (first.id == id) refl (gone fronts q)
    where
      put_in : get (live_map (first ∷ fronts)) q ≡ cond (q == first.id) (Some (first.who, position_of first)) (get (live_map fronts) q)
      put_in = map_insert (live_map fronts) first.id (first.who, position_of first) q

      go : (b : Bool) → (first.id == id) ≡ b → get (live_map (without_id id fronts)) q ≡ cond (q == id) None (get (live_map fronts) q)
          → get (live_map (cond b (without_id id fronts) (first ∷ without_id id fronts))) q ≡ cond (q == id) None (get (live_map (first ∷ fronts)) q)
      go true e more =
          more ∙ dropped (q == id) (Some (first.who, position_of first)) (get (live_map fronts) q)
          ∙ ap (λ (n : ℕ). cond (q == id) None (cond (q == n) (Some (first.who, position_of first)) (get (live_map fronts) q))) (sym (eqb-true first.id id e))
          ∙ ap (λ (x : Option Place). cond (q == id) None x) (sym put_in)
      go false e more =
          map_insert (live_map (without_id id fronts)) first.id (first.who, position_of first) q
          ∙ ap (λ (x : Option Place). cond (q == first.id) (Some (first.who, position_of first)) x) more
          ∙ turned (q == first.id) (q == id) (Some (first.who, position_of first)) (get (live_map fronts) q) apart
          ∙ ap (λ (x : Option Place). cond (q == id) None x) (sym put_in)
        where
          apart : (q == first.id) ≡ true → (q == id) ≡ true → ⊥
          apart a b =
              let one : first.id ≡ id = sym (eqb-true q first.id a) ∙ eqb-true q id b in
              let never : true ≡ false = sym (eq-eqb first.id id one) ∙ e in
              Rattle.std.proofs.Common.true≢false never

  -- without a front the map is without its number
  pub without_map : (fronts : List FrontState) → live_map (without_id id fronts) ≡ map.remove (live_map fronts) id
  without_map fronts = same_map nat_cmp_total nat_cmp-IsAntisymmetric _ _ (λ q. gone fronts q ∙ sym (map_remove (live_map fronts) id q))

-- the fronts that live on where one is closed
pub living_without : (old : JournalState) (id : ℕ) (fronts : List FrontState) → ((front : FrontState) → AmongFronts fronts front → IsLive old front)
    → living_fronts (without_front old id) fronts ≡ without_id id fronts
living_without old id [] all = refl
living_without old id (first ∷ fronts) all = go (first.id == id) refl (living_without old id fronts (λ front has. all front (inr has)))
  where
    there : live_at (map.remove old.live id) first.id ≡ cond (first.id == id) None (live_at old.live first.id)
    there = map_remove old.live id first.id

    go : (b : Bool) → (first.id == id) ≡ b → (living_fronts (without_front old id) fronts) ≡ without_id id fronts
        → cond (is_some (live_at (map.remove old.live id) first.id))
        (first ∷ (living_fronts (without_front old id) fronts))
        (living_fronts (without_front old id) fronts)
        ≡ cond (first.id == id) (without_id id fronts) (first ∷ without_id id fronts)
    go true e more =
        let dead : is_some (live_at (map.remove old.live id) first.id) ≡ false =
        ap is_some (there ∙ ap (λ b. cond b None (live_at old.live first.id)) e) in
        ap (λ b. cond b (first ∷ (living_fronts (without_front old id) fronts)) (living_fronts (without_front old id) fronts)) dead
        ∙ more ∙ sym (ap (λ b. cond b (without_id id fronts) (first ∷ without_id id fronts)) e)
    go false e more =
        let stays : is_some (live_at (map.remove old.live id) first.id) ≡ true =
        ap is_some (there ∙ ap (λ b. cond b None (live_at old.live first.id)) e ∙ all first (inl refl)) in
        ap (λ b. cond b (first ∷ (living_fronts (without_front old id) fronts)) (living_fronts (without_front old id) fronts)) stays
        ∙ ap (λ (l : List FrontState). first ∷ l) more
        ∙ sym (ap (λ b. cond b (without_id id fronts) (first ∷ without_id id fronts)) e)
