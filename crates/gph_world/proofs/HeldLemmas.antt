-- Queries that are kept, and the fronts that they hold.
use Rattle.std.proofs.Common.{◌≡◌, ◌≢◌, ℕ, zero, suc, ◌≤◌, List, [], ◌∷◌, ◌++◌, length, map, Option, Some, None, refl, sym, ap, ◌∙◌}
use Rattle.std.specs.Prelude.{IfSome, option_map, slice_get, slice_set}
use Rattle.std.proofs.lemmas.Option.{slice_get_past, slice_get-map}
use Rattle.commit_journal.specs.Fronts.{FrontState, StandsAt, position_of, positions_of}
use Rattle.commit_journal.specs.Journals.{IsLive, JournalState}
use Rattle.hamming_model.specs.Recoded.{cut_history}
use Rattle.world_model.specs.WorldState.{WorldQuery, live_fronts, open_position}
use Rattle.world_model.proofs.Lookups.{get_other, get_same}
use Rattle.world_bridge.specs.Held.{positions_held}
use Rattle.world_bridge.proofs.HeldLemmas.{positions_same}
use Rattle.gph_world.specs.Kept.{IsQueryHeld, KeepsWorld, front_at}
use Rattle.world_parts.specs.Seen.{query_seen}
use Rattle.gph_world.specs.Seen.{setting_seen}
use Rattle.world_parts.specs.declared.held.Held.{Held}
use Rattle.world_parts.specs.declared.place.Place.{Place}

-- the front of a query, if there is the query
abbrev pub front_in : {W : ℕ} → Option (Held W) → Option FrontState
front_in None = None
front_in (Some held) = held.front

-- ---- lists

-- what stands at another place than the last stood there before
pub get_apart : {A : Type 0} (xs : List A) (y : A) (i : ℕ) → i ≢ length xs → slice_get (xs ++ y ∷ []) i ≡ slice_get xs i
get_apart [] y zero apart = absurd (apart refl)
get_apart [] y (suc i) apart = refl
get_apart (x ∷ xs) y zero apart = refl
get_apart (x ∷ xs) y (suc i) apart = get_apart xs y i (λ e. apart (ap suc e))

-- the last stands behind the others
pub get_last : {A : Type 0} (xs : List A) (y : A) → slice_get (xs ++ y ∷ []) (length xs) ≡ Some y
get_last [] y = refl
get_last (x ∷ xs) y = get_last xs y

-- ---- fronts that queries hold
module _ {W : ℕ} (queries : List (Held W)) where
  pub front_there : (number : ℕ) (held : Held W) → slice_get queries number ≡ Some held → front_at queries number ≡ held.front
  front_there number held there = ap front_in there

  pub front_past : (number : ℕ) → length queries ≤ number → front_at queries number ≡ None
  front_past number past = ap front_in (slice_get_past queries number past)

  pub front_set : (number : ℕ) (held new : Held W) → slice_get queries number ≡ Some held → front_at (slice_set queries number new) number ≡ new.front
  front_set number held new there = ap front_in (get_same queries number held new there)

  pub front_other : (number other : ℕ) (new : Held W) → other ≢ number → front_at (slice_set queries number new) other ≡ front_at queries other
  front_other number other new apart = ap front_in (get_other queries number other new apart)

  pub front_last : (new : Held W) → front_at (queries ++ new ∷ []) (length queries) ≡ new.front
  front_last new = ap front_in (get_last queries new)

  pub front_apart : (new : Held W) (other : ℕ) → other ≢ length queries → front_at (queries ++ new ∷ []) other ≡ front_at queries other
  front_apart new other apart = ap front_in (get_apart queries new other apart)

-- ---- where they stand
module _ {W : ℕ} (bits room : ℕ) (journal : JournalState) (places : List (Place W)) (queries : List (Held W))
    (keeps : KeepsWorld bits room journal places queries) where
  -- the position of an open front is that of its query
  position_there : (held : Held W) → IsQueryHeld (setting_seen bits room journal places) (cut_history bits journal.history) held
      → option_map position_of held.front ≡ open_position (query_seen bits held)
  position_there held is = go held.front refl
    where
      go : (front : Option FrontState) → held.front ≡ front → option_map position_of held.front ≡ open_position (query_seen bits held)
      go None e = ap (option_map position_of) e
          ∙ sym (ap (λ (f : Option FrontState). elim (option_map (λ front. front.older) f) [ None ↦ None | Some older ↦ Some held.position ]) e)
      go (Some front) e = ap (option_map position_of) e ∙ ap Some (is.front front e)
          ∙ sym (ap (λ (f : Option FrontState). elim (option_map (λ front. front.older) f) [ None ↦ None | Some older ↦ Some held.position ]) e)

  same_positions : (number : ℕ) → positions_held (front_at queries) number ≡ live_fronts (map (query_seen bits) queries) number
  same_positions number = go (slice_get queries number) refl
    where
      go : (found : Option (Held W)) → slice_get queries number ≡ found
          → positions_held (front_at queries) number ≡ live_fronts (map (query_seen bits) queries) number
      go None e =
          ap (λ (o : Option (Held W)). option_map position_of (front_in o)) e
          ∙ sym (ap (λ (o : Option WorldQuery). elim o [ None ↦ None | Some query ↦ open_position query ])
          (slice_get-map (query_seen bits) queries number ∙ ap (option_map (query_seen bits)) e))
      go (Some held) e =
          ap (λ (o : Option (Held W)). option_map position_of (front_in o)) e
          ∙ position_there held (keeps.held number held e)
          ∙ sym (ap (λ (o : Option WorldQuery). elim o [ None ↦ None | Some query ↦ open_position query ])
          (slice_get-map (query_seen bits) queries number ∙ ap (option_map (query_seen bits)) e))

  -- a live front of the journal stands where one of a query does
  pub stands_open : (position : ℕ) → StandsAt (positions_of journal.live) position → StandsAt (live_fronts (map (query_seen bits) queries)) position
  stands_open position stands =
      let held = (positions_same journal (front_at queries) position keeps.live).0 stands in
      record { number = held.number; stands = sym (same_positions held.number) ∙ held.stands }

  pub stands_live : (position : ℕ) → StandsAt (live_fronts (map (query_seen bits) queries)) position → StandsAt (positions_of journal.live) position
  stands_live position stands =
      (positions_same journal (front_at queries) position keeps.live).1
      (record { number = stands.number; stands = same_positions stands.number ∙ stands.stands })

  -- the query of a number as it is seen
  pub seen_there : (number : ℕ) (held : Held W) → slice_get queries number ≡ Some held
      → slice_get (map (query_seen bits) queries) number ≡ Some (query_seen bits held)
  seen_there number held there = slice_get-map (query_seen bits) queries number ∙ ap (option_map (query_seen bits)) there

  pub seen_past : (number : ℕ) → length queries ≤ number → slice_get (map (query_seen bits) queries) number ≡ None
  seen_past number past = slice_get-map (query_seen bits) queries number ∙ ap (option_map (query_seen bits)) (slice_get_past queries number past)

  -- the front of a query is live, while it is open
  pub front_is_live : (number : ℕ) (held : Held W) → slice_get queries number ≡ Some held → IfSome held.front (IsLive journal)
  front_is_live number held there = go held.front refl
    where
      go : (front : Option FrontState) → held.front ≡ front → IfSome front (IsLive journal)
      go None e = tt
      go (Some front) e = keeps.live.live number front (front_there queries number held there ∙ e)
