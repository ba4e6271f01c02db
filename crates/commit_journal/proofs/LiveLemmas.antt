-- The live fronts of a slab as a finite map, with one more and with one less.
use Rattle.std.proofs.Common.{◌≡◌, ◌≢◌, ◌⊎◌, inl, inr, ℕ, zero, suc, ◌+◌, ◌<◌, ◌==◌, Bool, true, false, cond, List, [], ◌∷◌, get_or, Option, Some, None, refl, sym, ap, ◌∙◌, arith, eq-eqb, eqb-true, zero-add}
use Rattle.std.specs.Cmp.{nat_cmp_total, unsigned_tied}
use Rattle.std.specs.Prelude.{option_map}
use Rattle.std.specs.FinMap.{FinMap, find, get, insert, remove, from_entries, get-from_entries, get-insert, get-remove, same_map, nat_cmp-IsAntisymmetric}
use Rattle.std.specs.Ordering.{nat_cmp, eq_by_cmp}
use Rattle.std.proofs.lemmas.Bool.{ne_eqb, eqb-false}
use Rattle.slab.specs.Slab.{Slab, Updates, entries, entries_from}
use Rattle.slab.specs.Slab as slab
use Rattle.commit_journal.specs.Fronts.{Live, StandsAt, positions_of}

-- the map of a slab
abbrev map_of : {T : Type 0} → Slab T → FinMap nat_cmp T
map_of all = from_entries {R = nat_cmp} (entries all)

module _ {T : Type 0} where
  found_at : (q first : ℕ) (slots : List (Option T)) (value : T) → q ≢ first
      → find nat_cmp q ((first, value) ∷ entries_from (first + 1) slots) ≡ find nat_cmp q (entries_from (first + 1) slots)
  found_at q first slots value apart =
      let test : eq_by_cmp nat_cmp q first ≡ false = unsigned_tied q first ∙ ne_eqb q first apart in
      ap (λ (here : Bool). cond here (Some value) (find nat_cmp q (entries_from (first + 1) slots))) test

  none_below : (first q : ℕ) (slots : List (Option T)) → q < first → find nat_cmp q (entries_from first slots) ≡ None
  none_below first q [] below = refl
  none_below first q (None ∷ slots) below = none_below (first + 1) q slots (omega arith)
  none_below first q (Some value ∷ slots) below =
      found_at q first slots value (λ (e : q ≡ first). omega arith) ∙ none_below (first + 1) q slots (omega arith)

  -- the entry of a key is what its slot has
  find_slot : (first q : ℕ) (slots : List (Option T)) → find nat_cmp (first + q) (entries_from first slots) ≡ get_or slots q None
  find_slot first q [] = refl
  find_slot first zero (None ∷ slots) = none_below (first + 1) (first + 0) slots (omega arith)
  find_slot first (suc q) (None ∷ slots) =
      let shift : first + suc q ≡ first + 1 + q = omega arith in
      rw shift (find_slot (first + 1) q slots)
  find_slot first zero (Some value ∷ slots) =
      let test : eq_by_cmp nat_cmp (first + 0) first ≡ true = unsigned_tied (first + 0) first ∙ eq-eqb (first + 0) first (omega arith) in
      ap (λ (here : Bool). cond here (Some value) (find nat_cmp (first + 0) (entries_from (first + 1) slots))) test
  find_slot first (suc q) (Some value ∷ slots) =
      let shift : first + suc q ≡ first + 1 + q = omega arith in
      found_at (first + suc q) first slots value (λ (e : first + suc q ≡ first). omega arith)
      ∙ ap (λ (n : ℕ). find nat_cmp n (entries_from (first + 1) slots)) shift ∙ find_slot (first + 1) q slots

  -- the map of a slab has what the slab has
  pub slab_at : (all : Slab T) (id : ℕ) → get (map_of all) id ≡ slab.get all id
  slab_at all id =
      get-from_entries nat_cmp_total (entries all) id ∙ ap (λ (n : ℕ). find nat_cmp n (entries all)) (sym (zero-add id)) ∙ find_slot 0 id all.slots

-- ---- a map with one more and with one less
module _ {T : Type 0} (live : FinMap nat_cmp T) (id : ℕ) where
  pub after_insert : (value : T) (q : ℕ) → get (insert live id value) q ≡ cond (q == id) (Some value) (get live q)
  after_insert value q = get-insert nat_cmp_total live id value q ∙ ap (λ (here : Bool). cond here (Some value) (get live q)) (unsigned_tied q id)

  pub after_remove : (q : ℕ) → get (remove live id) q ≡ cond (q == id) None (get live q)
  after_remove q = get-remove nat_cmp_total live id q ∙ ap (λ (here : Bool). cond here None (get live q)) (unsigned_tied q id)

module _ {T : Type 0} (old new : Slab T) (id : ℕ) where
  -- what is changed at one key of a slab is changed so in its map
  changed_at : (slot : Option T) → Updates old new id slot → (q : ℕ) → get (map_of new) q ≡ cond (q == id) slot (get (map_of old) q)
  changed_at slot updates q = slab_at new q ∙ go (q == id) refl
    where
      go : (same : Bool) → (q == id) ≡ same → slab.get new q ≡ cond same slot (get (map_of old) q)
      go true e = ap (slab.get new) (eqb-true q id e) ∙ updates.changed
      go false e = updates.others q (eqb-false q id e) ∙ sym (slab_at old q)

  -- a slab with one value more
  pub slab_inserted : (value : T) → Updates old new id (Some value) → map_of new ≡ insert (map_of old) id value
  slab_inserted value updates = same_map nat_cmp_total nat_cmp-IsAntisymmetric _ _ (λ q.
      changed_at (Some value) updates q ∙ sym (after_insert (map_of old) id value q))

  -- a slab with one value less
  pub slab_removed : Updates old new id None → map_of new ≡ remove (map_of old) id
  slab_removed updates = same_map nat_cmp_total nat_cmp-IsAntisymmetric _ _ (λ q. changed_at None updates q ∙ sym (after_remove (map_of old) id q))

-- ---- the positions of live fronts
abbrev pub second : Option (ℕ × ℕ) → Option ℕ
second found = option_map (λ pair. pair.1) found

module _ (live : Live) (id : ℕ) where
  -- one front more: its position, or that of one before it
  pub stands_opened : (who position other : ℕ) → StandsAt (positions_of (insert live id (who, position))) other
      → (position ≡ other) ⊎ StandsAt (positions_of live) other
  stands_opened who position other stands =
      go (stands.number == id) (sym (ap second (after_insert live id (who, position) stands.number)) ∙ stands.stands)
    where
      go : (here : Bool) → second (cond here (Some (who, position)) (get live stands.number)) ≡ Some other
          → (position ≡ other) ⊎ StandsAt (positions_of live) other
      go true h = inl cc
      go false h = inr (record { number = stands.number; stands = h })

  -- one front less: that of one before
  pub stands_closed : (other : ℕ) → StandsAt (positions_of (remove live id)) other → StandsAt (positions_of live) other
  stands_closed other stands = go (stands.number == id) (sym (ap second (after_remove live id stands.number)) ∙ stands.stands)
    where
      go : (here : Bool) → second (cond here None (get live stands.number)) ≡ Some other → StandsAt (positions_of live) other
      go true h = cc
      go false h = record { number = stands.number; stands = h }
