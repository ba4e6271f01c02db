-- A shard comes to the front of a query.
use Rattle.std.proofs.Common.{◌≡◌, ℕ, ◌+◌, ◌-◌, ◌<◌, ◌≤◌, false, true, inl, inr, List, length, take, Option, Some, None, refl, sym, ap, subst, ◌∙◌, arith}
use Rattle.std.specs.Prelude.{is_none, nat_le, option_map, Err, Ok, slice_get, slice_set}
use Rattle.std.proofs.lemmas.List.{length-map}
use Rattle.hamming_model.specs.Recoded.{AreStoredEntries, cut_entry, cut_history}
use Rattle.hamming_model.proofs.RecodedLemmas.{first_recoded, stored_first}
use Rattle.commit_journal.specs.Fronts.{FrontState, front_of, position_of}
use Rattle.commit_journal.specs.Journals.{JournalState, KnowsFront}
use Rattle.versioned_shard.specs.Along.{Follows}
use Rattle.versioned_shard.specs.Shards.{ShardState, advanced}
use Rattle.versioned_shard.proofs.RuleLemmas.{follows_front}
use Rattle.world_model.specs.declared.refused.Refused.TheVariants.{Closed, NoMemory, NoQuery, NoShard, Unfronted}
use Rattle.world_model.specs.declared.told.Told.TheVariants as told
use Rattle.world_model.specs.Events.{Advance, Setting}
use Rattle.world_model.specs.Refusals.{cause, refusal}
use Rattle.world_model.specs.ShardSteps.{Advances}
use Rattle.world_model.specs.Sound.{KeepsShard}
use Rattle.world_model.specs.WorldState.{ShardWithBuild, WorldQuery, WorldState, front_on, live_fronts}
use Rattle.world_model.specs.WorldStep.{WorldStep}
use Rattle.world_bridge.specs.Cuts.{cut_front}
use Rattle.world_bridge.proofs.CutLemmas.{comes_cut, follows_cut}
use Rattle.gph_world.specs.Behind.{behind_of, entries_behind}
use Rattle.world_parts.specs.Calls.{come_to}
use Rattle.gph_world.specs.Kept.{KeepsWorld}
use Rattle.world_parts.specs.Seen.{place_seen, query_seen}
use Rattle.gph_world.specs.Seen.{setting_seen, state_seen}
use Rattle.world_parts.specs.declared.held.Held.{Held}
use Rattle.world_parts.specs.declared.place.Place.{Place}
use Rattle.gph_world.proofs.HeldLemmas.{front_there, seen_there}
use Rattle.gph_world.proofs.PlaceLemmas.{place_there, placed_is, same_state}
use Rattle.gph_world.proofs.RefusalLemmas.{cause_at, cause_if, cause_not, is_query, is_shard, no_query, refusal_by}

-- ---- why it may be refused
module _ (z : Setting) (s : WorldState) (number shard : ℕ) where
  pub advance_no_shard : cause (nat_le z.shards shard) NoShard ≡ Some NoShard
      → refusal z s (Advance number shard) ≡ Some NoShard
  advance_no_shard none = refusal_by z s (Advance number shard) _ _ _ _ _ _ _ _ _ _ none refl refl refl refl refl refl refl refl refl

  module _ (low : shard < z.shards) where
    pub advance_no_query : slice_get s.queries number ≡ None → refusal z s (Advance number shard) ≡ Some NoQuery
    advance_no_query none = refusal_by z s (Advance number shard) _ _ _ _ _ _ _ _ _ _ (is_shard z.shards shard low)
        (no_query (slice_get s.queries number) none) refl refl refl refl refl refl refl refl

    module _ (query : WorldQuery) (there : slice_get s.queries number ≡ Some query) where
      pub advance_closed : query.cancelled ≡ true → refusal z s (Advance number shard) ≡ Some Closed
      advance_closed was = refusal_by z s (Advance number shard) _ _ _ _ _ _ _ _ _ _ (is_shard z.shards shard low)
          (is_query (slice_get s.queries number) query there)
          (cause_at (slice_get s.queries number) query _ there ∙ cause_if query.cancelled Closed was) refl refl refl refl refl refl refl

      pub advance_unfronted : query.cancelled ≡ false → query.front ≡ None → refusal z s (Advance number shard) ≡ Some Unfronted
      advance_unfronted goes_on none = refusal_by z s (Advance number shard) _ _ _ _ _ _ _ _ _ _ (is_shard z.shards shard low)
          (is_query (slice_get s.queries number) query there)
          (cause_at (slice_get s.queries number) query _ there ∙ cause_not query.cancelled Closed goes_on) refl
          (cause_at (slice_get s.queries number) query _ there ∙ ap (λ (front : Option (List ℕ)). cause (is_none front) Unfronted) none)
          refl refl refl refl refl

      pub may_advance : (older : List ℕ) → query.cancelled ≡ false → query.front ≡ Some older → refusal z s (Advance number shard) ≡ None
      may_advance older goes_on is_open = refusal_by z s (Advance number shard) _ _ _ _ _ _ _ _ _ _ (is_shard z.shards shard low)
          (is_query (slice_get s.queries number) query there)
          (cause_at (slice_get s.queries number) query _ there ∙ cause_not query.cancelled Closed goes_on) refl
          (cause_at (slice_get s.queries number) query _ there ∙ ap (λ (front : Option (List ℕ)). cause (is_none front) Unfronted) is_open)
          refl refl refl refl refl

-- ---- what it does
module _ {W : ℕ} (bits room : ℕ) (journal : JournalState) (places : List (Place W)) (queries : List (Held W))
    (keeps : KeepsWorld bits room journal places queries) (number : ℕ) (held : Held W) (there : slice_get queries number ≡ Some held)
    (front : FrontState) (is_open : held.front ≡ Some front) (shard : ℕ) (place : Place W) (stands : slice_get places shard ≡ Some place) where
  abbrev z : Setting
  z = setting_seen bits room journal places

  abbrev s : WorldState
  s = state_seen bits journal places queries

  abbrev query : WorldQuery
  query = query_seen bits held

  known : KnowsFront journal front
  known = keeps.live.known number front (front_there queries number held there ∙ is_open)

  -- the front in its codes alone is that of the query
  pub same_front : cut_front bits front ≡ front_on s.history query front.older
  same_front = ap (front_of 0 0 front.older)
      (ap (cut_history bits) known.begins ∙ first_recoded (take bits) (position_of front) journal.history
      ∙ ap (λ (n : ℕ). take n s.history) ((keeps.held number held there).front front is_open))

  fronted : query.front ≡ Some front.older
  fronted = ap (option_map (λ one. one.older)) is_open

  shard_is : KeepsShard z s.history s.queries shard (place_seen place)
  shard_is = keeps.sound.places shard (place_seen place) (place_there places shard place stands)

  bits_are : place.shard.current.layout.bits ≡ bits
  bits_are = shard_is.of_shard.layout.bits_are

  may_follow : place.shard.current.at < position_of front → Follows front.entries place.shard.current
  may_follow behind =
      (follows_cut bits front.entries place.shard.current bits_are).1
      (subst (λ (one : FrontState). Follows one.entries place.shard.current) (sym same_front)
      (follows_front (live_fronts s.queries) s.history place.shard (front_on s.history query front.older) shard_is.rule
      (keeps.sound.fronts number query front.older (seen_there bits room journal places queries keeps number held there) fronted).known
      (omega (arith, behind, ap position_of same_front, length-map front.entries (cut_entry bits)))))

  stored_there : AreStoredEntries W place.shard.current.layout.bits front.entries
  stored_there = subst (λ (n : ℕ). AreStoredEntries W n front.entries) (sym bits_are)
      (subst (AreStoredEntries W bits) (sym known.begins) (stored_first W bits (position_of front) journal.history keeps.stored))

  pub may_come : (place.shard.current.at < position_of front → Follows front.entries place.shard.current)
      × AreStoredEntries W place.shard.current.layout.bits front.entries
  may_come = (may_follow, stored_there)

  pub comes : advanced front place.shard ≡ advanced (front_on s.history query front.older) place.shard
  comes = comes_cut front place.shard
      ∙ ap (λ (n : ℕ). advanced (cut_front n front) place.shard) bits_are
      ∙ ap (λ (one : FrontState). advanced one place.shard) same_front

  pub came : Advances s number shard (place_seen (come_to front place)) (state_seen bits journal (slice_set places shard (come_to front place)) queries)
  came = record {
    query = query;
    older = front.older;
    fronted = record { is_query = seen_there bits room journal places queries keeps number held there; is_open = fronted };
    before = place_seen place;
    is_place = place_there places shard place stands;
    after_is = ap (λ (one : ShardState). let p : ShardWithBuild = record (place_seen place) { shard = one } in p) comes;
    advanced_is = placed_is bits room journal places queries shard (come_to front place);
  }

  pub advance_step : shard < length places → held.cancelled ≡ false → (at : ℕ) → at ≡ (come_to front place).shard.current.at
      → WorldStep z s (Advance number shard) (Ok (told.Advanced at)) (state_seen bits journal (slice_set places shard (come_to front place)) queries)
  advance_step low goes_on at at_is = (
    may_advance z s number shard low query (seen_there bits room journal places queries keeps number held there) front.older goes_on fronted,
    record { after = place_seen (come_to front place); advances = came; said_is = ap told.Advanced at_is },
  )

  -- the shard as it was left
  pub advance_ok : shard < length places → held.cancelled ≡ false → (new : Place W) → new ≡ come_to front place → (at : ℕ) → at ≡ new.shard.current.at
      → WorldStep z s (Advance number shard) (Ok (told.Advanced at)) (state_seen bits journal (slice_set places shard new) queries)
  advance_ok low goes_on new same at at_is =
      subst (λ (one : Place W). at ≡ one.shard.current.at
      → WorldStep z s (Advance number shard) (Ok (told.Advanced at)) (state_seen bits journal (slice_set places shard one) queries)) (sym same)
      (advance_step low goes_on at) at_is

  -- there was no memory
  pub advance_lacks : shard < length places → held.cancelled ≡ false → (new : Place W) → new ≡ place
      → WorldStep z s (Advance number shard) (Err NoMemory) (state_seen bits journal (slice_set places shard new) queries)
  advance_lacks low goes_on new same = inr (record {
    why_is = refl;
    takes = refl;
    not_refused = may_advance z s number shard low query (seen_there bits room journal places queries keeps number held there) front.older goes_on fronted;
    leaves = inl (same_state bits journal places queries shard place new stands same);
  })

  -- it is behind the query by as many entries as it is behind the front
  pub steps_behind : (before after : ℕ) → after ≤ before + (position_of front - place.shard.current.at)
      → after ≤ before + entries_behind s number shard
  steps_behind before after few =
      let is : entries_behind s number shard ≡ held.position - place.shard.current.at =
      ap (λ (asked : Option WorldQuery). behind_of asked (slice_get s.places shard))
      (seen_there bits room journal places queries keeps number held there)
      ∙ ap (behind_of (Some query)) (place_there places shard place stands) in
      subst (λ (n : ℕ). after ≤ before + n) (sym is)
      (subst (λ (n : ℕ). after ≤ before + (n - place.shard.current.at)) ((keeps.held number held there).front front is_open) few)
