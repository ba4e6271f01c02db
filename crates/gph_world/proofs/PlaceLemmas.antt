-- Shards with their builds, as one of them changes.
use Rattle.std.proofs.Common.{◌≡◌, ℕ, zero, suc, List, [], ◌∷◌, map, Some, refl, sym, ap, subst, ◌∙◌, arith}
use Rattle.std.specs.Prelude.{option_map, Result, slice_get, slice_set}
use Rattle.std.proofs.lemmas.List.{length-set, map-set}
use Rattle.std.proofs.lemmas.Option.{same_Some, slice_get-map}
use Rattle.hamming_model.specs.Recoded.{cut_history}
use Rattle.commit_journal.specs.Journals.{JournalState}
use Rattle.world_model.specs.declared.refused.Refused.{Refused}
use Rattle.world_model.specs.declared.told.Told.{Told}
use Rattle.world_model.specs.Events.{Event, IsFormed, Setting}
use Rattle.world_model.specs.Sound.{IsSound}
use Rattle.world_model.specs.WorldState.{ShardWithBuild, WorldState, with_place}
use Rattle.world_model.specs.WorldStep.{WorldStep}
use Rattle.world_model.proofs.StepLemmas.{step_sound}
use Rattle.gph_world.specs.Kept.{IsQueryHeld, KeepsWorld}
use Rattle.world_parts.specs.Seen.{place_seen}
use Rattle.gph_world.specs.Seen.{setting_seen, state_seen}
use Rattle.gph_world.specs.Worlds.{setting_of}
use Rattle.world_parts.specs.declared.held.Held.{Held}
use Rattle.world_parts.specs.declared.place.Place.{Place}

-- a shard as it is seen
pub place_there : {W : ℕ} (places : List (Place W)) (shard : ℕ) (place : Place W) → slice_get places shard ≡ Some place
    → slice_get (map place_seen places) shard ≡ Some (place_seen place)
place_there places shard place there = slice_get-map place_seen places shard ∙ ap (option_map place_seen) there

-- what stands at a place put there again changes nothing
set_same : {A : Type 0} (xs : List A) (i : ℕ) (x : A) → slice_get xs i ≡ Some x → slice_set xs i x ≡ xs
set_same [] i x there = refl
set_same {A} (y ∷ xs) zero x there = ap (λ (one : A). one ∷ xs) (sym (same_Some y x there))
set_same {A} (y ∷ xs) (suc i) x there = ap (λ (rest : List A). y ∷ rest) (set_same xs i x there)

-- a shard that is as before leaves the state
pub same_state : {W : ℕ} (bits : ℕ) (journal : JournalState) (places : List (Place W)) (queries : List (Held W)) (shard : ℕ) (old new : Place W)
    → slice_get places shard ≡ Some old → new ≡ old → state_seen bits journal (slice_set places shard new) queries ≡ state_seen bits journal places queries
same_state {W} bits journal places queries shard old new there same =
    ap (λ (one : Place W). state_seen bits journal (slice_set places shard one) queries) same
    ∙ ap (λ (all : List (Place W)). state_seen bits journal all queries) (set_same places shard old there)

module _ {W : ℕ} (bits room : ℕ) (journal : JournalState) (places : List (Place W)) (queries : List (Held W)) (shard : ℕ) (new : Place W) where
  -- the state with another shard
  pub placed_is : state_seen bits journal (slice_set places shard new) queries ≡ with_place (state_seen bits journal places queries) shard (place_seen new)
  placed_is = ap (λ (all : List ShardWithBuild). let t : WorldState = record (state_seen bits journal places queries) { places = all } in t)
      (map-set place_seen places shard new)

  -- the setting stays
  pub setting_stays : setting_seen bits room journal (slice_set places shard new) ≡ setting_seen bits room journal places
  setting_stays = ap (λ (n : ℕ). setting_of bits n room journal.limit) (length-set places shard new)

  -- what is kept
  pub place_keeps : KeepsWorld bits room journal places queries
      → IsSound (setting_seen bits room journal places) (state_seen bits journal (slice_set places shard new) queries)
      → KeepsWorld bits room journal (slice_set places shard new) queries
  place_keeps keeps sound = record {
    few_words = keeps.few_words;
    words = keeps.words;
    some_shards = omega (arith, keeps.some_shards, length-set places shard new);
    few_shards = omega (arith, keeps.few_shards, length-set places shard new);
    some_room = keeps.some_room;
    small_room = keeps.small_room;
    stored = keeps.stored;
    sound = subst (λ (z : Setting). IsSound z (state_seen bits journal (slice_set places shard new) queries)) (sym setting_stays) sound;
    live = keeps.live;
    held = λ number held there. subst (λ (z : Setting). IsQueryHeld z (cut_history bits journal.history) held) (sym setting_stays)
        (keeps.held number held there);
  }

  -- and after any event that changes this shard alone
  pub stepped_keeps : KeepsWorld bits room journal places queries → (event : Event) (answer : Result Told Refused)
      → IsFormed (setting_seen bits room journal places) event
      → WorldStep (setting_seen bits room journal places) (state_seen bits journal places queries) event answer
      (state_seen bits journal (slice_set places shard new) queries)
      → KeepsWorld bits room journal (slice_set places shard new) queries
  stepped_keeps keeps event answer formed step = place_keeps keeps
      (step_sound (setting_seen bits room journal places) (state_seen bits journal places queries) keeps.sound event answer
      (state_seen bits journal (slice_set places shard new) queries) formed step)
