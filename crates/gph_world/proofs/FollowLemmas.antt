-- A build follows the history to its end.
use Rattle.std.proofs.Common.{◌≡◌, ℕ, ◌+◌, ◌<◌, ◌≤◌, inl, inr, List, length, take, Option, Some, None, refl, sym, ap, subst, ◌∙◌, arith}
use Rattle.std.specs.Prelude.{option_map, Err, IfSome, Ok, Result, slice_get, slice_set}
use Rattle.std.proofs.lemmas.List.{length-map}
use Rattle.hamming_model.specs.History.{JournalEntry}
use Rattle.hamming_model.specs.Recoded.{AreStoredEntries, cut_entry, cut_history}
use Rattle.shard_version.specs.Contents.{Contents}
use Rattle.shard_version.specs.Prefixes.{prefix_of}
use Rattle.version_draft.specs.Unfinished.{Unfinished}
use Rattle.commit_journal.specs.Journals.{JournalState}
use Rattle.versioned_shard.specs.Along.{version_at}
use Rattle.repartitioner.specs.Builds.{placed_all}
use Rattle.world_model.specs.declared.refused.Refused.{Refused}
use Rattle.world_model.specs.declared.refused.Refused.TheVariants.{NoBuild, Unready}
use Rattle.world_model.specs.declared.told.Told.{Told}
use Rattle.world_model.specs.declared.told.Told.TheVariants as told
use Rattle.world_model.specs.Events.{Follow, Setting}
use Rattle.world_model.specs.Refusals.{refusal}
use Rattle.world_model.specs.ShardSteps.{with_build}
use Rattle.world_model.specs.Sound.{IsBuild}
use Rattle.world_model.specs.WorldState.{Rebuild, ShardWithBuild, WorldState, with_place}
use Rattle.world_model.specs.WorldStep.{WorldStep}
use Rattle.world_bridge.proofs.CutLemmas.{cut_twice, follows_cut}
use Rattle.world_parts.specs.Builds.{ComesToEnd, FollowsAs, MayFollow, StaysBehind, with_draft}
use Rattle.gph_world.specs.Kept.{KeepsWorld}
use Rattle.world_parts.specs.Seen.{build_seen, place_seen}
use Rattle.gph_world.specs.Seen.{setting_seen, state_seen}
use Rattle.world_parts.specs.Builds.{entries_of_build}
use Rattle.gph_world.specs.Upkeep.{build_of_place, entries_unfollowed}
use Rattle.world_parts.specs.declared.held.Held.{Held}
use Rattle.world_parts.specs.declared.place.Place.{Place}
use Rattle.gph_world.proofs.BuildLemmas.{becomes, build_is_at, found, kept_there, left_at, no_build_at, none_left_at}
use Rattle.gph_world.proofs.PlaceLemmas.{same_state, stepped_keeps}
use Rattle.gph_world.proofs.RefusalLemmas.{is_shard, refusal_by}

-- the version at a position of the history that words keep is that of the history in its codes alone
at_cut : (bits : ℕ) (history : List JournalEntry) (from : Contents) (position : ℕ) → from.layout.bits ≡ bits
    → version_at history from position ≡ version_at (cut_history bits history) from position
at_cut bits history from position same =
    subst (λ (cut : ℕ). version_at history from position ≡ version_at (cut_history cut history) from position) same
    (ap (λ (entries : List JournalEntry). prefix_of from.shard from.shards from.layout (take position entries))
    (sym (cut_twice from.layout.bits history)))

-- ---- why it may be refused
module _ (z : Setting) (s : WorldState) (shard : ℕ) (low : shard < z.shards) (place : ShardWithBuild) (there : slice_get s.places shard ≡ Some place) where
  follow_no_build : place.build ≡ None → refusal z s (Follow shard) ≡ Some NoBuild
  follow_no_build none = refusal_by z s (Follow shard) _ _ _ _ _ _ _ _ _ _ (is_shard z.shards shard low) refl refl refl refl refl refl
      (no_build_at s.places shard place there none) refl refl

  module _ (build : Rebuild) (is : place.build ≡ Some build) where
    follow_unready : 0 < build.left → refusal z s (Follow shard) ≡ Some (Unready build.left)
    follow_unready some = refusal_by z s (Follow shard) _ _ _ _ _ _ _ _ _ _ (is_shard z.shards shard low) refl refl refl refl refl refl
        (build_is_at s.places shard place there build is) (left_at s.places shard place there build is some) refl

    goes_along : build.left ≡ 0 → refusal z s (Follow shard) ≡ None
    goes_along placed = refusal_by z s (Follow shard) _ _ _ _ _ _ _ _ _ _ (is_shard z.shards shard low) refl refl refl refl refl refl
        (build_is_at s.places shard place there build is) (none_left_at s.places shard place there build is placed) refl

-- ---- what it does
module _ {W : ℕ} (bits room : ℕ) (journal : JournalState) (places : List (Place W)) (queries : List (Held W))
    (keeps : KeepsWorld bits room journal places queries) (shard : ℕ) (low : shard < length places) (old : Place W)
    (there : slice_get places shard ≡ Some old) where
  abbrev z : Setting
  z = setting_seen bits room journal places

  abbrev s : WorldState
  s = state_seen bits journal places queries

  is_found : slice_get s.places shard ≡ Some (place_seen old)
  is_found = found bits room journal places queries shard low old there

  as_long : length s.history ≡ length journal.history
  as_long = length-map journal.history (cut_entry bits)

  -- the build of a sound world is one along its history
  is_build : (build : Unfinished) → old.build ≡ Some build → IsBuild z s.history shard (build_seen build)
  is_build build e = subst (λ (o : Option Unfinished). IfSome (option_map build_seen o) (IsBuild z s.history shard)) e
      (kept_there bits room journal places queries shard low old there keeps).build

  pub may_follow : IfSome old.build (MayFollow W journal.history)
  may_follow = go old.build refl
    where
      follows : (build : Unfinished) → IsBuild z s.history shard (build_seen build) → MayFollow W journal.history build
      follows build is = record {
        within = omega (arith, is.within, as_long);
        follows = (follows_cut bits journal.history build.contents is.of_shard.layout.bits_are).1 is.follows;
        codes = subst (λ (n : ℕ). AreStoredEntries W n journal.history) (sym is.of_shard.layout.bits_are) keeps.stored;
      }

      go : (build : Option Unfinished) → old.build ≡ build → IfSome build (MayFollow W journal.history)
      go None e = tt
      go (Some build) e = follows build (is_build build e)

  -- what it may cost
  pub follow_bound : (before after : ℕ) → after ≤ before + entries_of_build (length journal.history) (option_map build_seen old.build)
      → after ≤ before + entries_unfollowed s shard
  follow_bound before after few =
      subst (λ (o : Option ShardWithBuild). after ≤ before + entries_of_build (length s.history) (build_of_place o)) (sym is_found)
      (subst (λ (n : ℕ). after ≤ before + entries_of_build n (option_map build_seen old.build)) (sym as_long) few)

  module _ (new : Place W) where
    abbrev t : WorldState
    t = state_seen bits journal (slice_set places shard new) queries

    came_step : (said : Told) → ComesToEnd journal.history old new said → WorldStep z s (Follow shard) (Ok said) t
    came_step said is = (
      goes_along z s shard low (place_seen old) is_found (build_seen is.build) (ap (option_map build_seen) is.is_build) is.placed,
      record {
        place = place_seen old;
        build = build_seen is.build;
        has = record { is_place = is_found; is_build = ap (option_map build_seen) is.is_build };
        after = becomes bits room journal places queries shard low old there new
            (with_draft old (placed_all (version_at journal.history is.build.contents (length journal.history)))) is.after
            ∙ ap (λ (version : Contents). with_place s shard (with_build (place_seen old) version 0))
            (at_cut bits journal.history is.build.contents (length journal.history) (is_build is.build is.is_build).of_shard.layout.bits_are
            ∙ ap (version_at s.history is.build.contents) (sym as_long));
        said_is = is.said_is ∙ ap told.Followed (sym as_long);
      },
    )

    stays_step : (why : Refused) → new ≡ old → StaysBehind old why → WorldStep z s (Follow shard) (Err why) t
    stays_step why same stays = elim stays.causes [
      | inl unready ↦ inl (
        follow_unready z s shard low (place_seen old) is_found (build_seen stays.build)
            (ap (option_map build_seen) stays.is_build) unready.0 ∙ ap Some (sym unready.1),
        same_state bits journal places queries shard old new there same,
      )
      | inr lacks ↦ inr (record {
        why_is = lacks.1;
        takes = refl;
        not_refused = goes_along z s shard low (place_seen old) is_found (build_seen stays.build) (ap (option_map build_seen) stays.is_build) lacks.0;
        leaves = inl (same_state bits journal places queries shard old new there same);
      })
    ]

    follow_step : (result : Result Told Refused) → FollowsAs journal.history old new result → WorldStep z s (Follow shard) result t
    follow_step (Ok said) is = came_step said is
    follow_step (Err why) is = elim is.1 [
      | inl lacks ↦ inl (
        follow_no_build z s shard low (place_seen old) is_found (ap (option_map build_seen) lacks.none) ∙ ap Some (sym lacks.why_is),
        same_state bits journal places queries shard old new there is.0,
      )
      | inr stays ↦ stays_step why is.0 stays
    ]

    -- the journal is as before
    pub follow_leaves : (after : JournalState) → after ≡ journal → (result : Result Told Refused) → FollowsAs journal.history old new result
        → KeepsWorld bits room after (slice_set places shard new) queries
        × WorldStep z s (Follow shard) result (state_seen bits after (slice_set places shard new) queries)
    follow_leaves after same result is =
        subst (λ (one : JournalState). KeepsWorld bits room one (slice_set places shard new) queries
        × WorldStep z s (Follow shard) result (state_seen bits one (slice_set places shard new) queries)) (sym same) (
          stepped_keeps bits room journal places queries shard new keeps (Follow shard) result tt (follow_step result is),
          follow_step result is,
        )
