-- A shard gets the layout of its build.
use Rattle.std.proofs.Common.{◌≡◌, ℕ, ◌<◌, inl, inr, List, length, Option, Some, None, refl, sym, ap, subst, ◌∙◌}
use Rattle.std.specs.Prelude.{◌≢◌, ◌==◌, not, option_map, Err, IfSome, Ok, Result, slice_get, slice_set}
use Rattle.std.proofs.lemmas.Bool.{eq-eqb, ne_eqb, not_from_false, not_from_true}
use Rattle.version_draft.specs.Unfinished.{Unfinished}
use Rattle.commit_journal.specs.Journals.{JournalState}
use Rattle.versioned_shard.specs.Shards.{MayStandIn}
use Rattle.repartitioner.proofs.LawLemmas.{stands_in}
use Rattle.world_model.specs.declared.refused.Refused.{Refused}
use Rattle.world_model.specs.declared.refused.Refused.TheVariants.{Moved, NoBuild, Unready}
use Rattle.world_model.specs.declared.told.Told.{Told}
use Rattle.world_model.specs.Events.{Setting, Swap}
use Rattle.world_model.specs.Refusals.{cause, cause_of, refusal, stands_apart}
use Rattle.world_model.specs.Sound.{IsBuild, KeepsShard}
use Rattle.world_model.specs.WorldState.{Rebuild, ShardWithBuild, WorldState, live_fronts}
use Rattle.world_model.specs.WorldStep.{WorldStep}
use Rattle.gph_world.specs.Kept.{KeepsWorld}
use Rattle.world_parts.specs.Seen.{build_seen, place_seen}
use Rattle.gph_world.specs.Seen.{setting_seen, state_seen}
use Rattle.world_parts.specs.Swaps.{KeepsLayout, MayBeSwapped, TakesLayoutAs, swapped_in}
use Rattle.world_parts.specs.declared.held.Held.{Held}
use Rattle.world_parts.specs.declared.place.Place.{Place}
use Rattle.gph_world.proofs.BuildLemmas.{becomes, build_is_at, found, kept_there, left_at, no_build_at, none_left_at}
use Rattle.gph_world.proofs.PlaceLemmas.{same_state}
use Rattle.gph_world.proofs.RefusalLemmas.{cause_at, cause_if, cause_not, is_shard, refusal_by}

-- ---- why it may be refused
module _ (z : Setting) (s : WorldState) (shard : ℕ) (low : shard < z.shards) (place : ShardWithBuild) (there : slice_get s.places shard ≡ Some place) where
  swap_no_build : place.build ≡ None → refusal z s (Swap shard) ≡ Some NoBuild
  swap_no_build none = refusal_by z s (Swap shard) _ _ _ _ _ _ _ _ _ _ (is_shard z.shards shard low) refl refl refl refl refl refl
      (no_build_at s.places shard place there none) refl refl

  module _ (build : Rebuild) (is : place.build ≡ Some build) where
    swap_unready : 0 < build.left → refusal z s (Swap shard) ≡ Some (Unready build.left)
    swap_unready some = refusal_by z s (Swap shard) _ _ _ _ _ _ _ _ _ _ (is_shard z.shards shard low) refl refl refl refl refl refl
        (build_is_at s.places shard place there build is) (left_at s.places shard place there build is some) refl

    apart_is : cause_of (slice_get s.places shard) stands_apart
        ≡ cause (not (build.version.at == place.shard.current.at)) (Moved place.shard.current.at)
    apart_is = cause_at (slice_get s.places shard) place stands_apart there
        ∙ ap (λ (o : Option Rebuild). cause_of o (λ one. cause (not (one.version.at == place.shard.current.at)) (Moved place.shard.current.at))) is

    swap_moved : build.left ≡ 0 → build.version.at ≢ place.shard.current.at → refusal z s (Swap shard) ≡ Some (Moved place.shard.current.at)
    swap_moved placed apart = refusal_by z s (Swap shard) _ _ _ _ _ _ _ _ _ _ (is_shard z.shards shard low) refl refl refl refl refl refl
        (build_is_at s.places shard place there build is) (none_left_at s.places shard place there build is placed)
        (apart_is ∙ cause_if (not (build.version.at == place.shard.current.at)) (Moved place.shard.current.at)
        (not_from_false (build.version.at == place.shard.current.at) (ne_eqb build.version.at place.shard.current.at apart)))

    may_swap : build.left ≡ 0 → build.version.at ≡ place.shard.current.at → refusal z s (Swap shard) ≡ None
    may_swap placed same = refusal_by z s (Swap shard) _ _ _ _ _ _ _ _ _ _ (is_shard z.shards shard low) refl refl refl refl refl refl
        (build_is_at s.places shard place there build is) (none_left_at s.places shard place there build is placed)
        (apart_is ∙ cause_not (not (build.version.at == place.shard.current.at)) (Moved place.shard.current.at)
        (not_from_true (build.version.at == place.shard.current.at) (eq-eqb build.version.at place.shard.current.at same)))

-- ---- what it does
module _ {W : ℕ} (bits room : ℕ) (journal : JournalState) (places : List (Place W)) (queries : List (Held W)) (shard : ℕ)
    (low : shard < length places) (old : Place W) (there : slice_get places shard ≡ Some old) where
  abbrev z : Setting
  z = setting_seen bits room journal places

  abbrev s : WorldState
  s = state_seen bits journal places queries

  is_found : slice_get s.places shard ≡ Some (place_seen old)
  is_found = found bits room journal places queries shard low old there

  -- the build of a sound world may stand in for its shard
  pub may_be_swapped : KeepsWorld bits room journal places queries → MayBeSwapped old
  may_be_swapped keeps = go old.build refl
    where
      is : KeepsShard z s.history s.queries shard (place_seen old)
      is = kept_there bits room journal places queries shard low old there keeps

      stands : (build : Unfinished) → IsBuild z s.history shard (build_seen build) → MayStandIn old.shard build.contents
      stands build is_build = stands_in (live_fronts s.queries) s.history old.shard build.contents is.rule is_build.follows (record {
        shard_is = is_build.of_shard.shard_is ∙ sym is.of_shard.shard_is;
        shards_are = is_build.of_shard.shards_is ∙ sym is.of_shard.shards_is;
        bits_are = is_build.of_shard.layout.bits_are ∙ sym is.of_shard.layout.bits_are;
      })

      go : (build : Option Unfinished) → old.build ≡ build → IfSome build (λ build. MayStandIn old.shard build.contents)
      go None e = tt
      go (Some build) e = stands build (subst (λ (o : Option Unfinished). IfSome (option_map build_seen o) (IsBuild z s.history shard)) e is.build)

  module _ (new : Place W) where
    abbrev t : WorldState
    t = state_seen bits journal (slice_set places shard new) queries

    kept_step : (why : Refused) → new ≡ old → KeepsLayout old why → WorldStep z s (Swap shard) (Err why) t
    kept_step why same keeps = elim keeps.causes [
      | inl unready ↦ inl (
        swap_unready z s shard low (place_seen old) is_found (build_seen keeps.build) (ap (option_map build_seen) keeps.is_build)
            unready.0 ∙ ap Some (sym unready.1),
        stays,
      )
      | inr (inl moved) ↦ inl (
        swap_moved z s shard low (place_seen old) is_found (build_seen keeps.build) (ap (option_map build_seen) keeps.is_build)
            moved.0 moved.1 ∙ ap Some (sym moved.2),
        stays,
      )
      | inr (inr lacks) ↦ inr (record {
        why_is = lacks.2;
        takes = refl;
        not_refused = may_swap z s shard low (place_seen old) is_found (build_seen keeps.build) (ap (option_map build_seen) keeps.is_build)
            lacks.0 lacks.1;
        leaves = inl stays;
      })
    ]
      where
        stays : t ≡ s
        stays = same_state bits journal places queries shard old new there same

    pub swap_step : (result : Result Told Refused) → TakesLayoutAs old new result → WorldStep z s (Swap shard) result t
    swap_step (Ok said) is = (
      may_swap z s shard low (place_seen old) is_found (build_seen is.build) (ap (option_map build_seen) is.is_build) is.placed is.one_place,
      record {
        place = place_seen old;
        build = build_seen is.build;
        has = record { is_place = is_found; is_build = ap (option_map build_seen) is.is_build };
        after = becomes bits room journal places queries shard low old there new (swapped_in old is.build) is.after;
        said_is = is.said_is;
      },
    )
    swap_step (Err why) is = elim is.1 [
      | inl lacks ↦ inl (
        swap_no_build z s shard low (place_seen old) is_found (ap (option_map build_seen) lacks.none) ∙ ap Some (sym lacks.why_is),
        same_state bits journal places queries shard old new there is.0,
      )
      | inr keeps ↦ kept_step why is.0 keeps
    ]
