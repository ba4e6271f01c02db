-- Builds of shards: how they begin and place rows.
use Rattle.std.proofs.Common.{◌≡◌, ℕ, ◌+◌, ◌<◌, ◌≤◌, false, true, inl, inr, List, length, Option, Some, None, refl, sym, ap, subst, ◌∙◌, arith}
use Rattle.std.specs.Prelude.{is_none, is_some, min, nat_lt, option_map, Err, Ok, Result, slice_get, slice_set}
use Rattle.std.proofs.lemmas.Bool.{le-ltb, lt-ltb}
use Rattle.part_layout.specs.Laid.{Laid}
use Rattle.version_draft.specs.Unfinished.{Unfinished, begun, with_placed}
use Rattle.commit_journal.specs.Journals.{JournalState}
use Rattle.world_model.specs.declared.refused.Refused.{Refused}
use Rattle.world_model.specs.declared.refused.Refused.TheVariants.{Building, NoBuild, Unready}
use Rattle.world_model.specs.declared.told.Told.{Told}
use Rattle.world_model.specs.Events.{BuildStart, BuildStep, Setting}
use Rattle.world_model.specs.Refusals.{cause, cause_of, has_left, lacks_build, refusal}
use Rattle.world_model.specs.Sound.{KeepsShard}
use Rattle.world_model.specs.WorldState.{Rebuild, ShardWithBuild, WorldState, with_place}
use Rattle.world_model.specs.WorldStep.{WorldStep}
use Rattle.world_parts.specs.Builds.{BeginsAs, PlacesRowsAs, with_draft}
use Rattle.gph_world.specs.Kept.{KeepsWorld}
use Rattle.world_parts.specs.Seen.{build_seen, place_seen}
use Rattle.gph_world.specs.Seen.{setting_seen, state_seen}
use Rattle.world_parts.specs.Builds.{rows_of_build}
use Rattle.gph_world.specs.Upkeep.{build_of_place, rows_of_place, rows_there, rows_unplaced}
use Rattle.world_parts.specs.declared.held.Held.{Held}
use Rattle.world_parts.specs.declared.place.Place.{Place}
use Rattle.gph_world.proofs.PlaceLemmas.{place_there, placed_is, same_state}
use Rattle.gph_world.proofs.RefusalLemmas.{cause_at, cause_if, cause_not, is_shard, refusal_by}

-- a build is seen where there is one
seen_some : (found : Option Unfinished) → is_some (option_map build_seen found) ≡ is_some found
seen_some None = refl
seen_some (Some build) = refl

-- ---- what a place gives to an event that needs a build
module _ (places : List ShardWithBuild) (shard : ℕ) (place : ShardWithBuild) (there : slice_get places shard ≡ Some place) where
  pub no_build_at : place.build ≡ None → cause_of (slice_get places shard) lacks_build ≡ Some NoBuild
  no_build_at none = cause_at (slice_get places shard) place lacks_build there ∙ ap (λ (o : Option Rebuild). cause (is_none o) NoBuild) none

  module _ (build : Rebuild) (is : place.build ≡ Some build) where
    pub build_is_at : cause_of (slice_get places shard) lacks_build ≡ None
    build_is_at = cause_at (slice_get places shard) place lacks_build there ∙ ap (λ (o : Option Rebuild). cause (is_none o) NoBuild) is

    left_is : cause_of (slice_get places shard) has_left ≡ cause (nat_lt 0 build.left) (Unready build.left)
    left_is = cause_at (slice_get places shard) place has_left there
        ∙ ap (λ (o : Option Rebuild). cause_of o (λ one. cause (nat_lt 0 one.left) (Unready one.left))) is

    pub left_at : 0 < build.left → cause_of (slice_get places shard) has_left ≡ Some (Unready build.left)
    left_at some = left_is ∙ cause_if (nat_lt 0 build.left) (Unready build.left) (lt-ltb 0 build.left some)

    pub none_left_at : build.left ≡ 0 → cause_of (slice_get places shard) has_left ≡ None
    none_left_at none = left_is ∙ cause_not (nat_lt 0 build.left) (Unready build.left) (le-ltb 0 build.left (omega (arith, none)))

-- ---- why it may be refused
module _ (z : Setting) (s : WorldState) (shard : ℕ) (low : shard < z.shards) (place : ShardWithBuild) (there : slice_get s.places shard ≡ Some place) where
  start_refused : (layout : Laid) → is_some place.build ≡ true → refusal z s (BuildStart shard layout) ≡ Some Building
  start_refused layout has = refusal_by z s (BuildStart shard layout) _ _ _ _ _ _ _ _ _ _ (is_shard z.shards shard low) refl refl refl refl refl
      (cause_at (slice_get s.places shard) place _ there ∙ cause_if (is_some place.build) Building has) refl refl refl

  may_start : (layout : Laid) → is_some place.build ≡ false → refusal z s (BuildStart shard layout) ≡ None
  may_start layout none = refusal_by z s (BuildStart shard layout) _ _ _ _ _ _ _ _ _ _ (is_shard z.shards shard low) refl refl refl refl refl
      (cause_at (slice_get s.places shard) place _ there ∙ cause_not (is_some place.build) Building none) refl refl refl

  step_refused : (rows : ℕ) → place.build ≡ None → refusal z s (BuildStep shard rows) ≡ Some NoBuild
  step_refused rows none = refusal_by z s (BuildStep shard rows) _ _ _ _ _ _ _ _ _ _ (is_shard z.shards shard low) refl refl refl refl refl refl
      (no_build_at s.places shard place there none) refl refl

  may_step : (rows : ℕ) (build : Rebuild) → place.build ≡ Some build → refusal z s (BuildStep shard rows) ≡ None
  may_step rows build is = refusal_by z s (BuildStep shard rows) _ _ _ _ _ _ _ _ _ _ (is_shard z.shards shard low) refl refl refl refl refl refl
      (build_is_at s.places shard place there build is) refl refl

-- ---- what it does
module _ {W : ℕ} (bits room : ℕ) (journal : JournalState) (places : List (Place W)) (queries : List (Held W)) (shard : ℕ)
    (low : shard < length places) (old : Place W) (there : slice_get places shard ≡ Some old) where
  abbrev z : Setting
  z = setting_seen bits room journal places

  abbrev s : WorldState
  s = state_seen bits journal places queries

  pub found : slice_get s.places shard ≡ Some (place_seen old)
  found = place_there places shard old there

  -- what the rules say of the shard
  pub kept_there : KeepsWorld bits room journal places queries → KeepsShard z s.history s.queries shard (place_seen old)
  kept_there keeps = keeps.sound.places shard (place_seen old) found

  -- what it may cost
  pub rows_bound : (before after : ℕ) → after ≤ before + length old.shard.current.rows → after ≤ before + rows_there s shard
  rows_bound before after few = subst (λ (n : ℕ). after ≤ before + n) (sym (ap rows_of_place found)) few

  pub rows_cost : (before after rows : ℕ) → after ≡ before + min rows (rows_of_build (option_map build_seen old.build))
      → after ≡ before + min rows (rows_unplaced s shard)
  rows_cost before after rows is = is ∙ ap (λ (o : Option ShardWithBuild). before + min rows (rows_of_build (build_of_place o))) (sym found)

  module _ (new : Place W) where
    abbrev t : WorldState
    t = state_seen bits journal (slice_set places shard new) queries

    pub becomes : (other : Place W) → new ≡ other → t ≡ with_place s shard (place_seen other)
    becomes other same = ap (λ (one : Place W). state_seen bits journal (slice_set places shard one) queries) same
        ∙ placed_is bits room journal places queries shard other

    pub start_step : (layout : Laid) (result : Result Told Refused) → BeginsAs layout old new result
        → WorldStep z s (BuildStart shard layout) result t
    start_step layout (Ok said) is = (
      may_start z s shard low (place_seen old) found layout (seen_some old.build ∙ is.none),
      record {
        place = place_seen old;
        is_place = found;
        after = becomes (with_draft old (begun old.shard.current layout)) is.after;
        said_is = is.said_is;
      },
    )
    start_step layout (Err why) is = elim is.1.causes [
      | inl goes_on ↦ inl (
        start_refused z s shard low (place_seen old) found layout (seen_some old.build ∙ goes_on.0)
            ∙ ap Some (sym goes_on.1),
        same_state bits journal places queries shard old new there is.0,
      )
      | inr lacks ↦ inr (record {
        why_is = lacks.1;
        takes = refl;
        not_refused = may_start z s shard low (place_seen old) found layout (seen_some old.build ∙ lacks.0);
        leaves = inl (same_state bits journal places queries shard old new there is.0);
      })
    ]

    pub rows_step : (rows : ℕ) (result : Result Told Refused) → PlacesRowsAs rows old new result
        → WorldStep z s (BuildStep shard rows) result t
    rows_step rows (Ok said) is = (
      may_step z s shard low (place_seen old) found rows (build_seen is.build) (ap (option_map build_seen) is.is_build),
      record {
        place = place_seen old;
        build = build_seen is.build;
        has = record { is_place = found; is_build = ap (option_map build_seen) is.is_build };
        after = becomes (with_draft old (with_placed is.build rows)) is.after;
        said_is = is.said_is;
      },
    )
    rows_step rows (Err why) is = inl (
      step_refused z s shard low (place_seen old) found rows (ap (option_map build_seen) is.1.none) ∙ ap Some (sym is.1.why_is),
      same_state bits journal places queries shard old new there is.0,
    )
