-- A query that a pin looks up twice: to judge of it and to bring its shard to its front, and then to pin the version there.
use Rattle.std.proofs.Common.{◌≡◌, ℕ, ◌+◌, ◌-◌, ◌<◌, ◌≤◌, inr, false, List, length, get_or, Option, None, Some, sym, ap, subst, ◌∙◌}
use Rattle.std.specs.Prelude.{Err, Ok, IfSome, is_some, slice_get, slice_set}
use Rattle.std.specs.declared.alloc.Global.{Global}
use Rattle.std.specs.declared.sync.Arc.{Arc}
use Rattle.hamming_model.specs.declared.limits.TheConstants.{SHARDS_MOST}
use Rattle.shard_version.specs.Tables.{Tabled}
use Rattle.commit_journal.specs.Fronts.{FrontState, position_of}
use Rattle.commit_journal.specs.Journals.{IsLive, JournalState}
use Rattle.versioned_shard.specs.Shards.{IsOneOf, contents_at}
use Rattle.world_model.specs.declared.refused.Refused.TheVariants.{NoMemory}
use Rattle.world_model.specs.declared.told.Told.TheVariants as told
use Rattle.world_model.specs.Events.{Pin, Setting}
use Rattle.world_model.specs.WorldState.{WorldState}
use Rattle.world_model.specs.WorldStep.{WorldStep}
use Rattle.world_parts.specs.Calls.{come_to}
use Rattle.world_parts.specs.Pinned.{MayOpenEach, PinsHeld, VersionPins, missing, pinned_with}
use Rattle.world_parts.specs.Whole.{IsWhole}
use Rattle.world_parts.specs.declared.held.Held.{Held}
use Rattle.world_parts.specs.declared.place.Place.{Place}
use Rattle.world_parts.proofs.ListLemmas.{found_there, two_found}
use Rattle.gph_world.specs.Behind.{entries_behind}
use Rattle.gph_world.specs.Kept.{KeepsWorld}
use Rattle.gph_world.specs.Seen.{setting_seen, state_seen}
use Rattle.gph_world.proofs.AdvanceLemmas.{steps_behind}
use Rattle.gph_world.proofs.HeldLemmas.{front_is_live}
use Rattle.gph_world.proofs.PinLemmas.{HasCome, bring_lacks, has_come, lacks_keeps, may_open, is_whole, pin_free, pins_few, pins_there}
use Rattle.gph_world.proofs.PinnedLemmas.{lacks_step, pin_keeps, pin_setting, pin_step, same_keeps}

module _ {W : ℕ} (bits room : ℕ) (journal : JournalState) (places : List (Place W)) (queries : List (Held W))
    (keeps : KeepsWorld bits room journal places queries) (number shard : ℕ) (low : number < length queries) (below : shard < length places)
    (first : Held W) (found : first ≡ get_or queries number first) (front : FrontState) (is_open : first.front ≡ Some front)
    (place : Place W) (at : place ≡ get_or places shard place) where
  abbrev z : Setting
  z = setting_seen bits room journal places

  abbrev s : WorldState
  s = state_seen bits journal places queries

  stands : slice_get places shard ≡ Some place
  stands = found_there places shard place below at

  -- the steps are those of the entries that the shard was behind
  pub found_behind : (before after : ℕ) → after ≤ before + (position_of front - place.shard.current.at) → after ≤ before + entries_behind s number shard
  found_behind before after most = steps_behind bits room journal places queries keeps number first (found_there queries number first low found) front
      is_open shard place stands before after most

  module _ (goes_on : first.cancelled ≡ false) (pin : Option (Arc Tabled Global)) (looked : pin ≡ get_or first.pins.items shard pin)
      (none : is_some pin ≡ false) (new : Place W) (moved : new ≡ come_to front place) (version : Arc Tabled Global)
      (is : IsOneOf new.shard (position_of front) (contents_at version)) (held : Held W) (again : held ≡ get_or queries number held) where
    there : slice_get queries number ≡ Some held
    there = found_there queries number held low again

    same : first ≡ held
    same = two_found queries number first held low found again

    still : held.cancelled ≡ false
    still = ap (λ (each : Held W). each.cancelled) (sym same) ∙ goes_on

    still_open : held.front ≡ Some front
    still_open = ap (λ (each : Held W). each.front) (sym same) ∙ is_open

    free : slice_get held.pinned.value.items shard ≡ Some None
    free = pin_free bits room journal places queries keeps number held there shard below still pin
        (subst (λ (each : Held W). pin ≡ get_or each.pins.items shard pin) same looked) none

    come : HasCome bits room journal places queries number shard held new version
    come = has_come bits room journal places queries keeps number held there shard below still free front still_open place stands new moved version is

    mid : KeepsWorld bits room journal (slice_set places shard new) queries
    mid = lacks_keeps bits room journal places queries keeps number held there shard below still free front still_open place stands new (inr moved)

    -- the version may be pinned
    abbrev MayPin : VersionPins → Type 0
    MayPin pins = (length pins ≤ SHARDS_MOST) × (IfSome held.front (IsLive journal) × ((slice_get pins shard ≡ Some None)
        × (missing (pinned_with pins shard version) ≡ 0 → MayOpenEach held.ask (pinned_with pins shard version))))

    known_may : MayPin held.pinned.value.items
    known_may = (
      subst (λ (pins : VersionPins). length pins ≤ SHARDS_MOST)
          (pins_there bits room journal places queries keeps number held there shard below still)
          (pins_few bits room journal places queries keeps number held there shard below still),
      (
        front_is_live bits room journal places queries keeps number held there,
        (
          free,
          may_open bits room journal places queries keeps number held there shard below still free front still_open place stands new moved version
              is,
        ),
      ),
    )

    pub found_may : IsWhole held × MayPin held.pins.items
    found_may = (
      is_whole bits room journal places queries keeps number held there shard below still,
      subst MayPin (sym (pins_there bits room journal places queries keeps number held there shard below still)) known_may,
    )

    module _ (to : JournalState) (after : Held W) where
      abbrev t : WorldState
      t = state_seen bits to (slice_set places shard new) (slice_set queries number after)

      -- it was pinned
      pub found_pins_keeps : PinsHeld room journal to held after shard version
          → KeepsWorld bits room to (slice_set places shard new) (slice_set queries number after)
      found_pins_keeps pins = pin_keeps bits room journal places queries keeps number held there shard new version come mid to after pins

      pub found_pins_setting : PinsHeld room journal to held after shard version → setting_seen bits room to (slice_set places shard new) ≡ z
      found_pins_setting pins = pin_setting bits room journal places queries keeps number held there shard new version come mid to after pins

      pub found_pins_step : PinsHeld room journal to held after shard version → (left : ℕ) → left ≡ missing after.pinned.value.items
          → WorldStep z s (Pin number shard) (Ok (told.Pinned left)) t
      found_pins_step pins left is_left = pin_step bits room journal places queries keeps number held there shard new version come mid to after pins left
          is_left

      -- it wasn't: the shard has come to the front, and no more
      pub found_lacks_keeps : to ≡ journal → after ≡ held → KeepsWorld bits room to (slice_set places shard new) (slice_set queries number after)
      found_lacks_keeps stays unchanged = same_keeps bits room journal places queries keeps number held there shard new version come mid to after stays
          unchanged

      pub found_lacks_step : to ≡ journal → after ≡ held → WorldStep z s (Pin number shard) (Err NoMemory) t
      found_lacks_step stays unchanged = lacks_step bits room journal places queries keeps number held there shard new version come mid to after stays
          unchanged
          (bring_lacks bits room journal places queries keeps number held there shard below still free front still_open place stands new (inr moved))
