-- A shard is pinned.
use Rattle.std.proofs.Common.{◌≡◌, ◌⊎◌, ℕ, suc, ◌<◌, ◌≤◌, true, false, List, [], ◌∷◌, length, filter, get_or, map, Option, Some, None, refl, sym, ap, subst, ◌∙◌, arith, inl, inr}
use Rattle.std.specs.Prelude.{Err, Ok, is_none, is_some, nat_le, option_map, slice_get, slice_set}
use Rattle.std.specs.declared.alloc.Global.{Global}
use Rattle.std.specs.declared.sync.Arc.{Arc}
use Rattle.std.proofs.lemmas.Bool.{both_ways}
use Rattle.std.proofs.lemmas.List.{length-map}
use Rattle.std.proofs.lemmas.Option.{same_Some, slice_get-map}
use Rattle.hamming_model.specs.Recoded.{cut_history}
use Rattle.hamming_model.specs.declared.limits.TheConstants.{SHARDS_MOST}
use Rattle.part_layout.specs.Laid.{Laid}
use Rattle.shard_version.specs.Tables.{Tabled}
use Rattle.commit_journal.specs.Fronts.{FrontState, position_of}
use Rattle.commit_journal.specs.Journals.{JournalState}
use Rattle.versioned_shard.specs.Shards.{HasVersion, IsOneOf, advanced, contents_at}
use Rattle.world_model.specs.declared.refused.Refused.TheVariants.{Closed, NoMemory, NoQuery, NoShard}
use Rattle.world_model.specs.declared.told.Told.TheVariants as told
use Rattle.world_model.specs.Events.{IsLayoutFor, IsQuestion, Pin, Setting}
use Rattle.world_model.specs.Refusals.{cause, refusal}
use Rattle.world_model.specs.ShardSteps.{Advances}
use Rattle.world_model.specs.Sound.{IsQuery, IsSound}
use Rattle.world_model.specs.WorldState.{WorldQuery, WorldState, pinned_version, unpinned}
use Rattle.world_model.specs.WorldStep.{WorldStep}
use Rattle.world_model.proofs.Lookups.{get_same, get_set, some_missing}
use Rattle.world_model.proofs.PinLemmas.{front_has_version, pin_not_refused, version_has_rows}
use Rattle.world_model.proofs.PlaceLemmas.{one_is_laid}
use Rattle.world_model.proofs.StepLemmas.{step_sound}
use Rattle.world_parts.specs.Asks.{IsStoredAsk, ask_seen}
use Rattle.world_parts.specs.Calls.{come_to}
use Rattle.gph_world.specs.Kept.{KeepsWorld}
use Rattle.world_parts.specs.Pinned.{MayOpen, MayOpenEach, missing, pinned_with, rows_pinned}
use Rattle.world_parts.specs.Pinned as pinned
use Rattle.world_parts.specs.Seen.{layout_pinned, place_seen, query_seen}
use Rattle.gph_world.specs.Seen.{setting_seen, state_seen}
use Rattle.world_parts.specs.Whole.{IsWhole}
use Rattle.world_parts.specs.declared.held.Held.{Held}
use Rattle.world_parts.specs.declared.place.Place.{Place}
use Rattle.gph_world.proofs.AdvanceLemmas.{came, comes}
use Rattle.gph_world.proofs.GatherLemmas.{query_is}
use Rattle.world_parts.proofs.ListLemmas.{found_there}
use Rattle.world_parts.proofs.PinLemmas.{PinVec}
use Rattle.gph_world.proofs.HeldLemmas.{seen_there}
use Rattle.gph_world.proofs.PlaceLemmas.{place_there, same_state, stepped_keeps}
use Rattle.gph_world.proofs.RefusalLemmas.{cause_at, cause_if, is_shard, is_query, no_query, refusal_by}

-- ---- why it may be refused
module _ (z : Setting) (s : WorldState) (number shard : ℕ) where
  pub pin_no_shard : cause (nat_le z.shards shard) NoShard ≡ Some NoShard → refusal z s (Pin number shard) ≡ Some NoShard
  pin_no_shard none = refusal_by z s (Pin number shard) _ _ _ _ _ _ _ _ _ _ none refl refl refl refl refl refl refl refl refl

  module _ (low : shard < z.shards) where
    pub pin_no_query : slice_get s.queries number ≡ None → refusal z s (Pin number shard) ≡ Some NoQuery
    pin_no_query none = refusal_by z s (Pin number shard) _ _ _ _ _ _ _ _ _ _ (is_shard z.shards shard low)
        (no_query (slice_get s.queries number) none) refl refl refl refl refl refl refl refl

    pub pin_closed : (query : WorldQuery) → slice_get s.queries number ≡ Some query → query.cancelled ≡ true
        → refusal z s (Pin number shard) ≡ Some Closed
    pin_closed query there was = refusal_by z s (Pin number shard) _ _ _ _ _ _ _ _ _ _ (is_shard z.shards shard low)
        (is_query (slice_get s.queries number) query there)
        (cause_at (slice_get s.queries number) query _ there ∙ cause_if query.cancelled Closed was) refl refl refl refl refl refl refl

-- as many layouts are missing as versions
pub missing_seen : (pins : List (Option (Arc Tabled Global))) → length (filter is_none (map layout_pinned pins)) ≡ missing pins
missing_seen [] = refl
missing_seen (None ∷ pins) = ap suc (missing_seen pins)
missing_seen (Some version ∷ pins) = missing_seen pins

-- what is known of a query whose shard has come to its front, where a version of its position is
pub record HasCome {W : ℕ} (bits room : ℕ) (journal : JournalState) (places : List (Place W)) (queries : List (Held W)) (number shard : ℕ)
    (held : Held W) (new : Place W) (version : Arc Tabled Global) : Type 0 where
  pub low : shard < length places
  pub goes_on : held.cancelled ≡ false
  pub free : slice_get held.pinned.value.items shard ≡ Some None
  pub advances : Advances (state_seen bits journal places queries) number shard (place_seen new)
      (state_seen bits journal (slice_set places shard new) queries)
  pub one : IsOneOf new.shard held.position (contents_at version)
  pub each_pinned : (k : ℕ) (pin : Arc Tabled Global) → slice_get (pinned_with held.pinned.value.items shard version) k ≡ Some (Some pin)
      → contents_at pin ≡ pinned_version (setting_seen bits room journal places) (cut_history bits journal.history) (query_seen bits held) k
      (contents_at pin).layout
  pub each_laid : (k : ℕ) (pin : Arc Tabled Global) → slice_get (pinned_with held.pinned.value.items shard version) k ≡ Some (Some pin)
      → IsLayoutFor bits (contents_at pin).layout

module _ {W : ℕ} (bits room : ℕ) (journal : JournalState) (places : List (Place W)) (queries : List (Held W))
    (keeps : KeepsWorld bits room journal places queries) (number : ℕ) (held : Held W) (there : slice_get queries number ≡ Some held)
    (shard : ℕ) (low : shard < length places) (goes_on : held.cancelled ≡ false) where
  abbrev z : Setting
  z = setting_seen bits room journal places

  abbrev s : WorldState
  s = state_seen bits journal places queries

  abbrev query : WorldQuery
  query = query_seen bits held

  is_there : slice_get s.queries number ≡ Some query
  is_there = seen_there bits room journal places queries keeps number held there

  own : IsQuery z s.history query
  own = query_is bits room journal places queries keeps number held there

  pub may_pin : refusal z s (Pin number shard) ≡ None
  may_pin = pin_not_refused z s number shard query low is_there goes_on

  -- ---- as many pins as shards
  pub pins_are : length held.pinned.value.items ≡ length places
  pins_are = sym (length-map held.pinned.value.items layout_pinned) ∙ own.number

  -- those that it has are those that are known
  pub is_whole : IsWhole held
  is_whole = (keeps.held number held there).whole goes_on

  pub pins_there : held.pins.items ≡ held.pinned.value.items
  pins_there = ap (λ (pins : PinVec). pins.items) is_whole.pins

  pub own_are : length held.pins.items ≡ length places
  own_are = ap length pins_there ∙ pins_are

  pub pins_few : length held.pins.items ≤ SHARDS_MOST
  pins_few = omega (arith, own_are, keeps.few_shards)

  -- a pin that was looked at
  pub pin_found : (pin : Option (Arc Tabled Global)) → pin ≡ get_or held.pins.items shard pin → slice_get held.pinned.value.items shard ≡ Some pin
  pin_found pin at = found_there held.pinned.value.items shard pin (omega (arith, pins_are, low))
      (at ∙ ap (λ (pins : pinned.VersionPins). get_or pins shard pin) pins_there)

  pub pin_free : (pin : Option (Arc Tabled Global)) → pin ≡ get_or held.pins.items shard pin → is_some pin ≡ false
      → slice_get held.pinned.value.items shard ≡ Some None
  pin_free None at none = pin_found None at
  pin_free (Some version) at none = absurd (both_ways true none refl)

  -- ---- a shard that is pinned
  pub pinned_step : (pin : Option (Arc Tabled Global)) → slice_get held.pinned.value.items shard ≡ Some pin → is_some pin ≡ true
      → (left : ℕ) → left ≡ missing held.pins.items → WorldStep z s (Pin number shard) (Ok (told.Pinned left)) s
  pinned_step None at is left left_is = absurd (both_ways false refl is)
  pinned_step (Some version) at is left left_is = (
    may_pin,
    record {
      query = query;
      after = query;
      is_query = is_there;
      pins = inl (record {
        layout = (contents_at version).layout;
        is_pinned = slice_get-map layout_pinned held.pinned.value.items shard ∙ ap (option_map layout_pinned) at;
        after_is = refl;
        same = refl;
      });
      said_is = ap told.Pinned (left_is ∙ ap missing pins_there ∙ sym (missing_seen held.pinned.value.items));
    },
  )

  -- ---- a shard that isn't
  module _ (free : slice_get held.pinned.value.items shard ≡ Some None) where
    pub not_pinned : slice_get query.pinned shard ≡ Some None
    not_pinned = slice_get-map layout_pinned held.pinned.value.items shard ∙ ap (option_map layout_pinned) free

    pub some_left : 0 < unpinned query
    some_left = some_missing query.pinned shard not_pinned

    pub front_open : held.front ≡ None → ⊥
    front_open closed = (let all = own.fronted goes_on (ap (option_map (λ one. one.older)) closed) in omega (arith, all, some_left))

    module _ (front : FrontState) (is_open : held.front ≡ Some front) (place : Place W) (stands : slice_get places shard ≡ Some place) where
      position_is : position_of front ≡ held.position
      position_is = (keeps.held number held there).front front is_open

      came_here : Advances s number shard (place_seen (come_to front place))
          (state_seen bits journal (slice_set places shard (come_to front place)) queries)
      came_here = came bits room journal places queries keeps number held there front is_open shard place stands

      -- the version at the front will be there
      pub version_comes : HasVersion (advanced front place.shard) (position_of front)
      version_comes = subst (HasVersion (advanced front place.shard)) (sym position_is)
          (subst (λ shard_after. HasVersion shard_after held.position)
          (sym (comes bits room journal places queries keeps number held there front is_open shard place stands))
          (front_has_version z s number shard query front.older (place_seen place) keeps.sound
          (record { is_query = is_there; is_open = ap (option_map (λ one. one.older)) is_open })
          (place_there places shard place stands)))

      -- there was no memory for it
      pub bring_lacks : (new : Place W) → (new ≡ place) ⊎ (new ≡ come_to front place)
          → WorldStep z s (Pin number shard) (Err NoMemory) (state_seen bits journal (slice_set places shard new) queries)
      bring_lacks new left = inr (record {
        why_is = refl;
        takes = refl;
        not_refused = may_pin;
        leaves = elim left [
          | inl same ↦ inl (same_state bits journal places queries shard place new stands same)
          | inr moved ↦ inr (record {
            query = number;
            shard = shard;
            is_pin = refl;
            after = place_seen (come_to front place);
            advances = subst (λ (one : Place W). Advances s number shard (place_seen (come_to front place))
                (state_seen bits journal (slice_set places shard one) queries)) (sym moved) came_here;
          })
        ];
      })

      pub lacks_keeps : (new : Place W) → (new ≡ place) ⊎ (new ≡ come_to front place)
          → KeepsWorld bits room journal (slice_set places shard new) queries
      lacks_keeps new left = stepped_keeps bits room journal places queries shard new keeps (Pin number shard) (Err NoMemory) tt (bring_lacks new left)

      -- ---- the shard has come, and its version is there
      module _ (new : Place W) (moved : new ≡ come_to front place) (version : Arc Tabled Global)
          (one : IsOneOf new.shard (position_of front) (contents_at version)) where
        abbrev mid : WorldState
        mid = state_seen bits journal (slice_set places shard new) queries

        pub mid_sound : IsSound z mid
        mid_sound = step_sound z s keeps.sound (Pin number shard) (Err NoMemory) mid tt (bring_lacks new (inr moved))

        pub moved_here : Advances s number shard (place_seen new) mid
        moved_here = subst (λ (after : Place W). Advances s number shard (place_seen after)
            (state_seen bits journal (slice_set places shard after) queries)) (sym moved) came_here

        new_there : slice_get mid.places shard ≡ Some (place_seen new)
        new_there = place_there (slice_set places shard new) shard new (get_same places shard place new stands)

        pub one_there : IsOneOf new.shard held.position (contents_at version)
        one_there = subst (λ (n : ℕ). IsOneOf new.shard n (contents_at version)) position_is one

        abbrev layout : Laid
        layout = (contents_at version).layout

        abbrev pins : pinned.VersionPins
        pins = pinned_with held.pinned.value.items shard version

        own_rows : contents_at version ≡ pinned_version z s.history query shard layout
        own_rows = version_has_rows z mid number shard query (place_seen new) (contents_at version) mid_sound is_there new_there one_there

        own_laid : IsLayoutFor bits layout
        own_laid = (one_is_laid z mid.history mid.queries shard (place_seen new) (mid_sound.places shard (place_seen new) new_there) held.position
            (contents_at version) one_there).layout

        -- each version that is pinned is the shard's at the query's position
        pub each_pinned : (k : ℕ) (pin : Arc Tabled Global) → slice_get pins k ≡ Some (Some pin)
            → contents_at pin ≡ pinned_version z s.history query k (contents_at pin).layout
        each_pinned k pin at = elim (get_set held.pinned.value.items shard k (Some version) (Some pin) at) [
          | inr before ↦ (keeps.held number held there).pins k pin before
          | inl both ↦ subst (λ (n : ℕ). contents_at pin ≡ pinned_version z s.history query n (contents_at pin).layout) (sym both.0)
              (subst (λ (v : Arc Tabled Global). contents_at v ≡ pinned_version z s.history query shard (contents_at v).layout)
              (sym (same_Some pin version both.1)) own_rows)
        ]

        pub each_laid : (k : ℕ) (pin : Arc Tabled Global) → slice_get pins k ≡ Some (Some pin) → IsLayoutFor bits (contents_at pin).layout
        each_laid k pin at = elim (get_set held.pinned.value.items shard k (Some version) (Some pin) at) [
          | inr before ↦ own.layouts k (contents_at pin).layout
              (slice_get-map layout_pinned held.pinned.value.items k ∙ ap (option_map layout_pinned) before)
          | inl both ↦ subst (λ (v : Arc Tabled Global). IsLayoutFor bits (contents_at v).layout) (sym (same_Some pin version both.1)) own_laid
        ]

        -- so each may be asked
        pub may_open : missing pins ≡ 0 → MayOpenEach held.ask pins
        may_open all = record {
          bits = bits;
          all = all;
          bits_are = λ k pin at. (each_laid k pin at).bits_are;
          each = λ k pin at. (let same = sym ((each_laid k pin at).bits_are) in record {
            stored = subst (λ (n : ℕ). IsStoredAsk n held.ask) same (keeps.held number held there).stored;
            question = subst (λ (n : ℕ). IsQuestion n (ask_seen n held.ask)) same own.question;
          });
        }

        pub has_come : HasCome bits room journal places queries number shard held new version
        has_come = record {
          low = low;
          goes_on = goes_on;
          free = free;
          advances = moved_here;
          one = one_there;
          each_pinned = each_pinned;
          each_laid = each_laid;
        }
