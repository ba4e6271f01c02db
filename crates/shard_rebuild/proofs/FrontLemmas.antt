-- A desk that opened a front, pinned one shard at it, and closed it.
use Rattle.std.proofs.Common.{◌≡◌, ◌≢◌, ◌⊎◌, inl, inr, ℕ, ◌+◌, ◌-◌, ◌<◌, ◌≤◌, true, List, length, get_or, set, Option, Some, None, sym, ap, subst, ◌∙◌, arith}
use Rattle.std.specs.Prelude.{IfOk}
use Rattle.std.specs.declared.result.Result.{Result}
use Rattle.std.specs.declared.result.Result.TheVariants.{Ok, Err}
use Rattle.std.proofs.lemmas.Bool.{cases_eq}
use Rattle.std.proofs.lemmas.List.{get_or-set_other, get_or-set_same, length-set}
use Rattle.part_layout.specs.Laid.{Laid}
use Rattle.part_layout.specs.Text.{layout_text}
use Rattle.shard_version.specs.Contents.{Contents}
use Rattle.version_draft.specs.Unfinished.{Unfinished}
use Rattle.commit_journal.specs.Fronts.{FrontState, position_of}
use Rattle.session_desk.specs.Calls.{ClosesFront, Comes, OpensFront, PinsVersion}
use Rattle.session_desk.specs.Desks.{DeskState, IsDesk, Pin, ShardPlace, left_at, no_place, pin_position, pinned_at, place_at}
use Rattle.query_opening.specs.Pinning.{ComesOn, IsPinnedShard}
use Rattle.query_opening.proofs.CloseLemmas.{opened_closed}
use Rattle.query_opening.proofs.PinLemmas.{failed_came, learns_length, none_came}
use Rattle.shard_rebuild.specs.Fronting.{BeginsAt, MeetsAt}
use Rattle.layout_search.specs.declared.found.Found.{Found}
use Rattle.layout_search.specs.declared.sample.Sample.{Sample}
use Rattle.shard_rebuild.specs.Searching.{FindsFrom, FindsLayout}
use Rattle.shard_rebuild.specs.ShardBuilds.{BeginsBuild, IsBuildOf, KeepsOtherPins, SeesMore}
use Rattle.shard_rebuild.specs.Swapping.{BuildGoesOn, ComesByFront}
use Rattle.shard_rebuild.proofs.BuildLemmas.{build_begun, goes_on_more, learns_more, rows_up_to, version_lasts}

-- what an answer without an error has, where it has something else
pub on_ok : {A B : Type 0} {P Q : A → Type 0} (result : Result A B) → ((x : A) → P x → Q x) → IfOk result P → IfOk result Q
on_ok (Ok x) further p = further x p
on_ok (Err e) further p = tt

pub on_both : {A B : Type 0} {P Q R : A → Type 0} (result : Result A B) → ((x : A) → P x → Q x → R x) → IfOk result P → IfOk result Q → IfOk result R
on_both (Ok x) further p q = further x p q
on_both (Err e) further p q = tt

-- ---- a shard is pinned, or isn't

-- one shard came nearer, and its pin stayed
pub came_nearer : (old new : DeskState) (shard : ℕ) → Comes old new shard old.pins → ComesOn old new
came_nearer old new shard comes = failed_came old old new shard (none_came old) comes

pub nearer_others : (old new : DeskState) (shard : ℕ) → Comes old new shard old.pins → KeepsOtherPins old new shard
nearer_others old new shard comes = λ other apart. ap (λ (d : DeskState). get_or d.pins other None) comes.after

pub nearer_goes_on : (old new : DeskState) (shard : ℕ) (before build : Unfinished) → Comes old new shard old.pins → BuildGoesOn old shard before build
    → BuildGoesOn new shard before build
nearer_goes_on old new shard before build comes is =
    goes_on_more old new shard before build (learns_more old new comes.learns (ap (λ (d : DeskState). d.config) comes.after)) is

module _ (old new : DeskState) (front : FrontState) (shard : ℕ) (version : Contents) (pins : PinsVersion old new front shard version)
    (whole : position_of front ≡ length old.seen) (low : shard < length old.pins) where
  abbrev pin : Pin
  pin = (position_of front, layout_text version.layout.parts)

  pins_are : new.pins ≡ set old.pins shard (Some pin)
  pins_are = ap (λ (d : DeskState). d.pins) pins.comes.after

  pub pinned_others : KeepsOtherPins old new shard
  pinned_others = λ other apart.
      ap (λ (each : List (Option Pin)). get_or each other None) pins_are ∙ get_or-set_other old.pins shard other (Some pin) None apart

  pin_here : get_or new.pins shard None ≡ Some pin
  pin_here = ap (λ (each : List (Option Pin)). get_or each shard None) pins_are ∙ get_or-set_same old.pins shard (Some pin) None low

  pub pinned_here : pinned_at new shard ≡ position_of front
  pinned_here = ap pin_position pin_here

  -- the desk with the pins that it had
  abbrev unpinned : DeskState
  unpinned = record new { pins = old.pins }

  unpinned_comes : Comes old unpinned shard old.pins
  unpinned_comes = record {
    learns = pins.comes.learns;
    after = ap (λ (d : DeskState). (record d { pins = old.pins })) pins.comes.after;
    places = pins.comes.places;
    never_back = pins.comes.never_back;
  }

  nearer : ComesOn old unpinned
  nearer = came_nearer old unpinned shard unpinned_comes

  -- the shard came on, with its pin
  pub came_pinned : ComesOn old new
  came_pinned = record {
    learns = nearer.learns;
    board = nearer.board;
    who = nearer.who;
    config = nearer.config;
    fronts = nearer.fronts;
    done = nearer.done;
    late = nearer.late;
    alone = nearer.alone;
    number = ap length pins_are ∙ length-set old.pins shard (Some pin);
    rises = λ other within. further other within (cases_eq other shard);
    layouts = nearer.layouts;
  }
    where
      further : (other : ℕ) → pinned_at old other ≤ length old.seen → (other ≡ shard) ⊎ (other ≢ shard) → pinned_at old other ≤ pinned_at new other
      further other within (inl here) = omega (arith, within, ap (pinned_at new) here, pinned_here, whole)
      further other within (inr apart) = omega (arith, ap pin_position (pinned_others other apart))

  pub pinned_shard : IsPinnedShard old new (position_of front) shard version
  pinned_shard = record {
    version_is = pins.version_is;
    pin = pin_here;
    layout = λ alone. pins.layout alone whole;
  }

  -- where the desk is alone, the shard stands at the front
  pub stands_there : (words : ℕ) → IsDesk words old → shard < old.config.shards → old.alone ≡ true → (place_at new shard).0 ≡ position_of front
  stands_there words desk below alone =
      let place = desk.each alone shard below in
      let there : (place_at new shard).0 ≡ left_at new shard =
      ap (λ (places : List ShardPlace). (get_or places shard no_place).0) (pins.comes.places alone)
      ∙ ap (λ (each : ShardPlace). each.0)
      (get_or-set_same old.places shard (left_at new shard, (place_at old shard).1) no_place (omega (arith, desk.places alone, below))) in
      omega (arith, there, pins.alone alone, place.within, whole)

  -- a build that stood there goes on
  pub pinned_goes_on : (before build : Unfinished) → BuildGoesOn old shard before build → BuildGoesOn new shard before build
  pinned_goes_on before build is = goes_on_more old new shard before build (learns_more old new pins.comes.learns came_pinned.config) is

  pub meets_there : (words : ℕ) (build : Unfinished) → IsDesk words old → shard < old.config.shards → build.contents.at ≡ position_of front
      → MeetsAt new (position_of front) shard build
  meets_there words build desk below at = record {
    pinned = pinned_here;
    at = at;
    alone = λ alone. stands_there words desk below (sym came_pinned.alone ∙ alone);
  }

-- ---- the front is closed

module _ (old start mid new : DeskState) (front : FrontState) (opens : OpensFront old start front) (comes : ComesOn start mid)
    (closes : ClosesFront mid new front) where
  pub closed : ComesOn old new
  closed = opened_closed old start mid new front opens comes closes

  pub whole_front : position_of front ≡ length start.seen
  whole_front = ap length opens.entries

  pub front_within : position_of front ≤ length mid.seen
  front_within = omega (arith, whole_front, learns_length start mid.seen comes.learns)

  pub front_after : length old.seen ≤ position_of front
  front_after = omega (arith, whole_front, learns_length old start.seen opens.learns)

  pub closed_more : SeesMore mid new
  closed_more = learns_more mid new closes.learns (ap (λ (d : DeskState). d.config) closes.after)

  pub front_seen : position_of front ≤ length new.seen
  front_seen = omega (arith, front_within, learns_length mid new.seen closes.learns)

  pub closed_last : mid.last ≡ start.last → new.last ≡ position_of front
  closed_last same = ap (λ (d : DeskState). d.last) closes.after ∙ same ∙ ap (λ (d : DeskState). d.last) opens.after ∙ sym whole_front

  pub closed_others : (shard : ℕ) → KeepsOtherPins start mid shard → KeepsOtherPins old new shard
  closed_others shard others = λ other apart.
      ap (λ (d : DeskState). get_or d.pins other None) closes.after ∙ others other apart ∙ ap (λ (d : DeskState). get_or d.pins other None) opens.after

  pub start_pinned : (shard : ℕ) → pinned_at start shard ≡ pinned_at old shard
  start_pinned shard = ap (λ (d : DeskState). pinned_at d shard) opens.after

  pub closed_pinned : (shard : ℕ) → pinned_at new shard ≡ pinned_at mid shard
  closed_pinned shard = ap (λ (d : DeskState). pinned_at d shard) closes.after

  closed_shard : (shard : ℕ) (version : Contents) → IsPinnedShard start mid (position_of front) shard version
      → IsPinnedShard old new (position_of front) shard version
  closed_shard shard version is = record {
    version_is = version_lasts mid new closed_more shard (position_of front) version front_within is.version_is;
    pin = ap (λ (d : DeskState). get_or d.pins shard None) closes.after ∙ is.pin;
    layout = λ alone.
        is.layout (ap (λ (d : DeskState). d.alone) opens.after ∙ alone) ∙ ap (λ (d : DeskState). (place_at d shard).1) opens.after;
  }

  -- a build was begun at it
  module _ (shard : ℕ) (layout : Laid) (build : Unfinished) (begins : BeginsAt start mid (position_of front) shard layout build)
      (bits : layout.bits ≡ old.config.bits) where
    build_at : build.contents.at ≡ position_of front
    build_at = ap (λ (each : Unfinished). each.contents.at) begins.begins ∙ begins.pinned.version_is.at

    version_new : IsPinnedShard old new (position_of front) shard begins.version
    version_new = closed_shard shard begins.version begins.pinned

    pub closed_build : IsBuildOf new shard build
    closed_build = build_begun new shard (position_of front) begins.version layout build version_new.version_is front_seen begins.begins
        (bits ∙ sym (ap (λ config. config.bits) closed.config)) begins.sound

    pub closed_begins : mid.last ≡ start.last → BeginsBuild old new shard layout build
    closed_begins same = record {
      version = begins.version;
      pinned = subst (λ (n : ℕ). IsPinnedShard old new n shard begins.version) (sym build_at) version_new;
      begins = begins.begins;
      last = closed_last same ∙ sym build_at;
      after = omega (arith, build_at, front_after);
      left = ap (λ (each : Unfinished). each.left) begins.begins
          ∙ ap length (version_new.version_is.rows
          ∙ ap (λ (n : ℕ). rows_up_to new.seen shard n new.config.bits (position_of front)) (ap (λ config. config.shards) closed.config)
          ∙ ap (rows_up_to new.seen shard old.config.shards new.config.bits) (sym build_at));
    }

    pub begun_steps : (from to : ℕ) → to ≤ from + (position_of front - pinned_at start shard) + build.left
        → to ≤ from + (build.contents.at - pinned_at old shard) + build.left
    begun_steps from to bound = omega (arith, bound, build_at, start_pinned shard)

  pub within_steps : (shard from to : ℕ) → to ≤ from + (position_of front - pinned_at start shard) + position_of front
      → to ≤ from + (length new.seen - pinned_at old shard) + length new.seen
  within_steps shard from to bound = omega (arith, bound, start_pinned shard, front_seen)

  -- a layout was found at it
  module _ {W : ℕ} (shard rounds at : ℕ) (samples : List (Sample W)) (found : Found) (here : at ≡ position_of front) where
    pub closed_finds : FindsFrom start mid shard samples rounds found (position_of front) → mid.last ≡ start.last
        → FindsLayout old new shard samples rounds found at
    closed_finds finds same = subst (FindsLayout old new shard samples rounds found) (sym here) (record {
      finds = record {
        version = finds.version;
        pinned = closed_shard shard finds.version finds.pinned;
        ends = finds.ends;
        laid = finds.laid;
      };
      last = closed_last same;
      after = front_after;
      within = front_seen;
    })

  -- a build came to it, or goes on without
  pub closed_goes_on : (shard : ℕ) (before build : Unfinished) → BuildGoesOn mid shard before build → BuildGoesOn new shard before build
  closed_goes_on shard before build is = goes_on_more mid new shard before build closed_more is

  module _ (shard position : ℕ) (build : Unfinished) (here : position ≡ position_of front) (meets : MeetsAt mid (position_of front) shard build) where
    pub closed_comes : mid.last ≡ start.last → ComesByFront old new shard position
    closed_comes same = record {
      comes = closed;
      last = closed_last same ∙ sym here;
      after = omega (arith, here, front_after);
      within = omega (arith, here, front_seen);
      pinned = closed_pinned shard ∙ meets.pinned ∙ sym here;
    }

    pub closed_at : build.contents.at ≡ position
    closed_at = meets.at ∙ sym here

    pub closed_place : old.alone ≡ true → (place_at new shard).0 ≡ position
    closed_place alone = ap (λ (d : DeskState). (place_at d shard).0) closes.after
        ∙ meets.alone (comes.alone ∙ ap (λ (d : DeskState). d.alone) opens.after ∙ alone) ∙ sym here
