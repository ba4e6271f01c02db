-- A world begins.
use Rattle.std.proofs.Common.{◌≡◌, ℕ, zero, suc, ◌+◌, ◌*◌, ◌≤◌, List, [], length, refl, sym, ap, subst, ◌∙◌, arith}
use Rattle.std.specs.FinMap.{get-empty}
use Rattle.std.specs.Ordering.{nat_cmp}
use Rattle.std.proofs.lemmas.List.{length-map}
use Rattle.std.proofs.lemmas.Option.{none-some}
use Rattle.hamming_model.specs.declared.limits.TheConstants.{ROOM_MOST, SHARDS_MOST, WORDS_MOST}
use Rattle.part_layout.specs.Laid.{Laid}
use Rattle.commit_journal.specs.Journals.{empty_journal}
use Rattle.world_model.specs.Events.{IsLayoutFor, Setting}
use Rattle.world_model.specs.Sound.{IsSound}
use Rattle.world_model.specs.WorldState.{ShardWithBuild, WorldState, empty_places, new_world}
use Rattle.world_model.proofs.PinLemmas.{new_sound}
use Rattle.world_parts.specs.Starts.{ArePlacesBegun}
use Rattle.gph_world.specs.Kept.{KeepsWorld}
use Rattle.world_parts.specs.Seen.{place_seen}
use Rattle.gph_world.specs.Seen.{state_seen, world_seen}
use Rattle.gph_world.specs.Worlds.{WorldView, setting_of, start_of}
use Rattle.world_parts.specs.declared.place.Place.{Place}

-- there are as many shards as were begun
empty_long : (z : Setting) (layout : Laid) (first n : ℕ) → length (empty_places z layout first n) ≡ n
empty_long z layout first zero = refl
empty_long z layout first (suc n) = omega (arith, empty_long z layout (first + 1) n)

module _ {W : ℕ} (bits shards room limit : ℕ) (layout : Laid) (places : List (Place W)) (begun : ArePlacesBegun shards layout places shards) where
  pub as_many : length places ≡ shards
  as_many = sym (length-map places place_seen) ∙ ap length (begun.are (setting_of bits shards room limit) refl)
      ∙ empty_long (setting_of bits shards room limit) layout 0 shards

  state_is : state_seen bits (empty_journal limit) places [] ≡ new_world (setting_of bits shards room limit) layout
  state_is = ap (λ (all : List ShardWithBuild). let t : WorldState = record { history = []; places = all; queries = [] } in t)
      (begun.are (setting_of bits shards room limit) refl)

  pub starts : world_seen bits room (empty_journal limit) places [] ≡ start_of bits shards room limit layout
  starts =
      ap (λ (n : ℕ). let w : WorldView = record {
        setting = setting_of bits n room limit;
        state = state_seen bits (empty_journal limit) places [];
      } in w) as_many
      ∙ ap (λ (t : WorldState). let w : WorldView = record { setting = setting_of bits shards room limit; state = t } in w) state_is

  pub start_keeps : W ≤ WORDS_MOST → bits ≤ 64 * W → IsLayoutFor bits layout → 1 ≤ shards → shards ≤ SHARDS_MOST → 1 ≤ room → room ≤ ROOM_MOST
      → KeepsWorld bits room (empty_journal limit) places []
  start_keeps few_words words laid some_shards few_shards some_room small_room = record {
    few_words = few_words;
    words = words;
    some_shards = omega (arith, as_many, some_shards);
    few_shards = omega (arith, as_many, few_shards);
    some_room = some_room;
    small_room = small_room;
    stored = tt;
    sound = subst (λ (w : WorldView). IsSound w.setting w.state) (sym starts) (new_sound (setting_of bits shards room limit) layout laid);
    live = record {
      live = λ holder front holds. absurd (none-some front holds);
      known = λ holder front holds. absurd (none-some front holds);
      once = λ holder other front second holds too same. absurd (none-some front holds);
      all = λ id pair stands. absurd (none-some pair (sym (get-empty nat_cmp id) ∙ stands));
    };
    held = λ number held there. absurd (none-some held there);
  }
