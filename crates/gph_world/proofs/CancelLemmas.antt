-- A query is cancelled, and its front closed.
use Rattle.std.proofs.Common.{◌≡◌, inl, inr, ℕ, true, false, List, length, map, Option, Some, None, refl, sym, ap, subst, ◌∙◌}
use Rattle.std.specs.Prelude.{Ok, slice_get, slice_set}
use Rattle.std.proofs.lemmas.Bool.{both_ways}
use Rattle.std.proofs.lemmas.List.{map-set}
use Rattle.std.proofs.lemmas.Option.{none-some}
use Rattle.hamming_model.specs.History.{JournalEntry}
use Rattle.hamming_model.specs.Recoded.{AreStoredEntries, cut_history}
use Rattle.commit_journal.specs.Fronts.{FrontState}
use Rattle.commit_journal.specs.Journals.{JournalState, KeepsFronts}
use Rattle.world_model.specs.declared.refused.Refused.TheVariants.{Closed, NoQuery}
use Rattle.world_model.specs.declared.told.Told.TheVariants as told
use Rattle.world_model.specs.Events.{Cancel, Setting}
use Rattle.world_model.specs.Refusals.{refusal}
use Rattle.world_model.specs.Sound.{IsSound}
use Rattle.world_model.specs.WorldState.{WorldQuery, WorldState}
use Rattle.world_model.specs.WorldStep.{WorldStep}
use Rattle.world_model.proofs.Lookups.{get_set}
use Rattle.world_model.proofs.StepLemmas.{step_sound}
use Rattle.world_bridge.specs.Held.{HoldsLive}
use Rattle.world_bridge.proofs.HeldLemmas.{held_closed, held_same}
use Rattle.world_parts.specs.Cancels.{IsCancelled, without_held}
use Rattle.gph_world.specs.Kept.{IsQueryHeld, KeepsWorld, front_at}
use Rattle.world_parts.specs.Seen.{given_by, query_seen}
use Rattle.gph_world.specs.Seen.{setting_seen, state_seen}
use Rattle.gph_world.specs.Worlds.{setting_of}
use Rattle.world_parts.specs.declared.held.Held.{Held}
use Rattle.world_parts.specs.declared.place.Place.{Place}
use Rattle.gph_world.proofs.HeldLemmas.{front_other, front_set, front_there, seen_there}
use Rattle.gph_world.proofs.RefusalLemmas.{cause_at, cause_if, cause_not, is_query, no_query, refusal_by}

-- ---- why it may be refused
module _ (z : Setting) (s : WorldState) (number : ℕ) where
  pub no_query_there : slice_get s.queries number ≡ None → refusal z s (Cancel number) ≡ Some NoQuery
  no_query_there none = refusal_by z s (Cancel number) _ _ _ _ _ _ _ _ _ _ refl (no_query (slice_get s.queries number) none) refl refl refl refl refl
      refl refl refl

  module _ (query : WorldQuery) (there : slice_get s.queries number ≡ Some query) where
    pub was_closed : query.cancelled ≡ true → refusal z s (Cancel number) ≡ Some Closed
    was_closed yes_closed = refusal_by z s (Cancel number) _ _ _ _ _ _ _ _ _ _ refl (is_query (slice_get s.queries number) query there)
        (cause_at (slice_get s.queries number) query _ there ∙ cause_if query.cancelled Closed yes_closed) refl refl refl refl refl refl refl

    pub may_cancel : query.cancelled ≡ false → refusal z s (Cancel number) ≡ None
    may_cancel open_still = refusal_by z s (Cancel number) _ _ _ _ _ _ _ _ _ _ refl (is_query (slice_get s.queries number) query there)
        (cause_at (slice_get s.queries number) query _ there ∙ cause_not query.cancelled Closed open_still) refl refl refl refl refl refl refl

-- the history and the limit of a journal without a front
module _ (journal : JournalState) where
  pub same_history : (front : Option FrontState) → (without_held journal front).history ≡ journal.history
  same_history None = refl
  same_history (Some front) = refl

  pub same_limit : (front : Option FrontState) → (without_held journal front).limit ≡ journal.limit
  same_limit None = refl
  same_limit (Some front) = refl

module _ {W : ℕ} (bits room : ℕ) (old new : JournalState) (places : List (Place W)) (queries : List (Held W))
    (keeps : KeepsWorld bits room old places queries) (number : ℕ) (held : Held W) (there : slice_get queries number ≡ Some held)
    (journal_is : new ≡ without_held old held.front) (fronts : KeepsFronts old new) (gone : Held W) (is_gone : IsCancelled held gone) where
  abbrev z : Setting
  z = setting_seen bits room old places

  abbrev s : WorldState
  s = state_seen bits old places queries

  abbrev after : List (Held W)
  after = slice_set queries number gone

  history_same : new.history ≡ old.history
  history_same = ap (λ (journal : JournalState). journal.history) journal_is ∙ same_history old held.front

  limit_same : new.limit ≡ old.limit
  limit_same = ap (λ (journal : JournalState). journal.limit) journal_is ∙ same_limit old held.front

  pub cancel_step : held.cancelled ≡ false → (count : ℕ) → count ≡ given_by held.gather
      → WorldStep z s (Cancel number) (Ok (told.Cancelled count)) (state_seen bits new places after)
  cancel_step open_still count count_is = (
    may_cancel z s number (query_seen bits held) (seen_there bits room old places queries keeps number held there) open_still,
    record {
      query = query_seen bits held;
      is_query = seen_there bits room old places queries keeps number held there;
      after = ap (λ (history : List JournalEntry). let t : WorldState = record s {
        history = cut_history bits history;
        queries = map (query_seen bits) after;
      } in t) history_same
          ∙ ap (λ (all : List WorldQuery). let t : WorldState = record s { queries = all } in t)
          (map-set (query_seen bits) queries number gone
          ∙ ap (λ (one : Held W). slice_set s.queries number (query_seen bits one)) is_gone.rest);
      said_is = ap told.Cancelled (count_is ∙ ap given_by ((keeps.held number held there).whole open_still).gather);
    },
  )

  gone_front : front_at after number ≡ None
  gone_front = front_set queries number held gone there ∙ ap (λ (one : Held W). one.front) is_gone.rest

  live_now : HoldsLive new (front_at after)
  live_now = subst (λ (journal : JournalState). HoldsLive journal (front_at after)) (sym journal_is) (go held.front refl)
    where
      go : (front : Option FrontState) → held.front ≡ front → HoldsLive (without_held old front) (front_at after)
      go None e = held_same old (front_at queries) (front_at after) number keeps.live
          (gone_front ∙ sym e ∙ sym (front_there queries number held there))
          (λ other apart. front_other queries number other gone apart)
      go (Some front) e = held_closed old (front_at queries) (front_at after) number front keeps.live
          (front_there queries number held there ∙ e)
          (subst (KeepsFronts old) (journal_is ∙ ap (without_held old) e) fronts)
          gone_front
          (λ other apart. front_other queries number other gone apart)

  still_held : (other : Held W) → IsQueryHeld z s.history other → IsQueryHeld (setting_seen bits room new places) (cut_history bits new.history) other
  still_held other was =
      subst (λ (limit : ℕ). IsQueryHeld (setting_of bits (length places) room limit) (cut_history bits new.history) other) (sym limit_same)
      (subst (λ (history : List JournalEntry). IsQueryHeld z (cut_history bits history) other) (sym history_same) was)

  cancelled_is_held : IsQueryHeld z s.history gone
  cancelled_is_held = subst (IsQueryHeld z s.history) (sym is_gone.rest) (let was = keeps.held number held there in record {
    stored = was.stored;
    front = λ front is_open. absurd (none-some front is_open);
    pins = was.pins;
    gathered = λ g is. (let had = was.gathered g is in record {
      gathers = record {
        asked = λ shard source found. (let asks = had.gathers.asked shard source found in
            record { layout = asks.layout; is_pinned = asks.is_pinned; asks = asks.asks });
        standings = had.gathers.standings;
        limit = had.gathers.limit;
        given = had.gathers.given;
      };
      holds = had.holds;
      limit = had.limit;
    });
    whole = λ still. absurd (both_ways true still refl);
  })

  pub cancel_keeps : held.cancelled ≡ false → KeepsWorld bits room new places after
  cancel_keeps open_still = record {
    few_words = keeps.few_words;
    words = keeps.words;
    some_shards = keeps.some_shards;
    few_shards = keeps.few_shards;
    some_room = keeps.some_room;
    small_room = keeps.small_room;
    stored = subst (AreStoredEntries W bits) (sym history_same) keeps.stored;
    sound = subst (λ (limit : ℕ). IsSound (setting_of bits (length places) room limit) (state_seen bits new places after)) (sym limit_same)
        (step_sound z s keeps.sound (Cancel number) (Ok (told.Cancelled (given_by held.gather))) (state_seen bits new places after) tt
        (cancel_step open_still (given_by held.gather) refl));
    live = live_now;
    held = λ n other found. elim (get_set queries number n gone other found) [
      | inl both ↦ still_held other (subst (IsQueryHeld z s.history) (sym both.1) cancelled_is_held)
      | inr before ↦ still_held other (keeps.held n other before)
    ];
  }
