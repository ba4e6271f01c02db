-- A commit of the journal is one of the world.
use Rattle.std.proofs.Common.{◌≡◌, ℕ, List, length, refl, sym, ap, subst, ◌∙◌}
use Rattle.std.specs.Prelude.{Ok, slice_get, Some}
use Rattle.std.proofs.lemmas.List.{length-map}
use Rattle.hamming_model.specs.History.{JournalEntry, Operation, after_decision, decision_on}
use Rattle.hamming_model.specs.Recoded.{AreStoredEntries, IsStoredOperation, cut_entry, cut_history, cut_operation}
use Rattle.hamming_model.proofs.RecodedLemmas.{decision_recoded, stored_decided}
use Rattle.entry_log.specs.Decisions.{decision_of}
use Rattle.commit_journal.specs.declared.decided.Decided.{Decided}
use Rattle.commit_journal.specs.Journals.{Commits, JournalState, KeepsFronts}
use Rattle.world_model.specs.declared.told.Told.TheVariants as told
use Rattle.world_model.specs.Events.{Commit, Setting}
use Rattle.world_model.specs.Sound.{IsSound}
use Rattle.world_model.specs.WorldState.{WorldState}
use Rattle.world_model.specs.WorldStep.{WorldStep}
use Rattle.world_model.proofs.StepLemmas.{step_sound}
use Rattle.world_bridge.proofs.CutLemmas.{cut_appended, stored_adds}
use Rattle.world_bridge.proofs.HeldLemmas.{held_grown}
use Rattle.gph_world.specs.Kept.{IsQueryHeld, KeepsWorld, front_at}
use Rattle.world_parts.specs.Seen.{query_seen}
use Rattle.gph_world.specs.Seen.{setting_seen, state_seen}
use Rattle.gph_world.specs.Worlds.{setting_of}
use Rattle.world_parts.specs.declared.held.Held.{Held}
use Rattle.world_parts.specs.declared.place.Place.{Place}
use Rattle.gph_world.proofs.GrownLemmas.{first_stay, held_same_prefix}
use Rattle.gph_world.proofs.HeldLemmas.{seen_there}

module _ {W : ℕ} (bits room : ℕ) (old new : JournalState) (places : List (Place W)) (queries : List (Held W))
    (keeps : KeepsWorld bits room old places queries) (who : ℕ) (operation : Operation) (decided : Decided)
    (commits : Commits old new (record { who = who; operation = operation }) decided) (fronts : KeepsFronts old new)
    (stored : IsStoredOperation W bits operation) where
  abbrev z : Setting
  z = setting_seen bits room old places

  abbrev s : WorldState
  s = state_seen bits old places queries

  abbrev entry : JournalEntry
  entry = record { who = who; operation = operation }

  decision_is : decision_of decided.decision ≡ decision_on s.history old.limit (cut_operation bits operation)
  decision_is = commits.decision ∙ sym (decision_recoded _ old.history old.limit operation)

  history_is : cut_history bits new.history ≡ after_decision s.history (cut_entry bits entry) (decision_of decided.decision)
  history_is = ap (λ (journal : JournalState). cut_history bits journal.history) commits.after
      ∙ cut_appended bits old.history entry (decision_of decided.decision)

  limit_same : new.limit ≡ old.limit
  limit_same = ap (λ (journal : JournalState). journal.limit) commits.after

  pub commit_step : WorldStep z s (Commit who (cut_operation bits operation)) (Ok (told.Decided decided)) (state_seen bits new places queries)
  commit_step = (
    refl,
    record {
      decided = decided;
      decision = decision_is;
      after = ap (λ (history : List JournalEntry). let t : WorldState = record s { history = history } in t) history_is;
      position = commits.position ∙ sym (length-map new.history (cut_entry bits));
      said_is = refl;
    },
  )

  held_now : (number : ℕ) (held : Held W) → slice_get queries number ≡ Some held
      → IsQueryHeld (setting_seen bits room new places) (cut_history bits new.history) held
  held_now number held there =
      subst (λ (limit : ℕ). IsQueryHeld (setting_of bits (length places) room limit) (cut_history bits new.history) held) (sym limit_same)
      (subst (λ (history : List JournalEntry). IsQueryHeld z history held) (sym history_is)
      (held_same_prefix z s.history _ held
      (first_stay s.history (cut_entry bits entry) (decision_of decided.decision) held.position
      (keeps.sound.queries number (query_seen bits held) (seen_there bits room old places queries keeps number held there)).within)
      (keeps.held number held there)))

  pub commit_keeps : KeepsWorld bits room new places queries
  commit_keeps = record {
    few_words = keeps.few_words;
    words = keeps.words;
    some_shards = keeps.some_shards;
    few_shards = keeps.few_shards;
    some_room = keeps.some_room;
    small_room = keeps.small_room;
    stored = subst (AreStoredEntries W bits) (sym (ap (λ (journal : JournalState). journal.history) commits.after))
        (stored_decided W bits old.history entry (decision_of decided.decision) keeps.stored stored);
    sound = subst (λ (limit : ℕ). IsSound (setting_of bits (length places) room limit) (state_seen bits new places queries)) (sym limit_same)
        (step_sound z s keeps.sound (Commit who (cut_operation bits operation)) (Ok (told.Decided decided)) (state_seen bits new places queries)
        (stored_adds W bits operation stored) commit_step);
    live = held_grown old new (front_at queries) keeps.live (ap (λ (journal : JournalState). journal.live) commits.after) fronts;
    held = held_now;
  }
