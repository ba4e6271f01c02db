-- A state stays sound where one shard, one query or the history changes soundly.
use Rattle.std.proofs.Common.{◌≡◌, ℕ, ◌≤◌, List, [], ◌∷◌, ◌++◌, length, refl, sym, ap, ◌∙◌, subst, arith, true, false, Bool, cond, inl, inr}
use Rattle.std.specs.Prelude.{◌⊎◌, Some, slice_get, slice_set}
use Rattle.std.proofs.lemmas.List.{length-set, length-append}
use Rattle.std.proofs.lemmas.Option.{none-some}
use Rattle.hamming_model.specs.History.{JournalEntry, Operation, Decision, IsLegal, after_decision, decision_on, is_accepted}
use Rattle.hamming_model.specs.Stored.{AddsCode, AreCodes}
use Rattle.hamming_model.proofs.LegalLemmas.{accepted_fits, legal_decided}
use Rattle.commit_journal.specs.Fronts.{StandsAt}
use Rattle.versioned_shard.proofs.RuleLemmas.{rule_fronts}
use Rattle.world_model.specs.Events.{Setting}
use Rattle.world_model.specs.Sound.{KeepsShard, KeepsOlder, IsQuery, IsSound}
use Rattle.world_model.specs.WorldState.{WorldState, ShardWithBuild, WorldQuery, live_fronts, with_place, with_query}
use Rattle.world_model.proofs.Lookups.{get_set, get_snoc, all_joined}
use Rattle.world_model.proofs.GrowthLemmas.{older_grows, place_grows, query_grows}
use Rattle.world_model.proofs.LiveLemmas.{Keeps, live_before, live_or_new, older_moved, older_with_fewer}

-- a shard keeps its rule where each live front was live, or stands at the end of the history
place_with_fronts : (z : Setting) (history : List JournalEntry) (queries others : List WorldQuery) (shard : ℕ) (place : ShardWithBuild)
    → ((at : ℕ) → StandsAt (live_fronts others) at → StandsAt (live_fronts queries) at ⊎ (length history ≤ at))
    → KeepsShard z history queries shard place → KeepsShard z history others shard place
place_with_fronts z history queries others shard place came is = record {
  rule = rule_fronts (live_fronts queries) (live_fronts others) history place.shard came is.rule;
  of_shard = is.of_shard;
  build = is.build;
}

module _ (z : Setting) (s : WorldState) (is : IsSound z s) where
  -- one shard
  pub sound_with_place : (shard : ℕ) (new : ShardWithBuild) → KeepsShard z s.history s.queries shard new → IsSound z (with_place s shard new)
  sound_with_place shard new sound = record {
    legal = is.legal;
    few = is.few;
    codes = is.codes;
    number = length-set s.places shard new ∙ is.number;
    places = λ other place there. elim (get_set s.places shard other new place there) [
      | inr before ↦ is.places other place before
      | inl both ↦ subst (λ p. KeepsShard z s.history s.queries other p) (sym both.1)
          (subst (λ k. KeepsShard z s.history s.queries k new) (sym both.0) sound)
    ];
    fronts = is.fronts;
    queries = is.queries;
  }

  -- one query
  pub sound_with_query : (number : ℕ) (old new : WorldQuery) → slice_get s.queries number ≡ Some old → Keeps old new → IsQuery z s.history new
      → IsSound z (with_query s number new)
  sound_with_query number old new there keeps sound = record {
    legal = is.legal;
    few = is.few;
    codes = is.codes;
    number = is.number;
    places = λ shard place has. place_with_fronts z s.history s.queries after shard place (λ at live. inl (back at live)) (is.places shard place has);
    fronts = λ other query older has open_now. elim (get_set s.queries number other new query has) [
      | inr before ↦ older_with_fewer s.history s.queries after query older back (is.fronts other query older before open_now)
      | inl both ↦ subst (λ q. KeepsOlder s.history after q older) (sym both.1) (of_new older (sym (ap (λ q. q.front) both.1) ∙ open_now))
    ];
    queries = λ other query has. elim (get_set s.queries number other new query has) [
      | inr before ↦ is.queries other query before
      | inl both ↦ subst (IsQuery z s.history) (sym both.1) sound
    ];
  }
    where
      after : List WorldQuery
      after = slice_set s.queries number new

      back : (at : ℕ) → StandsAt (live_fronts (slice_set s.queries number new)) at → StandsAt (live_fronts s.queries) at
      back = live_before s.queries number old new there keeps

      of_new : (older : List ℕ) → new.front ≡ Some older → KeepsOlder s.history (slice_set s.queries number new) new older
      of_new older open_now = elim keeps.fronted [
        | inr gone ↦ absurd (none-some older (sym gone ∙ open_now))
        | inl same ↦ older_moved s.history (slice_set s.queries number new) old new older keeps.stands
            (older_with_fewer s.history s.queries (slice_set s.queries number new) old older back
            (is.fronts number old older there (sym same ∙ open_now)))
      ]

  -- a longer history
  pub sound_grows : (more : List JournalEntry) → IsLegal (s.history ++ more) → length (s.history ++ more) ≤ z.limit
      → AreCodes z.bits (s.history ++ more)
      → IsSound z (record s { history = s.history ++ more })
  sound_grows more legal few codes = record {
    legal = legal;
    few = few;
    codes = codes;
    number = is.number;
    places = λ shard place has. place_grows z s.history more s.queries shard place (is.places shard place has);
    fronts = λ number query older has open_now.
        older_grows z s.history more s.queries query older (is.queries number query has).within (is.fronts number query older has open_now);
    queries = λ number query has. query_grows z s.history more query (is.queries number query has);
  }

  -- one query more, at the end of the history
  pub sound_with_new : (new : WorldQuery) → new.position ≡ length s.history → IsQuery z s.history new
      → ((older : List ℕ) → new.front ≡ Some older → KeepsOlder s.history s.queries new older)
      → IsSound z (record s { queries = s.queries ++ new ∷ [] })
  sound_with_new new at_end sound lists = record {
    legal = is.legal;
    few = is.few;
    codes = is.codes;
    number = is.number;
    places = λ shard place has. place_with_fronts z s.history s.queries after shard place came (is.places shard place has);
    fronts = λ number query older has open_now. elim (get_snoc s.queries number new query has) [
      | inr before ↦ with_new query older (is.queries number query before).within (is.fronts number query older before open_now)
      | inl both ↦ with_new query older (omega (arith, ap (λ q. q.position) both.1, at_end))
          (subst (λ q. KeepsOlder s.history s.queries q older) (sym both.1) (lists older (sym (ap (λ q. q.front) both.1) ∙ open_now)))
    ];
    queries = λ number query has. elim (get_snoc s.queries number new query has) [
      | inr before ↦ is.queries number query before
      | inl both ↦ subst (IsQuery z s.history) (sym both.1) sound
    ];
  }
    where
      after : List WorldQuery
      after = s.queries ++ new ∷ []

      came : (at : ℕ) → StandsAt (live_fronts (s.queries ++ new ∷ [])) at → StandsAt (live_fronts s.queries) at ⊎ (length s.history ≤ at)
      came at live = elim (live_or_new s.queries new at live) [ inl before ↦ inl before | inr this ↦ inr (omega (arith, this, at_end)) ]

      with_new : (query : WorldQuery) (older : List ℕ) → query.position ≤ length s.history → KeepsOlder s.history s.queries query older
          → KeepsOlder s.history (s.queries ++ new ∷ []) query older
      with_new query older within was = record {
        front = was.front;
        known = record {
          begins = was.known.begins;
          within = was.known.within;
          older = λ at stands below. elim (came at stands) [
            | inl before ↦ was.known.older at before below
            | inr end ↦ absurd (omega (arith, end, below, was.known.within))
          ];
        };
      }

-- an operation that was decided
pub sound_committed : (z : Setting) (s : WorldState) → IsSound z s → (who : ℕ) (operation : Operation) (decision : Decision)
    → AddsCode z.bits operation
    → decision ≡ decision_on s.history z.limit operation
    → IsSound z (record s { history = after_decision s.history (record { who = who; operation = operation }) decision })
sound_committed z s is who operation decision adds decided = go (is_accepted decision) refl
  where
    entry : JournalEntry
    entry = record { who = who; operation = operation }

    legal : IsLegal (after_decision s.history entry decision)
    legal = subst (λ (d : Decision). IsLegal (after_decision s.history entry d)) (sym decided) (legal_decided s.history z.limit entry is.legal)

    go : (accepted : Bool) → is_accepted decision ≡ accepted
        → IsSound z (record s { history = cond accepted (s.history ++ record { who = who; operation = operation } ∷ []) s.history })
    go false e = is
    go true e =
        let fits = (accepted_fits s.history z.limit operation).0 (ap is_accepted (sym decided) ∙ e) in
        sound_grows z s is (record { who = who; operation = operation } ∷ [])
        (subst (λ (b : Bool). IsLegal (cond b (s.history ++ record { who = who; operation = operation } ∷ []) s.history)) e legal)
        (omega (arith, fits.1, length-append s.history (record { who = who; operation = operation } ∷ [])))
        (all_joined (λ each. AddsCode z.bits each.operation) s.history (record { who = who; operation = operation } ∷ []) is.codes (adds, tt))
