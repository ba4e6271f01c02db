-- The next hit of a query is given.
use Rattle.std.proofs.Common.{◌≡◌, ◌⊎◌, ℕ, ◌+◌, ◌<◌, ◌≤◌, true, false, List, length, Option, Some, None, refl, sym, ap, subst, ◌∙◌, arith, inl, inr}
use Rattle.std.specs.Prelude.{Ok, is_none, slice_get, slice_index_or, slice_set}
use Rattle.std.specs.List.{list_any}
use Rattle.std.proofs.lemmas.Option.{get_or_from_slice_get}
use Rattle.hamming_model.specs.declared.hit.Hit.{Hit}
use Rattle.hit_source.specs.Moves.{Pops}
use Rattle.hit_source.specs.Sources.{Asked, IsLawful}
use Rattle.commit_journal.specs.Journals.{IsJournal, JournalState}
use Rattle.scatter_gather.specs.Gathering.{Gathered, answer_of, gathered, source_of}
use Rattle.scatter_gather.specs.Kept.{IsGathering}
use Rattle.world_model.specs.declared.refused.Refused.TheVariants.{Closed, NoQuery, NotPinned}
use Rattle.world_model.specs.declared.told.Told.{Told}
use Rattle.world_model.specs.declared.told.Told.TheVariants as told
use Rattle.world_model.specs.Answering.{AwaitsPoll, EndsGiving, GivesHit, GivesNext, HaveNoFloor, with_source}
use Rattle.world_model.specs.Events.{Give, Setting}
use Rattle.world_model.specs.Refusals.{refusal}
use Rattle.world_model.specs.WorldState.{WorldQuery, WorldState, answer_on, unpinned, with_query}
use Rattle.world_model.specs.WorldStep.{WorldStep}
use Rattle.world_model.proofs.StepLemmas.{step_sound}
use Rattle.world_parts.specs.Gathers.{GivesReadyHit, GivesHeld, HaveNoFloors, HoldsBack, TellsEnd, TellsLater, with_gather}
use Rattle.gph_world.specs.Kept.{IsQueryHeld, KeepsWorld}
use Rattle.world_parts.specs.Seen.{query_seen, standings_held}
use Rattle.gph_world.specs.Seen.{setting_seen, state_seen}
use Rattle.world_parts.specs.Sources.{QuerySource, gathering_seen, question_asked, standing_told}
use Rattle.world_parts.specs.declared.held.Held.{Held}
use Rattle.world_parts.specs.declared.place.Place.{Place}
use Rattle.world_parts.proofs.ListLemmas.{at_within}
use Rattle.gph_world.proofs.GatherLemmas.{HaveFewRows, all_pinned, answered, any_missing, changed_is_held, first_dropped, given_is, has_gathering}
use Rattle.gph_world.proofs.GatherLemmas.{keeps_again, none_dropped, none_missing, query_is, query_keeps, seen_at, state_again, state_changed}
use Rattle.gph_world.proofs.HeldLemmas.{seen_there}
use Rattle.gph_world.proofs.RefusalLemmas.{cause_at, cause_if, cause_not, is_query, no_query, refusal_by}

-- ---- why it may be refused
module _ (z : Setting) (s : WorldState) (number : ℕ) where
  pub give_no_query : slice_get s.queries number ≡ None → refusal z s (Give number) ≡ Some NoQuery
  give_no_query none = refusal_by z s (Give number) _ _ _ _ _ _ _ _ _ _ refl (no_query (slice_get s.queries number) none) refl refl refl refl refl
      refl refl refl

  module _ (query : WorldQuery) (there : slice_get s.queries number ≡ Some query) where
    pub give_closed : query.cancelled ≡ true → refusal z s (Give number) ≡ Some Closed
    give_closed was = refusal_by z s (Give number) _ _ _ _ _ _ _ _ _ _ refl (is_query (slice_get s.queries number) query there)
        (cause_at (slice_get s.queries number) query _ there ∙ cause_if query.cancelled Closed was) refl refl refl refl refl refl refl

    pub give_not_pinned : query.cancelled ≡ false → 0 < unpinned query → refusal z s (Give number) ≡ Some NotPinned
    give_not_pinned goes_on some = refusal_by z s (Give number) _ _ _ _ _ _ _ _ _ _ refl (is_query (slice_get s.queries number) query there)
        (cause_at (slice_get s.queries number) query _ there ∙ cause_not query.cancelled Closed goes_on) refl refl
        (cause_at (slice_get s.queries number) query _ there ∙ cause_if (list_any is_none query.pinned) NotPinned (any_missing query.pinned some))
        refl refl refl refl

    pub may_give : query.cancelled ≡ false → unpinned query ≡ 0 → refusal z s (Give number) ≡ None
    may_give goes_on all = refusal_by z s (Give number) _ _ _ _ _ _ _ _ _ _ refl (is_query (slice_get s.queries number) query there)
        (cause_at (slice_get s.queries number) query _ there ∙ cause_not query.cancelled Closed goes_on) refl refl
        (cause_at (slice_get s.queries number) query _ there ∙ cause_not (list_any is_none query.pinned) NotPinned (none_missing query.pinned all))
        refl refl refl refl

-- ---- what it does
module _ {W : ℕ} (bits room : ℕ) (journal : JournalState) (places : List (Place W)) (queries : List (Held W))
    (keeps : KeepsWorld bits room journal places queries) (number : ℕ) (held : Held W) (there : slice_get queries number ≡ Some held)
    (whole : IsJournal journal) (few : HaveFewRows) (new : Held W) (said : Told) (gives : GivesHeld held new said)
    (goes_on : held.cancelled ≡ false) where
  abbrev z : Setting
  z = setting_seen bits room journal places

  abbrev s : WorldState
  s = state_seen bits journal places queries

  abbrev t : WorldState
  t = state_seen bits journal places (slice_set queries number new)

  abbrev query : WorldQuery
  query = query_seen bits held

  abbrev g : Gathered (QuerySource W)
  g = gives.before

  same_given : query.given ≡ g.given
  same_given = given_is bits room journal places queries keeps number held there g gives.was

  same_answer : answer_of (gathering_seen g) ≡ answer_on z s.history query
  same_answer = answered bits room journal places queries keeps number held there g gives.was whole few

  -- a hit was given
  module _ (first : GivesReadyHit question_asked standing_told g gives.after said) where
    found : (source : QuerySource W) × (slice_get g.sources first.shard ≡ Some source)
    found = at_within g.sources first.shard first.gives.within

    abbrev was : QuerySource W
    was = found.0

    abbrev popped : QuerySource W
    popped = slice_index_or gives.after.sources first.shard was

    read_was : slice_index_or g.sources first.shard was ≡ was
    read_was = get_or_from_slice_get g.sources first.shard was was found.1

    asked : question_asked popped ≡ question_asked was
    asked = first.gives.asked was ∙ ap question_asked read_was

    pops : Pops (standing_told was) (standing_told popped) (Some first.hit)
    pops = subst (λ (one : QuerySource W). Pops (standing_told one) (standing_told popped) (Some first.hit)) read_was (first.gives.pops was)

    abbrev after : Held W
    after = with_gather held (Some (gathered (slice_set g.sources first.shard popped) g.limit (g.given + 1) (Some first.hit.dist)))

    new_is : new ≡ after
    new_is = gives.now ∙ ap (λ (gather : Gathered (QuerySource W)). with_gather held (Some gather)) (first.gives.others was)

    state_is : t ≡ with_query s number (with_source query (query.given + 1) first.shard (standing_told popped))
    state_is = ap (λ (one : Held W). state_seen bits journal places (slice_set queries number one)) new_is
        ∙ state_changed bits room journal places queries keeps number held there g gives.was first.shard was popped found.1 asked
        (g.given + 1) (Some first.hit.dist)
        ∙ ap (λ (n : ℕ). with_query s number (with_source query (n + 1) first.shard (standing_told popped))) (sym same_given)

    gives_hit : GivesHit z s number query (gathering_seen g) said t
    gives_hit = record {
      hit = first.hit;
      may_go = first.may_go;
      next = ap (slice_get (answer_on z s.history query)) same_given
          ∙ ap (λ (hits : List Hit). slice_get hits g.given) (sym same_answer)
          ∙ sym (first_dropped g.given (answer_of (gathering_seen g))) ∙ first.next;
      shard = first.shard;
      source = source_of question_asked standing_told was;
      is_source = seen_at bits room journal places queries keeps number held there g gives.was first.shard was found.1;
      new = standing_told popped;
      pops = pops;
      lawful = subst (λ (a : Asked). IsLawful a (standing_told popped)) asked (gives.lawful popped);
      after = state_is;
      said_is = first.said_is;
    }

    held_hit : IsQueryHeld z s.history new
    held_hit = subst (IsQueryHeld z s.history) (sym new_is)
        (changed_is_held bits room journal places queries keeps number held there g gives.was first.shard was popped found.1 asked
        (g.given + 1) (Some first.hit.dist) goes_on
        (subst (λ (gather : Gathered (QuerySource W)). IsGathering (gathering_seen gather)) (first.gives.others was) first.holds))

  -- none was
  module _ (back : HoldsBack question_asked standing_told g gives.after) where
    new_same : new ≡ held
    new_same = gives.now ∙ ap (λ (gather : Gathered (QuerySource W)). with_gather held (Some gather)) back.same
        ∙ ap (with_gather held) (sym gives.was)
        ∙ ap (λ (gather : Option (Gathered (QuerySource W))). let one : Held W = record held { gather = gather } in one)
        (sym ((keeps.held number held there).whole goes_on).gather)

    same_state : t ≡ s
    same_state = state_again bits room journal places queries keeps number held there new new_same

  ended : (g.limit ≤ g.given) ⊎ HaveNoFloors standing_told g.sources → (g.limit ≤ query.given) ⊎ HaveNoFloor query.sources
  ended over = elim over [
    | inl reached ↦ inl (omega (arith, reached, same_given))
    | inr none ↦ inr (subst (λ gather. HaveNoFloor (standings_held gather)) (sym gives.was) none)
  ]

  gives_end : (end : TellsEnd question_asked standing_told g gives.after said) → EndsGiving z s query (gathering_seen g) said t
  gives_end end = record {
    none = end.holds_back.none;
    ended = ended end.over;
    whole = omega (
      arith,
      (query_is bits room journal places queries keeps number held there).given,
      same_given,
      none_dropped g.given (answer_of (gathering_seen g)) end.whole,
      ap length same_answer,
    );
    same = same_state end.holds_back;
    said_is = end.said_is ∙ ap told.Ended (sym same_given);
  }

  awaits : (later : TellsLater question_asked standing_told g gives.after said) → AwaitsPoll s query (gathering_seen g) said t
  awaits later = record {
    none = later.holds_back.none;
    goes_on = omega (arith, later.goes_on, same_given);
    floor_left = λ none. later.floor_left (subst (λ gather. HaveNoFloor (standings_held gather)) gives.was none);
    same = same_state later.holds_back;
    said_is = later.said_is;
  }

  gives_next : GivesNext z s number said t
  gives_next = record {
    query = query;
    g = gathering_seen g;
    has = has_gathering bits room journal places queries keeps number held there g gives.was;
    gives = elim gives.tells [
      | inl first ↦ inl (gives_hit first)
      | inr rest ↦ inr (elim rest [ inl end ↦ inl (gives_end end) | inr later ↦ inr (awaits later) ])
    ];
  }

  pub give_step : WorldStep z s (Give number) (Ok said) t
  give_step = (
    may_give z s number query (seen_there bits room journal places queries keeps number held there) goes_on
        (all_pinned bits room journal places queries keeps number held there g gives.was),
    gives_next,
  )

  pub give_keeps : KeepsWorld bits room journal places (slice_set queries number new)
  give_keeps = elim gives.tells [
    | inl first ↦ query_keeps bits room journal places queries keeps number held there new
        (ap (λ (one : Held W). one.front) (new_is first)) (held_hit first)
        (step_sound z s keeps.sound (Give number) (Ok said) t tt give_step)
    | inr rest ↦ elim rest [
      | inl end ↦ keeps_again bits room journal places queries keeps number held there new (new_same end.holds_back)
      | inr later ↦ keeps_again bits room journal places queries keeps number held there new (new_same later.holds_back)
    ]
  ]
