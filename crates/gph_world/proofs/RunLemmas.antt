-- Runs that go on by one event more, and ledgers that rise step by step.
use Rattle.std.proofs.Common.{◌≡◌, ℕ, ◌+◌, ◌≤◌, ◌++◌, ◌∷◌, [], List, length, refl, sym, ap, subst, ◌∙◌, arith}
use Rattle.std.specs.Prelude.{slice_index}
use Rattle.std.proofs.lemmas.List.{map-append}
use Rattle.std.specs.List.{AllByRecursion}
use Rattle.world_model.specs.Events.{Event, Setting, IsFormed}
use Rattle.world_model.specs.Ledgers.{reads_on}
use Rattle.world_model.specs.Runs.{Answer, IsRun}
use Rattle.world_model.specs.WorldState.{WorldState}
use Rattle.world_model.specs.WorldStep.{WorldStep}
use Rattle.world_model.specs.Sound.{IsSound}
use Rattle.gph_world.specs.Happenings.{IsEventFor, event_seen, events_seen}
use Rattle.gph_world.specs.Rising.{RiseByReads}
use Rattle.gph_world.specs.Upkeep.{RisesByEach, upkeep_most}
use Rattle.gph_world.specs.Worlds.{WorldView}
use Rattle.gph_world.specs.declared.event.Event as program

-- events and their answers by which upkeep rises are a run
pub run_of : (z : Setting) (s t : WorldState) (events : List Event) (answers : List Answer) (from to : ℕ) → RisesByEach z s events answers t from to
    → IsRun z s events answers t
run_of z s t [] [] from to rises = rises.0
run_of z s t [] (answer ∷ answers) from to none = absurd none
run_of z s t (event ∷ events) [] from to none = absurd none
run_of z s t (event ∷ events) (answer ∷ answers) from to rises =
    (rises.0, rises.1, run_of z rises.0 t events answers (from + upkeep_most s event) to rises.2)

-- upkeep rises on by one event more
pub rise_with : (z : Setting) (s mid t : WorldState) (events : List Event) (answers : List Answer) (event : Event) (answer : Answer) (from via to : ℕ)
    → RisesByEach z s events answers mid from via → WorldStep z mid event answer t → to ≤ via + upkeep_most mid event
    → RisesByEach z s (events ++ event ∷ []) (answers ++ answer ∷ []) t from to
rise_with z s mid t [] [] event answer from via to first step few = (
  t,
  subst (λ (x : WorldState). WorldStep z x event answer t) first.0 step,
  (refl, subst (λ (x : WorldState). to ≤ from + upkeep_most x event) first.0 (omega (arith, first.1, few))),
)
rise_with z s mid t [] (told ∷ answers) event answer from via to none step few = absurd none
rise_with z s mid t (begun ∷ events) [] event answer from via to none step few = absurd none
rise_with z s mid t (begun ∷ events) (told ∷ answers) event answer from via to first step few =
    (first.0, first.1, rise_with z first.0 mid t events answers event answer (from + upkeep_most s begun) via to first.2 step few)

-- what no source read raises no ledger
pub rise_by_none : (s t : WorldState) (meters : List ℕ) → ((shard : ℕ) → reads_on shard t.queries ≡ reads_on shard s.queries)
    → RiseByReads s t meters meters
rise_by_none s t meters same = record { at = λ shard. ap (λ (n : ℕ). slice_index meters shard + n) (sym (same shard)) }

-- two rises, one after the other
pub rise_on : (s mid t : WorldState) (from via to : List ℕ) → RiseByReads s mid from via → RiseByReads mid t via to → RiseByReads s t from to
rise_on s mid t from via to first next = record { at = λ shard. omega (arith, first.at shard, next.at shard) }

-- events that fit a setting are formed for it
pub all_formed : {W : ℕ} (z : Setting) (events : List (program.Event W)) → AllByRecursion (IsEventFor z) events
    → AllByRecursion (IsFormed z) (events_seen z.bits events)
all_formed z [] all = tt
all_formed z (event ∷ events) all = (all.0.formed, all_formed z events all.1)

-- some events were taken, from one world to another, and upkeep and ledgers have risen
pub record HasTaken (z : Setting) (s : WorldState) (world : WorldView) (events : List Event) (answers : List Answer)
    (before after : ℕ) (from to : List ℕ) : Type 0 where
  pub setting : world.setting ≡ z
  pub upkeep : RisesByEach z s events answers world.state before after
  pub sound : IsSound z world.state
  pub rises : RiseByReads s world.state from to

-- and one more
pub one_more : {W : ℕ} (z : Setting) (s : WorldState) (mid new : WorldView) (events : List (program.Event W)) (answers : List Answer)
    (before between after : ℕ) (from via to : List ℕ) (event : program.Event W) (answer : Answer)
    → HasTaken z s mid (events_seen z.bits events) answers before between from via
    → new.setting ≡ mid.setting → WorldStep mid.setting mid.state (event_seen mid.setting.bits event) answer new.state
    → after ≤ between + upkeep_most mid.state (event_seen mid.setting.bits event)
    → IsSound new.setting new.state → RiseByReads mid.state new.state via to
    → HasTaken z s new (events_seen z.bits (events ++ event ∷ [])) (answers ++ answer ∷ []) before after from to
one_more z s mid new events answers before between after from via to event answer taken same step few sound rises = record {
  setting = same ∙ taken.setting;
  upkeep = subst (λ (each : List Event). RisesByEach z s each (answers ++ answer ∷ []) new.state before after)
      (sym (map-append (event_seen z.bits) events (event ∷ [])))
      (rise_with z s mid.state new.state (events_seen z.bits events) answers (event_seen z.bits event) answer before between after taken.upkeep
      (subst (λ (x : Setting). WorldStep x mid.state (event_seen x.bits event) answer new.state) taken.setting step)
      (subst (λ (x : Setting). after ≤ between + upkeep_most mid.state (event_seen x.bits event)) taken.setting few));
  sound = subst (λ (x : Setting). IsSound x new.state) (same ∙ taken.setting) sound;
  rises = rise_on s mid.state new.state from via to taken.rises rises;
}

-- a list of no length has nothing
pub nothing_left : {A : Type 0} (xs : List A) → length xs ≡ 0 → xs ≡ []
nothing_left [] e = refl
nothing_left (x ∷ xs) e = absurd (omega arith)
