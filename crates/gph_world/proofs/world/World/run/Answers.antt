-- Each event is one more of the run.
use Rattle.std.proofs.Common.{◌≡◌, ◌∷◌, [], ◌++◌, List, length, sym, ap, subst, ◌∙◌, append_assoc, append-nil, arith}
use Rattle.std.specs.List.{AllByRecursion}
use Rattle.std.specs.Vec.Iter.{into_iter_items}
use Rattle.world_model.specs.Runs.{Answer}
use Rattle.gph_world.specs.Happenings.{IsEventFor, events_seen}
use Rattle.gph_world.specs.Upkeep.{RisesByEach}
use Rattle.gph_world.specs.declared.event.Event.{Event}
use Rattle.gph_world.proofs.RunLemmas.{HasTaken, all_formed, nothing_left, one_more, run_of}
use Rattle.gph_world.proofs.world.World.run.Goals as goal

pub loop-event-preserved : goal.loop-event-preserved
loop-event-preserved g c =
    let at = c.loop-event in
    let old = c.args.self.now in
    let event = c.in-Some.event in
    let steps : into_iter_items at.event-iterator ≡ event ∷ into_iter_items c.next.new.self = c.in-Some.ensures.steps.0 in
    let short = ap length steps in
    let fit : AllByRecursion (IsEventFor old.setting) (event ∷ into_iter_items c.next.new.self) =
    subst (λ (events : List (Event g.row.W)). AllByRecursion (IsEventFor old.setting) events) steps at.invariant.4 in (
      tt,
      tt,
      append_assoc at.yielded (event ∷ []) _ ∙ rw (← steps) at.invariant.2,
      let was = at.invariant.3 in let gone = c.in-Some.ensures.steps.1 in omega arith,
      fit.1,
      subst (λ (answers : List Answer). HasTaken old.setting old.state c.step-answer.new.self
          (events_seen old.setting.bits (at.yielded ++ event ∷ [])) answers c.args.upkeep.now c.step-answer.new.upkeep c.args.meters.now
          c.step-answer.new.meters)
          (sym c.in-Ok.ensures.items)
          (one_more old.setting old.state at.self c.step-answer.new.self at.yielded at.answers.items c.args.upkeep.now at.upkeep
          c.step-answer.new.upkeep c.args.meters.now at.meters c.step-answer.new.meters event c.step-answer.result at.invariant.5
          c.step-answer.ensures.setting c.step-answer.ensures.step c.step-answer.ensures.bound c.step-answer.ensures.sound
          c.step-answer.ensures.ledgers),
      let left = at.invariant.6 in let longer = c.in-Ok.ensures.len in let roomy = c.in-Ok.ensures.capacity in
          let pushed = ap length c.in-Ok.ensures.items in omega arith,
    )

module _ (g : _) (c : goal.After-drop-event-iterator g) where
  all : c.loop-event.yielded ≡ c.args.events.items
  all =
      let at = c.loop-event in
      let empty : into_iter_items at.event-iterator ≡ [] = nothing_left _ (sym at.invariant.3 ∙ c.in-None.ensures.steps.0) in
      sym (append-nil at.yielded) ∙ rw empty at at.invariant.2 ∙ c.into_iter-event-iterator.ensures.into_iter_gives.0

  rises : RisesByEach c.args.self.now.setting c.args.self.now.state (events_seen c.args.self.now.setting.bits c.args.events.items)
      c.loop-event.answers.items c.loop-event.self.state c.args.upkeep.now c.loop-event.upkeep
  rises =
      let at = c.loop-event in
      let old = c.args.self.now in
      subst (λ (events : List (Event g.row.W)). RisesByEach old.setting old.state (events_seen old.setting.bits events) at.answers.items at.self.state
      c.args.upkeep.now at.upkeep) all at.invariant.5.upkeep

pub returns-clause-answers : goal.returns-clause-answers
returns-clause-answers g c =
    let at = c.loop-event in
    let old = c.args.self.now in
    let events = events_seen old.setting.bits c.args.events.items in
    c.every_list_of_events_answers_the_scan.ensures.all old.setting old.state events at.answers.items at.self.state
    (all_formed old.setting c.args.events.items c.requires.events) c.is_sound.ensures
    (run_of old.setting old.state at.self.state events at.answers.items c.args.upkeep.now at.upkeep (rises g c))

pub returns-clause-bound : goal.returns-clause-bound
returns-clause-bound g c = rises g c
