-- The journal's commit is the world's.
use Rattle.std.proofs.Common.{subst, sym}
use Rattle.std.specs.Prelude.{Ok}
use Rattle.hamming_model.specs.Recoded.{IsStoredOperation}
use Rattle.entry_log.specs.Entries.{kept_operation, operation_of}
use Rattle.world_model.specs.declared.told.Told.TheVariants as told
use Rattle.world_model.specs.Events.{Commit}
use Rattle.world_model.specs.WorldStep.{WorldStep}
use Rattle.gph_world.specs.Seen.{state_seen}
use Rattle.gph_world.specs.Worlds.{WorldView}
use Rattle.gph_world.proofs.CommitLemmas.{commit_keeps, commit_step}
use Rattle.gph_world.proofs.world.World.commit.Goals as goal

module _ (g : _) (c : goal.In-Ok g) where
  stored : IsStoredOperation g.row.W c.self.inside.bits (kept_operation c.args.op)
  stored = subst (λ (w : WorldView). IsStoredOperation g.row.W w.setting.bits (kept_operation c.args.op)) (sym c.self.view_is) c.requires.stored

pub invariant_of-self-2 : goal.invariant_of-self-2
invariant_of-self-2 g c =
    let i = c.self.inside in
    commit_keeps i.bits i.room i.journal c.commit.new.self i.places.items i.queries.items c.self.invariant c.args.who (kept_operation c.args.op)
    c.in-Ok.decided c.in-Ok.ensures.decided c.commit.ensures.fronts (stored g c)

pub returns-clause-step : goal.returns-clause-step
returns-clause-step g c =
    let i = c.self.inside in
    subst (λ (w : WorldView). WorldStep w.setting w.state (Commit c.args.who (operation_of w.setting.bits c.args.op)) (Ok (told.Decided c.in-Ok.decided))
    (state_seen i.bits c.commit.new.self i.places.items i.queries.items)) c.self.view_is
    (commit_step i.bits i.room i.journal c.commit.new.self i.places.items i.queries.items c.self.invariant c.args.who (kept_operation c.args.op)
    c.in-Ok.decided c.in-Ok.ensures.decided c.commit.ensures.fronts (stored g c))
