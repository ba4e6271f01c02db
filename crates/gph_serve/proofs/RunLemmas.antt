-- Lemmas on the top call: a session over a new desk is a first session.
use Rattle.std.proofs.Common.{◌≡◌, ℕ, zero, suc, true, None}
use Rattle.std.proofs.Common.{List, ◌∷◌, map, replicate}
use Rattle.std.proofs.Common.{refl, ap, ◌∙◌, subst}
use Rattle.part_layout.specs.declared.config.Config.{Config}
use Rattle.session_desk.specs.Desks.{DeskState, ShardPlace, new_desk, pin_position}
use Rattle.session_desk.specs.Desks.{seen_history, starting_layout}
use Rattle.session_model.specs.State.{new_session}
use Rattle.session_model.specs.Entries.{Exchange}
use Rattle.session_model.specs.Ledger.{Rise}
use Rattle.session_model.specs.Run.{IsRunAlone, IsServedAlone, first_session}
use Rattle.session_model.specs.Outside.{Call}
use Rattle.session_model.specs.Outcomes.{EndsWith, IsDone, IsReadFault, IsWriteFault, IsInputLimit}
use Rattle.gph_session.specs.declared.report.Report.{Report}
use Rattle.gph_session.proofs.EndingLemmas.{done_as, input_limit_as, read_fault_as, write_fault_as}
use Rattle.gph_session.specs.Sessions.{EndsBy, IsServed, state_of, told_by}
use Rattle.open_session.specs.KeptDesk.{pins_of}

map_replicate : {A B : Type 0} (f : A → B) (n : ℕ) (x : A) → map f (replicate n x) ≡ replicate n (f x)
map_replicate f zero x = refl
map_replicate f (suc n) x = ap (λ l. f x ∷ l) (map_replicate f n x)

module _ (config : Config) (desk desk' : DeskState) (report : Report) (new : desk ≡ new_desk config) where
  -- a session over the desk
  abbrev Served : Config → List Exchange → Rise → Type 0
  Served = IsServed desk desk' (told_by report)

  state_is : state_of desk ≡ first_session config
  state_is = ap state_of new
      ∙ ap (new_session 0 0) (map_replicate (λ (place : ShardPlace). place.1.parts) config.shards (0, starting_layout config))

  pins_are : pins_of desk ≡ replicate config.shards 0
  pins_are = ap pins_of new ∙ map_replicate pin_position config.shards None

  is_alone : desk.alone ≡ true
  is_alone = ap (λ (d : DeskState). d.alone) new

  run_of : (exchanges : List Exchange) (rise : Rise) → Served config exchanges rise → IsRunAlone config exchanges rise
  run_of exchanges rise served =
      subst (λ h. IsServedAlone config h (first_session config) (replicate config.shards 0) exchanges rise)
      (ap seen_history new)
      (subst (λ s. IsServedAlone config (seen_history desk) s (replicate config.shards 0) exchanges rise) state_is
      (subst (λ l. IsServedAlone config (seen_history desk) (state_of desk) l exchanges rise) pins_are
      (served.alone is_alone).served))

  pub done_run : (it : Call) → EndsBy IsDone config report desk desk' it → EndsWith (IsDone IsRunAlone config) it
  done_run = done_as Served IsRunAlone config run_of

  pub read_fault_run : (it : Call) → EndsBy IsReadFault config report desk desk' it
      → EndsWith (IsReadFault IsRunAlone config) it
  read_fault_run = read_fault_as Served IsRunAlone config run_of

  pub write_fault_run : (it : Call) → EndsBy IsWriteFault config report desk desk' it
      → EndsWith (IsWriteFault IsRunAlone config) it
  write_fault_run = write_fault_as Served IsRunAlone config run_of

  pub input_limit_run : (it : Call) → EndsBy IsInputLimit config report desk desk' it
      → EndsWith (IsInputLimit IsRunAlone config) it
  input_limit_run = input_limit_as Served IsRunAlone config run_of
