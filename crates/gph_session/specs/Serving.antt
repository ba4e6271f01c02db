-- A call that serves one session: how far it is, and how it ends.
-- No public clause cites this module.
use Rattle.std.specs.Prelude.{◌≡◌, ℕ, ◌≤◌, List, length, Option}
use Rattle.std.specs.Io.KnownBytes.{Appends, Consumes}
use Rattle.part_layout.specs.declared.config.Config.{Config}
use Rattle.session_desk.specs.Desks.{DeskState}
use Rattle.session_model.specs.Outside.{Call, Ends}
use Rattle.session_model.specs.Outcomes.{EndsWith, IsDone, IsReadFault, IsWriteFault, IsInputLimit}
use Rattle.gph_session.specs.declared.report.Status.{Status}
use Rattle.gph_session.specs.declared.report.Status.TheVariants.{Done, ReadFault, WriteFault}
use Rattle.gph_session.specs.declared.report.Status.TheVariants.{NoMemory, InputLimit}
use Rattle.gph_session.specs.Sessions.{IsServed, Told}
use Rattle.open_session.specs.Moments.{Moment}
use Rattle.gph_session.specs.Flow.{GoesOn, Start}

-- so many bytes were read and all whole lines of them answered, and no fault rose
pub record Serves {W : ℕ} (config : Config) (start : Start) (now : Moment W) (taken : ℕ)
    (source source' sink sink' : Ends) (begun : Option (List ℕ)) : Type 0 where
  pub bytes : List ℕ
  pub output : List ℕ
  pub read : Consumes source.bytes source'.bytes bytes
  pub wrote : Appends sink.bytes sink'.bytes output
  pub long : length bytes ≡ taken
  pub few : taken ≤ config.input
  pub no_read_failed : source'.faults ≡ source.faults
  pub no_write_failed : sink'.faults ≡ sink.faults
  pub goes : GoesOn config start now bytes output begun

-- what a session over a desk has read, written and counted, by its status
abbrev pub EndsAs : Status → Config → DeskState → DeskState → Told → Call → Type 0
EndsAs Done config desk desk' told =
    EndsWith (IsDone (IsServed desk desk' told) config)
EndsAs ReadFault config desk desk' told =
    EndsWith (IsReadFault (IsServed desk desk' told) config)
EndsAs WriteFault config desk desk' told =
    EndsWith (IsWriteFault (IsServed desk desk' told) config)
EndsAs InputLimit config desk desk' told =
    EndsWith (IsInputLimit (IsServed desk desk' told) config)
EndsAs NoMemory config desk desk' told = λ it. ⊥
