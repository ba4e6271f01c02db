-- Lemmas on a session at a desk of a board: what it leaves of the desk, however it ended, and that it comes to its end.
use Rattle.std.proofs.Common.{◌≡◌, ℕ, ◌⊎◌, Option, Some, None, List, [], ◌∷◌, ◌++◌, map}
use Rattle.std.proofs.Common.{refl, sym, ap, ◌∙◌, inl, inr}
use Rattle.std.proofs.lemmas.List.{map-append}
use Rattle.std.specs.FinMap.{get-empty}
use Rattle.std.specs.FinMap as fin
use Rattle.std.specs.Ordering.{nat_cmp}
use Rattle.commit_journal.specs.Fronts.{FrontState, Live, live_at, position_of}
use Rattle.hamming_model.specs.Recoded.{cut_entry}
use Rattle.line_io.specs.Faults.{Rose}
use Rattle.part_layout.specs.declared.config.Config.{Config}
use Rattle.session_desk.specs.Calls.{OnlyLearns}
use Rattle.session_desk.specs.Desks.{DeskState}
use Rattle.session_model.specs.Ledger.{Rise}
use Rattle.session_model.specs.Outcomes.{IsDone, IsInputLimit, IsReadFault, IsWithin, IsWriteFault}
use Rattle.session_model.specs.Outside.{Call}
use Rattle.open_session.specs.KeptDesk.{LeavesDesk}
use Rattle.gph_session.specs.declared.report.Report.{Report}
use Rattle.gph_session.specs.declared.report.Status.{Status}
use Rattle.gph_session.specs.declared.report.Status.TheVariants.{Done, InputLimit, NoMemory, ReadFault, WriteFault}
use Rattle.gph_session.specs.Sessions.{EndsBy, IsServed, Told, told_by}
use Rattle.session_model.specs.Entries.{Exchange}
use Rattle.shared_board.specs.Shared.{live_map}
use Rattle.shared_board.proofs.MapLemmas.{own_there}
use Rattle.gph_serve.specs.BoardSession.{IsCompleteSession, KeepsSeat}
use Rattle.gph_serve.proofs.CompleteLemmas.{not_within}

-- a fact of each status is a fact of any
by_status : (P : Type 0) (status : Status) → (status ≡ Done → P) → (status ≡ ReadFault → P) → (status ≡ WriteFault → P)
    → (status ≡ NoMemory → P) → (status ≡ InputLimit → P) → P
by_status P Done done read write memory limit = done refl
by_status P ReadFault done read write memory limit = read refl
by_status P WriteFault done read write memory limit = write refl
by_status P NoMemory done read write memory limit = memory refl
by_status P InputLimit done read write memory limit = limit refl

-- a desk that only learns is kept
learned : (old new : DeskState) → OnlyLearns old new → KeepsSeat old new
learned old new h = record {
  keeps = record {
    board = ap (λ (d : DeskState). d.board) h.after;
    who = ap (λ (d : DeskState). d.who) h.after;
    config = ap (λ (d : DeskState). d.config) h.after;
    fronts = ap (λ (d : DeskState). d.fronts) h.after;
    late = λ alone. ap (λ (d : DeskState). d.late) h.after;
    alone = ap (λ (d : DeskState). d.alone) h.after;
  };
  more = map (cut_entry old.config.bits) h.learns.more;
  longer = ap (λ (c : Config). map (cut_entry c.bits) new.seen) (ap (λ (d : DeskState). d.config) h.after)
      ∙ ap (map (cut_entry old.config.bits)) h.learns.longer
      ∙ map-append (cut_entry old.config.bits) old.seen h.learns.more;
}

-- so is one over which a session was served
served : (old new : DeskState) (told : Told) (config : Config) (exchanges : List Exchange) (rise : Rise)
    → IsServed old new told config exchanges rise → KeepsSeat old new
served old new told config exchanges rise h = record { keeps = h.keeps; more = h.more; longer = h.longer }

module _ (config : Config) (report : Report) (old new : DeskState) (it : Call)
    (done : report.status ≡ Done → EndsBy IsDone config report old new it)
    (read_fault : report.status ≡ ReadFault → EndsBy IsReadFault config report old new it)
    (write_fault : report.status ≡ WriteFault → EndsBy IsWriteFault config report old new it)
    (input_limit : report.status ≡ InputLimit → EndsBy IsInputLimit config report old new it) where
  pub keeps_seat : (report.status ≡ NoMemory → OnlyLearns old new) → KeepsSeat old new
  keeps_seat unread =
      let told = told_by report in
      by_status (KeepsSeat old new) report.status
      (λ is. served old new told config _ _ (done is).ended.answered.served)
      (λ is. served old new told config _ _ (read_fault is).ended.answered.served)
      (λ is. served old new told config _ _ (write_fault is).ended.refused.served)
      (λ is. learned old new (unread is))
      (λ is. served old new told config _ _ (input_limit is).ended.answered.served)

  pub completes : IsCompleteSession report.status config it
  completes = λ input told within read wrote.
      by_status ((report.status ≡ Done) ⊎ (report.status ≡ NoMemory)) report.status
      (λ is. inl is)
      (λ is. absurd (read (read_fault is).ended.rose))
      (λ is. absurd (wrote (write_fault is).ended.rose))
      (λ is. inr is)
      (λ is. absurd (not_within (IsServed old new (told_by report)) config input it _ told (input_limit is).ended within))

-- where no front is live there is none
no_front_in : (fronts : List FrontState) → live_map fronts ≡ fin.empty → fronts ≡ []
no_front_in [] none = refl
no_front_in (first ∷ fronts) none =
    let there = own_there fronts first in
    let gone : live_at (live_map (first ∷ fronts)) first.id ≡ None =
    ap (λ (live : Live). live_at live first.id) none ∙ get-empty nat_cmp first.id in
    let never : Some (first.who, position_of first) ≡ None = sym there ∙ gone in
    absurd cc

pub no_fronts_left : (old new : List FrontState) → live_map new ≡ live_map old → old ≡ [] → new ≡ []
no_fronts_left old new same none = no_front_in new (same ∙ ap live_map none)
