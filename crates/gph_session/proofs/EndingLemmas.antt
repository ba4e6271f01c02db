-- Lemmas on the endings of a call: what is served under one relation is served under each that follows from it.
use Rattle.std.proofs.Common.{ℕ, List, [], ◌∷◌, ◌++◌}
use Rattle.part_layout.specs.declared.config.Config.{Config}
use Rattle.session_model.specs.Entries.{Exchange}
use Rattle.session_model.specs.Ledger.{Rise}
use Rattle.session_model.specs.Outside.{Call}
use Rattle.session_model.specs.Run.{AnswersLines}
use Rattle.session_model.specs.Outcomes.{EndsWith, IsDone, IsInputLimit, IsReadFault, IsWriteFault}

module _ (One Other : Config → List Exchange → Rise → Type 0) (config : Config)
    (follows : (exchanges : List Exchange) (rise : Rise) → One config exchanges rise → Other config exchanges rise)
    (it : Call) where
  answered_as : (of_lines : List (List ℕ)) (output : List ℕ) (rise : Rise)
      → AnswersLines (One config) of_lines output rise → AnswersLines (Other config) of_lines output rise
  answered_as of_lines output rise h = record {
    exchanges = h.exchanges;
    served = follows h.exchanges rise h.served;
    lines_are = h.lines_are;
    bytes_are = h.bytes_are;
  }

  pub done_as : EndsWith (IsDone One config) it → EndsWith (IsDone Other config) it
  done_as h = record {
    rise = h.rise;
    rises = h.rises;
    ended = record {
      no_read_failed = h.ended.no_read_failed;
      no_write_failed = h.ended.no_write_failed;
      bytes = h.ended.bytes;
      output = h.ended.output;
      moved = h.ended.moved;
      ended = h.ended.ended;
      goes_on = h.ended.goes_on;
      answered = answered_as _ h.ended.output h.rise h.ended.answered;
    };
  }

  pub read_fault_as : EndsWith (IsReadFault One config) it → EndsWith (IsReadFault Other config) it
  read_fault_as h = record {
    rise = h.rise;
    rises = h.rises;
    ended = record {
      rose = h.ended.rose;
      no_write_failed = h.ended.no_write_failed;
      bytes = h.ended.bytes;
      output = h.ended.output;
      moved = h.ended.moved;
      goes_on = h.ended.goes_on;
      answered = answered_as _ h.ended.output h.rise h.ended.answered;
    };
  }

  pub write_fault_as : EndsWith (IsWriteFault One config) it → EndsWith (IsWriteFault Other config) it
  write_fault_as h = record {
    rise = h.rise;
    rises = h.rises;
    ended = record {
      no_read_failed = h.ended.no_read_failed;
      rose = h.ended.rose;
      bytes = h.ended.bytes;
      output = h.ended.output;
      moved = h.ended.moved;
      ended = h.ended.ended;
      ended_at = h.ended.ended_at;
      refused = record {
        answered = h.ended.refused.answered;
        refused = h.ended.refused.refused;
        rest = h.ended.refused.rest;
        served = follows (h.ended.refused.answered ++ h.ended.refused.refused ∷ []) h.rise h.ended.refused.served;
        lines_are = h.ended.refused.lines_are;
        taken = h.ended.refused.taken;
        not_all = h.ended.refused.not_all;
        output_is = h.ended.refused.output_is;
      };
      all_before = h.ended.all_before;
    };
  }

  pub input_limit_as : EndsWith (IsInputLimit One config) it → EndsWith (IsInputLimit Other config) it
  input_limit_as h = record {
    rise = h.rise;
    rises = h.rises;
    ended = record {
      no_read_failed = h.ended.no_read_failed;
      no_write_failed = h.ended.no_write_failed;
      bytes = h.ended.bytes;
      past = h.ended.past;
      output = h.ended.output;
      read = h.ended.read;
      full = h.ended.full;
      wrote = h.ended.wrote;
      goes_on = h.ended.goes_on;
      answered = answered_as _ h.ended.output h.rise h.ended.answered;
    };
  }
