-- What a call has read and written that answers the lines of its input, by how it ends.
use Rattle.std.specs.Prelude.{◌≡◌, ℕ, ◌≤◌, Bool, true, false, List, [], ◌∷◌, ◌++◌, length}
use Rattle.std.specs.Io.KnownBytes.{Appends, Consumes, IsAtEnd}
use Rattle.byte_lines.specs.Lines.{lines}
use Rattle.line_io.specs.Faults.{Rose}
use Rattle.session_model.specs.Outcomes.{before_last}
use Rattle.session_model.specs.Outside.{Call, Transfers, NoReadFailed, NoWriteFailed}
use Rattle.line_answers.specs.Answered.{Answering, AnswersInOrder, BreaksOff}
use Rattle.line_answers.specs.declared.ending.Ending.{Ending}
use Rattle.line_answers.specs.declared.ending.Ending.TheVariants as ending

-- no count of faults rose, the input was read to its end, and every line of it was answered
pub record IsAnsweredToEnd (Answered : Answering) (limit : ℕ) (it : Call) : Type 0 where
  pub no_read_failed : NoReadFailed it
  pub no_write_failed : NoWriteFailed it
  pub bytes : List ℕ
  pub output : List ℕ
  pub moved : Transfers limit it bytes output
  pub ended : IsAtEnd it.after.source.bytes
  pub answered : AnswersInOrder (Answered it.before.ledgers it.after.ledgers)
      (lines bytes true) output

-- a read failed and no write did, and the whole lines before it were answered
pub record IsAnsweredToReadFault (Answered : Answering) (limit : ℕ) (it : Call) : Type 0 where
  pub rose : Rose it.before.source.faults it.after.source.faults
  pub no_write_failed : NoWriteFailed it
  pub bytes : List ℕ
  pub output : List ℕ
  pub moved : Transfers limit it bytes output
  pub answered : AnswersInOrder (Answered it.before.ledgers it.after.ledgers)
      (lines bytes false) output

-- a write failed and no read did: the sink refused the answer to one of the lines, of which the
-- last without LF is one where the input ended, and which ends in the last block
pub record IsAnsweredToWriteFault (Answered : Answering) (limit : ℕ) (it : Call) : Type 0 where
  pub no_read_failed : NoReadFailed it
  pub rose : Rose it.before.sink.faults it.after.sink.faults
  pub bytes : List ℕ
  pub output : List ℕ
  pub moved : Transfers limit it bytes output
  pub ended : Bool
  pub ended_at : ended ≡ true → IsAtEnd it.after.source.bytes
  pub broken : BreaksOff (Answered it.before.ledgers it.after.ledgers) (lines bytes ended) output
  pub all_before : length (lines (before_last bytes) false) ≤ length broken.before

-- as many bytes as may be read were read, then one more, with no fault, and the whole lines before
-- it were answered
pub record IsAnsweredToLimit (Answered : Answering) (limit : ℕ) (it : Call) : Type 0 where
  pub no_read_failed : NoReadFailed it
  pub no_write_failed : NoWriteFailed it
  pub bytes : List ℕ
  pub past : ℕ
  pub output : List ℕ
  pub read : Consumes it.before.source.bytes it.after.source.bytes (bytes ++ past ∷ [])
  pub full : length bytes ≡ limit
  pub wrote : Appends it.before.sink.bytes it.after.sink.bytes output
  pub answered : AnswersInOrder (Answered it.before.ledgers it.after.ledgers)
      (lines bytes false) output

-- what a call has read and written, by its ending
abbrev pub EndsAnswered : Ending → Answering → ℕ → Call → Type 0
EndsAnswered ending.Done Answered limit it = IsAnsweredToEnd Answered limit it
EndsAnswered ending.ReadFault Answered limit it = IsAnsweredToReadFault Answered limit it
EndsAnswered ending.WriteFault Answered limit it = IsAnsweredToWriteFault Answered limit it
EndsAnswered ending.InputLimit Answered limit it = IsAnsweredToLimit Answered limit it
