-- What a whole call has read and written, for each way in which it ends.
use Rattle.std.specs.Prelude.{◌≡◌, ℕ, ◌-◌, ◌≤◌, ◌⊎◌, Bool, true, false, List, [], ◌∷◌, ◌++◌, length, take}
use Rattle.std.specs.Io.KnownBytes.{Appends, Consumes, IsAtEnd}
use Rattle.part_layout.specs.declared.config.Config.{Config}
use Rattle.line_io.specs.Faults.{Rose}
use Rattle.byte_lines.specs.Lines.{lines}
use Rattle.session_model.specs.declared.limits.TheConstants.{BLOCK_MOST}
use Rattle.session_model.specs.Entries.{Exchange}
use Rattle.session_model.specs.Run.{IsRefused, AnswersLines, before_quit, has_quit}
use Rattle.session_model.specs.Ledger.{Rise, RisesBy}
use Rattle.session_model.specs.Outside.{Call, Transfers, NoReadFailed, NoWriteFailed}

-- the bytes that were taken, but those of the last read at most
abbrev pub before_last : List ℕ → List ℕ
before_last bytes = take (length bytes - BLOCK_MOST) bytes

-- no count of faults rose: the input was read to its end, or a whole line of it ends the session,
-- one of the last block, and the lines up to there were answered
pub record IsDone (Served : Config → List Exchange → Rise → Type 0) (config : Config) (it : Call)
    (rise : Rise) : Type 0 where
  pub no_read_failed : NoReadFailed it
  pub no_write_failed : NoWriteFailed it
  pub bytes : List ℕ
  pub output : List ℕ
  pub moved : Transfers config.input it bytes output
  pub ended : IsAtEnd it.after.source.bytes ⊎ (has_quit config (lines bytes false) ≡ true)
  pub goes_on : has_quit config (lines (before_last bytes) false) ≡ false
  pub answered : AnswersLines (Served config) (before_quit config (lines bytes true)) output rise

-- a read failed and no write did, and the whole lines before it were answered
pub record IsReadFault (Served : Config → List Exchange → Rise → Type 0) (config : Config)
    (it : Call) (rise : Rise) : Type 0 where
  pub rose : Rose it.before.source.faults it.after.source.faults
  pub no_write_failed : NoWriteFailed it
  pub bytes : List ℕ
  pub output : List ℕ
  pub moved : Transfers config.input it bytes output
  pub goes_on : has_quit config (lines bytes false) ≡ false
  pub answered : AnswersLines (Served config) (lines bytes false) output rise

-- a write failed and no read did: the sink refused a reply to one of the lines, of which the last
-- without LF is one where the input ended, and which ends in the last block
pub record IsWriteFault (Served : Config → List Exchange → Rise → Type 0) (config : Config)
    (it : Call) (rise : Rise) : Type 0 where
  pub no_read_failed : NoReadFailed it
  pub rose : Rose it.before.sink.faults it.after.sink.faults
  pub bytes : List ℕ
  pub output : List ℕ
  pub moved : Transfers config.input it bytes output
  pub ended : Bool
  pub ended_at : ended ≡ true → IsAtEnd it.after.source.bytes
  pub refused : IsRefused (Served config) (lines bytes ended) output rise
  pub all_before : length (lines (before_last bytes) false) ≤ length refused.answered

-- as many bytes as may be read were read, then one more, with no fault, and the whole lines before
-- it were answered
pub record IsInputLimit (Served : Config → List Exchange → Rise → Type 0) (config : Config)
    (it : Call) (rise : Rise) : Type 0 where
  pub no_read_failed : NoReadFailed it
  pub no_write_failed : NoWriteFailed it
  pub bytes : List ℕ
  pub past : ℕ
  pub output : List ℕ
  pub read : Consumes it.before.source.bytes it.after.source.bytes (bytes ++ past ∷ [])
  pub full : length bytes ≡ config.input
  pub wrote : Appends it.before.sink.bytes it.after.sink.bytes output
  pub goes_on : has_quit config (lines bytes false) ≡ false
  pub answered : AnswersLines (Served config) (lines bytes false) output rise

-- the input up to its end, or to a line that ends the session, has at most as many bytes as may be
-- read
abbrev pub IsWithin : Config → List ℕ → Type 0
IsWithin config input =
    (length input ≤ config.input) ⊎ (has_quit config (lines (take config.input input) false) ≡ true)

-- an ending, by how much the ledgers rose
pub record EndsWith (P : Call → Rise → Type 0) (it : Call) : Type 0 where
  pub rise : Rise
  pub rises : RisesBy it.before.ledgers it.after.ledgers rise
  pub ended : P it rise
