-- Lemmas on what the words asked for, and that no input within its limit is turned away.
use Rattle.std.proofs.Common.{◌≡◌, ℕ, suc, ◌≤◌, ◌<◌, true, false, Option, Some, None}
use Rattle.std.proofs.Common.{List, [], ◌∷◌, ◌++◌, length, take, Result, Ok}
use Rattle.std.proofs.Common.{refl, sym, ap, ◌∙◌, subst, arith, inl, inr, append_assoc, length-append}
use Rattle.std.specs.Io.KnownBytes.{Consumes}
use Rattle.std.proofs.lemmas.List.{take_at}
use Rattle.line_io.specs.Faults.{Rose}
use Rattle.byte_lines.specs.Lines.{lines}
use Rattle.part_layout.specs.declared.config.Config.{Config}
use Rattle.command_line.specs.declared.command.Command.{Command}
use Rattle.command_line.specs.declared.command.Command.TheVariants.{Run, Load}
use Rattle.gph_serve.specs.declared.outcome.Outcome.{Outcome}
use Rattle.gph_serve.specs.declared.outcome.Outcome.TheVariants.{Done, Usage, NoMemory}
use Rattle.gph_serve.specs.declared.outcome.Outcome.TheVariants.{ReadFault, WriteFault, InputLimit}
use Rattle.session_model.specs.Entries.{Exchange}
use Rattle.session_model.specs.Ledger.{Rise}
use Rattle.session_model.specs.Run.{IsRunAlone, has_quit}
use Rattle.session_model.specs.Outside.{Call, Untouched}
use Rattle.session_model.specs.Outcomes.{EndsWith, IsWithin, IsInputLimit}
use Rattle.gph_serve.specs.TopCall.{IsDoneOrNoMemory, IsUnread}
use Rattle.gph_serve.specs.TopCall.{ForRun, IsForLoad, IsComplete, ServedBy}
use Rattle.gph_serve.specs.Loads.{ForLoad, LoadedAs}
use Rattle.gph_serve.specs.TopCall.{ServedAs}

-- ---- what the words asked for

-- the command that the words asked for
the_command : (asked : Result Command ℕ) (command other : Command) → Ok command ≡ asked → asked ≡ Ok other → command ≡ other
the_command asked command other words asks =
    let both : Ok command ≡ Ok other = words ∙ asks in
    cc

-- an ending of a session, where the words asked for it
pub for_run : (outcome expected : Outcome) (P : Config → Call → Rise → Type 0) (asked : Result Command ℕ) (command : Command) (it : Call)
    → outcome ≡ expected → Ok command ≡ asked → ServedBy outcome command it
    → ((config : Config) → ServedAs expected config it → EndsWith (P config) it) → ForRun P asked it
for_run outcome expected P asked command it is words served ends = λ config asks.
    let same = the_command asked command (Run config) words asks in
    ends config (subst (λ o. ServedAs o config it) is (subst (λ c. ServedBy outcome c it) same served))

-- an ending of a load, where the words asked for it
pub for_load : (outcome : Outcome) (asked : Result Command ℕ) (command : Command) (it : Call) → Ok command ≡ asked
    → ServedBy outcome command it → ForLoad (LoadedAs outcome) asked it
for_load outcome asked command it words served = λ config number codes asks.
    subst (λ c. ServedBy outcome c it) (the_command asked command (Load config number codes) words asks) served

-- a session that was served has read
nothing_unread : (outcome : Outcome) (config : Config) (it : Call) → ServedAs outcome config it
    → IsUnread outcome → Untouched it
nothing_unread Done config it served unread = absurd unread
nothing_unread (Usage word) config it served unread = absurd served
nothing_unread ReadFault config it served unread = absurd unread
nothing_unread WriteFault config it served unread = absurd unread
nothing_unread NoMemory config it served unread = served
nothing_unread InputLimit config it served unread = absurd unread

pub unread_as : (outcome : Outcome) (asked : Result Command ℕ) (command : Command) (it : Call) → Ok command ≡ asked
    → ServedBy outcome command it → ¬ IsForLoad asked → IsUnread outcome → Untouched it
unread_as outcome asked (Run config) it words served session unread = nothing_unread outcome config it served unread
unread_as outcome asked (Load config number codes) it words served session unread = absurd (session (subst IsForLoad words tt))

-- ---- no input within the limit is turned away

-- bytes that were taken from a known input are its front
pub front_taken : (input : List ℕ) (left' : Option (List ℕ)) (bytes : List ℕ) (past : ℕ)
    → Consumes (Some input) left' (bytes ++ past ∷ [])
    → (length bytes < length input) × (take (length bytes) input ≡ bytes)
front_taken input None bytes past taken = absurd taken
front_taken input (Some rest) bytes past taken = (
  omega (
    arith,
    ap length taken,
    length-append (bytes ++ past ∷ []) rest,
    length-append bytes (past ∷ []),
  ),
  ap (take (length bytes)) (taken ∙ append_assoc bytes (past ∷ []) rest)
      ∙ take_at bytes (past ∷ rest) (length bytes) refl,
)

-- an input of which more than the limit was taken, and no line of the front of it ends the session
past_limit : (config : Config) (input bytes : List ℕ) → length bytes ≡ config.input
    → has_quit config (lines bytes false) ≡ false
    → (length bytes < length input) × (take (length bytes) input ≡ bytes) → IsWithin config input → ⊥
past_limit config input bytes full goes front (inl short) =
    let never : suc (length input) ≤ length input = omega (arith, short, front.0, full) in
    absurd (omega (arith, never))
past_limit config input bytes full goes front (inr quits) =
    let same : take config.input input ≡ bytes = ap (λ n. take n input) (sym full) ∙ front.1 in
    let never : true ≡ false = sym quits ∙ ap (λ b. has_quit config (lines b false)) same ∙ goes in
    cc

pub not_within : (Served : Config → List Exchange → Rise → Type 0) (config : Config) (input : List ℕ) (it : Call) (rise : Rise)
    → it.before.source.bytes ≡ Some input → IsInputLimit Served config it rise → IsWithin config input → ⊥
not_within Served config input it rise told reached within =
    let left' = it.after.source.bytes in
    let front = front_taken input left' reached.bytes reached.past
    (subst (λ left. Consumes left left' (reached.bytes ++ reached.past ∷ [])) told reached.read) in
    past_limit config input reached.bytes reached.full reached.goes_on front within

is_complete : (outcome : Outcome) (config : Config) (input : List ℕ) (it : Call)
    → it.before.source.bytes ≡ Some input → ServedAs outcome config it → IsWithin config input
    → ¬ Rose it.before.source.faults it.after.source.faults → ¬ Rose it.before.sink.faults it.after.sink.faults
    → IsDoneOrNoMemory outcome
is_complete Done config input it told served within read wrote = inl refl
is_complete (Usage word) config input it told served within read wrote = absurd served
is_complete ReadFault config input it told served within read wrote = absurd (read served.ended.rose)
is_complete WriteFault config input it told served within read wrote = absurd (wrote served.ended.rose)
is_complete NoMemory config input it told served within read wrote = inr refl
is_complete InputLimit config input it told served within read wrote =
    absurd (not_within IsRunAlone config input it served.rise told served.ended within)

pub complete_as : (outcome : Outcome) (asked : Result Command ℕ) (command : Command) (it : Call)
    → Ok command ≡ asked → ServedBy outcome command it → IsComplete outcome asked it
complete_as outcome asked command it words served =
    λ config input asks told within read wrote.
    let same = the_command asked command (Run config) words asks in
    is_complete outcome config input it told (subst (λ c. ServedBy outcome c it) same served) within read wrote
