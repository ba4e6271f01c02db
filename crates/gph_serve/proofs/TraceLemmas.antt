-- Lemmas on what a trace was asked for, how it ended, and that no input within its limit is turned away.
use Rattle.std.proofs.Common.{◌≡◌, ℕ, suc, ◌≤◌, ◌++◌, ◌∷◌, [], Option, Some, None, List, length, Result, Ok, Err}
use Rattle.std.proofs.Common.{refl, sym, ap, ◌∙◌, subst, arith, inl, inr}
use Rattle.std.specs.Prelude.{◌↔◌}
use Rattle.std.specs.Io.KnownBytes.{Consumes}
use Rattle.event_world.specs.TraceEnds.{TracesAs, TracesTo}
use Rattle.line_answers.specs.declared.ending.Ending.{Ending}
use Rattle.line_answers.specs.declared.ending.Ending.TheVariants as ending
use Rattle.line_io.specs.Faults.{Rose}
use Rattle.part_layout.specs.declared.config.Config.{Config}
use Rattle.read_meter.specs.declared.no_memory.NoMemory.{NoMemory}
use Rattle.session_model.specs.Outside.{Call, Untouched}
use Rattle.gph_serve.specs.TopCall.{IsDoneOrNoMemory, IsUnread}
use Rattle.gph_serve.specs.TraceCall.{ForTrace, IsCompleteTrace, trace_outcome}
use Rattle.gph_serve.specs.declared.outcome.Outcome.{Outcome}
use Rattle.gph_serve.specs.declared.outcome.Outcome.TheVariants as outcome
use Rattle.gph_serve.proofs.CompleteLemmas.{front_taken}

-- ---- what the words asked for

the_config : (asked : Result Config ℕ) (config other : Config) → Ok config ≡ asked → asked ≡ Ok other → config ≡ other
the_config asked config other words asks =
    let both : Ok config ≡ Ok other = words ∙ asks in
    cc

-- ---- how it ended

-- the ending of which an outcome comes
abbrev ended_of : Outcome → Option Ending
ended_of outcome.Done = Some ending.Done
ended_of outcome.ReadFault = Some ending.ReadFault
ended_of outcome.WriteFault = Some ending.WriteFault
ended_of outcome.InputLimit = Some ending.InputLimit
ended_of other = None

ended_again : (ended : Ending) → ended_of (trace_outcome (Ok ended)) ≡ Some ended
ended_again ending.Done = refl
ended_again ending.ReadFault = refl
ended_again ending.WriteFault = refl
ended_again ending.InputLimit = refl

ending_is : (ended : Ending) (ending : Result Ending NoMemory) → trace_outcome ending ≡ trace_outcome (Ok ended) → ending ≡ Ok ended
ending_is ended (Ok other) same =
    let both : Some other ≡ Some ended = sym (ended_again other) ∙ ap ended_of same ∙ ended_again ended in
    cc
ending_is ended (Err fault) same =
    let never : None ≡ Some ended = ap ended_of same ∙ ended_again ended in
    cc

-- an ending of a trace, where the words asked for one
pub for_trace : (ended : Ending) (outcome : Outcome) (ending : Result Ending NoMemory) (asked : Result Config ℕ) (config : Config) (it : Call)
    → outcome ≡ trace_outcome ending → Ok config ≡ asked → TracesAs ending config it → outcome ≡ trace_outcome (Ok ended)
    → ForTrace ended asked it
for_trace ended outcome ending asked config it of words traced is = λ other asks.
    subst (λ (c : Config). TracesTo ended c it) (the_config asked config other words asks)
    (subst (λ (e : Result Ending NoMemory). TracesAs e config it) (ending_is ended ending (sym of ∙ is)) traced)

-- a trace that ended has read
nothing_unread : (ending : Result Ending NoMemory) (config : Config) (it : Call) → TracesAs ending config it
    → IsUnread (trace_outcome ending) → Untouched it
nothing_unread (Ok ending.Done) config it traced unread = absurd unread
nothing_unread (Ok ending.ReadFault) config it traced unread = absurd unread
nothing_unread (Ok ending.WriteFault) config it traced unread = absurd unread
nothing_unread (Ok ending.InputLimit) config it traced unread = absurd unread
nothing_unread (Err fault) config it traced unread = traced

pub unread_trace : (outcome : Outcome) (ending : Result Ending NoMemory) (config : Config) (it : Call) → outcome ≡ trace_outcome ending
    → TracesAs ending config it → IsUnread outcome → Untouched it
unread_trace outcome ending config it of traced unread = nothing_unread ending config it traced (subst IsUnread of unread)

-- no ending is told as a fault of the words
no_usage : (ending : Result Ending NoMemory) (word : ℕ) → trace_outcome ending ≡ outcome.Usage word → ⊥
no_usage (Ok ending.Done) word same = cc
no_usage (Ok ending.ReadFault) word same = cc
no_usage (Ok ending.WriteFault) word same = cc
no_usage (Ok ending.InputLimit) word same = cc
no_usage (Err fault) word same = cc

pub usage_never : (told : Outcome) (ending : Result Ending NoMemory) (asked : Result Config ℕ) (config : Config) (word : ℕ)
    → told ≡ trace_outcome ending → Ok config ≡ asked → (asked ≡ Err word) ↔ (told ≡ outcome.Usage word)
usage_never told ending asked config word of words = (
  λ faulty. let never : Ok config ≡ Err word = words ∙ faulty in cc,
  λ faulty. absurd (no_usage ending word (sym of ∙ faulty)),
)

-- ---- no input within the limit is turned away

not_past : (input bytes : List ℕ) (past limit : ℕ) (left left' : Option (List ℕ)) → left ≡ Some input → length input ≤ limit
    → length bytes ≡ limit → Consumes left left' (bytes ++ past ∷ []) → ⊥
not_past input bytes past limit left left' told within full read =
    let front = front_taken input left' bytes past (subst (λ (l : Option (List ℕ)). Consumes l left' (bytes ++ past ∷ [])) told read) in
    let never : suc (length input) ≤ length input = omega (arith, within, front.0, full) in
    absurd (omega (arith, never))

is_complete : (ending : Result Ending NoMemory) (config : Config) (input : List ℕ) (it : Call) → TracesAs ending config it
    → it.before.source.bytes ≡ Some input → length input ≤ config.input → ¬ Rose it.before.source.faults it.after.source.faults
    → ¬ Rose it.before.sink.faults it.after.sink.faults → IsDoneOrNoMemory (trace_outcome ending)
is_complete (Ok ending.Done) config input it traced told within read wrote = inl refl
is_complete (Ok ending.ReadFault) config input it traced told within read wrote = absurd (read traced.ends.rose)
is_complete (Ok ending.WriteFault) config input it traced told within read wrote = absurd (wrote traced.ends.rose)
is_complete (Ok ending.InputLimit) config input it traced told within read wrote =
    absurd (not_past input traced.ends.bytes traced.ends.past config.input it.before.source.bytes it.after.source.bytes told within
    traced.ends.full traced.ends.read)
is_complete (Err fault) config input it traced told within read wrote = inr refl

pub complete_trace : (outcome : Outcome) (ending : Result Ending NoMemory) (asked : Result Config ℕ) (config : Config) (it : Call)
    → outcome ≡ trace_outcome ending → Ok config ≡ asked → TracesAs ending config it → IsCompleteTrace outcome asked it
complete_trace outcome ending asked config it of words traced = λ other input asks told within read wrote.
    let same = the_config asked config other words asks in
    subst IsDoneOrNoMemory (sym of) (is_complete ending other input it (subst (λ (c : Config). TracesAs ending c it) same traced)
    told within read wrote)
