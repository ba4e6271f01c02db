-- Lemmas on what a world has answered: one line more.
use Rattle.std.proofs.Common.{◌≡◌, ℕ, ◌+◌, ◌≤◌, List, [], ◌∷◌, ◌++◌, Option, None, Some, Ok, Err, slice_index, sym, ap, ◌∙◌, subst, arith}
use Rattle.line_answers.specs.Answered.{AnswersNext}
use Rattle.part_layout.specs.declared.config.Config.{Config}
use Rattle.session_model.specs.Ledger.{Ledgers}
use Rattle.query_protocol.specs.declared.bad.Bad.{Bad}
use Rattle.query_protocol.specs.declared.bad.LineFault.{LineFault}
use Rattle.query_protocol.specs.declared.bad.LineFault.TheVariants as line
use Rattle.trace_lines.specs.EventLines.{EventReading}
use Rattle.trace_lines.specs.EventRequests.{IsFitEvent, ReadsEvent, event_of}
use Rattle.trace_lines.specs.declared.event_request.EventRequest.{EventRequest}
use Rattle.trace_lines.specs.Traces.{Becomes, IsNoEvent, IsTrace, LineMet, Met, ReadsLayout, met_text}
use Rattle.world_model.specs.Events.{Setting, Event, IsFormed}
use Rattle.world_model.specs.Ledgers.{IsSumOfBounds, reads_on}
use Rattle.world_model.specs.Runs.{Answer}
use Rattle.world_model.specs.Sound.{IsSound}
use Rattle.world_model.specs.WorldState.{WorldState}
use Rattle.world_model.specs.WorldStep.{WorldStep}
use Rattle.world_traces.specs.Meeting.{CountsBetween}
use Rattle.world_traces.specs.Traced.{IsTraced, first_world, setting_for}

-- ---- what the laws say

abbrev pub ToldGoesOn : Type 0
ToldGoesOn = (z : Setting) (s : WorldState) (lines texts : List (List ℕ)) (t : WorldState)
    (line : List ℕ) (met : LineMet) → IsTrace z s lines texts t → Becomes z.bits line met → IsNoEvent met
    → IsTrace z s (lines ++ line ∷ []) (texts ++ met_text met ∷ []) t

abbrev pub MetGoesOn : Type 0
MetGoesOn = (z : Setting) (s : WorldState) (lines texts : List (List ℕ)) (t : WorldState)
    (line : List ℕ) (event : Event) (answer : Answer) (after : WorldState) → IsSound z s
    → IsTrace z s lines texts t → Becomes z.bits line (Met event answer) → IsFormed z event
    → WorldStep z t event answer after
    → IsTrace z s (lines ++ line ∷ []) (texts ++ met_text (Met event answer) ∷ []) after

abbrev pub StaysSound : Type 0
StaysSound = (z : Setting) (s : WorldState) (lines texts : List (List ℕ)) (t : WorldState)
    → IsSound z s → IsTrace z s lines texts t → IsSound z t

abbrev pub ReadWithin : Type 0
ReadWithin = (z : Setting) (s : WorldState) (shard : ℕ) → IsSound z s
    → (sum : ℕ) × IsSumOfBounds z s.history shard s.queries sum × (reads_on shard s.queries ≤ sum)

-- ---- ledgers

-- each event counts what the queries read
counts_on : (s t : WorldState) (shard start : ℕ) (from to : List ℕ) → CountsBetween s t from to
    → slice_index from shard ≡ start + reads_on shard s.queries
    → slice_index to shard ≡ start + reads_on shard t.queries
counts_on s t shard start from to counts so_far = omega (arith, counts.each shard, so_far)

-- ---- lines

-- ---- what was read

-- a line without words
pub reads_nothing : {W : ℕ} (bits : ℕ) (reading : EventReading) (read : Option (EventRequest W))
    → ReadsEvent W bits (Ok read) reading → read ≡ None → reading ≡ Ok None
reads_nothing {W} bits reading read reads is = subst (λ (r : Option (EventRequest W)). ReadsEvent W bits (Ok r) reading) is reads

-- an event, which is fit
pub reads_event : {W : ℕ} (bits : ℕ) (reading : EventReading) (read : Option (EventRequest W)) (request : EventRequest W)
    → ReadsEvent W bits (Ok read) reading → read ≡ Some request
    → (reading ≡ Ok (Some (event_of bits request))) × IsFitEvent W bits request
reads_event {W} bits reading read request reads is =
    subst (λ (r : Option (EventRequest W)). ReadsEvent W bits (Ok r) reading) is reads

-- a fault
pub reads_fault : (W bits : ℕ) (reading : EventReading) (read : LineFault) (fault : Bad)
    → ReadsEvent W bits (Err read) reading → read ≡ line.Bad fault → reading ≡ Err fault
reads_fault W bits reading read fault reads is = subst (λ (r : LineFault). ReadsEvent W bits (Err r) reading) is reads

-- a layout for which there was no memory
asks_layout : (W bits : ℕ) (reading : EventReading) → ReadsEvent W bits (Err line.NoMemory) reading → ReadsLayout reading
asks_layout W bits (Ok None) unread = absurd unread
asks_layout W bits (Ok (Some event)) unread = unread
asks_layout W bits (Err fault) unread = absurd unread

pub reads_no_layout : (W bits : ℕ) (reading : EventReading) (read : LineFault)
    → ReadsEvent W bits (Err read) reading → read ≡ line.NoMemory → ReadsLayout reading
reads_no_layout W bits reading read reads is =
    asks_layout W bits reading (subst (λ (r : LineFault). ReadsEvent W bits (Err r) reading) is reads)

-- a line more that is no event; upkeep is of no account
pub told_line : ToldGoesOn → (config : Config) (s : WorldState) (now now' : Ledgers) (line text : List ℕ) (met : LineMet)
    → Becomes config.bits line met → IsNoEvent met → text ≡ met_text met → now'.reads ≡ now.reads
    → AnswersNext (IsTraced config s) (IsTraced config s) now now' line text
told_line told config s now now' line text met become is written same = λ start lines texts traced.
    subst (λ (t : List ℕ). IsTraced config s start now' (lines ++ line ∷ []) (texts ++ t ∷ [])) (sym written) (record {
      trace = told (setting_for config) (first_world config) lines texts s line met traced.trace become is;
      reads = record {
        each = λ shard. ap (λ (l : List ℕ). slice_index l shard) same ∙ traced.reads.each shard;
        within = traced.reads.within;
      };
    })

-- a line more that is an event
pub met_line : MetGoesOn → StaysSound → ReadWithin → (config : Config)
    → IsSound (setting_for config) (first_world config) → (s t : WorldState) (now now' : Ledgers)
    (line text : List ℕ) (event : Event) (answer : Answer) → Becomes config.bits line (Met event answer)
    → IsFormed (setting_for config) event → WorldStep (setting_for config) s event answer t
    → CountsBetween s t now.reads now'.reads → text ≡ met_text (Met event answer)
    → AnswersNext (IsTraced config s) (IsTraced config t) now now' line text
met_line met stays within config first s t now now' line text event answer become formed step counts written =
    λ start lines texts traced.
    let z = setting_for config in
    let trace = met z (first_world config) lines texts s line event answer t first traced.trace become formed step in
    let sound' = stays z (first_world config) (lines ++ line ∷ []) (texts ++ met_text (Met event answer) ∷ []) t first trace in
    subst (λ (w : List ℕ). IsTraced config t start now' (lines ++ line ∷ []) (texts ++ w ∷ [])) (sym written) (record {
      trace = trace;
      reads = record {
        each = λ shard. counts_on s t shard (slice_index start.reads shard) now.reads now'.reads counts (traced.reads.each shard);
        within = λ shard. within z t shard sound';
      };
    })

-- before the first line
pub begins_traced : (config : Config) (s : WorldState) (now : Ledgers)
    → ((z : Setting) (s : WorldState) → IsSound z s → IsTrace z s [] [] s) → ReadWithin
    → IsSound (setting_for config) (first_world config) → s ≡ first_world config → IsTraced config s now now [] []
begins_traced config s now begins within first is =
    let z = setting_for config in
    subst (λ (w : WorldState). IsTraced config w now now [] []) (sym is) (record {
      trace = begins z (first_world config) first;
      reads = record {
        each = λ shard. omega arith;
        within = λ shard. within z (first_world config) shard first;
      };
    })
