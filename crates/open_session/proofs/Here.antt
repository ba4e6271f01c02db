-- One line as a session meets it, and a step that commits and builds nothing.
use Rattle.std.proofs.Common.{◌≡◌, ◌≢◌, ◌≤◌, ◌&&◌, ℕ, true, false, List, [], ◌∷◌, ◌++◌, length, map, take, Option}
use Rattle.std.proofs.Common.{Result, Ok, Err, OnOk, refl, sym, ap, ◌∙◌, subst, arith, append-nil, append_assoc, length-append}
use Rattle.std.specs.List.{AllByRecursion}
use Rattle.std.proofs.Math.ListN.{get_or-map}
use Rattle.std.proofs.lemmas.List.{take_at, take-append-le, map-append}
use Rattle.line_io.specs.declared.source.Failed.{Failed}
use Rattle.hamming_model.specs.History.{JournalEntry, Operation}
use Rattle.hamming_model.specs.Recoded.{cut_entry, cut_history}
use Rattle.part_layout.specs.declared.config.Config.{Config}
use Rattle.query_protocol.specs.Requests.{LineReading}
use Rattle.query_protocol.specs.Lines.{reading}
use Rattle.query_protocol.specs.Replies.{text, reply_line, LineReply}
use Rattle.session_desk.specs.Calls.{Learns, OnlyLearns}
use Rattle.session_desk.specs.Desks.{DeskState, ShardPlace, no_place, place_at, seen_history}
use Rattle.layout_search.specs.Improves.{plain_sample}
use Rattle.session_model.specs.State.{Query, State, open_queries}
use Rattle.session_model.specs.Searches.{samples_of}
use Rattle.session_model.specs.Entries.{Exchange}
use Rattle.session_model.specs.Step.{Answers, AreLayouts}
use Rattle.session_model.specs.Told.{pinned_by}
use Rattle.session_model.specs.Upkeep.{other_steps}
use Rattle.session_model.specs.Commits.{accepted, committed, commit_of}
use Rattle.open_queries.specs.Writing.{Writes}
use Rattle.session_model.specs.Ledger.{Ledgers, layout_at}
use Rattle.open_session.specs.Cursors.{Cursor}
use Rattle.open_session.specs.Growth.{HistoryGrows, IsAside}
use Rattle.open_session.specs.KeptDesk.{KeepsDesk, pins_of}
use Rattle.open_session.specs.LastPins.{LeavesPins, may_pin, was_opened}
use Rattle.open_session.specs.Pinned.{TellsPinned}
use Rattle.open_session.specs.Moments.{Moment, ReadsTo, Spends}
use Rattle.open_session.specs.Meaning.{Means, AllKeep, IsSettled}
use Rattle.open_session.specs.PlainSteps.{PlainStep}
use Rattle.open_session.specs.Samples.{MeansSamples}
use Rattle.open_session.specs.Steps.{Stands}
use Rattle.open_session.proofs.MomentLemmas.{as_long, only_keeps, reads_still, seen_longer, seen_whole, spends_seen}
use Rattle.open_session.proofs.BoundLemmas.{all_settled_later}
use Rattle.open_session.proofs.LastPinsLemmas.{pins_still}
use Rattle.open_session.proofs.QueryLemmas.{keep_later}

-- a line, and the session that meets it: what it was asked to be, the moment and the state that it
-- means, and what the sink had before
pub record Here (W : ℕ) : Type 0 where
  pub config : Config
  pub history : List JournalEntry
  pub s : State
  pub old : Moment W
  pub stands : Stands config old history s
  pub before : Option (List ℕ)
  pub line : List ℕ

-- what the line asks
abbrev pub asked_here : {W : ℕ} → Here W → LineReading
asked_here p = reading p.config p.line

-- a step in which nothing is built and that leads to this moment
abbrev pub StepTo : {A : Type 0} {W : ℕ} → Here W → Option (List ℕ) → Result A Failed → Moment W → Type 0
StepTo {A} {W} p after result new =
    PlainStep {A = A} W p.config p.history p.s p.line p.before after result p.old new

-- ---- small facts

pub on_ok : {A : Type 0} (result : Result A Failed) (P : Type 0) → P → OnOk result P
on_ok (Ok value) P h = h
on_ok (Err failed) P h = tt

pub on_ok_then : {A : Type 0} (result : Result A Failed) (P Q : Type 0) → (P → Q) → OnOk result P
    → OnOk result Q
on_ok_then (Ok value) P Q f h = f h
on_ok_then (Err failed) P Q f h = tt

-- one reply was written
pub writes_one : {A : Type 0} (before after : Option (List ℕ)) (result : Result A Failed) (this : LineReply)
    → Writes before after result (reply_line this) → Writes before after result (text (this ∷ []))
writes_one before after result this wrote =
    subst (Writes before after result) (sym (append-nil (reply_line this))) wrote

-- an exchange that a session at this line may have, at a position, where its line saw these layouts
abbrev pub exchange_at : {W : ℕ} → Here W → Moment W → List LineReply → ℕ → List (List (List ℕ)) → Exchange
exchange_at p new replies at layouts = record {
  line = p.line;
  replies = replies;
  position = at;
  layouts = layouts;
  seen = length new.desk.seen;
}

-- the same, where it saw the layouts of the state
abbrev pub exchange_here : {W : ℕ} → Here W → Moment W → List LineReply → ℕ → Exchange
exchange_here p new replies at = exchange_at p new replies at p.s.layouts

-- the samples in memory are those of queries that have the same ones
pub samples_here : {W : ℕ} (p : Here W) (new : Moment W) (queries : List Query) → new.samples ≡ p.old.samples
    → samples_of queries ≡ samples_of p.s.queries → MeansSamples p.config.bits new.samples queries
samples_here p new queries same stay =
    ap (map (plain_sample p.config.bits)) same ∙ p.stands.samples ∙ sym stay

-- ---- a desk that has learned more

-- the entries up to a position, whatever comes later
pub front_of : (desk : DeskState) (later : List JournalEntry) (at : ℕ) → at ≤ length desk.seen
    → take at (seen_history desk ++ later) ≡ take at (seen_history desk)
front_of desk later at within = take-append-le at (seen_history desk) later (omega (arith, within, as_long desk))

-- all that was seen, whatever comes later
pub prefix_of : (desk : DeskState) (later : List JournalEntry) (at : ℕ) → at ≡ length desk.seen
    → take at (seen_history desk ++ later) ≡ seen_history desk
prefix_of desk later at is = take_at (seen_history desk) later at (as_long desk ∙ sym is)

-- a position of what was seen, whatever comes later
pub inside_of : (desk : DeskState) (later : List JournalEntry) (at : ℕ) → at ≤ length desk.seen
    → at ≤ length (seen_history desk ++ later)
inside_of desk later at within = omega (arith, within, as_long desk, length-append (seen_history desk) later)

-- others' entries are others' in whatever codes
others_cut : (bits who : ℕ) (entries : List JournalEntry) → AllByRecursion (λ entry. entry.who ≢ who) entries
    → AllByRecursion (λ entry. entry.who ≢ who) (cut_history bits entries)
others_cut bits who [] all = tt
others_cut bits who (entry ∷ entries) all = (all.0, others_cut bits who entries all.1)

module _ {W : ℕ} (p : Here W) where
  -- all that the desk has seen
  pub seen_here : length p.old.desk.seen ≡ length p.history
  seen_here = sym (as_long p.old.desk) ∙ ap length (sym p.stands.means.history_is)

  pub within_here : p.s.position ≤ length p.old.desk.seen
  within_here = omega (arith, seen_here, p.stands.means.within)

  module _ (new : DeskState) (learns : Learns p.old.desk new.seen) where
    pub within_new : p.s.position ≤ length new.seen
    within_new = omega (arith, within_here, seen_longer p.old.desk new.seen learns)

    -- which the session has answered on, where it is alone
    pub whole_here : p.old.desk.alone ≡ true → length new.seen ≡ p.s.position
    whole_here alone = ap length (seen_whole p.old.desk new.seen learns alone) ∙ seen_here ∙ sym (p.stands.means.whole alone)

    module _ (config : new.config ≡ p.old.desk.config) where
      -- what was learned
      abbrev pub learned : List JournalEntry
      learned = cut_history new.config.bits learns.more

      pub history_learned : seen_history new ≡ p.history ++ learned
      history_learned =
          ap (cut_history new.config.bits) learns.longer
          ∙ map-append (cut_entry new.config.bits) p.old.desk.seen learns.more
          ∙ ap (λ (c : Config). cut_history c.bits p.old.desk.seen ++ learned) config
          ∙ ap (λ h. h ++ learned) (sym p.stands.means.history_is)

      -- the history grows by what was learned
      pub grows_by : (committed : List JournalEntry) → committed ≡ []
          → HistoryGrows p.old.desk.alone p.s.who p.history committed (seen_history new)
      grows_by committed nothing = record {
        more = learned;
        others = others_cut new.config.bits p.s.who learns.more
            (subst (λ who. AllByRecursion (λ (entry : JournalEntry). entry.who ≢ who) learns.more)
            (sym p.stands.means.who) learns.others);
        none = λ alone. ap (cut_history new.config.bits) (learns.all alone);
        after_is = history_learned ∙ sym (append-nil (p.history ++ learned))
            ∙ ap (λ l. (p.history ++ learned) ++ l) (sym nothing);
      }

      -- what holds whatever comes behind the history
      pub later_learned : (P : List JournalEntry → Type 0) → ((later : List JournalEntry) → P (p.history ++ later))
          → (later : List JournalEntry) → P (seen_history new ++ later)
      later_learned P holds later =
          subst P (sym (append_assoc p.history learned later) ∙ ap (λ h. h ++ later) (sym history_learned))
          (holds (learned ++ later))

      pub settled_learned : (queries : List Query) → AllByRecursion (IsSettled p.config p.history) queries
          → AllByRecursion (IsSettled p.config (seen_history new)) queries
      settled_learned queries all =
          subst (λ h. AllByRecursion (IsSettled p.config h) queries) (sym history_learned)
          (all_settled_later p.config p.history learned queries all)

      pub keep_learned : (cursors : List (Cursor W)) (queries : List Query)
          → AllKeep p.config p.history cursors queries → AllKeep p.config (seen_history new) cursors queries
      keep_learned cursors queries keep =
          subst (λ h. AllKeep p.config h cursors queries) (sym history_learned)
          (keep_later p.config p.history learned cursors queries keep)

-- the layout in which a shard of a desk that is alone stands is the state's
pub layout_here : {W : ℕ} (p : Here W) → p.old.desk.alone ≡ true → (shard : ℕ)
    → (place_at p.old.desk shard).1.parts ≡ layout_at p.s.layouts shard
layout_here p alone shard =
    sym (get_or-map (λ (place : ShardPlace). place.1.parts) p.old.desk.places shard no_place)
    ∙ ap (λ l. layout_at l shard) (sym (p.stands.means.layouts alone))

-- the state that a desk means which has learned more
pub means_to : {W : ℕ} (p : Here W) (new : DeskState) (t : State) → KeepsDesk p.old.desk new
    → t.position ≤ length new.seen → (p.old.desk.alone ≡ true → t.position ≡ length new.seen)
    → t.who ≡ p.s.who → t.layouts ≡ p.s.layouts → Means p.config new (seen_history new) t
means_to p new t keeps within whole who layouts = record {
  config_is = keeps.config ∙ p.stands.means.config_is;
  history_is = refl;
  within = omega (arith, within, as_long new);
  whole = λ alone. whole (sym keeps.alone ∙ alone) ∙ sym (as_long new);
  who = who ∙ p.stands.means.who ∙ sym keeps.who;
  layouts = λ alone. layouts ∙ p.stands.means.layouts (sym keeps.alone ∙ alone)
      ∙ sym (keeps.layouts (sym keeps.alone ∙ alone));
  are_layouts = subst (AreLayouts p.config) (sym layouts) p.stands.means.are_layouts;
}

-- ---- queries that pinned the same

-- the layouts in memory are still those of the queries
pub pinned_still : {W : ℕ} (p : Here W) (new : Moment W) (t : State) → new.pinned ≡ p.old.pinned
    → pinned_by t.queries ≡ pinned_by p.s.queries → TellsPinned p.config.shards new.pinned (pinned_by t.queries)
pinned_still p new t pinned same =
    subst (TellsPinned p.config.shards new.pinned) (sym same)
    (subst (λ l. TellsPinned p.config.shards l (pinned_by p.s.queries)) (sym pinned) p.stands.pinned)

-- ---- a step that commits nothing

module _ {A : Type 0} {W : ℕ} (p : Here W) (after : Option (List ℕ)) (result : Result A Failed)
    (new : Moment W) (asked : LineReading) (replies : List LineReply) (t : State)
    (is : asked_here p ≡ asked) (none : accepted asked replies ≡ []) (at : ℕ) where
  module _ (layouts : List (List (List ℕ))) where
    abbrev exchange : Exchange
    exchange = exchange_at p new replies at layouts

    -- the session commits nothing
    pub no_commit : commit_of p.s.who p.config exchange ≡ []
    no_commit =
        ap (λ r. committed p.s.who r replies) is
        ∙ ap (λ (l : List Operation). map {B = JournalEntry} (λ o. record { who = p.s.who; operation = o }) l) none

    -- and is alone, if it was
    pub aside_here : Learns p.old.desk new.desk.seen → (p.old.desk.alone ≡ true → at ≡ p.s.position)
        → (p.old.desk.alone ≡ true → layouts ≡ p.s.layouts) → IsAside p.old.desk.alone p.config p.s exchange
    aside_here learns stays same = λ alone. record {
      position = omega (arith, stays alone, ap length no_commit);
      layouts = same alone;
      seen = whole_here p new.desk learns alone ∙ sym (stays alone);
    }

    pub quiet_by : Learns p.old.desk new.desk.seen → (p.old.desk.alone ≡ true → at ≡ p.s.position)
        → AreLayouts p.config layouts → (p.old.desk.alone ≡ true → layouts ≡ p.s.layouts)
        → ((later : List JournalEntry) → Answers asked p.config (seen_history new.desk ++ later) p.s exchange t)
        → Writes p.before after result (text replies)
        → ReadsTo p.old.ledgers.reads new.ledgers.reads p.s.queries t.queries
        → Spends p.old.desk new.desk p.old.ledgers.upkeep new.ledgers.upkeep
        (other_steps p.config.shards replies (length new.desk.seen))
        → AllByRecursion (IsSettled p.config (seen_history new.desk)) t.queries
        → MeansSamples p.config.bits new.samples t.queries
        → Means p.config new.desk (seen_history new.desk) t → KeepsDesk p.old.desk new.desk
        → OnOk result (AllKeep p.config (seen_history new.desk) new.cursors (open_queries t.queries))
        → TellsPinned p.config.shards new.pinned (pinned_by t.queries)
        → LeavesPins asked replies at p.old.desk new.desk p.old.pinned new.pinned
        → new.position ≡ t.position → StepTo p after result new
    quiet_by learns stays are same answers wrote reads spent settled samples means keeps keep pinned pins position = record {
      exchange = exchange;
      state = t;
      is_line = refl;
      past = seen_history new.desk;
      grows = grows_by p new.desk learns keeps.config (commit_of p.s.who p.config exchange) no_commit;
      step = λ later. record {
        layouts = are;
        answers = subst (λ r. Answers r p.config (seen_history new.desk ++ later) p.s exchange t) (sym is)
            (answers later);
      };
      aside = aside_here learns stays same;
      seen = sym (as_long new.desk);
      wrote = wrote;
      reads = reads;
      spent = spent;
      settled = settled;
      samples = samples;
      means = means;
      keeps = keeps;
      keep = keep;
      pinned = pinned;
      pins = subst (λ r. LeavesPins r replies at p.old.desk new.desk p.old.pinned new.pinned) (sym is) pins;
      position = position;
    }

  -- a step over a desk that only learned
  pub quiet_learns : OnlyLearns p.old.desk new.desk → (p.old.desk.alone ≡ true → at ≡ p.s.position)
      → at ≤ length new.desk.seen
      → ((later : List JournalEntry)
      → Answers asked p.config (seen_history new.desk ++ later) p.s (exchange_here p new replies at) t)
      → Writes p.before after result (text replies)
      → ReadsTo p.old.ledgers.reads new.ledgers.reads p.s.queries t.queries
      → new.ledgers.upkeep ≡ p.old.ledgers.upkeep
      → AllByRecursion (IsSettled p.config p.history) t.queries
      → MeansSamples p.config.bits new.samples t.queries
      → t.position ≡ at → t.who ≡ p.s.who → t.layouts ≡ p.s.layouts
      → OnOk result (AllKeep p.config p.history new.cursors (open_queries t.queries))
      → TellsPinned p.config.shards new.pinned (pinned_by t.queries) → new.pinned ≡ p.old.pinned
      → (may_pin asked && was_opened replies) ≡ false
      → new.position ≡ t.position → StepTo p after result new
  quiet_learns only stays within answers wrote reads upkeep settled samples there who layouts keep pinned told none_opened position =
      let keeps = only_keeps p.old.desk new.desk only in
      let learns = only.learns in
      let steps = p.old.ledgers.upkeep in
      let beside = other_steps p.config.shards replies (length new.desk.seen) in
      quiet_by p.s.layouts learns stays p.stands.means.are_layouts (λ alone. refl) answers wrote reads
      (subst (λ n. Spends p.old.desk new.desk steps n beside) (sym upkeep)
      (spends_seen p.old.desk new.desk steps beside (seen_longer p.old.desk new.desk.seen learns) (ap pins_of only.after)))
      (settled_learned p new.desk learns keeps.config t.queries settled) samples
      (means_to p new.desk t keeps (omega (arith, within, there))
      (λ alone. there ∙ stays alone ∙ sym (whole_here p new.desk learns alone)) who layouts)
      keeps
      (on_ok_then result (AllKeep p.config p.history new.cursors (open_queries t.queries)) _
      (keep_learned p new.desk learns keeps.config new.cursors (open_queries t.queries)) keep)
      pinned
      (pins_still asked replies at p.old.desk new.desk p.old.pinned new.pinned none_opened
      (ap (λ (d : DeskState). d.pins) only.after) told)
      position

-- a step that changes nothing but what the desk has seen and what the cursors planned last
pub quiet : {A : Type 0} {W : ℕ} (p : Here W) (after : Option (List ℕ)) (result : Result A Failed)
    (new : Moment W) (asked : LineReading) (replies : List LineReply) → asked_here p ≡ asked
    → accepted asked replies ≡ [] → (may_pin asked && was_opened replies) ≡ false
    → OnlyLearns p.old.desk new.desk → new.ledgers ≡ p.old.ledgers
    → new.pinned ≡ p.old.pinned → new.position ≡ p.old.position → new.samples ≡ p.old.samples
    → AllKeep p.config p.history new.cursors (open_queries p.s.queries)
    → ((later : List JournalEntry)
    → Answers asked p.config (p.history ++ later) p.s (exchange_here p new replies p.s.position) p.s)
    → Writes p.before after result (text replies) → StepTo p after result new
quiet p after result new asked replies is none none_opened only ledgers pinned position samples keep answers wrote =
    let s = p.s in
    quiet_learns p after result new asked replies s is none s.position only (λ alone. refl)
    (within_new p new.desk only.learns)
    (later_learned p new.desk only.learns (ap (λ (d : DeskState). d.config) only.after)
    (λ h. Answers asked p.config h s (exchange_here p new replies s.position) s) answers)
    wrote
    (subst (λ l. ReadsTo p.old.ledgers.reads l.reads s.queries s.queries) (sym ledgers)
    (reads_still p.old.ledgers.reads s.queries))
    (ap (λ (l : Ledgers). l.upkeep) ledgers)
    p.stands.settled (samples_here p new s.queries samples refl) refl refl refl
    (on_ok result (AllKeep p.config p.history new.cursors (open_queries s.queries)) keep)
    (pinned_still p new s pinned refl) pinned none_opened
    (position ∙ p.stands.position)

-- ---- the line as a call has it

-- a session that meets a line
abbrev pub here_of : {W : ℕ} (config : Config) (old : Moment W) (before : Option (List ℕ)) (line : List ℕ)
    (history : List JournalEntry) (s : State) → Stands config old history s → Here W
here_of {W} config old before line history s stands = record {
  config = config;
  history = history;
  s = s;
  old = old;
  stands = stands;
  before = before;
  line = line;
}
