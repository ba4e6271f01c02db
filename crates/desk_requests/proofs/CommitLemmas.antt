-- Lemmas on `add` and `del`: what becomes of an operation is a step of a session.
use Rattle.std.proofs.Common.{◌≡◌, ℕ, ◌+◌, ◌-◌, ◌&&◌, nat_le, Bool, true, false, cond}
use Rattle.std.proofs.Common.{List, [], ◌∷◌, ◌++◌, length, take, map, slice_get, Option, Some, is_some}
use Rattle.std.proofs.Common.{Result, Ok, refl, sym, ap, ◌∙◌, subst, arith, inl, inr}
use Rattle.std.proofs.Common.{append_assoc, append-nil, length-append}
use Rattle.std.proofs.lemmas.List.{take_at, map-append}
use Rattle.line_io.specs.declared.source.Failed.{Failed}
use Rattle.hamming_model.specs.History.{JournalEntry, Operation, Decision, is_accepted, code_at, decision_on, rows_of}
use Rattle.hamming_model.specs.History as journal
use Rattle.hamming_model.specs.Recoded.{cut_entry, cut_history, cut_operation}
use Rattle.hamming_model.proofs.RecodedLemmas.{decision_recoded}
use Rattle.entry_log.specs.Decisions.{decision_of}
use Rattle.entry_log.specs.declared.decision.Decision as chosen
use Rattle.entry_log.specs.declared.decision.Decision.TheVariants.{Added, Taken, Deleted, Absent, Full}
use Rattle.part_layout.specs.declared.config.Config.{Config}
use Rattle.query_protocol.specs.Requests.{LineRequest, Add, Del}
use Rattle.query_protocol.specs.Replies.{reply_line, LineReply}
use Rattle.query_protocol.specs.Replies as reply
use Rattle.session_desk.specs.Calls.{CommitsAt, Learns, OnlyLearns}
use Rattle.session_desk.specs.Desks.{DeskState, seen_history}
use Rattle.session_model.specs.State.{State, open_queries}
use Rattle.session_model.specs.Entries.{Exchange, CommitsOperation, Declines}
use Rattle.session_model.specs.Step.{Answers}
use Rattle.session_model.specs.Upkeep.{other_steps}
use Rattle.session_model.specs.Commits.{accepted, committed, commit_of}
use Rattle.open_queries.specs.Writing.{Writes}
use Rattle.session_model.specs.Ledger.{Ledgers}
use Rattle.open_session.specs.Growth.{HistoryGrows}
use Rattle.open_session.specs.KeptDesk.{KeepsDesk, pins_of}
use Rattle.open_session.specs.LastPins.{LeavesPins, may_pin, was_opened}
use Rattle.open_session.specs.Moments.{Moment, ReadsTo, Spends}
use Rattle.open_session.specs.Meaning.{AllKeep, Means}
use Rattle.desk_requests.specs.Commits.{CommitsAs, IsDecided, HadNoMemory, decided_reply}
use Rattle.open_session.proofs.MomentLemmas.{as_long, reads_still, seen_longer, spends_seen}
use Rattle.open_session.proofs.BoundLemmas.{all_settled_later}
use Rattle.open_session.proofs.LastPinsLemmas.{opens_none, pins_still}
use Rattle.open_session.proofs.QueryLemmas.{keep_later}
use Rattle.open_session.proofs.Here.{Here, StepTo, asked_here, exchange_here, grows_by, inside_of, keep_learned, on_ok}
use Rattle.open_session.proofs.Here.{pinned_still, prefix_of, quiet, quiet_learns, samples_here, settled_learned, whole_here, within_new, writes_one}

slice_get_at : (history : List JournalEntry) (entry : JournalEntry) (later : List JournalEntry)
    → slice_get (history ++ entry ∷ later) (length history) ≡ Some entry
slice_get_at [] entry later = refl
slice_get_at (first ∷ history) entry later = slice_get_at history entry later

-- ---- an accepted operation

-- where the desk had learned what it decided on
module _ {A : Type 0} {W : ℕ} (p : Here W) (after : Option (List ℕ)) (result : Result A Failed)
    (new : Moment W) (operation : Operation) (kind : Decision) (asked : LineRequest) (this : LineReply)
    (is : asked_here p ≡ Ok (Some asked)) (cursors : new.cursors ≡ p.old.cursors)
    (pinned : new.pinned ≡ p.old.pinned) (ledgers : new.ledgers ≡ p.old.ledgers) (samples : new.samples ≡ p.old.samples)
    (keeps : KeepsDesk p.old.desk new.desk)
    (pins : pins_of new.desk ≡ pins_of p.old.desk) (last_pins : new.desk.pins ≡ p.old.desk.pins)
    (none_opened : (may_pin (Ok (Some asked)) && was_opened (this ∷ [])) ≡ false)
    (mid : DeskState) (learns : Learns p.old.desk mid.seen) (same : mid.config ≡ p.old.desk.config) where
  -- the entry of this session
  abbrev entry : ℕ → JournalEntry
  entry who = record { who = who; operation = operation }

  -- the history before it
  abbrev before : List JournalEntry
  before = seen_history mid

  -- the history with it
  abbrev longer : List JournalEntry
  longer = before ++ entry p.s.who ∷ []

  abbrev number : ℕ
  number = length before + 1

  abbrev exchange : Exchange
  exchange = exchange_here p new (this ∷ []) number

  -- the state after it
  abbrev moved : State
  moved = record p.s { position = number }

  module _ (commits : accepted (Ok (Some asked)) (this ∷ []) ≡ operation ∷ [])
      (history_is : longer ≡ seen_history new.desk) (position : new.position ≡ number)
      (decided : decision_on before p.config.entries operation ≡ kind) where
    commit : commit_of p.s.who p.config exchange ≡ entry p.s.who ∷ []
    commit =
        ap (λ r. committed p.s.who r (this ∷ [])) is
        ∙ ap (λ (l : List Operation). map {B = JournalEntry} (λ o. record { who = p.s.who; operation = o }) l) commits

    -- the history is longer by the entry, whatever comes later
    commits_it : (later : List JournalEntry)
        → CommitsOperation p.config (longer ++ later) operation kind this p.s exchange moved
    commits_it later =
        let all = longer ++ later in
        let parted : all ≡ before ++ entry p.s.who ∷ later = append_assoc before (entry p.s.who ∷ []) later in
        let there : number - 1 ≡ length before = omega arith in
        let front : take (number - 1) all ≡ before =
        ap (take (number - 1)) parted ∙ take_at before (entry p.s.who ∷ later) (number - 1) (sym there) in
        record {
          later = omega (arith, within_new p mid learns, as_long mid);
          entry = ap (slice_get all) there ∙ ap (λ h. slice_get h (length before)) parted
              ∙ slice_get_at before (entry p.s.who) later;
          decided = ap (λ h. decision_on h p.config.entries operation) front ∙ decided;
          said_is = refl;
          position = refl;
        }

    seen_is : length new.desk.seen ≡ number
    seen_is = omega (
      arith,
      as_long new.desk,
      ap length history_is,
      length-append before (entry p.s.who ∷ []),
    )

    grown : HistoryGrows p.old.desk.alone p.s.who p.history (commit_of p.s.who p.config exchange) longer
    grown =
        let others = grows_by p mid learns same [] refl in
        record {
          more = others.more;
          others = others.others;
          none = others.none;
          after_is = ap (λ h. h ++ entry p.s.who ∷ []) (others.after_is ∙ append-nil (p.history ++ others.more))
              ∙ ap (λ l. (p.history ++ others.more) ++ l) (sym commit);
        }

    means : Means p.config new.desk longer moved
    means = record {
      config_is = keeps.config ∙ p.stands.means.config_is;
      history_is = history_is;
      within = omega (arith, length-append before (entry p.s.who ∷ []));
      whole = λ alone. omega (arith, length-append before (entry p.s.who ∷ []));
      who = p.stands.means.who ∙ sym keeps.who;
      layouts = λ alone. p.stands.means.layouts (sym keeps.alone ∙ alone) ∙ sym (keeps.layouts (sym keeps.alone ∙ alone));
      are_layouts = p.stands.means.are_layouts;
    }

    pub accepted_step : ((later : List JournalEntry)
        → CommitsOperation p.config (longer ++ later) operation kind this p.s exchange moved
        → Answers (Ok (Some asked)) p.config (longer ++ later) p.s exchange moved)
        → Writes p.before after result (reply_line this) → StepTo p after result new
    accepted_step answers wrote =
        let beside = other_steps p.config.shards (this ∷ []) (length new.desk.seen) in
        let further = entry p.s.who ∷ [] in
        record {
          exchange = exchange;
          state = moved;
          is_line = refl;
          past = longer;
          grows = grown;
          step = λ later. record {
            layouts = p.stands.means.are_layouts;
            answers = subst (λ r. Answers r p.config (longer ++ later) p.s exchange moved) (sym is)
                (answers later (commits_it later));
          };
          aside = λ alone. record {
            position = omega (arith, whole_here p mid learns alone, as_long mid, ap length commit);
            layouts = refl;
            seen = seen_is;
          };
          seen = sym (as_long new.desk) ∙ ap length (sym history_is);
          wrote = writes_one p.before after result this wrote;
          reads = subst (λ l. ReadsTo p.old.ledgers.reads l.reads p.s.queries moved.queries) (sym ledgers)
              (reads_still p.old.ledgers.reads p.s.queries);
          spent = subst (λ l. Spends p.old.desk new.desk p.old.ledgers.upkeep l.upkeep beside) (sym ledgers)
              (spends_seen p.old.desk new.desk p.old.ledgers.upkeep beside
              (omega (arith, seen_longer p.old.desk mid.seen learns, as_long mid, seen_is)) pins);
          settled = all_settled_later p.config before further p.s.queries
              (settled_learned p mid learns same p.s.queries p.stands.settled);
          samples = samples_here p new p.s.queries samples refl;
          means = means;
          keeps = keeps;
          keep = on_ok result (AllKeep p.config longer new.cursors (open_queries p.s.queries))
              (subst (λ l. AllKeep p.config longer l (open_queries p.s.queries)) (sym cursors)
              (keep_later p.config before further p.old.cursors (open_queries p.s.queries)
              (keep_learned p mid learns same p.old.cursors (open_queries p.s.queries) p.stands.keep)));
          pinned = pinned_still p new moved pinned refl;
          pins = subst (λ r. LeavesPins r (this ∷ []) number p.old.desk new.desk p.old.pinned new.pinned) (sym is)
              (pins_still (Ok (Some asked)) (this ∷ []) number p.old.desk new.desk p.old.pinned new.pinned none_opened last_pins pinned);
          position = position;
        }

-- ---- an operation that was declined, and one that found no memory

-- the state after it
abbrev moved_on : {W : ℕ} → Here W → Moment W → State
moved_on p new = record p.s { position = length new.desk.seen }

declined : {W : ℕ} (p : Here W) (new : Moment W) (operation : Operation) (why : Decision) (said : LineReply)
    (later : List JournalEntry) → Learns p.old.desk new.desk.seen
    → decision_on (seen_history new.desk) p.config.entries operation ≡ why
    → Declines p.config (seen_history new.desk ++ later) operation why said p.s
    (exchange_here p new (said ∷ []) (length new.desk.seen)) (moved_on p new)
declined p new operation why said later learns decided = record {
  not_before = within_new p new.desk learns;
  within = inside_of new.desk later (length new.desk.seen) (omega arith);
  decided = ap (λ h. decision_on h p.config.entries operation) (prefix_of new.desk later (length new.desk.seen) refl) ∙ decided;
  said_is = refl;
  position = refl;
}

-- ---- by the decision

never_deleted : (present full : Bool) → cond present journal.Taken (cond full journal.Full journal.Added) ≡ journal.Deleted → ⊥
never_deleted true full is = cc
never_deleted false true is = cc
never_deleted false false is = cc

never_absent : (present full : Bool) → cond present journal.Taken (cond full journal.Full journal.Added) ≡ journal.Absent → ⊥
never_absent true full is = cc
never_absent false true is = cc
never_absent false false is = cc

never_added : (present full : Bool) → cond present (cond full journal.Full journal.Deleted) journal.Absent ≡ journal.Added → ⊥
never_added true true is = cc
never_added true false is = cc
never_added false full is = cc

never_taken : (present full : Bool) → cond present (cond full journal.Full journal.Deleted) journal.Absent ≡ journal.Taken → ⊥
never_taken true true is = cc
never_taken true false is = cc
never_taken false full is = cc

module _ {A : Type 0} {W : ℕ} (p : Here W) (after : Option (List ℕ)) (result : Result A Failed)
    (new : Moment W) (key : ℕ) (this : LineReply) (cursors : new.cursors ≡ p.old.cursors)
    (pinned : new.pinned ≡ p.old.pinned) (ledgers : new.ledgers ≡ p.old.ledgers) (samples : new.samples ≡ p.old.samples)
    (wrote : Writes p.before after result (reply_line this)) where
  -- the cursors still stand for the queries
  keep_still : AllKeep p.config p.history new.cursors (open_queries p.s.queries)
  keep_still = subst (λ l. AllKeep p.config p.history l (open_queries p.s.queries)) (sym cursors) p.stands.keep

  -- there was no memory
  refused : (asked : LineRequest) → asked_here p ≡ Ok (Some asked)
      → accepted (Ok (Some asked)) (reply.NoMemory ∷ []) ≡ []
      → ((later : List JournalEntry) → Answers (Ok (Some asked)) p.config (p.history ++ later) p.s
      (exchange_here p new (reply.NoMemory ∷ []) p.s.position) p.s)
      → HadNoMemory p.old.desk new.desk p.old.position new.position this → StepTo p after result new
  refused asked is none answers no_memory =
      quiet p after result new (Ok (Some asked)) (reply.NoMemory ∷ []) is none
      (opens_none (Ok (Some asked)) (reply.NoMemory ∷ []) refl) no_memory.learns ledgers pinned
      no_memory.position_is samples keep_still answers
      (writes_one p.before after result reply.NoMemory
      (subst (λ r. Writes p.before after result (reply_line r)) no_memory.told wrote))

  module _ (kept_operation : Operation) (decides : IsDecided p.old.desk new.desk new.position key kept_operation this) where
    abbrev operation : Operation
    operation = cut_operation p.config.bits kept_operation

    abbrev commits : CommitsAt p.old.desk new.desk kept_operation decides.decided
    commits = decides.commits

    -- the desk once it had learned what was decided on
    abbrev mid : DeskState
    mid = record p.old.desk { seen = commits.before }

    abbrev kind : Decision
    kind = decision_of decides.decided.decision

    decided_here : decision_on (seen_history mid) p.config.entries operation ≡ kind
    decided_here =
        ap (λ (c : Config). decision_on (cut_history c.bits commits.before) p.config.entries operation) p.stands.means.config_is
        ∙ decision_recoded (take p.config.bits) commits.before p.config.entries kept_operation
        ∙ ap (λ (c : Config). decision_on commits.before c.entries kept_operation) (sym p.stands.means.config_is)
        ∙ sym commits.decision

    keeps : KeepsDesk p.old.desk new.desk
    keeps = subst (KeepsDesk p.old.desk) (sym commits.after) (record {
      board = refl;
      who = refl;
      config = refl;
      fronts = refl;
      done = refl;
      late = refl;
      alone = refl;
      layouts = λ alone. refl;
    })

    pins : pins_of new.desk ≡ pins_of p.old.desk
    pins = ap pins_of commits.after

    last_pins : new.desk.pins ≡ p.old.desk.pins
    last_pins = ap (λ (d : DeskState). d.pins) commits.after

    -- the entries that were seen, by whether the operation was accepted
    seen_by : (accepts : Bool) → is_accepted kind ≡ accepts
        → new.desk.seen ≡ cond accepts (commits.before ++ record { who = p.old.desk.who; operation = kept_operation } ∷ []) commits.before
    seen_by accepts is =
        commits.seen
        ∙ ap (λ b. cond b (commits.before ++ record { who = p.old.desk.who; operation = kept_operation } ∷ []) commits.before) is

    -- an accepted one is behind the history
    history_more : is_accepted kind ≡ true
        → seen_history mid ++ record { who = p.s.who; operation = operation } ∷ [] ≡ seen_history new.desk
    history_more is =
        let stored : JournalEntry = record { who = p.old.desk.who; operation = kept_operation } in
        let bits = p.config.bits in
        ap (λ w. seen_history mid ++ record { who = w; operation = operation } ∷ []) p.stands.means.who
        ∙ ap (λ (c : Config). cut_history c.bits commits.before ++ cut_entry bits stored ∷ []) p.stands.means.config_is
        ∙ sym (map-append (cut_entry bits) commits.before (stored ∷ []))
        ∙ ap (cut_history bits) (sym (seen_by true is))
        ∙ ap (λ (c : Config). cut_history c.bits new.desk.seen) (sym (keeps.config ∙ p.stands.means.config_is))

    position_is : new.position ≡ length new.desk.seen
    position_is = decides.position_is ∙ commits.position

    position_more : is_accepted kind ≡ true → new.position ≡ length (seen_history mid) + 1
    position_more is = omega (
      arith,
      position_is,
      sym (as_long new.desk),
      ap length (sym (history_more is)),
      length-append (seen_history mid) (record { who = p.s.who; operation = operation } ∷ []),
    )

    -- with one that isn't the desk only learns
    only_here : is_accepted kind ≡ false → OnlyLearns p.old.desk new.desk
    only_here is = record {
      learns = subst (Learns p.old.desk) (sym (seen_by false is)) commits.learns;
      after = commits.after;
    }

    decided_now : is_accepted kind ≡ false → decision_on (seen_history new.desk) p.config.entries operation ≡ kind
    decided_now is =
        ap (λ (c : Config). decision_on (cut_history c.bits new.desk.seen) p.config.entries operation) keeps.config
        ∙ ap (λ (l : List JournalEntry). decision_on (cut_history p.old.desk.config.bits l) p.config.entries operation) (seen_by false is)
        ∙ decided_here

    declined_step : (asked : LineRequest) (said : LineReply) → asked_here p ≡ Ok (Some asked) → this ≡ said
        → is_accepted kind ≡ false → accepted (Ok (Some asked)) (said ∷ []) ≡ []
        → (may_pin (Ok (Some asked)) && was_opened (said ∷ [])) ≡ false
        → ((later : List JournalEntry) → Answers (Ok (Some asked)) p.config (seen_history new.desk ++ later) p.s
        (exchange_here p new (said ∷ []) (length new.desk.seen)) (moved_on p new))
        → StepTo p after result new
    declined_step asked said is told no_entry none none_opened answers =
        let s = p.s in
        let only = only_here no_entry in
        quiet_learns p after result new (Ok (Some asked)) (said ∷ []) (moved_on p new) is none (length new.desk.seen)
        only (whole_here p new.desk only.learns) (omega arith) answers
        (writes_one p.before after result said
        (subst (λ r. Writes p.before after result (reply_line r)) told wrote))
        (subst (λ l. ReadsTo p.old.ledgers.reads l.reads s.queries s.queries) (sym ledgers)
        (reads_still p.old.ledgers.reads s.queries))
        (ap (λ (l : Ledgers). l.upkeep) ledgers)
        p.stands.settled (samples_here p new s.queries samples refl) refl refl refl
        (on_ok result (AllKeep p.config p.history new.cursors (open_queries s.queries)) keep_still)
        (pinned_still p new (moved_on p new) pinned refl) pinned none_opened position_is

    -- the reply to one that isn't accepted, at the end of what was seen
    told_at_end : (reply_at : ℕ → LineReply) → this ≡ reply_at new.position → this ≡ reply_at (length new.desk.seen)
    told_at_end reply_at told = told ∙ ap reply_at position_is

    -- ---- `add`

    module _ (code : List ℕ) (is : asked_here p ≡ Ok (Some (Add key code)))
        (is_add : operation ≡ journal.Add key code) where
      add_accepted : kind ≡ journal.Added → this ≡ reply.Added key (length (seen_history mid) + 1)
          → StepTo p after result new
      add_accepted added told =
          let taken : is_accepted kind ≡ true = ap is_accepted added in
          let entry : Operation → JournalEntry = λ o. record { who = p.s.who; operation = o } in
          accepted_step p after result new (journal.Add key code) journal.Added (Add key code)
          (reply.Added key (length (seen_history mid) + 1)) is cursors pinned ledgers samples keeps pins last_pins refl mid commits.learns
          refl refl
          (ap (λ o. seen_history mid ++ entry o ∷ []) (sym is_add) ∙ history_more taken) (position_more taken)
          (ap (decision_on (seen_history mid) p.config.entries) (sym is_add) ∙ decided_here ∙ added)
          (λ later commits. inr (inl commits))
          (subst (λ r. Writes p.before after result (reply_line r)) told wrote)

      -- why it isn't accepted, on all that was seen
      add_why : (why : Decision) → kind ≡ why → is_accepted kind ≡ false
          → decision_on (seen_history new.desk) p.config.entries (journal.Add key code) ≡ why
      add_why why same no_entry =
          ap (decision_on (seen_history new.desk) p.config.entries) (sym is_add) ∙ decided_now no_entry ∙ same

      add_by : (chosen_is : chosen.Decision) → decides.decided.decision ≡ chosen_is
          → this ≡ decided_reply key chosen_is new.position → StepTo p after result new
      add_by Added same told =
          let added : kind ≡ journal.Added = ap decision_of same in
          add_accepted added (told ∙ ap (reply.Added key) (position_more (ap is_accepted added)))
      add_by Taken same told =
          let taken : kind ≡ journal.Taken = ap decision_of same in
          let no_entry : is_accepted kind ≡ false = ap is_accepted taken in
          declined_step (Add key code) (reply.Taken key (length new.desk.seen)) is (told_at_end (reply.Taken key) told)
          no_entry refl refl
          (λ later. inr (inr (inl (declined p new (journal.Add key code) journal.Taken
          (reply.Taken key (length new.desk.seen)) later (only_here no_entry).learns (add_why journal.Taken taken no_entry)))))
      add_by Deleted same told =
          absurd (never_deleted (is_some (code_at (rows_of (seen_history mid)) key))
          (nat_le p.config.entries (length (seen_history mid)))
          (ap (decision_on (seen_history mid) p.config.entries) (sym is_add) ∙ decided_here ∙ ap decision_of same))
      add_by Absent same told =
          absurd (never_absent (is_some (code_at (rows_of (seen_history mid)) key))
          (nat_le p.config.entries (length (seen_history mid)))
          (ap (decision_on (seen_history mid) p.config.entries) (sym is_add) ∙ decided_here ∙ ap decision_of same))
      add_by Full same told =
          let full : kind ≡ journal.Full = ap decision_of same in
          let no_entry : is_accepted kind ≡ false = ap is_accepted full in
          declined_step (Add key code) (reply.Full (length new.desk.seen)) is (told_at_end reply.Full told) no_entry refl refl
          (λ later. inr (inr (inr (declined p new (journal.Add key code) journal.Full
          (reply.Full (length new.desk.seen)) later (only_here no_entry).learns (add_why journal.Full full no_entry)))))

    -- ---- `del`

    module _ (is : asked_here p ≡ Ok (Some (Del key))) (is_delete : operation ≡ journal.Delete key) where
      delete_accepted : kind ≡ journal.Deleted → this ≡ reply.Deleted key (length (seen_history mid) + 1)
          → StepTo p after result new
      delete_accepted deleted told =
          let taken : is_accepted kind ≡ true = ap is_accepted deleted in
          let entry : Operation → JournalEntry = λ o. record { who = p.s.who; operation = o } in
          accepted_step p after result new (journal.Delete key) journal.Deleted (Del key)
          (reply.Deleted key (length (seen_history mid) + 1)) is cursors pinned ledgers samples keeps pins last_pins refl mid commits.learns
          refl refl
          (ap (λ o. seen_history mid ++ entry o ∷ []) (sym is_delete) ∙ history_more taken) (position_more taken)
          (ap (decision_on (seen_history mid) p.config.entries) (sym is_delete) ∙ decided_here ∙ deleted)
          (λ later commits. inr (inl commits))
          (subst (λ r. Writes p.before after result (reply_line r)) told wrote)

      -- why it isn't accepted, on all that was seen
      delete_why : (why : Decision) → kind ≡ why → is_accepted kind ≡ false
          → decision_on (seen_history new.desk) p.config.entries (journal.Delete key) ≡ why
      delete_why why same no_entry =
          ap (decision_on (seen_history new.desk) p.config.entries) (sym is_delete) ∙ decided_now no_entry ∙ same

      delete_by : (chosen_is : chosen.Decision) → decides.decided.decision ≡ chosen_is
          → this ≡ decided_reply key chosen_is new.position → StepTo p after result new
      delete_by Deleted same told =
          let deleted : kind ≡ journal.Deleted = ap decision_of same in
          delete_accepted deleted (told ∙ ap (reply.Deleted key) (position_more (ap is_accepted deleted)))
      delete_by Absent same told =
          let absent : kind ≡ journal.Absent = ap decision_of same in
          let no_entry : is_accepted kind ≡ false = ap is_accepted absent in
          declined_step (Del key) (reply.Absent key (length new.desk.seen)) is (told_at_end (reply.Absent key) told)
          no_entry refl refl
          (λ later. inr (inr (inl (declined p new (journal.Delete key) journal.Absent
          (reply.Absent key (length new.desk.seen)) later (only_here no_entry).learns (delete_why journal.Absent absent no_entry)))))
      delete_by Added same told =
          absurd (never_added (is_some (code_at (rows_of (seen_history mid)) key))
          (nat_le p.config.entries (length (seen_history mid)))
          (ap (decision_on (seen_history mid) p.config.entries) (sym is_delete) ∙ decided_here ∙ ap decision_of same))
      delete_by Taken same told =
          absurd (never_taken (is_some (code_at (rows_of (seen_history mid)) key))
          (nat_le p.config.entries (length (seen_history mid)))
          (ap (decision_on (seen_history mid) p.config.entries) (sym is_delete) ∙ decided_here ∙ ap decision_of same))
      delete_by Full same told =
          let full : kind ≡ journal.Full = ap decision_of same in
          let no_entry : is_accepted kind ≡ false = ap is_accepted full in
          declined_step (Del key) (reply.Full (length new.desk.seen)) is (told_at_end reply.Full told) no_entry refl refl
          (λ later. inr (inr (inr (declined p new (journal.Delete key) journal.Full
          (reply.Full (length new.desk.seen)) later (only_here no_entry).learns (delete_why journal.Full full no_entry)))))

    -- what was told, by the position that was taken on
    told_here : this ≡ decided_reply key decides.decided.decision new.position
    told_here = decides.told ∙ ap (decided_reply key decides.decided.decision) (sym decides.position_is)

  -- ---- the calls

  pub add_step : (code stored : List ℕ) → asked_here p ≡ Ok (Some (Add key code)) → take p.config.bits stored ≡ code
      → CommitsAs p.old.desk new.desk p.old.position new.position key (journal.Add key stored) this
      → StepTo p after result new
  add_step code stored is same (inl decides) =
      add_by (journal.Add key stored) decides code is (ap (journal.Add key) same) decides.decided.decision refl
      (told_here (journal.Add key stored) decides)
  add_step code stored is same (inr no_memory) =
      refused (Add key code) is refl (λ later. inl (record { said_is = refl; position = refl; same = refl })) no_memory

  pub delete_step : asked_here p ≡ Ok (Some (Del key))
      → CommitsAs p.old.desk new.desk p.old.position new.position key (journal.Delete key) this
      → StepTo p after result new
  delete_step is (inl decides) =
      delete_by (journal.Delete key) decides is refl decides.decided.decision refl
      (told_here (journal.Delete key) decides)
  delete_step is (inr no_memory) =
      refused (Del key) is refl (λ later. inl (record { said_is = refl; position = refl; same = refl })) no_memory
