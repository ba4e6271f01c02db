-- Lemmas on `get` and `layout`: what each tells is a step of a session.
use Rattle.std.proofs.Common.{◌≡◌, ◌<◌, ℕ, List, [], ◌∷◌, length, take, slice_set}
use Rattle.std.proofs.Common.{Option, Some, None, Result, Ok, refl, sym, ap, ◌∙◌, subst, arith}
use Rattle.line_io.specs.declared.source.Failed.{Failed}
use Rattle.std.specs.Option.{option_map}
use Rattle.hamming_model.specs.History.{JournalEntry, code_at, rows_of}
use Rattle.hamming_model.specs.Recoded.{cut_history}
use Rattle.hamming_model.proofs.RecodedLemmas.{code_recoded, rows_recoded}
use Rattle.part_layout.specs.declared.config.Config.{Config}
use Rattle.part_layout.specs.Laid.{Laid}
use Rattle.part_layout.specs.Text.{layout_text}
use Rattle.query_protocol.specs.Requests.{Get, Layout}
use Rattle.query_protocol.specs.Replies.{text, reply_line, LineReply}
use Rattle.query_protocol.specs.Replies as reply
use Rattle.session_desk.specs.Calls.{OnlyLearns, TellsLayout}
use Rattle.session_desk.specs.Desks.{DeskState, seen_history}
use Rattle.session_model.specs.State.{State, open_queries}
use Rattle.hamming_model.specs.Layouts.{IsLayout}
use Rattle.session_model.specs.Step.{AreLayouts}
use Rattle.session_model.specs.Ledger.{Ledgers, layout_at}
use Rattle.session_model.specs.Entries.{code_reply}
use Rattle.session_model.specs.Upkeep.{other_steps}
use Rattle.session_model.specs.Commits.{accepted}
use Rattle.open_queries.specs.Writing.{Writes}
use Rattle.open_session.specs.KeptDesk.{KeepsDesk, pins_of}
use Rattle.open_session.specs.Moments.{Moment, ReadsTo, Spends}
use Rattle.open_session.specs.Meaning.{AllKeep}
use Rattle.open_session.proofs.DeskLemmas.{layout_there, same_layouts, with_layout}
use Rattle.open_session.proofs.LastPinsLemmas.{pins_still}
use Rattle.open_session.proofs.MomentLemmas.{reads_still, seen_longer, spends_seen}
use Rattle.open_session.proofs.Here.{Here, StepTo, asked_here, inside_of, keep_learned, layout_here, means_to, on_ok, pinned_still, prefix_of}
use Rattle.open_session.proofs.Here.{quiet_by, quiet_learns, samples_here, settled_learned, whole_here, within_new, writes_one}

-- the code of a key in the history, by the code that words keep
pub code_here : (config : Config) (desk : DeskState) (history : List JournalEntry) (key : ℕ)
    → desk.config ≡ config → history ≡ seen_history desk
    → code_at (rows_of history) key ≡ option_map (take config.bits) (code_at (rows_of desk.seen) key)
code_here config desk history key is_config is_history =
    ap (λ h. code_at (rows_of h) key) is_history
    ∙ ap (λ (c : Config). code_at (rows_of (cut_history c.bits desk.seen)) key) is_config
    ∙ ap (λ rows. code_at rows key) (rows_recoded (take config.bits) desk.seen)
    ∙ code_recoded (take config.bits) (rows_of desk.seen) key

module _ {A : Type 0} {W : ℕ} (p : Here W) (after : Option (List ℕ)) (result : Result A Failed)
    (new : Moment W) (cursors : new.cursors ≡ p.old.cursors) (pinned : new.pinned ≡ p.old.pinned)
    (ledgers : new.ledgers ≡ p.old.ledgers) (samples : new.samples ≡ p.old.samples) where
  keep_still : AllKeep p.config p.history new.cursors (open_queries p.s.queries)
  keep_still = subst (λ l. AllKeep p.config p.history l (open_queries p.s.queries)) (sym cursors) p.stands.keep

  -- ---- `get`

  module _ (key : ℕ) (is : asked_here p ≡ Ok (Some (Get key))) (only : OnlyLearns p.old.desk new.desk)
      (position : new.position ≡ length new.desk.seen) where
    -- what the desk keeps of the code of the key
    kept_code : (kept : Option (List ℕ)) → kept ≡ code_at (rows_of new.desk.seen) key
        → code_at (rows_of (seen_history new.desk)) key ≡ option_map (take p.config.bits) kept
    kept_code kept same =
        code_here p.config new.desk (seen_history new.desk) key
        (ap (λ (d : DeskState). d.config) only.after ∙ p.stands.means.config_is) refl
        ∙ ap (option_map (take p.config.bits)) (sym same)

    -- nothing is committed by it
    no_entry : (told : Option (List ℕ)) (at : ℕ)
        → accepted (Ok (Some (Get key))) (code_reply key told at ∷ []) ≡ []
    no_entry None at = refl
    no_entry (Some code) at = refl

    pub get_step : (kept : Option (List ℕ)) → kept ≡ code_at (rows_of new.desk.seen) key
        → Writes p.before after result
        (reply_line (code_reply key (option_map (take p.config.bits) kept) new.position))
        → StepTo p after result new
    get_step kept same wrote =
        let told = option_map (take p.config.bits) kept in
        let at = length new.desk.seen in
        let this = code_reply key told at in
        let s = p.s in
        let then : State = record s { position = at } in
        quiet_learns p after result new (Ok (Some (Get key))) (this ∷ []) then is (no_entry told at) at only
        (whole_here p new.desk only.learns) (omega arith)
        (λ later. record {
          not_before = within_new p new.desk only.learns;
          within = inside_of new.desk later at (omega arith);
          said_is = ap (λ o. code_reply key o at ∷ [])
              (sym (ap (λ h. code_at (rows_of h) key) (prefix_of new.desk later at refl) ∙ kept_code kept same));
          position = refl;
        })
        (writes_one p.before after result this
        (subst (λ n. Writes p.before after result (reply_line (code_reply key told n))) position wrote))
        (subst (λ l. ReadsTo p.old.ledgers.reads l.reads s.queries s.queries) (sym ledgers)
        (reads_still p.old.ledgers.reads s.queries))
        (ap (λ (l : Ledgers). l.upkeep) ledgers)
        p.stands.settled (samples_here p new s.queries samples refl) refl refl refl
        (on_ok result (AllKeep p.config p.history new.cursors (open_queries s.queries)) keep_still)
        (pinned_still p new then pinned refl) pinned refl position

  -- ---- `layout`

  module _ (shard : ℕ) (inside : shard < p.config.shards) (told : List ℕ) (is : asked_here p ≡ Ok (Some (Layout shard)))
      (tells : TellsLayout p.old.desk new.desk shard told) (position : new.position ≡ p.old.position) where
    keeps : KeepsDesk p.old.desk new.desk
    keeps = subst (KeepsDesk p.old.desk) (sym tells.after) (record {
      board = refl;
      who = refl;
      config = refl;
      fronts = refl;
      done = refl;
      late = refl;
      alone = refl;
      layouts = λ alone. refl;
    })

    -- the layout that the line saw, and those of the state beside it
    abbrev parts : List (List ℕ)
    parts = tells.laid.parts

    abbrev layouts : List (List (List ℕ))
    layouts = slice_set p.s.layouts shard parts

    are_layouts : AreLayouts p.config layouts
    are_layouts = with_layout p.s.layouts shard parts p.config p.stands.means.are_layouts
        (subst (λ bits. IsLayout bits parts) (tells.bits ∙ ap (λ (c : Config). c.bits) p.stands.means.config_is)
        tells.is_laid.layout)

    -- the text is that of the layout
    told_here : told ≡ layout_text (layout_at layouts shard)
    told_here = tells.text ∙ ap layout_text (sym (layout_there p.s.layouts shard parts
        (omega (arith, inside, p.stands.means.are_layouts.number))))

    pub layout_step : Writes p.before after result (reply_line (reply.Layout shard told)) → StepTo p after result new
    layout_step wrote =
        let this : LineReply = reply.Layout shard (layout_text (layout_at layouts shard)) in
        let s = p.s in
        let learns = tells.learns in
        let beside = other_steps p.config.shards (this ∷ []) (length new.desk.seen) in
        quiet_by p after result new (Ok (Some (Layout shard))) (this ∷ []) s is refl s.position layouts learns
        (λ alone. refl) are_layouts
        (λ alone. same_layouts s.layouts shard parts
        (ap (λ (l : Laid). l.parts) (tells.alone alone).0 ∙ layout_here p alone shard))
        (λ later. record { said_is = refl; position = refl; same = refl })
        (writes_one p.before after result this
        (subst (λ t. Writes p.before after result (reply_line (reply.Layout shard t))) told_here wrote))
        (subst (λ l. ReadsTo p.old.ledgers.reads l.reads s.queries s.queries) (sym ledgers)
        (reads_still p.old.ledgers.reads s.queries))
        (subst (λ l. Spends p.old.desk new.desk p.old.ledgers.upkeep l.upkeep beside) (sym ledgers)
        (spends_seen p.old.desk new.desk p.old.ledgers.upkeep beside (seen_longer p.old.desk new.desk.seen learns)
        (ap pins_of tells.after)))
        (settled_learned p new.desk learns keeps.config s.queries p.stands.settled)
        (samples_here p new s.queries samples refl)
        (means_to p new.desk s keeps (within_new p new.desk learns)
        (λ alone. sym (whole_here p new.desk learns alone)) refl refl)
        keeps
        (on_ok result (AllKeep p.config (seen_history new.desk) new.cursors (open_queries s.queries))
        (keep_learned p new.desk learns keeps.config new.cursors (open_queries s.queries) keep_still))
        (pinned_still p new s pinned refl)
        (pins_still (Ok (Some (Layout shard))) (this ∷ []) s.position p.old.desk new.desk p.old.pinned new.pinned refl
        (ap (λ (d : DeskState). d.pins) tells.after) pinned)
        (position ∙ p.stands.position)
