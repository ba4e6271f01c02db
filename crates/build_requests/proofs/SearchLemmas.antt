-- Lemmas on `search`: what it tells is a step of a session.
use Rattle.std.proofs.Common.{◌≡◌, ◌<◌, ℕ, ◌+◌, ◌*◌, true, List, [], ◌∷◌, ◌++◌, length, map, take, slice_set, Option, Some}
use Rattle.std.proofs.Common.{Result, Ok, OnOk, refl, sym, ap, ◌∙◌, subst, inl, inr, arith}
use Rattle.std.specs.List.{AllByRecursion}
use Rattle.std.proofs.Math.Nat.{add-mul}
use Rattle.std.specs.Arc.{arc_value}
use Rattle.line_io.specs.declared.source.Failed.{Failed}
use Rattle.hamming_model.specs.History.{JournalEntry, rows_of, shard_rows}
use Rattle.exchange_model.specs.Rounds.{IsSearchEnd}
use Rattle.layout_search.specs.Improves.{plain_sample}
use Rattle.layout_search.specs.declared.found.Found.{Found}
use Rattle.part_layout.specs.Laid.{Laid}
use Rattle.part_layout.specs.Text.{layout_text}
use Rattle.part_layout.specs.declared.config.Config.{Config}
use Rattle.query_protocol.specs.Requests.{Search}
use Rattle.query_protocol.specs.Replies.{reply_line, LineReply}
use Rattle.query_protocol.specs.Replies as reply
use Rattle.shard_version.specs.Contents.{Contents}
use Rattle.shard_rebuild.specs.Searching.{FindsFrom}
use Rattle.shard_rebuild.proofs.BuildLemmas.{build_lasts, learns_more}
use Rattle.hamming_model.specs.Layouts.{IsLayout}
use Rattle.session_desk.specs.Desks.{pin_position, seen_history}
use Rattle.session_model.specs.State.{State, open_queries}
use Rattle.session_model.specs.Step.{AreLayouts}
use Rattle.session_model.specs.Ledger.{layout_at}
use Rattle.session_model.specs.Searches.{samples_of}
use Rattle.open_queries.specs.Writing.{Writes}
use Rattle.open_session.specs.KeptBuild.{KeepsBuilds}
use Rattle.open_session.specs.KeptDesk.{KeepsDesk}
use Rattle.open_session.specs.Meaning.{AllKeep, IsSettled}
use Rattle.open_session.specs.Moments.{Moment, ReadsTo}
use Rattle.build_requests.specs.Searching.{HasSearched, LacksSearch, SearchesOver}
use Rattle.open_session.proofs.DeskLemmas.{IsHere, fewer_beyond, here_same, keeps, layout_there, pin_within, same_layouts, with_layout}
use Rattle.open_session.proofs.Here.{Here, StepTo, asked_here, front_of, inside_of, keep_learned, layout_here, means_to, on_ok, pinned_still}
use Rattle.open_session.proofs.Here.{quiet_by, samples_here, settled_learned, whole_here, within_here, within_new, writes_one}
use Rattle.open_session.proofs.LastPinsLemmas.{pins_moved}
use Rattle.open_session.proofs.MomentLemmas.{reads_still, seen_longer, seen_whole}
use Rattle.build_requests.proofs.StartLemmas.{beyond_one, shards_here}

-- ---- what a search keeps

module _ {W : ℕ} (old new : Moment W) (shard : ℕ) (over : SearchesOver W old new shard) where
  pub searched_here : (config : Config) → old.desk.config ≡ config → IsHere config new.desk
  searched_here config = here_same config old.desk new.desk over.comes.config

  pub searched_builds : KeepsBuilds old.desk new.desk
  searched_builds = build_lasts old.desk new.desk (learns_more old.desk new.desk over.comes.learns over.comes.config)

module _ {A : Type 0} {W : ℕ} (p : Here W) (after : Option (List ℕ)) (result : Result A Failed)
    (new : Moment W) (shard rounds : ℕ) (is : asked_here p ≡ Ok (Some (Search shard rounds))) where
  module _ (over : SearchesOver W p.old new shard) where
    kept : KeepsDesk p.old.desk new.desk
    kept = keeps W p.old.desk new.desk over.over.before over.over.after over.comes

    config_new : new.desk.config ≡ p.config
    config_new = kept.config ∙ p.stands.means.config_is

    reads_new : ReadsTo p.old.ledgers.reads new.ledgers.reads p.s.queries p.s.queries
    reads_new = subst (λ l. ReadsTo p.old.ledgers.reads l p.s.queries p.s.queries) (sym over.over.reads)
        (reads_still p.old.ledgers.reads p.s.queries)

    keep_new : OnOk result (AllKeep p.config (seen_history new.desk) new.cursors (open_queries p.s.queries))
    keep_new = on_ok result (AllKeep p.config (seen_history new.desk) new.cursors (open_queries p.s.queries))
        (subst (λ l. AllKeep p.config (seen_history new.desk) l (open_queries p.s.queries)) (sym over.over.cursors)
        (keep_learned p new.desk over.comes.learns kept.config p.old.cursors (open_queries p.s.queries) p.stands.keep))

    settled_new : AllByRecursion (IsSettled p.config (seen_history new.desk)) p.s.queries
    settled_new = settled_learned p new.desk over.comes.learns kept.config p.s.queries p.stands.settled

  -- ---- there was no memory

  pub lacks_step : LacksSearch W p.old new shard → Writes p.before after result (reply_line reply.NoMemory)
      → StepTo p after result new
  lacks_step lacks wrote =
      let over = lacks.over in
      let learns = over.comes.learns in
      let seen = length new.desk.seen in
      let s = p.s in
      let replies = reply.NoMemory ∷ [] in
      quiet_by p after result new (Ok (Some (Search shard rounds))) replies s is refl s.position s.layouts learns
      (λ alone. refl) p.stands.means.are_layouts (λ alone. refl)
      (λ later. inl (record { said_is = refl; position = refl; same = refl }))
      (writes_one p.before after result reply.NoMemory wrote)
      (reads_new over)
      (record {
        longer = seen_longer p.old.desk new.desk.seen learns;
        within = λ most le.
            let pins = fewer_beyond W p.old.desk new.desk over.over.before over.over.after over.comes most in
            let all : (p.config.shards + 2) * seen ≡ p.config.shards * seen + 2 * seen = add-mul p.config.shards 2 seen in
            omega (arith, lacks.steps, pins, all);
      })
      (settled_new over) (samples_here p new s.queries over.over.samples refl)
      (means_to p new.desk s (kept over) (within_new p new.desk learns)
      (λ alone. sym (whole_here p new.desk learns alone)) refl refl)
      (kept over) (keep_new over)
      (pinned_still p new s over.over.pinned refl)
      (pins_moved (Ok (Some (Search shard rounds))) replies s.position p.old.desk new.desk p.old.pinned new.pinned refl refl)
      (lacks.position ∙ p.stands.position)

  -- ---- a layout was found

  module _ (found : Found) (at : ℕ) (has : HasSearched W p.old new shard rounds found at) (inside : shard < p.config.shards) where
    abbrev finds : FindsFrom p.old.desk new.desk shard p.old.samples rounds found at
    finds = has.finds.finds

    abbrev version : Contents
    version = finds.version

    abbrev parts : List (List ℕ)
    parts = (arc_value found.layout).parts

    abbrev past : List JournalEntry
    past = seen_history new.desk

    -- where the desk is alone, it was searched over all that was seen
    at_whole : p.old.desk.alone ≡ true → at ≡ length new.desk.seen
    at_whole alone = omega (
      arith,
      has.finds.after,
      has.finds.within,
      ap length (seen_whole p.old.desk new.desk.seen has.over.comes.learns alone),
    )

    -- the layout that the line saw, and those of the state beside it
    abbrev layouts : List (List (List ℕ))
    layouts = slice_set p.s.layouts shard version.layout.parts

    bits_here : version.layout.bits ≡ p.config.bits
    bits_here = finds.pinned.version_is.bits_are ∙ ap (λ (c : Config). c.bits) (config_new has.over)

    are_layouts : AreLayouts p.config layouts
    are_layouts = with_layout p.s.layouts shard version.layout.parts p.config p.stands.means.are_layouts
        (subst (λ bits. IsLayout bits version.layout.parts) bits_here finds.pinned.version_is.sound.laid.layout)

    -- the search began with it
    layout_seen : version.layout.parts ≡ layout_at layouts shard
    layout_seen = sym (layout_there p.s.layouts shard version.layout.parts
        (omega (arith, inside, p.stands.means.are_layouts.number)))

    -- over the shard's rows at the position
    rows_here : (later : List JournalEntry)
        → version.rows ≡ shard_rows shard p.config.shards (rows_of (take at (past ++ later)))
    rows_here later =
        finds.pinned.version_is.rows
        ∙ ap (λ (c : Config). shard_rows shard c.shards (rows_of (take at past))) (config_new has.over)
        ∙ ap (λ h. shard_rows shard p.config.shards (rows_of h)) (sym (front_of new.desk later at has.finds.within))

    -- for the samples of the state
    samples_are : map (plain_sample version.layout.bits) p.old.samples ≡ samples_of p.s.queries
    samples_are = ap (λ n. map (plain_sample n) p.old.samples) bits_here ∙ p.stands.samples

    ends_here : (later : List JournalEntry)
        → IsSearchEnd (shard_rows shard p.config.shards (rows_of (take at (past ++ later))))
        (samples_of p.s.queries) rounds (layout_at layouts shard) parts found.before found.after found.swaps
    ends_here later =
        subst (λ l. IsSearchEnd (shard_rows shard p.config.shards (rows_of (take at (past ++ later))))
        (samples_of p.s.queries) rounds l parts found.before found.after found.swaps) layout_seen
        (subst (λ samples. IsSearchEnd (shard_rows shard p.config.shards (rows_of (take at (past ++ later))))
        samples rounds version.layout.parts parts found.before found.after found.swaps) samples_are
        (subst (λ rows. IsSearchEnd rows (map (plain_sample version.layout.bits) p.old.samples) rounds version.layout.parts
        parts found.before found.after found.swaps) (rows_here later) finds.ends))

    pub found_step : Writes p.before after result
        (reply_line (reply.Searched shard found.before found.after found.swaps at (layout_text parts)))
        → StepTo p after result new
    found_step wrote =
        let s = p.s in
        let over = has.over in
        let learns = over.comes.learns in
        let said : LineReply = reply.Searched shard found.before found.after found.swaps at (layout_text parts) in
        let then : State = record s { position = at } in
        quiet_by p after result new (Ok (Some (Search shard rounds))) (said ∷ []) then is refl at layouts learns
        (λ alone. at_whole alone ∙ whole_here p new.desk learns alone) are_layouts
        (λ alone. same_layouts s.layouts shard version.layout.parts
        (ap (λ (l : Laid). l.parts) (finds.pinned.layout alone) ∙ layout_here p alone shard))
        (λ later. inr (record {
          not_before = omega (arith, within_here p, has.finds.after);
          within = inside_of new.desk later at has.finds.within;
          found = parts;
          before = found.before;
          after = found.after;
          swaps = found.swaps;
          ends = ends_here later;
          said_is = refl;
          position = refl;
        }))
        (writes_one p.before after result said wrote)
        (reads_new over)
        (record {
          longer = seen_longer p.old.desk new.desk.seen learns;
          within = λ most le.
              let pin = ap pin_position finds.pinned.pin in
              let lt : shard < length p.old.desk.pins = omega (arith, inside, over.over.before.pins, shards_here p) in
              let before = pin_within W p.old.desk new.desk over.over.before over.over.after over.comes shard lt in
              let pins = beyond_one at most (omega (arith, has.finds.within, le))
              p.old.desk.pins new.desk.pins shard over.comes.number lt over.over.others pin
              (omega (arith, before, has.finds.after)) in
              omega (arith, has.steps, pins);
        })
        (settled_new over) (samples_here p new s.queries over.over.samples refl)
        (means_to p new.desk then (kept over) has.finds.within at_whole refl refl)
        (kept over) (keep_new over)
        (pinned_still p new then over.over.pinned refl)
        (pins_moved (Ok (Some (Search shard rounds))) (said ∷ []) at p.old.desk new.desk p.old.pinned new.pinned refl refl)
        has.position
