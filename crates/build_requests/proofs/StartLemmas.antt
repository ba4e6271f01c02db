-- Lemmas on `repart` and `build`: what each tells is a step of a session.
use Rattle.std.proofs.Common.{◌≡◌, ◌≢◌, true, ℕ, zero, suc, ◌+◌, ◌-◌, ◌*◌, ◌<◌, ◌≤◌, List, [], ◌∷◌, ◌++◌}
use Rattle.std.proofs.Common.{length, map, take, slice_index_or, Option, Some, None, Result, Ok, refl, sym, ap, ◌∙◌}
use Rattle.std.proofs.Common.{subst, inl, inr, arith}
use Rattle.std.proofs.Math.Nat.{add-mul}
use Rattle.line_io.specs.declared.source.Failed.{Failed}
use Rattle.hamming_model.specs.History.{JournalEntry, rows_of, shard_rows}
use Rattle.part_layout.specs.Laid.{Laid}
use Rattle.part_layout.specs.declared.config.Config.{Config}
use Rattle.query_protocol.specs.Requests.{bad, Repart}
use Rattle.query_protocol.specs.Requests as request
use Rattle.query_protocol.specs.Replies.{reply_line, LineReply}
use Rattle.query_protocol.specs.Replies as reply
use Rattle.session_desk.specs.Desks.{DeskState, Pin, pin_position, seen_history}
use Rattle.session_model.specs.State.{Build, State, open_queries}
use Rattle.session_model.specs.Builds.{IfBuilding, PlacesMoreRows, StartsUnlessBuilding, build_placed}
use Rattle.session_model.specs.Entries.{Exchange}
use Rattle.session_model.specs.Upkeep.{entries_beyond}
use Rattle.open_queries.specs.Writing.{Writes}
use Rattle.version_draft.specs.Unfinished.{Unfinished, with_placed}
use Rattle.open_session.specs.declared.shard_build.ShardBuild.{ShardBuild}
use Rattle.open_session.specs.KeptBuild.{IsBuildKept, MeansBuild, StandsFrom, left_in}
use Rattle.open_session.specs.KeptDesk.{pins_of}
use Rattle.open_session.specs.Meaning.{AllKeep}
use Rattle.open_session.specs.Moments.{Moment, ReadsTo}
use Rattle.build_requests.specs.Rebuilding.{HadNoBuild, HasPlaced, HasStarted, PlacesAs, StartsAs, WasOtherBuild, kept_build}
use Rattle.open_session.proofs.Here.{Here, asked_here, exchange_here, front_of, inside_of, means_to, pinned_still, samples_here, whole_here}
use Rattle.open_session.proofs.Here.{within_here, within_new, writes_one}
use Rattle.open_session.proofs.MomentLemmas.{only_keeps, reads_still, seen_longer, seen_whole}
use Rattle.open_session.proofs.DeskLemmas.{beyond_less, fewer_beyond, keeps, only_still, pin_within}
use Rattle.open_session.proofs.LastPinsLemmas.{pins_moved, pins_still}
use Rattle.open_session.proofs.WholeLemmas.{WholeTo, leaves, no_build, some_build, still_whole, whole_by}

-- ---- one shard was pinned further

module _ (at most : ℕ) (le : at ≤ most) where
  pub beyond_one : (old new : List (Option Pin)) (shard : ℕ) → length new ≡ length old → shard < length old
      → ((other : ℕ) → other ≢ shard → slice_index_or new other None ≡ slice_index_or old other None)
      → pin_position (slice_index_or new shard None) ≡ at
      → pin_position (slice_index_or old shard None) ≤ at
      → entries_beyond (map pin_position new) most + (at - pin_position (slice_index_or old shard None))
      ≤ entries_beyond (map pin_position old) most
  beyond_one [] new shard same lt others here before = absurd (omega (arith, lt))
  beyond_one (x ∷ old) [] shard same lt others here before = absurd (omega (arith, same))
  beyond_one (x ∷ old) (y ∷ new) zero same lt others here before =
      let rest = beyond_less old new most (omega (arith, same)) (λ i inside.
      omega (arith, ap pin_position (others (suc i) (λ e. omega (arith, e))))) in
      omega (arith, rest, here, before, le)
  beyond_one (x ∷ old) (y ∷ new) (suc shard) same lt others here before =
      let rest = beyond_one old new shard (omega (arith, same)) (omega (arith, lt))
      (λ other apart. others (suc other) (λ e. apart (omega (arith, e)))) here before in
      omega (arith, rest, ap pin_position (others zero (λ e. omega (arith, e))))

-- ---- the desk

pub shards_here : {W : ℕ} (p : Here W) → p.old.desk.config.shards ≡ p.config.shards
shards_here p = ap (λ (c : Config). c.shards) p.stands.means.config_is

-- ---- `repart`

module _ {A : Type 0} {W : ℕ} (p : Here W) (after : Option (List ℕ)) (result : Result A Failed)
    (new : Moment W) (shard : ℕ) (layout : Laid) (this : LineReply)
    (is : asked_here p ≡ Ok (Some (Repart shard layout.parts))) (inside : shard < p.config.shards)
    (wrote : Writes p.before after result (reply_line this)) where
  abbrev Starting : Option Build → List JournalEntry → Exchange → State → Type 0
  Starting build history e t = StartsUnlessBuilding build p.config history shard layout.parts p.s e t

  other_start : (kept : ShardBuild W) → p.old.build ≡ Some kept → WasOtherBuild p.old new this
      → WholeTo p after result new
  other_start kept has was =
      let found = some_build p.old.desk kept p.s.build (subst (λ b. MeansBuild p.old.desk b p.s.build) has p.stands.build) in
      subst (λ m. WholeTo p after result m) (sym was.same)
      (still_whole p after result (Ok (Some (Repart shard layout.parts))) (reply.Bad (bad 10)) is refl
      (record { steps = λ told. refl; at = λ told. refl; moved = refl; swapped = refl }) refl
      (λ later. subst (λ b. Starting b (p.history ++ later) (exchange_here p p.old (reply.Bad (bad 10) ∷ []) p.s.position) p.s)
      (sym found.1) (record { said_is = refl; position = refl; same = refl }))
      (subst (λ r. Writes p.before after result (reply_line r)) was.told wrote))

  none_here : p.old.build ≡ None → p.s.build ≡ None
  none_here none = no_build W p.old.desk p.s.build (subst (λ b. MeansBuild p.old.desk b p.s.build) none p.stands.build)

  no_start : HadNoBuild W p.old new shard this → WholeTo p after result new
  no_start had =
      let over = had.over in
      let kept = keeps W p.old.desk new.desk over.before over.after had.comes in
      let learns = had.comes.learns in
      let seen = length new.desk.seen in
      let s = p.s in
      let replies = reply.NoMemory ∷ [] in
      whole_by p after result new (Ok (Some (Repart shard layout.parts))) replies s is refl s.position learns (λ alone. refl)
      (λ later. subst (λ b. Starting b (seen_history new.desk ++ later) (exchange_here p new replies s.position) s)
      (sym (none_here had.none)) (inl (record { said_is = refl; position = refl; same = refl })))
      (λ alone. refl)
      (writes_one p.before after result reply.NoMemory
      (subst (λ r. Writes p.before after result (reply_line r)) had.told wrote))
      (subst (λ l. ReadsTo p.old.ledgers.reads l s.queries s.queries) (sym over.reads)
      (reads_still p.old.ledgers.reads s.queries))
      (λ from stands. record {
        spent = record {
          longer = seen_longer p.old.desk new.desk.seen learns;
          within = λ most le.
              let pins = fewer_beyond W p.old.desk new.desk over.before over.after had.comes most in
              let all : (p.config.shards + 2) * seen ≡ p.config.shards * seen + 2 * seen = add-mul p.config.shards 2 seen in
              omega (arith, had.steps, pins, all, ap left_in had.build);
        };
        stands = subst (StandsFrom from) (sym had.build) tt;
      })
      p.stands.settled (samples_here p new s.queries over.samples refl)
      (means_to p new.desk s kept (within_new p new.desk learns) (λ alone. sym (whole_here p new.desk learns alone)) refl refl)
      (subst (λ b. MeansBuild new.desk b s.build) (sym had.build) (subst (MeansBuild {W = W} new.desk None) (sym (none_here had.none)) tt))
      (leaves p.old.desk new.desk kept) kept.done kept.late
      (subst (λ l. AllKeep p.config p.history l (open_queries s.queries)) (sym over.cursors) p.stands.keep)
      (pinned_still p new s over.pinned refl)
      (pins_moved (Ok (Some (Repart shard layout.parts))) replies s.position p.old.desk new.desk p.old.pinned new.pinned refl refl)
      (had.position ∙ p.stands.position)

  module _ (has : HasStarted W p.old new shard layout this) where
    abbrev build : Unfinished
    build = has.build

    -- the position at which the build was started
    abbrev at : ℕ
    at = build.contents.at

    abbrev started : State
    started = record p.s { position = at; build = Some (record { shard = shard; layout = layout.parts; left = build.left }) }

    -- where the desk is alone, it is all that was seen
    at_whole : p.old.desk.alone ≡ true → at ≡ length new.desk.seen
    at_whole alone =
        omega (arith, has.begins.after, has.of_shard.within, ap length (seen_whole p.old.desk new.desk.seen has.comes.learns alone))

    -- all rows of the shard are left
    left_here : (later : List JournalEntry) → build.left
        ≡ length (shard_rows shard p.config.shards (rows_of (take at (seen_history new.desk ++ later))))
    left_here later =
        has.begins.left
        ∙ ap (λ n. length (shard_rows shard n (rows_of (take at (seen_history new.desk))))) (shards_here p)
        ∙ ap (λ h. length (shard_rows shard p.config.shards (rows_of h))) (sym (front_of new.desk later at has.of_shard.within))

    is_kept : IsBuildKept new.desk (kept_build {W = W} shard build)
        (record { shard = shard; layout = layout.parts; left = build.left })
    is_kept = record {
      shard = refl;
      of_desk = record {
        inside = omega (arith, inside, shards_here p, ap (λ (c : Config). c.shards) has.comes.config);
        of_shard = has.of_shard;
      };
      layout = ap (λ (u : Unfinished). u.contents.layout.parts) has.begins.begins;
      left = refl;
    }

    start_done : WholeTo p after result new
    start_done =
        let s = p.s in
        let over = has.over in
        let kept = keeps W p.old.desk new.desk over.before over.after has.comes in
        let learns = has.comes.learns in
        let replies = reply.Building shard build.left at ∷ [] in
        whole_by p after result new (Ok (Some (Repart shard layout.parts))) replies started is refl at learns
        (λ alone. at_whole alone ∙ whole_here p new.desk learns alone)
        (λ later. subst (λ b. Starting b (seen_history new.desk ++ later) (exchange_here p new replies at) started)
        (sym (none_here has.none)) (inr (record {
          not_before = omega (arith, within_here p, has.begins.after);
          within = inside_of new.desk later at has.of_shard.within;
          left = build.left;
          left_is = left_here later;
          said_is = refl;
          started = refl;
        })))
        (λ alone. refl)
        (writes_one p.before after result (reply.Building shard build.left at)
        (subst (λ r. Writes p.before after result (reply_line r)) has.told wrote))
        (subst (λ l. ReadsTo p.old.ledgers.reads l s.queries s.queries) (sym over.reads)
        (reads_still p.old.ledgers.reads s.queries))
        (λ from stands. record {
          spent = record {
            longer = seen_longer p.old.desk new.desk.seen learns;
            within = λ most le.
                let pin = ap pin_position has.begins.pinned.pin in
                let lt : shard < length p.old.desk.pins = omega (arith, inside, over.before.pins, shards_here p) in
                let before = pin_within W p.old.desk new.desk over.before over.after has.comes shard lt in
                let pins = beyond_one at most (omega (arith, has.of_shard.within, le))
                p.old.desk.pins new.desk.pins shard has.comes.number lt over.others pin
                (omega (arith, before, has.begins.after)) in
                omega (arith, has.steps, pins, ap left_in has.none, ap left_in has.kept);
          };
          stands = subst (StandsFrom at) (sym has.kept) (omega arith);
        })
        p.stands.settled (samples_here p new s.queries over.samples refl)
        (means_to p new.desk started kept has.of_shard.within at_whole refl refl)
        (subst (λ b. MeansBuild new.desk b started.build) (sym has.kept) is_kept)
        (leaves p.old.desk new.desk kept) kept.done kept.late
        (subst (λ l. AllKeep p.config p.history l (open_queries s.queries)) (sym over.cursors) p.stands.keep)
        (pinned_still p new started over.pinned refl)
        (pins_moved (Ok (Some (Repart shard layout.parts))) replies at p.old.desk new.desk p.old.pinned new.pinned refl refl)
        has.position

  pub start_step : StartsAs W p.old new shard layout this → WholeTo p after result new
  start_step (inl other) = other_start other.0 other.1 other.2
  start_step (inr (inl had)) = no_start had
  start_step (inr (inr has)) = start_done has

-- ---- `build`

module _ {A : Type 0} {W : ℕ} (p : Here W) (after : Option (List ℕ)) (result : Result A Failed)
    (new : Moment W) (number : ℕ) (this : LineReply)
    (is : asked_here p ≡ Ok (Some (request.Build number)))
    (wrote : Writes p.before after result (reply_line this)) where
  abbrev Placing : Option Build → Exchange → State → Type 0
  Placing build e t = IfBuilding build (PlacesMoreRows number) p.s e t

  no_place : p.old.build ≡ None → WasOtherBuild p.old new this → WholeTo p after result new
  no_place none was =
      let missing = no_build W p.old.desk p.s.build (subst (λ b. MeansBuild p.old.desk b p.s.build) none p.stands.build) in
      subst (λ m. WholeTo p after result m) (sym was.same)
      (still_whole p after result (Ok (Some (request.Build number))) (reply.Bad (bad 10)) is refl
      (record { steps = λ told. refl; at = λ told. refl; moved = refl; swapped = refl }) refl
      (λ later. subst (λ b. Placing b (exchange_here p p.old (reply.Bad (bad 10) ∷ []) p.s.position) p.s)
      (sym missing) (record { said_is = refl; position = refl; same = refl }))
      (subst (λ r. Writes p.before after result (reply_line r)) was.told wrote))

  module _ (has : HasPlaced W p.old new number this) where
    abbrev was : ShardBuild W
    was = kept_build has.shard has.build

    found : (b : Build) × (p.s.build ≡ Some b) × MeansBuild p.old.desk (Some was) (Some b)
    found = some_build p.old.desk was p.s.build (subst (λ b. MeansBuild p.old.desk b p.s.build) has.was p.stands.build)

    abbrev before_it : Build
    before_it = found.0

    abbrev placed : State
    placed = record p.s { build = Some (build_placed before_it number) }

    desk_same : new.desk ≡ p.old.desk
    desk_same = ap (λ (m : Moment W). m.desk) has.after

    place_done : WholeTo p after result new
    place_done =
        let s = p.s in
        let old = p.old in
        let said : LineReply = reply.Built before_it.shard (before_it.left - number) in
        let same : this ≡ said =
        has.told ∙ ap (λ n. reply.Built n (has.build.left - number)) found.2.shard
        ∙ ap (λ n. reply.Built before_it.shard (n - number)) found.2.left in
        let after_it = ap (λ (m : Moment W). m.build) has.after in
        let only = only_still old.desk new.desk desk_same in
        let kept = only_keeps old.desk new.desk only in
        whole_by p after result new (Ok (Some (request.Build number))) (said ∷ []) placed is refl s.position only.learns
        (λ alone. refl)
        (λ later. subst (λ b. Placing b (exchange_here p new (said ∷ []) s.position) placed) (sym found.1)
        (record { said_is = refl; position = refl; placed = refl }))
        (λ alone. refl)
        (writes_one p.before after result said (subst (λ r. Writes p.before after result (reply_line r)) same wrote))
        (subst (λ l. ReadsTo old.ledgers.reads l s.queries s.queries) (sym has.reads)
        (reads_still old.ledgers.reads s.queries))
        (λ from stands. record {
          spent = record {
            longer = omega (arith, ap (λ (d : DeskState). length d.seen) desk_same);
            within = λ most le. omega (
              arith,
              has.steps,
              ap (λ (d : DeskState). entries_beyond (pins_of d) most) desk_same,
              ap left_in has.was,
              ap left_in after_it,
            );
          };
          stands = subst (StandsFrom from) (sym after_it) (subst (StandsFrom from) has.was stands);
        })
        p.stands.settled (samples_here p new s.queries (ap (λ (m : Moment W). m.samples) has.after) refl)
        (means_to p new.desk placed kept (within_new p new.desk only.learns)
        (λ alone. sym (whole_here p new.desk only.learns alone)) refl refl)
        (subst (λ b. MeansBuild new.desk b placed.build) (sym after_it)
        (subst (λ d. IsBuildKept d (kept_build {W = W} has.shard (with_placed has.build number)) (build_placed before_it number))
        (sym desk_same) (record {
          shard = found.2.shard;
          of_desk = record {
            inside = found.2.of_desk.inside;
            of_shard = found.2.of_desk.of_shard;
          };
          layout = found.2.layout;
          left = ap (λ n. n - number) found.2.left;
        })))
        (leaves old.desk new.desk kept) kept.done kept.late
        (subst (λ l. AllKeep p.config p.history l (open_queries s.queries))
        (sym (ap (λ (m : Moment W). m.cursors) has.after)) p.stands.keep)
        (pinned_still p new placed (ap (λ (m : Moment W). m.pinned) has.after) refl)
        (pins_still (Ok (Some (request.Build number))) (said ∷ []) s.position old.desk new.desk old.pinned new.pinned refl
        (ap (λ (d : DeskState). d.pins) desk_same) (ap (λ (m : Moment W). m.pinned) has.after))
        (ap (λ (m : Moment W). m.position) has.after ∙ p.stands.position)

  pub place_step : PlacesAs W p.old new number this → WholeTo p after result new
  place_step (inl none) = no_place none.0 none.1
  place_step (inr has) = place_done has
