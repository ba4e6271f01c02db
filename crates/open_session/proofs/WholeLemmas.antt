-- Lemmas on a step with the session's build: one that builds nothing, and one that commits nothing.
use Rattle.std.proofs.Common.{◌≡◌, ℕ, true, false, cond, List, [], ◌∷◌, ◌++◌, length}
use Rattle.std.proofs.Common.{Option, Some, None, Result, Ok, refl, sym, ap, ◌∙◌, subst, arith}
use Rattle.std.specs.List.{AllByRecursion}
use Rattle.line_io.specs.declared.source.Failed.{Failed}
use Rattle.hamming_model.specs.History.{JournalEntry}
use Rattle.part_layout.specs.declared.config.Config.{Config}
use Rattle.query_protocol.specs.Requests.{LineReading, LineRequest}
use Rattle.query_protocol.specs.Stored.{unstored}
use Rattle.query_protocol.specs.declared.request.Request.{Request}
use Rattle.query_protocol.specs.declared.request.Request.TheVariants as request
use Rattle.query_protocol.specs.Lines.{reading}
use Rattle.query_protocol.specs.Replies.{text, reply_line, LineReply}
use Rattle.session_desk.specs.Calls.{Learns, one_more}
use Rattle.session_desk.specs.Desks.{DeskState, seen_history}
use Rattle.session_model.specs.State.{Build, State, open_queries}
use Rattle.session_model.specs.Builds.{was_moved, was_swapped}
use Rattle.session_model.specs.Step.{Answers}
use Rattle.session_model.specs.Told.{pinned_by}
use Rattle.session_model.specs.Upkeep.{build_at, other_steps}
use Rattle.session_model.specs.Commits.{accepted, commit_of}
use Rattle.open_queries.specs.Writing.{Writes}
use Rattle.open_session.specs.declared.shard_build.ShardBuild.{ShardBuild}
use Rattle.open_session.specs.KeptBuild.{IsBuildOfDesk, IsOfDesk, KeepsBuilds, MeansBuild, StandsFrom, left_in}
use Rattle.open_session.specs.KeptDesk.{KeepsDesk, LeavesDesk}
use Rattle.open_session.specs.LastPins.{LeavesPins, was_opened}
use Rattle.open_session.specs.Meaning.{AllKeep, IsPlain, IsSettled, Means}
use Rattle.open_session.specs.Pinned.{TellsPinned}
use Rattle.open_session.specs.Moments.{Moment, Point, ReadsTo}
use Rattle.open_session.specs.Samples.{MeansSamples}
use Rattle.open_session.specs.PlainSteps.{AnswersPlainlyBetween}
use Rattle.open_session.specs.Steps.{AnswersBetween, OneStep, SpendsWithBuild}
use Rattle.open_session.proofs.Here.{Here, StepTo, aside_here, asked_here, exchange_here, grows_by, here_of, keep_learned, later_learned, no_commit}
use Rattle.open_session.proofs.Here.{on_ok, settled_learned, writes_one}
use Rattle.open_session.proofs.DeskLemmas.{only_still}
use Rattle.open_session.proofs.LastPinsLemmas.{opens_none, pins_still}
use Rattle.open_session.proofs.MomentLemmas.{as_long, reads_still}
use Rattle.open_session.proofs.PlainLemmas.{BuildsNothing, TellsNoBuild, answers_plain, is_plain}

-- a step that leads to this moment, with the build
abbrev pub WholeTo : {A : Type 0} {W : ℕ} → Here W → Option (List ℕ) → Result A Failed → Moment W → Type 0
WholeTo {A} {W} p after result new =
    OneStep {A = A} W p.config p.history p.s p.line p.before after result p.old new

-- ---- the build in memory

pub leaves : (old new : DeskState) → KeepsDesk old new → LeavesDesk old new
leaves old new keeps = record {
  board = keeps.board;
  who = keeps.who;
  config = keeps.config;
  fronts = keeps.fronts;
  late = λ alone. keeps.late;
  alone = keeps.alone;
}

module _ {W : ℕ} (old new : DeskState) (config : new.config ≡ old.config) (keeps : KeepsBuilds old new) where
  of_desk_later : (kept : ShardBuild W) → IsOfDesk old kept → IsOfDesk new kept
  of_desk_later kept is = record {
    inside = omega (arith, is.inside, ap (λ (c : Config). c.shards) config);
    of_shard = keeps kept.shard kept.build is.of_shard;
  }

  pub has_build_later : (kept : Option (ShardBuild W)) → IsBuildOfDesk old kept → IsBuildOfDesk new kept
  has_build_later None has = tt
  has_build_later (Some kept) has = of_desk_later kept has

  pub means_build_later : (kept : Option (ShardBuild W)) (build : Option Build) → MeansBuild old kept build
      → MeansBuild new kept build
  means_build_later None None means = tt
  means_build_later None (Some build) means = means
  means_build_later (Some kept) None means = means
  means_build_later (Some kept) (Some build) means = record {
    shard = means.shard;
    of_desk = of_desk_later kept means.of_desk;
    layout = means.layout;
    left = means.left;
  }

-- a build in memory is one of the state
pub some_build : {W : ℕ} (desk : DeskState) (kept : ShardBuild W) (build : Option Build)
    → MeansBuild desk (Some kept) build → (b : Build) × (build ≡ Some b) × MeansBuild desk (Some kept) (Some b)
some_build desk kept None means = absurd means
some_build desk kept (Some b) means = (b, refl, means)

pub no_build : (W : ℕ) (desk : DeskState) (build : Option Build) → MeansBuild {W = W} desk None build
    → build ≡ None
no_build W desk None means = refl
no_build W desk (Some b) means = absurd means

-- ---- a step that builds nothing

module _ {A : Type 0} {W : ℕ} (p : Here W) (after : Option (List ℕ)) (result : Result A Failed)
    (new : Moment W) (asked : LineReading) (is : asked_here p ≡ asked) (plain : is_plain asked ≡ true)
    (build : new.build ≡ p.old.build) (keeps : KeepsBuilds p.old.desk new.desk) (step : StepTo p after result new) where
  abbrev told : List LineReply
  told = step.exchange.replies

  nothing : BuildsNothing p.s step.state told
  nothing =
      let past = step.past ++ [] in
      answers_plain p.config past p.s step.exchange step.state asked plain
      (subst (λ r. Answers r p.config past p.s step.exchange step.state)
      (ap (reading p.config) step.is_line ∙ is) (step.step []).answers)

  means_here : MeansBuild new.desk new.build step.state.build
  means_here =
      subst (λ b. MeansBuild new.desk new.build b) (sym nothing.build)
      (subst (λ b. MeansBuild new.desk b p.s.build) (sym build)
      (means_build_later p.old.desk new.desk step.keeps.config keeps p.old.build p.s.build p.stands.build))

  spends_here : (from : ℕ) → StandsFrom from p.old.build
      → SpendsWithBuild p.old new from (other_steps p.config.shards told step.exchange.seen) told
  spends_here from stands = record {
    spent = record {
      longer = step.spent.longer;
      within = λ most le.
          omega (arith, step.spent.within most le, ap left_in build, nothing.tells.steps from);
    };
    stands = subst (λ b. StandsFrom (build_at from told) b) (sym build)
        (subst (λ n. StandsFrom n p.old.build) (sym (nothing.tells.at from)) stands);
  }

  pub whole_of : WholeTo p after result new
  whole_of = record {
    exchange = step.exchange;
    state = step.state;
    is_line = step.is_line;
    past = step.past;
    grows = step.grows;
    step = step.step;
    aside = step.aside;
    seen = step.seen;
    unmoved = λ alone. nothing.tells.moved;
    wrote = step.wrote;
    reads = step.reads;
    spent = spends_here;
    settled = step.settled;
    samples = step.samples;
    means = step.means;
    build = means_here;
    keeps = leaves p.old.desk new.desk step.keeps;
    done = step.keeps.done
        ∙ sym (ap (λ b. cond b (one_more p.old.desk.done) p.old.desk.done) nothing.tells.swapped);
    late = step.keeps.late
        ∙ sym (ap (λ b. cond b (one_more p.old.desk.late) p.old.desk.late) nothing.tells.moved);
    keep = step.keep;
    pinned = step.pinned;
    pins = step.pins;
    position = step.position;
  }

-- ---- a step that commits nothing

module _ {A : Type 0} {W : ℕ} (p : Here W) (after : Option (List ℕ)) (result : Result A Failed)
    (new : Moment W) (asked : LineReading) (replies : List LineReply) (t : State)
    (is : asked_here p ≡ asked) (none : accepted asked replies ≡ []) (at : ℕ) where
  pub whole_by : Learns p.old.desk new.desk.seen → (p.old.desk.alone ≡ true → at ≡ p.s.position)
      → ((later : List JournalEntry)
      → Answers asked p.config (seen_history new.desk ++ later) p.s (exchange_here p new replies at) t)
      → (p.old.desk.alone ≡ true → was_moved replies ≡ false) → Writes p.before after result (text replies)
      → ReadsTo p.old.ledgers.reads new.ledgers.reads p.s.queries t.queries
      → ((from : ℕ) → StandsFrom from p.old.build → SpendsWithBuild p.old new from
      (other_steps p.config.shards replies (length new.desk.seen)) replies)
      → AllByRecursion (IsSettled p.config p.history) t.queries
      → MeansSamples p.config.bits new.samples t.queries
      → Means p.config new.desk (seen_history new.desk) t → MeansBuild new.desk new.build t.build
      → LeavesDesk p.old.desk new.desk
      → new.desk.done ≡ cond (was_swapped replies) (one_more p.old.desk.done) p.old.desk.done
      → new.desk.late ≡ cond (was_moved replies) (one_more p.old.desk.late) p.old.desk.late
      → AllKeep p.config p.history new.cursors (open_queries t.queries)
      → TellsPinned p.config.shards new.pinned (pinned_by t.queries)
      → LeavesPins asked replies at p.old.desk new.desk p.old.pinned new.pinned
      → new.position ≡ t.position → WholeTo p after result new
  whole_by learns stays answers unmoved wrote reads spent settled samples means build keeps done late keep pinned pins position =
      let exchange = exchange_here p new replies at in
      let past = seen_history new.desk in
      record {
        exchange = exchange;
        state = t;
        is_line = refl;
        past = past;
        grows = grows_by p new.desk learns keeps.config (commit_of p.s.who p.config exchange)
            (no_commit p after result new asked replies t is none at p.s.layouts);
        step = λ later. record {
          layouts = p.stands.means.are_layouts;
          answers = subst (λ r. Answers r p.config (past ++ later) p.s exchange t) (sym is) (answers later);
        };
        aside = aside_here p after result new asked replies t is none at p.s.layouts learns stays (λ alone. refl);
        seen = sym (as_long new.desk);
        unmoved = unmoved;
        wrote = wrote;
        reads = reads;
        spent = spent;
        settled = settled_learned p new.desk learns keeps.config t.queries settled;
        samples = samples;
        means = means;
        build = build;
        keeps = keeps;
        done = done;
        late = late;
        keep = on_ok result (AllKeep p.config past new.cursors (open_queries t.queries))
            (keep_learned p new.desk learns keeps.config new.cursors (open_queries t.queries) keep);
        pinned = pinned;
        pins = subst (λ r. LeavesPins r replies at p.old.desk new.desk p.old.pinned new.pinned) (sym is) pins;
        position = position;
      }

-- a request on builds that is refused changes nothing
pub still_whole : {A : Type 0} {W : ℕ} (p : Here W) (after : Option (List ℕ)) (result : Result A Failed)
    (asked : LineReading) (this : LineReply) → asked_here p ≡ asked → accepted asked (this ∷ []) ≡ []
    → TellsNoBuild (this ∷ []) → was_opened (this ∷ []) ≡ false
    → ((later : List JournalEntry)
    → Answers asked p.config (p.history ++ later) p.s (exchange_here p p.old (this ∷ []) p.s.position) p.s)
    → Writes p.before after result (reply_line this) → WholeTo p after result p.old
still_whole p after result asked this is none tells none_opened answers wrote =
    let old = p.old in
    let learns = (only_still old.desk old.desk refl).learns in
    whole_by p after result old asked (this ∷ []) p.s is none p.s.position learns (λ alone. refl)
    (later_learned p old.desk learns refl
    (λ h. Answers asked p.config h p.s (exchange_here p old (this ∷ []) p.s.position) p.s) answers)
    (λ alone. tells.moved)
    (writes_one p.before after result this wrote)
    (reads_still old.ledgers.reads p.s.queries)
    (λ from stands. record {
      spent = record { longer = omega arith; within = λ most le. omega arith };
      stands = subst (λ n. StandsFrom n old.build) (sym (tells.at from)) stands;
    })
    p.stands.settled p.stands.samples
    (subst (λ h. Means p.config old.desk h p.s) p.stands.means.history_is p.stands.means)
    p.stands.build
    (record { board = refl; who = refl; config = refl; fronts = refl; late = λ alone. refl; alone = refl })
    (sym (ap (λ b. cond b (one_more old.desk.done) old.desk.done) tells.swapped))
    (sym (ap (λ b. cond b (one_more old.desk.late) old.desk.late) tells.moved))
    p.stands.keep p.stands.pinned
    (pins_still asked (this ∷ []) p.s.position old.desk old.desk old.pinned old.pinned (opens_none asked (this ∷ []) none_opened)
    refl refl)
    p.stands.position

-- ---- a request that isn't on builds

pub plain_request : {W : ℕ} (bits : ℕ) (asked : Request W) → IsPlain asked
    → is_plain (Ok (Some (unstored bits asked))) ≡ true
plain_request bits (request.Add key code) plain = refl
plain_request bits (request.Del key) plain = refl
plain_request bits (request.Get key) plain = refl
plain_request bits (request.Range tag tau code) plain = refl
plain_request bits (request.Near tag k code) plain = refl
plain_request bits (request.Next tag n) plain = refl
plain_request bits (request.Cost tag) plain = refl
plain_request bits (request.Plan tag shard) plain = refl
plain_request bits (request.Cancel tag) plain = refl
plain_request bits (request.Layout shard) plain = refl
plain_request bits (request.Repart shard layout) plain = absurd plain
plain_request bits (request.Build n) plain = absurd plain
plain_request bits request.Swap plain = absurd plain
plain_request bits (request.Search shard rounds) plain = refl
plain_request bits request.Quit plain = absurd plain

-- what is answered plainly is answered by a step
pub answered_whole : {A : Type 0} {W : ℕ} (asked : LineRequest) → is_plain (Ok (Some asked)) ≡ true
    → (result : Result A Failed) (config : Config) (old new : Point W) → new.moment.build ≡ old.moment.build
    → KeepsBuilds old.moment.desk new.moment.desk → AnswersPlainlyBetween asked result config old new
    → AnswersBetween asked result config old new
answered_whole asked plain result config old new build keeps answers = λ line reads history s stands.
    whole_of (here_of config old.moment old.written line history s stands) new.written result new.moment
    (Ok (Some asked)) reads plain build keeps (answers line reads history s stands)
