-- Lemmas on one line: what a request, a fault and nothing make of a session.
use Rattle.std.proofs.Common.{◌≡◌, ℕ, ◌+◌, min, true, cond, List, [], ◌∷◌, ◌++◌, Option, Some, None, is_some}
use Rattle.std.proofs.Common.{Result, Ok, Err, refl, sym, ap, ◌∙◌, subst, inl}
use Rattle.std.specs.Io.KnownBytes.{Appends}
use Rattle.line_io.specs.declared.source.Failed.{Failed}
use Rattle.query_protocol.specs.Requests.{LineReading, Add, Del, Get, Range, Near, Next, Cost, Plan, Cancel, bad}
use Rattle.query_protocol.specs.Requests.{Layout, Repart, Swap, Search, Quit}
use Rattle.query_protocol.specs.Requests as request
use Rattle.query_protocol.specs.Stored.{AsksBuild, ReadsLine}
use Rattle.query_protocol.specs.declared.bad.LineFault.{LineFault}
use Rattle.query_protocol.specs.declared.bad.LineFault.TheVariants as line
use Rattle.session_model.specs.Builds.{StartsUnlessBuilding}
use Rattle.session_model.specs.State.{Build}
use Rattle.open_session.specs.declared.shard_build.ShardBuild.{ShardBuild}
use Rattle.query_protocol.specs.Replies.{reply_line}
use Rattle.query_protocol.specs.Replies as reply
use Rattle.query_protocol.specs.declared.bad.Bad.{Bad}
use Rattle.session_model.specs.Commits.{is_answered}
use Rattle.open_queries.specs.Writing.{Writes, IsCaused}
use Rattle.session_step.specs.declared.turn.Turn.{Turn}
use Rattle.session_step.specs.declared.turn.Turn.TheVariants.{Goes}
use Rattle.open_session.specs.Moments.{Moment}
use Rattle.session_step.specs.Answering.{TurnIs, fault_reply, turn_after, requests_with}
use Rattle.open_session.specs.KeptBuild.{MeansBuild}
use Rattle.open_session.proofs.DeskLemmas.{only_still}
use Rattle.open_session.proofs.Here.{Here, asked_here, exchange_here, quiet, writes_one}
use Rattle.open_session.proofs.WholeLemmas.{WholeTo, still_whole, whole_of}

-- a step with the requests counted
counted_step : {A : Type 0} {W : ℕ} (p : Here W) (after : Option (List ℕ)) (result : Result A Failed) (mid : Moment W)
    (requests : ℕ) → WholeTo p after result mid → WholeTo p after result (record mid { requests = requests })
counted_step p after result mid requests step = record {
  exchange = step.exchange;
  state = step.state;
  is_line = step.is_line;
  past = step.past;
  grows = step.grows;
  step = step.step;
  aside = step.aside;
  seen = step.seen;
  unmoved = step.unmoved;
  wrote = step.wrote;
  reads = step.reads;
  spent = λ told stands.
      let it = step.spent told stands in
      record { spent = it.spent; stands = it.stands };
  settled = step.settled;
  samples = step.samples;
  means = step.means;
  build = step.build;
  keeps = step.keeps;
  done = step.done;
  late = step.late;
  keep = step.keep;
  pinned = step.pinned;
  pins = step.pins;
  position = step.position;
}

-- a step of which the result is a turn
turned_step : {W : ℕ} (p : Here W) (after : Option (List ℕ)) (unit : Unit {0}) (new : Moment W)
    → WholeTo {A = Unit {0}} p after (Ok unit) new → WholeTo {A = Turn} p after (Ok Goes) new
turned_step p after unit new step = record {
  exchange = step.exchange;
  state = step.state;
  is_line = step.is_line;
  past = step.past;
  grows = step.grows;
  step = step.step;
  aside = step.aside;
  seen = step.seen;
  unmoved = step.unmoved;
  wrote = step.wrote;
  reads = step.reads;
  spent = step.spent;
  settled = step.settled;
  samples = step.samples;
  means = step.means;
  build = step.build;
  keeps = step.keeps;
  done = step.done;
  late = step.late;
  keep = step.keep;
  pinned = step.pinned;
  pins = step.pins;
  position = step.position;
}

failed_step : {W : ℕ} (p : Here W) (after : Option (List ℕ)) (failed : Failed) (new : Moment W)
    → WholeTo {A = Unit {0}} p after (Err failed) new → WholeTo {A = Turn} p after (Err failed) new
failed_step p after failed new step = record {
  exchange = step.exchange;
  state = step.state;
  is_line = step.is_line;
  past = step.past;
  grows = step.grows;
  step = step.step;
  aside = step.aside;
  seen = step.seen;
  unmoved = step.unmoved;
  wrote = step.wrote;
  reads = step.reads;
  spent = step.spent;
  settled = step.settled;
  samples = step.samples;
  means = step.means;
  build = step.build;
  keeps = step.keeps;
  done = step.done;
  late = step.late;
  keep = tt;
  pinned = step.pinned;
  pins = step.pins;
  position = step.position;
}

counted_here : (asked : LineReading) (before requests : ℕ) → is_answered asked ≡ true
    → requests ≡ min (before + 1) 18446744073709551615 → requests ≡ requests_with asked before
counted_here asked before requests answers is =
    is ∙ sym (ap (λ b. cond b (min (before + 1) 18446744073709551615) before) answers)

-- a line that was answered
pub turn_of : {W : ℕ} (p : Here W) (after : Option (List ℕ)) (result : Result (Unit {0}) Failed) (mid : Moment W)
    (requests : ℕ) → WholeTo p after result mid → requests ≡ min (mid.requests + 1) 18446744073709551615
    → mid.requests ≡ p.old.requests → is_answered (asked_here p) ≡ true
    → TurnIs (turn_after result) W p.config p.history p.s p.line p.before after p.old (record mid { requests = requests })
turn_of p after (Ok unit) mid requests step is same answers = record {
  step = turned_step p after unit (record mid { requests = requests }) (counted_step p after (Ok unit) mid requests step);
  requests = counted_here (asked_here p) p.old.requests requests answers
      (is ∙ ap (λ n. min (n + 1) 18446744073709551615) same);
}
turn_of p after (Err failed) mid requests step is same answers = record {
  step = failed_step p after failed (record mid { requests = requests }) (counted_step p after (Err failed) mid requests step);
  requests = counted_here (asked_here p) p.old.requests requests answers
      (is ∙ ap (λ n. min (n + 1) 18446744073709551615) same);
}

-- ---- a fault

refused_step : {A : Type 0} {W : ℕ} (p : Here W) (after : Option (List ℕ)) (result : Result A Failed) (fault : Bad)
    → asked_here p ≡ Err fault → Writes p.before after result (reply_line (reply.Bad fault))
    → WholeTo p after result p.old
refused_step p after result fault is wrote =
    whole_of p after result p.old (Err fault) is refl refl (λ shard build is. is)
    (quiet p after result p.old (Err fault) (reply.Bad fault ∷ []) is refl refl (only_still p.old.desk p.old.desk refl) refl refl refl refl p.stands.keep
    (λ later. record { said_is = refl; position = refl; same = refl })
    (writes_one p.before after result (reply.Bad fault) wrote))

-- what a line asks that asks for a build
pub asked_build : (asked : LineReading) → AsksBuild asked
    → (shard : ℕ) × (layout : List (List ℕ)) × (asked ≡ Ok (Some (Repart shard layout)))
asked_build (Err fault) is = absurd is
asked_build (Ok None) is = absurd is
asked_build (Ok (Some (Add key code))) is = absurd is
asked_build (Ok (Some (Del key))) is = absurd is
asked_build (Ok (Some (Get key))) is = absurd is
asked_build (Ok (Some (Range tag tau code))) is = absurd is
asked_build (Ok (Some (Near tag number code))) is = absurd is
asked_build (Ok (Some (Next tag count))) is = absurd is
asked_build (Ok (Some (Cost tag))) is = absurd is
asked_build (Ok (Some (Plan tag shard))) is = absurd is
asked_build (Ok (Some (Cancel tag))) is = absurd is
asked_build (Ok (Some (Layout shard))) is = absurd is
asked_build (Ok (Some (Repart shard layout))) is = (shard, layout, refl)
asked_build (Ok (Some (request.Build number))) is = absurd is
asked_build (Ok (Some Swap)) is = absurd is
asked_build (Ok (Some (Search shard rounds))) is = absurd is
asked_build (Ok (Some Quit)) is = absurd is

-- there was no memory for the layout of a build, by whether another one goes on
module _ {A : Type 0} {W : ℕ} (p : Here W) (after : Option (List ℕ)) (result : Result A Failed) (shard : ℕ)
    (layout : List (List ℕ)) (is : asked_here p ≡ Ok (Some (Repart shard layout))) where
  unread_by : (kept : Option (ShardBuild W)) (build : Option Build) → MeansBuild p.old.desk kept build
      → p.s.build ≡ build → Writes p.before after result (reply_line (fault_reply line.NoMemory (is_some kept)))
      → WholeTo p after result p.old
  unread_by None None means same wrote =
      still_whole p after result (Ok (Some (Repart shard layout))) reply.NoMemory is refl
      (record { steps = λ told. refl; at = λ told. refl; moved = refl; swapped = refl }) refl
      (λ later. subst (λ b. StartsUnlessBuilding b p.config (p.history ++ later) shard layout p.s
      (exchange_here p p.old (reply.NoMemory ∷ []) p.s.position) p.s) (sym same)
      (inl (record { said_is = refl; position = refl; same = refl })))
      wrote
  unread_by None (Some build) means same wrote = absurd means
  unread_by (Some kept) None means same wrote = absurd means
  unread_by (Some kept) (Some build) means same wrote =
      still_whole p after result (Ok (Some (Repart shard layout))) (reply.Bad (bad 10)) is refl
      (record { steps = λ told. refl; at = λ told. refl; moved = refl; swapped = refl }) refl
      (λ later. subst (λ b. StartsUnlessBuilding b p.config (p.history ++ later) shard layout p.s
      (exchange_here p p.old (reply.Bad (bad 10) ∷ []) p.s.position) p.s) (sym same)
      (record { said_is = refl; position = refl; same = refl }))
      wrote

pub fault_step : {A : Type 0} {W : ℕ} (p : Here W) (after : Option (List ℕ)) (result : Result A Failed)
    (fault : LineFault) → ReadsLine W p.config.bits (Err fault) (asked_here p)
    → Writes p.before after result (reply_line (fault_reply fault (is_some p.old.build))) → WholeTo p after result p.old
fault_step p after result (line.Bad fault) reads wrote = refused_step p after result fault (sym reads.asked) wrote
fault_step p after result line.NoMemory reads wrote =
    let asks = asked_build (asked_here p) reads in
    unread_by p after result asks.0 asks.1 asks.2 p.old.build p.s.build p.stands.build refl wrote

-- and it is counted
pub fault_answered : {W : ℕ} (p : Here W) (fault : LineFault) → ReadsLine W p.config.bits (Err fault) (asked_here p)
    → is_answered (asked_here p) ≡ true
fault_answered p (line.Bad fault) reads = ap is_answered (sym reads.asked)
fault_answered p line.NoMemory reads =
    let asks = asked_build (asked_here p) reads in
    ap is_answered asks.2

-- a line that asks nothing
pub nothing_turn : {W : ℕ} (p : Here W) (after : Option (List ℕ)) → asked_here p ≡ Ok None → Appends p.before after []
    → TurnIs (Ok Goes) W p.config p.history p.s p.line p.before after p.old p.old
nothing_turn p after is wrote = record {
  step = whole_of p after (Ok Goes) p.old (Ok None) is refl refl (λ shard build is. is)
      (quiet p after (Ok Goes) p.old (Ok None) [] is refl refl (only_still p.old.desk p.old.desk refl) refl refl refl refl p.stands.keep
      (λ later. record { said_is = refl; position = refl; same = refl }) wrote);
  requests = sym (ap (λ asked. requests_with asked p.old.requests) is);
}

-- the cause of a failure stays
pub caused_turn : (before after : ℕ) (result : Result (Unit {0}) Failed) → IsCaused before after result
    → IsCaused before after (turn_after result)
caused_turn before after (Ok unit) cause = cause
caused_turn before after (Err failed) cause = cause
