-- Lemmas on `next`: what it gives is a step of a session.
use Rattle.std.proofs.Common.{◌≡◌, ℕ, ◌+◌, ◌≤◌, ◌<◌, min, nat_lt, Bool, true, false, cond}
use Rattle.std.proofs.Common.{List, [], ◌∷◌, ◌++◌, length, map, take, slice_index, slice_index_or}
use Rattle.std.proofs.Common.{Option, Some, None, Result, Ok, inl, inr, refl, sym, ap, ◌∙◌, subst, arith}
use Rattle.std.proofs.Math.ListN.{get_or-eq_default}
use Rattle.std.proofs.lemmas.Bool.{ltb-true, ltb-false}
use Rattle.std.proofs.lemmas.List.{take-append-le, length-map, get_or-map}
use Rattle.line_io.specs.declared.source.Failed.{Failed}
use Rattle.hamming_model.specs.declared.hit.Hit.{Hit}
use Rattle.hamming_model.specs.History.{JournalEntry, rows_of}
use Rattle.hamming_model.specs.Scan.{answer}
use Rattle.threshold_model.specs.Bounds.{last_distance}
use Rattle.part_layout.specs.Ranges.{IsConfig}
use Rattle.hit_source.specs.Sources.{Asked}
use Rattle.scatter_gather.specs.Gathering.{merged}
use Rattle.query_protocol.specs.Requests.{LineRequest, Next, bad}
use Rattle.query_protocol.specs.Replies.{text, reply_line}
use Rattle.query_protocol.specs.Replies as reply
use Rattle.session_model.specs.State.{Query, State, query_of, replaced, open_queries}
use Rattle.session_model.specs.Entries.{Exchange}
use Rattle.session_desk.specs.Desks.{DeskState}
use Rattle.session_model.specs.Ledger.{ledgers, answer_to, IsBounded, rows_at, layout_at}
use Rattle.session_model.specs.QuerySteps.{ReadsOn, Gives, IfOpen, given_more, next_replies}
use Rattle.session_model.specs.Step.{Answers}
use Rattle.session_model.specs.Commits.{accepted}
use Rattle.open_queries.specs.Queries.{IsFree, Changes, answer_in}
use Rattle.open_queries.specs.Answers.{GivesAs, GivesQuery, IsGiven}
use Rattle.open_queries.specs.Writing.{Writes}
use Rattle.open_session.specs.Cursors.{ShardSource, Cursor, asks, stands, reads_in}
use Rattle.open_session.specs.Moments.{Moment, ReadsTo}
use Rattle.open_session.specs.Meaning.{AllKeep, AsksOn, IsSettled, Keeps}
use Rattle.open_session.proofs.DeskLemmas.{only_still}
use Rattle.open_session.proofs.LastPinsLemmas.{opens_none}
use Rattle.open_session.proofs.QueryLemmas.{IsFound, found_changed, found_holds, not_open, of_open, replaced_open}
use Rattle.open_session.proofs.QueryLemmas.{all_replaced, pinned_replaced, read_replaced, same_asks, same_number_of}
use Rattle.open_session.proofs.BoundLemmas.{answer_is, answer_near, bound_at, first_of_some}
use Rattle.session_model.proofs.SampleLemmas.{samples_stay}
use Rattle.open_session.proofs.Here.{Here, StepTo, asked_here, exchange_here, later_learned, on_ok_then, pinned_still}
use Rattle.open_session.proofs.Here.{quiet, quiet_learns, samples_here, within_new, writes_one}

-- ---- a tag that no cursor has

pub unknown_step : {A : Type 0} {W : ℕ} (p : Here W) (after : Option (List ℕ)) (result : Result A Failed)
    (new : Moment W) (request : LineRequest) (tag : List ℕ)
    (Answered : List JournalEntry → Query → State → Exchange → State → Type 0)
    → asked_here p ≡ Ok (Some request)
    → accepted (Ok (Some request)) (reply.Bad (bad 8) ∷ []) ≡ []
    → ((h : List JournalEntry) (e : Exchange) (t : State)
    → IfOpen (query_of tag p.s.queries) (Answered h) p.s e t
    → Answers (Ok (Some request)) p.config h p.s e t)
    → IsFree p.old.cursors tag → new.cursors ≡ p.old.cursors → new.desk ≡ p.old.desk
    → new.ledgers ≡ p.old.ledgers → new.pinned ≡ p.old.pinned → new.position ≡ p.old.position → new.samples ≡ p.old.samples
    → Writes p.before after result (reply_line (reply.Bad (bad 8))) → StepTo p after result new
unknown_step p after result new request tag Answered reads none answers free same desk ledgers pinned position samples wrote =
    let missing : query_of tag p.s.queries ≡ None =
    of_open tag p.s.queries ∙ not_open p.config p.history p.old.cursors (open_queries p.s.queries) tag
    p.stands.keep free in
    quiet p after result new (Ok (Some request)) (reply.Bad (bad 8) ∷ []) reads none
    (opens_none (Ok (Some request)) (reply.Bad (bad 8) ∷ []) refl) (only_still p.old.desk new.desk desk) ledgers
    pinned position samples
    (subst (λ l. AllKeep p.config p.history l (open_queries p.s.queries)) (sym same) p.stands.keep)
    (λ later. answers (p.history ++ later) _ p.s
    (subst (λ o. IfOpen o (Answered (p.history ++ later)) p.s
    (exchange_here p new (reply.Bad (bad 8) ∷ []) p.s.position) p.s) (sym missing)
    (record { said_is = refl; position = refl; same = refl })))
    (writes_one p.before after result (reply.Bad (bad 8)) wrote)

-- ---- a cursor that gave hits

module _ {A : Type 0} {W : ℕ} (p : Here W) (after : Option (List ℕ)) (result : Result A Failed)
    (new : Moment W) (tag : List ℕ) (count : ℕ) (is_asked : asked_here p ≡ Ok (Some (Next tag count)))
    (ranges : IsConfig p.config)
    (desk : new.desk ≡ p.old.desk) (pinned : new.pinned ≡ p.old.pinned) (position : new.position ≡ p.old.position)
    (samples : new.samples ≡ p.old.samples)
    (upkeep : new.ledgers.upkeep ≡ p.old.ledgers.upkeep)
    (number : length new.ledgers.reads ≡ length p.old.ledgers.reads) where
  module _ (was is : Cursor W) (changes : Changes p.old.cursors new.cursors tag was is)
      (gives : GivesQuery (asks {W = W}) (stands {W = W}) tag count was is p.before after
      p.old.ledgers.reads new.ledgers.reads result) where
    abbrev it : IsFound p.config p.history changes.front was changes.back (open_queries p.s.queries) tag
    it = found_changed p.config p.history p.old.cursors new.cursors (open_queries p.s.queries) tag was is
        p.stands.keep changes

    abbrev query : Query
    query = it.query

    found : query_of tag p.s.queries ≡ Some query
    found = of_open tag p.s.queries ∙ it.found

    settled : IsSettled p.config p.history query
    settled = found_holds (IsSettled p.config p.history) tag p.s.queries query found p.stands.settled

    abbrev hits : List Hit
    hits = answer_to p.config p.history query

    answer_here : answer_in (asks {W = W}) was ≡ hits
    answer_here = answer_is p.config p.history was query it.keeps ranges

    -- the query after it
    abbrev this : Query
    this = given_more query count hits (reads_in is)

    abbrev shards : ℕ
    shards = p.config.shards

    old_sources : length was.gather.sources ≡ shards
    old_sources = it.keeps.sources

    new_sources : length is.gather.sources ≡ shards
    new_sources = same_number_of (asks {W = W}) was.gather.sources is.gather.sources gives.asked ∙ old_sources

    -- what a source has read, by place
    read_old : (shard : ℕ) (d : ShardSource W) → shard < shards
        → slice_index query.reads shard ≡ (stands (slice_index_or was.gather.sources shard d)).reads
    read_old shard d lt =
        ap (λ l. slice_index l shard) it.keeps.reads
        ∙ get_or-map (λ source. (stands {W = W} source).reads) was.gather.sources shard d 0
        (omega (arith, lt, old_sources))

    read_new : (shard : ℕ) (d : ShardSource W) → shard < shards
        → slice_index (reads_in is) shard ≡ (stands (slice_index_or is.gather.sources shard d)).reads
    read_new shard d lt =
        get_or-map (λ source. (stands {W = W} source).reads) is.gather.sources shard d 0
        (omega (arith, lt, new_sources))

    size_old : length query.reads ≡ shards
    size_old = settled.bounded.number

    size_new : length (reads_in is) ≡ shards
    size_new = length-map is.gather.sources (λ source. (stands {W = W} source).reads) ∙ new_sources

    none_old : (shard : ℕ) → shards ≤ shard → slice_index query.reads shard ≡ 0
    none_old shard le = get_or-eq_default query.reads 0 (omega (arith, le, size_old))

    none_new : (shard : ℕ) → shards ≤ shard → slice_index (reads_in is) shard ≡ 0
    none_new shard le = get_or-eq_default (reads_in is) 0 (omega (arith, le, size_new))

    -- one ledger, and what was read on its shard
    read_by : (first : ShardSource W) (ledger : ℕ) (here : Bool) → nat_lt ledger shards ≡ here
        → slice_index new.ledgers.reads ledger + slice_index query.reads ledger
        ≡ slice_index p.old.ledgers.reads ledger + slice_index (reads_in is) ledger
    read_by first ledger true is_here =
        let lt : ledger < shards = ltb-true ledger shards is_here in
        omega (
          arith,
          gives.ledgers.at ledger first (omega (arith, lt, old_sources)),
          read_old ledger first lt,
          read_new ledger first lt,
        )
    read_by first ledger false is_here =
        let le : shards ≤ ledger = ltb-false ledger shards is_here in
        omega (
          arith,
          gives.ledgers.beyond ledger (omega (arith, le, old_sources)),
          none_old ledger le,
          none_new ledger le,
        )

    no_less_by : (first : ShardSource W) (shard : ℕ) (here : Bool) → nat_lt shard shards ≡ here
        → slice_index query.reads shard ≤ slice_index (reads_in is) shard
    no_less_by first shard true is_here =
        let lt : shard < shards = ltb-true shard shards is_here in
        omega (
          arith,
          gives.ledgers.rises shard first (omega (arith, lt, old_sources)),
          read_old shard first lt,
          read_new shard first lt,
        )
    no_less_by first shard false is_here =
        omega (arith, none_old shard (ltb-false shard shards is_here))

    -- the first source, since there is one
    first : ShardSource W
    first = first_of_some was.gather.sources (omega (arith, ranges.some_shards, old_sources))

    reads_to : ReadsTo p.old.ledgers.reads new.ledgers.reads p.s.queries (replaced tag this p.s.queries)
    reads_to = record {
      number = number;
      each = λ ledger lt.
          omega (
            arith,
            read_replaced ledger tag query this p.s.queries found,
            read_by first ledger (nat_lt ledger shards) refl,
          );
    }

    reads_on : ReadsOn query (reads_in is)
    reads_on = record {
      number = size_new ∙ sym size_old;
      no_less = λ shard. no_less_by first shard (nat_lt shard shards) refl;
      stays = λ done.
          let same : is ≡ was = (gives.stays (it.keeps.done ∙ done)).0 in
          ap (λ (c : Cursor W). reads_in c) same ∙ sym it.keeps.reads;
    }

    bounded : IsBounded p.config p.history this
    bounded = record {
      number = size_new;
      within = λ shard lt.
          let last = last_distance (answer_to p.config p.history this) in
          let before = slice_index_or was.gather.sources shard first in
          record {
            bound = (asks before).bound last;
            is_bound = bound_at p.config p.history was query it.keeps ranges last
                (answer_near p.config p.history was query it.keeps ranges) shard first lt;
            within =
                let reads = gives.within.at shard first (omega (arith, lt, new_sources)) in
                let same = same_asks was.gather.sources is.gather.sources gives.asked shard first in
                let answer_there : last_distance (answer_in (asks {W = W}) is) ≡ last =
                ap last_distance (ap (λ n. take n (merged (map (asks {W = W}) is.gather.sources))) gives.limit
                ∙ ap (λ l. take was.gather.limit (merged l)) gives.asked ∙ answer_here) in
                let bound : (asks (slice_index_or is.gather.sources shard first)).bound
                (last_distance (answer_in (asks {W = W}) is)) ≡ (asks before).bound last =
                ap (λ (a : Asked). a.bound (last_distance (answer_in (asks {W = W}) is))) same
                ∙ ap (λ l. (asks before).bound l) answer_there in
                omega (arith, reads, read_new shard first lt, bound);
          };
    }

    -- the state after it
    abbrev then : State
    then = record p.s { queries = replaced tag this p.s.queries }

    keeps_now : IsGiven (asks {W = W}) count was is → Keeps p.config p.history is this
    keeps_now given = record {
      tag = gives.tag_same ∙ it.keeps.tag;
      within = it.keeps.within;
      pinned = it.keeps.pinned;
      sources = new_sources;
      each_asks = λ shard d lt.
          subst (AsksOn p.config.bits query.ask (rows_at p.config p.history query shard) (layout_at query.pinned shard))
          (sym (same_asks was.gather.sources is.gather.sources gives.asked shard d)) (it.keeps.each_asks shard d lt);
      limit = gives.limit ∙ it.keeps.limit;
      given = given.given ∙ ap (λ n. min (n + count) (length (answer_in (asks {W = W}) was))) it.keeps.given
          ∙ ap (λ (l : List Hit). min (query.given + count) (length l)) answer_here;
      done = given.done
          ∙ ap (λ n. cond (nat_lt (n + count) (length (answer_in (asks {W = W}) was))) was.done true) it.keeps.given
          ∙ ap (λ (l : List Hit). cond (nat_lt (query.given + count) (length l)) was.done true) answer_here
          ∙ ap (λ b. cond (nat_lt (query.given + count) (length hits)) b true) it.keeps.done;
      reads = refl;
      opened = it.keeps.opened;
    }

    replies_here : next_replies tag count was.gather.given (answer_in (asks {W = W}) was)
        ≡ next_replies tag count query.given hits
    replies_here =
        ap (next_replies tag count was.gather.given) answer_here
        ∙ ap (λ n. next_replies tag count n hits) it.keeps.given

    answered : (later : List JournalEntry) → Gives p.config (p.history ++ later) tag count query p.s
        (exchange_here p new (next_replies tag count query.given hits) p.s.position) then
    answered later = record {
      hits = hits;
      hits_are = ap (λ h. answer p.config.bits (rows_of h) query.ask)
          (sym (take-append-le query.position p.history later it.keeps.within));
      reads = reads_in is;
      reads_on = reads_on;
      said_is = refl;
      position = refl;
      given = refl;
    }

    pub gives_step : StepTo p after result new
    gives_step =
        let replies = next_replies tag count query.given hits in
        let only = only_still p.old.desk new.desk desk in
        quiet_learns p after result new (Ok (Some (Next tag count))) replies then is_asked refl p.s.position only
        (λ alone. refl) (within_new p new.desk only.learns)
        (later_learned p new.desk only.learns (ap (λ (d : DeskState). d.config) desk)
        (λ h. Answers (Ok (Some (Next tag count))) p.config h p.s (exchange_here p new replies p.s.position) then)
        (λ later. subst (λ o. IfOpen o (Gives p.config (p.history ++ later) tag count) p.s
        (exchange_here p new replies p.s.position) then) (sym found) (answered later)))
        (subst (λ r. Writes p.before after result (text r)) replies_here gives.wrote)
        reads_to
        upkeep
        (all_replaced (IsSettled p.config p.history) tag this p.s.queries p.stands.settled
        (record { within = it.keeps.within; bounded = bounded }))
        (samples_here p new then.queries samples (samples_stay tag p.s.queries query this found refl))
        refl refl refl
        (on_ok_then result (IsGiven (asks {W = W}) count was is) _
        (λ given. subst (λ l. AllKeep p.config p.history l (open_queries then.queries)) (sym changes.new_is)
        (subst (AllKeep p.config p.history (changes.front ++ is ∷ changes.back))
        (sym (replaced_open tag this p.s.queries it.keeps.opened)) (it.keep is this (keeps_now given))))
        gives.given)
        (pinned_still p new then pinned (pinned_replaced tag query this p.s.queries found refl)) pinned refl
        (position ∙ p.stands.position)

  pub next_step : GivesAs (asks {W = W}) (stands {W = W}) p.old.cursors tag count p.before after
      p.old.ledgers.reads new.ledgers.reads result new.cursors → StepTo p after result new
  next_step (inl unknown) =
      let same_ledgers : new.ledgers ≡ p.old.ledgers =
      ap (λ l. ledgers l new.ledgers.upkeep) unknown.2 ∙ ap (ledgers p.old.ledgers.reads) upkeep in
      unknown_step p after result new (Next tag count) tag (λ h. Gives p.config h tag count) is_asked refl
      (λ h e t answers. answers) unknown.0 unknown.1 desk same_ledgers pinned position samples unknown.3
  next_step (inr given) = gives_step given.0 given.1 given.2 given.3
