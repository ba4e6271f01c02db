-- Lemmas on `range` and `near`: what becomes of an opening is a step of a session.
use Rattle.std.proofs.Common.{◌≡◌, ℕ, zero, suc, ◌+◌, ◌-◌, ◌*◌, ◌≤◌, ◌<◌, ◌&&◌, nat_le, nat_lt, Bool, true, false}
use Rattle.std.proofs.Common.{List, [], ◌∷◌, ◌++◌, length, take, map, replicate, slice_index, slice_index_or}
use Rattle.std.proofs.Common.{Option, Some, None, Result, Ok, refl, sym, ap, ◌∙◌, subst, arith, inl, inr}
use Rattle.std.specs.List.{AllByRecursion}
use Rattle.std.proofs.Math.ListN.{get_or-eq_default}
use Rattle.std.proofs.Math.Nat.{add-mul}
use Rattle.std.proofs.lemmas.List.{get_or-replicate, length-replicate}
use Rattle.std.proofs.lemmas.Bool.{ltb-true, ltb-false}
use Rattle.line_io.specs.declared.source.Failed.{Failed}
use Rattle.hamming_model.specs.declared.limits.TheConstants.{ENTRIES_MOST}
use Rattle.hamming_model.specs.History.{JournalEntry, rows_of, shard_rows}
use Rattle.hamming_model.specs.Scan.{Ask, Range, Near}
use Rattle.hit_source.specs.Sources.{Asked, IsFresh}
use Rattle.part_layout.specs.declared.config.Config.{Config}
use Rattle.part_layout.specs.Ranges.{IsConfig}
use Rattle.shard_version.specs.Contents.{Contents}
use Rattle.query_protocol.specs.Requests.{bad}
use Rattle.query_protocol.specs.Replies.{reply_line, LineReply}
use Rattle.query_protocol.specs.Replies as reply
use Rattle.session_desk.specs.Desks.{seen_history}
use Rattle.session_model.specs.State.{Query, State, query_of, open_queries}
use Rattle.session_model.specs.Entries.{Exchange}
use Rattle.session_model.specs.Ledger.{layout_at, rows_at, answer_to}
use Rattle.session_model.specs.Openings.{OpensUnlessMany, OpensUnlessUsed, new_query, most_open}
use Rattle.session_model.specs.Step.{Answers, AreLayouts}
use Rattle.session_model.specs.Told.{pinned_by}
use Rattle.session_model.specs.Upkeep.{entries_beyond, other_steps}
use Rattle.session_model.specs.Commits.{accepted}
use Rattle.threshold_model.specs.Bounds.{last_distance}
use Rattle.open_queries.specs.Queries.{opened_query}
use Rattle.open_queries.specs.Writing.{Writes}
use Rattle.query_opening.specs.Opening.{AsksWanted}
use Rattle.open_session.specs.Questions.{opening_request, asked_code, radius_in, wanted_in, limit_in}
use Rattle.open_session.specs.Cursors.{ShardSource, Cursor, asks, stands}
use Rattle.open_session.specs.KeptDesk.{pins_of}
use Rattle.open_session.specs.LastPins.{ArePinsTold}
use Rattle.open_session.specs.Pinned.{TellsPinned}
use Rattle.open_session.specs.Moments.{Moment, ReadsTo, Spends}
use Rattle.open_session.specs.Meaning.{AllKeep, AsksOn, IsSettled, Keeps}
use Rattle.query_requests.specs.Opened.{OpensAs, IsJudged, WasUsed, WasFull, HadNone, WasOpened}
use Rattle.query_requests.specs.Opening.{OpensAll}
use Rattle.open_session.proofs.DeskLemmas.{only_still}
use Rattle.open_session.proofs.MomentLemmas.{as_long, reads_still, seen_longer, seen_whole}
use Rattle.open_session.proofs.BoundLemmas.{answer_near, bound_at, first_of_some}
use Rattle.open_session.proofs.QueryLemmas.{is_found, keep_more, more_open, not_open, of_open, same_number}
use Rattle.open_session.proofs.LastPinsLemmas.{opening_pins, opens_none, pins_moved, pins_opened, told_of_last}
use Rattle.open_session.proofs.QueryLemmas.{all_more, pinned_more, read_more}
use Rattle.exchange_model.specs.Rounds.{PlainSample}
use Rattle.exchange_model.specs.declared.limits.TheConstants.{SAMPLES_MOST}
use Rattle.session_model.specs.Searches.{newest_of, sample_of}
use Rattle.session_model.proofs.SampleLemmas.{opened_sample}
use Rattle.open_session.specs.Samples.{MeansSamples, SamplesJoined}
use Rattle.open_session.proofs.Here.{Here, StepTo, asked_here, exchange_at, exchange_here, inside_of, keep_learned, means_to, on_ok, pinned_still}
use Rattle.open_session.proofs.Here.{quiet, quiet_by, samples_here, settled_learned, whole_here, within_here, within_new, writes_one}

-- ---- upkeep

beyond_same : (number position most : ℕ) → entries_beyond (replicate number position) most ≡ number * (most - position)
beyond_same zero position most = omega arith
beyond_same (suc number) position most = omega (arith, beyond_same number position most)

-- what the shards are behind a position and then a later one
beyond_then : (pins : List ℕ) (position most : ℕ) → AllByRecursion (λ pin. pin ≤ position) pins → position ≤ most
    → entries_beyond pins position + length pins * (most - position) ≡ entries_beyond pins most
beyond_then [] position most all le = omega arith
beyond_then (pin ∷ pins) position most all le =
    omega (arith, beyond_then pins position most all.1 le, all.0, le)

-- ---- sources that have read nothing

none_read : {W : ℕ} (sources : List (ShardSource W)) → AllByRecursion (λ source. IsFresh (stands {W = W} source)) sources
    → map (λ source. (stands {W = W} source).reads) sources ≡ replicate (length sources) 0
none_read [] fresh = refl
none_read (source ∷ sources) fresh =
    ap (λ n. n ∷ map (λ source. (stands source).reads) sources) fresh.0.reads
    ∙ ap (λ l. 0 ∷ l) (none_read sources fresh.1)

zero_by : (number i : ℕ) (here : Bool) → nat_lt i number ≡ here → slice_index (replicate number 0) i ≡ 0
zero_by number i true is = get_or-replicate number i 0 0 (ltb-true i number is)
zero_by number i false is =
    get_or-eq_default (replicate number 0) 0 (omega (arith, length-replicate {A = ℕ} number 0, ltb-false i number is))

all_zero : (number i : ℕ) → slice_index (replicate number 0) i ≡ 0
all_zero number i = zero_by number i (nat_lt i number) refl

-- ---- what opens a query

-- an opening is what a session answers, whatever kind of query it opens
opens_as : (asked : Ask) (tag : List ℕ) (config : Config) (history : List JournalEntry) (s : State) (e : Exchange)
    (t : State) → OpensUnlessUsed (query_of tag s.queries) history tag asked s e t
    → Answers (Ok (Some (opening_request tag asked))) config history s e t
opens_as (Range tau code) tag config history s e t opens = opens
opens_as (Near number code) tag config history s e t opens = opens

-- and it commits nothing
opening_commits : (tag : List ℕ) (asked : Ask) (replies : List LineReply)
    → accepted (Ok (Some (opening_request tag asked))) replies ≡ []
opening_commits tag (Range tau code) replies = refl
opening_commits tag (Near number code) replies = refl

-- what a source of a version is asked
asks_on : (asked : Ask) (version : Contents) (room : ℕ) (a : Asked)
    → radius_in version.layout.bits asked ≤ version.layout.bits → length version.rows ≤ ENTRIES_MOST
    → AsksWanted (wanted_in asked) version (asked_code asked) room a
    → AsksOn version.layout.bits asked version.rows version.layout.parts a
asks_on (Range tau code) version room a low few asks = record {
  radius = low;
  hits = asks.hits;
  rows_are = asks.rows;
  few = few;
  plan = λ last near. record { vector = asks.vector last; least = asks.cost last };
  bound = λ last near. asks.bound last;
}
asks_on (Near number code) version room a low few asks = record {
  radius = low;
  hits = asks.hits;
  rows_are = asks.rows;
  few = few;
  plan = asks.plan number;
  bound = asks.bound number;
}

module _ {A : Type 0} {W : ℕ} (p : Here W) (after : Option (List ℕ)) (result : Result A Failed)
    (new : Moment W) (ranges : IsConfig p.config) (tag : List ℕ) (asked : Ask)
    (low : radius_in p.config.bits asked ≤ p.config.bits) (room : ℕ) (this : LineReply)
    (is : asked_here p ≡ Ok (Some (opening_request tag asked)))
    (wrote : Writes p.before after result (reply_line this)) where
  abbrev open_before : List Query
  open_before = open_queries p.s.queries

  number_open : length open_before ≡ length p.old.cursors
  number_open = same_number p.config p.history p.old.cursors open_before p.stands.keep

  abbrev Opening : Option Query → List JournalEntry → Exchange → State → Type 0
  Opening found history e t = OpensUnlessUsed found history tag asked p.s e t

  -- where the tag is free the opening goes by how many are open
  judged_here : (full : Bool) → IsJudged p.old tag full → (history : List JournalEntry) (e : Exchange) (t : State)
      → OpensUnlessMany full history tag asked p.s e t
      → Answers (Ok (Some (opening_request tag asked))) p.config history p.s e t
  judged_here full judged history e t opens =
      let missing : query_of tag p.s.queries ≡ None =
      of_open tag p.s.queries ∙ not_open p.config p.history p.old.cursors open_before tag p.stands.keep judged.free in
      let same : nat_le most_open (length open_before) ≡ full =
      ap (nat_le most_open) number_open ∙ judged.full_is in
      opens_as asked tag p.config history p.s e t
      (subst (λ o. Opening o history e t) (sym missing)
      (subst (λ b. OpensUnlessMany b history tag asked p.s e t) (sym same) opens))

  -- ---- nothing is opened

  used_step : WasUsed p.old new tag this → StepTo p after result new
  used_step was =
      let found = is_found p.config p.history p.old.cursors open_before tag p.stands.keep was.used in
      let s = p.s in
      let replies = reply.Bad (bad 7) ∷ [] in
      subst (λ m. StepTo p after result m) (sym was.same)
      (quiet p after result p.old (Ok (Some (opening_request tag asked))) replies is
      (opening_commits tag asked replies) (opens_none (Ok (Some (opening_request tag asked))) replies refl)
      (only_still p.old.desk p.old.desk refl) refl refl refl refl
      p.stands.keep
      (λ later. opens_as asked tag p.config (p.history ++ later) s (exchange_here p p.old replies s.position) s
      (subst (λ o. Opening o (p.history ++ later) (exchange_here p p.old replies s.position) s)
      (sym (of_open tag s.queries ∙ found.1)) (record { said_is = refl; position = refl; same = refl })))
      (writes_one p.before after result (reply.Bad (bad 7))
      (subst (λ r. Writes p.before after result (reply_line r)) was.told wrote)))

  full_step : WasFull p.old new tag this → StepTo p after result new
  full_step was =
      let s = p.s in
      let replies = reply.Bad (bad 9) ∷ [] in
      subst (λ m. StepTo p after result m) (sym was.same)
      (quiet p after result p.old (Ok (Some (opening_request tag asked))) replies is
      (opening_commits tag asked replies) (opens_none (Ok (Some (opening_request tag asked))) replies refl)
      (only_still p.old.desk p.old.desk refl) refl refl refl refl
      p.stands.keep
      (λ later. judged_here true was.judged (p.history ++ later) (exchange_here p p.old replies s.position) s
      (record { said_is = refl; position = refl; same = refl }))
      (writes_one p.before after result (reply.Bad (bad 9))
      (subst (λ r. Writes p.before after result (reply_line r)) was.told wrote)))

  none_step : HadNone p.old new tag this → StepTo p after result new
  none_step had =
      let s = p.s in
      let opens = had.opens in
      let learns = opens.learns in
      let seen = length new.desk.seen in
      let shards : p.old.desk.config.shards ≡ p.config.shards =
      ap (λ (c : Config). c.shards) p.stands.means.config_is in
      let replies = reply.NoMemory ∷ [] in
      quiet_by p after result new (Ok (Some (opening_request tag asked))) replies s is
      (opening_commits tag asked replies) s.position s.layouts learns (λ alone. refl) p.stands.means.are_layouts
      (λ alone. refl)
      (λ later. judged_here false had.judged (seen_history new.desk ++ later) (exchange_here p new replies s.position) s
      (inl (record { said_is = refl; position = refl; same = refl })))
      (writes_one p.before after result reply.NoMemory
      (subst (λ r. Writes p.before after result (reply_line r)) had.told wrote))
      (subst (λ l. ReadsTo p.old.ledgers.reads l s.queries s.queries) (sym had.reads)
      (reads_still p.old.ledgers.reads s.queries))
      (record {
        longer = seen_longer p.old.desk new.desk.seen learns;
        within = λ most le.
            let cost : new.ledgers.upkeep ≤ p.old.ledgers.upkeep + p.config.shards * seen =
            subst (λ n. new.ledgers.upkeep ≤ p.old.ledgers.upkeep + n * seen) shards opens.steps in
            let all : (p.config.shards + 2) * seen ≡ p.config.shards * seen + 2 * seen = add-mul p.config.shards 2 seen in
            omega (arith, cost, opens.pins most, all);
      })
      (settled_learned p new.desk learns opens.keeps.config s.queries p.stands.settled)
      (samples_here p new s.queries had.samples refl)
      (means_to p new.desk s opens.keeps (within_new p new.desk learns)
      (λ alone. sym (whole_here p new.desk learns alone)) refl refl)
      opens.keeps
      (on_ok result (AllKeep p.config (seen_history new.desk) new.cursors (open_queries s.queries))
      (subst (λ l. AllKeep p.config (seen_history new.desk) l (open_queries s.queries)) (sym had.cursors)
      (keep_learned p new.desk learns opens.keeps.config p.old.cursors (open_queries s.queries) p.stands.keep)))
      (pinned_still p new s had.pinned refl)
      (pins_moved (Ok (Some (opening_request tag asked))) replies s.position p.old.desk new.desk p.old.pinned new.pinned
      (opens_none (Ok (Some (opening_request tag asked))) replies refl) (ap (λ b. b && true) (opening_pins tag asked)))
      (had.position ∙ p.stands.position)

  -- ---- a query is opened

  module _ (was : WasOpened p.old new tag asked room this) where
    abbrev layouts : List (List (List ℕ))
    layouts = was.opened.layouts

    abbrev opens : OpensAll (asks {W = W}) (stands {W = W}) p.old.desk new.desk was.gather.sources layouts new.position
        was.opened.gathered.rows asked room p.old.ledgers.upkeep new.ledgers.upkeep
    opens = was.opened.gathered.opens

    abbrev sources : List (ShardSource W)
    sources = was.gather.sources

    abbrev past : List JournalEntry
    past = seen_history new.desk

    shards_are : p.old.desk.config.shards ≡ p.config.shards
    shards_are = ap (λ (c : Config). c.shards) p.stands.means.config_is

    config_new : new.desk.config ≡ p.config
    config_new = opens.keeps.config ∙ p.stands.means.config_is

    -- where the desk is alone, the query stands on all that was seen
    at_whole : p.old.desk.alone ≡ true → new.position ≡ length new.desk.seen
    at_whole alone =
        omega (arith, opens.after, opens.within, ap length (seen_whole p.old.desk new.desk.seen opens.learns alone))

    abbrev replies : List LineReply
    replies = reply.Open tag new.position ∷ []

    abbrev exchange : Exchange
    exchange = exchange_at p new replies new.position layouts

    abbrev query : Query
    query = new_query tag asked exchange

    abbrev cursor : Cursor W
    cursor = opened_query tag was.gather

    abbrev then : State
    then = record p.s { position = new.position; queries = p.s.queries ++ query ∷ [] }

    are_layouts : AreLayouts p.config layouts
    are_layouts = subst (λ c. AreLayouts c layouts) config_new opens.are_layouts

    -- what a source is asked on its shard's rows
    asks_at : (shard : ℕ) (d : ShardSource W) → shard < p.config.shards
        → AsksOn p.config.bits asked (rows_at p.config past query shard) (layout_at layouts shard)
        (asks (slice_index_or sources shard d))
    asks_at shard d lt =
        let here = opens.each shard d (omega (arith, lt, shards_are)) in
        let version = here.version in
        let bits : version.layout.bits ≡ p.config.bits =
        here.version_is.bits_are ∙ ap (λ (c : Config). c.bits) config_new in
        let rows : version.rows ≡ rows_at p.config past query shard =
        here.version_is.rows
        ∙ ap (λ (c : Config). shard_rows shard c.shards (rows_of (take new.position past))) config_new in
        let a = asks (slice_index_or sources shard d) in
        subst (λ l. AsksOn p.config.bits asked (rows_at p.config past query shard) l a) here.layout_is
        (subst (λ r. AsksOn p.config.bits asked r version.layout.parts a) rows
        (subst (λ n. AsksOn n asked version.rows version.layout.parts a) bits
        (asks_on asked version room a (subst (λ n. radius_in n asked ≤ n) (sym bits) low)
        here.version_is.sound.few_rows here.source_is.asks)))

    number_here : length sources ≡ p.config.shards
    number_here = opens.number ∙ shards_are

    size_here : length layouts ≡ p.config.shards
    size_here = are_layouts.number

    keeps_new : Keeps p.config past cursor query
    keeps_new = record {
      tag = refl;
      within = omega (arith, opens.within, as_long new.desk);
      pinned = are_layouts;
      sources = number_here;
      each_asks = asks_at;
      limit = was.opened.gathered.gathers.limit ∙ ap (limit_in asked) opens.rows_are;
      given = was.opened.gathered.gathers.given;
      done = refl;
      reads = ap (λ n. replicate n 0) (size_here ∙ sym number_here)
          ∙ sym (none_read sources was.opened.gathered.gathers.untouched.fresh);
      opened = refl;
    }

    first : ShardSource W
    first = first_of_some sources (omega (arith, ranges.some_shards, number_here))

    settled_new : IsSettled p.config past query
    settled_new = record {
      within = omega (arith, opens.within, as_long new.desk);
      bounded = record {
        number = length-replicate {A = ℕ} (length layouts) 0 ∙ size_here;
        within = λ shard lt.
            let last = last_distance (answer_to p.config past query) in
            record {
              bound = (asks (slice_index_or sources shard first)).bound last;
              is_bound = bound_at p.config past cursor query keeps_new ranges last
                  (answer_near p.config past cursor query keeps_new ranges) shard first lt;
              within = omega (arith, all_zero (length layouts) shard);
            };
      };
    }

    -- the layouts in memory are those of the queries, with those of the one that is opened
    pinned_with : TellsPinned p.config.shards new.pinned (pinned_by p.s.queries ++ layouts ∷ [])
    pinned_with =
        subst (λ n. TellsPinned n new.pinned (pinned_by p.s.queries ++ layouts ∷ [])) size_here
        (was.opened.pinned (pinned_by p.s.queries)
        (subst (λ n. TellsPinned n p.old.pinned (pinned_by p.s.queries)) (sym size_here) p.stands.pinned))

    pinned_new : TellsPinned p.config.shards new.pinned (pinned_by then.queries)
    pinned_new = subst (TellsPinned p.config.shards new.pinned) (sym (pinned_more p.s.queries query)) pinned_with

    -- and the last of them those that the desk pinned last
    pins_told : ArePinsTold new.desk new.pinned.told new.position
    pins_told shard lt =
        let inside : shard < p.config.shards = omega (arith, lt, ap (λ (c : Config). c.shards) config_new) in
        record {
          layout = layout_at layouts shard;
          told_last = told_of_last p.config.shards new.pinned (pinned_by p.s.queries) layouts size_here pinned_with shard inside;
          pinned_last = (opens.each shard first (omega (arith, inside, shards_are))).pin;
        }

    -- what was asked joined the samples
    samples_new : MeansSamples p.config.bits new.samples then.queries
    samples_new =
        subst (λ n. SamplesJoined n asked p.old.samples new.samples) (ap (λ (c : Config). c.bits) p.stands.means.config_is) was.samples
        ∙ ap (λ (l : List PlainSample). newest_of SAMPLES_MOST (l ++ sample_of asked)) p.stands.samples
        ∙ sym (opened_sample p.s.queries query)

    spends_new : Spends p.old.desk new.desk p.old.ledgers.upkeep new.ledgers.upkeep
        (other_steps p.config.shards replies (length new.desk.seen))
    spends_new = record {
      longer = seen_longer p.old.desk new.desk.seen opens.learns;
      within = λ most le.
          let at = new.position in
          let fits : at ≤ most = omega (arith, opens.within, le) in
          let pins = pins_of p.old.desk in
          let size : length pins ≡ p.old.desk.config.shards = opens.pins_number in
          let same : entries_beyond (pins_of new.desk) most ≡ p.old.desk.config.shards * (most - at) =
          ap (λ l. entries_beyond l most) opens.pins ∙ beyond_same p.old.desk.config.shards at most in
          let all : entries_beyond pins at + p.old.desk.config.shards * (most - at) ≡ entries_beyond pins most =
          ap (λ n. entries_beyond pins at + n * (most - at)) (sym size) ∙ beyond_then pins at most opens.behind fits in
          omega (arith, same, all, opens.steps);
    }

    opened_step : StepTo p after result new
    opened_step =
        let s = p.s in
        let learns = opens.learns in
        quiet_by p after result new (Ok (Some (opening_request tag asked))) replies then is
        (opening_commits tag asked replies) new.position layouts learns
        (λ alone. at_whole alone ∙ whole_here p new.desk learns alone) are_layouts
        (λ alone. opens.alone alone ∙ sym (p.stands.means.layouts alone))
        (λ later. judged_here false was.judged (past ++ later) exchange then
        (inr (record {
          not_before = omega (arith, within_here p, opens.after);
          within = inside_of new.desk later new.position opens.within;
          said_is = refl;
          opened = refl;
        })))
        (writes_one p.before after result (reply.Open tag new.position)
        (subst (λ r. Writes p.before after result (reply_line r)) was.told wrote))
        (subst (λ l. ReadsTo p.old.ledgers.reads l s.queries then.queries) (sym was.reads)
        (record {
          number = refl;
          each = λ ledger lt. omega (arith, read_more ledger s.queries query, all_zero (length layouts) ledger);
        }))
        spends_new
        (all_more (IsSettled p.config past) s.queries query
        (settled_learned p new.desk learns opens.keeps.config s.queries p.stands.settled) settled_new)
        samples_new
        (means_to p new.desk then opens.keeps opens.within at_whole refl refl)
        opens.keeps
        (on_ok result (AllKeep p.config past new.cursors (open_queries then.queries))
        (subst (λ l. AllKeep p.config past new.cursors l) (sym (more_open s.queries query refl))
        (subst (λ l. AllKeep p.config past l (open_queries s.queries ++ query ∷ [])) (sym was.cursors)
        (keep_more p.config past p.old.cursors open_before cursor query
        (keep_learned p new.desk learns opens.keeps.config p.old.cursors open_before p.stands.keep) keeps_new))))
        pinned_new
        (pins_opened (Ok (Some (opening_request tag asked))) replies new.position p.old.desk new.desk p.old.pinned new.pinned
        (ap (λ b. b && true) (opening_pins tag asked)) pins_told)
        refl

  pub open_step : OpensAs p.old new tag asked room this → StepTo p after result new
  open_step (inl was) = used_step was
  open_step (inr (inl was)) = full_step was
  open_step (inr (inr (inl had))) = none_step had
  open_step (inr (inr (inr was))) = opened_step was
