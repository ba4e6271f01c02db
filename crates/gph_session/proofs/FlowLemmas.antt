-- Lemmas on a session that goes on: one line more, the line that ends it, and the line whose reply is
-- refused.
use Rattle.std.proofs.Common.{◌≡◌, ◌≢◌, ℕ, ◌+◌, ◌-◌, ◌≤◌, ◌<◌, ◌==◌, ◌⊎◌, inl, inr, min, true, false, cond, Option, Result, Ok, Bool}
use Rattle.std.proofs.Common.{List, [], ◌∷◌, ◌++◌, length, take, drop, replicate, count_by}
use Rattle.std.proofs.Common.{refl, sym, ap, ◌∙◌, subst, arith, append_assoc, append-nil}
use Rattle.std.specs.List.{AllByRecursion}
use Rattle.std.specs.Io.KnownBytes.{Appends}
use Rattle.std.proofs.lemmas.Bool.Decides.{nat_tests}
use Rattle.std.proofs.lemmas.List.{map_push, length-map}
use Rattle.std.proofs.lemmas.List.Sums.{sum_by-append}
use Rattle.std.proofs.Math.Seq.{drop-append_seam}
use Rattle.byte_lines.specs.Cut.{held_of}
use Rattle.byte_lines.specs.Lines.{ended_lines, unended}
use Rattle.line_io.specs.declared.source.Failed.{Failed}
use Rattle.byte_lines.proofs.LinesLemmas.{ended_lines-append, unended-append}
use Rattle.hamming_model.specs.History.{JournalEntry}
use Rattle.part_layout.specs.declared.config.Config.{Config}
use Rattle.query_protocol.specs.Lines.{reading}
use Rattle.query_protocol.specs.Replies.{LineReply, text}
use Rattle.session_desk.specs.Desks.{DeskState, seen_history}
use Rattle.part_layout.specs.Contiguous.{contiguous}
use Rattle.session_model.specs.State.{Query, State, new_session, open_queries}
use Rattle.session_model.specs.Step.{Step}
use Rattle.session_model.specs.Entries.{Exchange}
use Rattle.session_model.specs.Ledger.{IsBounded, IsRise, Rise, RisesBy, readings_of}
use Rattle.session_desk.specs.Calls.{one_more}
use Rattle.session_model.specs.Builds.{swaps_of, was_moved, was_swapped}
use Rattle.session_model.specs.Upkeep.{all_other_steps, most_upkeep, other_steps}
use Rattle.session_model.specs.Upkeep.{all_build_steps, build_after, build_at, build_steps}
use Rattle.session_model.specs.Commits.{entries_by, is_answered, requests_of, commit_of, commits}
use Rattle.session_model.specs.Run.{Run, IsAlone, IsAmongOthers, lines_of, asks_quit, before_quit, has_quit}
use Rattle.session_model.proofs.RunLemmas.{run_more, commits_more, written_more}
use Rattle.session_model.proofs.RunLemmas.{before_answered, quit_answered, before_more, quit_more}
use Rattle.session_step.specs.declared.turn.Turn.{Turn}
use Rattle.session_step.specs.declared.turn.Turn.TheVariants.{Goes}
use Rattle.gph_session.specs.Sessions.{IsServed, IsServedSolo, RisesByCount, moves_of, state_of}
use Rattle.open_session.specs.KeptBuild.{StandsFrom, left_in}
use Rattle.open_session.specs.Growth.{IsAside}
use Rattle.open_session.specs.KeptDesk.{LeavesDesk, layouts_of, pins_of}
use Rattle.open_session.specs.LastPins.{LeavesPins}
use Rattle.open_session.specs.Moments.{Moment}
use Rattle.open_session.specs.Meaning.{Means, IsSettled, AllKeep}
use Rattle.session_step.specs.Answering.{OneLine, requests_with}
use Rattle.gph_session.specs.Flow.{Start, HasRun, GoesOn, begun_state, told_so_far}
use Rattle.gph_session.specs.Pieces.{HasServed, HasEnded, WasRefused}
use Rattle.open_session.specs.Steps.{Stands}
use Rattle.gph_session.proofs.GrowthLemmas.{each_more, each_seen_later, own_more, run_as}
use Rattle.open_session.proofs.LastPinsLemmas.{tells_more}
use Rattle.open_session.proofs.MomentLemmas.{reads_then, spends_then, others_more, as_long}

-- ---- what a state's queries have read

-- what the queries of a state have read, and the steps of upkeep
abbrev pub rise_of : State → ℕ → Rise
rise_of s steps = record { readings = readings_of s.queries; upkeep = steps }

all_bounded : (config : Config) (history : List JournalEntry) (queries : List Query)
    → AllByRecursion (IsSettled config history) queries
    → AllByRecursion (IsBounded config history) queries
all_bounded config history [] settled = tt
all_bounded config history (query ∷ queries) settled =
    (settled.0.bounded, all_bounded config history queries settled.1)

-- behind a front there is what follows it
drop_front : (front rest : List JournalEntry) (number : ℕ) → number ≡ length front
    → drop number (front ++ rest) ≡ rest
drop_front front rest number same =
    ap (λ n. drop n (front ++ rest)) same ∙ drop-append_seam front rest

module _ {W : ℕ} (config : Config) (start : Start) (now : Moment W) (exchanges : List Exchange)
    (state : State) (ran : HasRun config start now exchanges state) where
  abbrev steps : ℕ
  steps = now.ledgers.upkeep - start.ledgers.upkeep

  abbrev before : List JournalEntry
  before = seen_history start.desk

  abbrev history : List JournalEntry
  history = seen_history now.desk

  abbrev own_who : ℕ
  own_who = start.desk.who

  pub run_here : Run (IsAside start.desk.alone config) config history (begun_state start.desk) exchanges state
  run_here = subst (λ h. Run (IsAside start.desk.alone config) config h (begun_state start.desk) exchanges state)
      (append-nil history) (ran.run [])

  pub rises_here : RisesBy start.ledgers now.ledgers (rise_of state steps)
  rises_here = record {
    number = ran.reads.number;
    each = λ ledger lt. omega (arith, ran.reads.each ledger lt);
    steps = omega arith;
  }

  own_here : entries_by own_who (drop (length start.desk.seen) history) ≡ commits own_who config exchanges
  own_here =
      ap (λ h. entries_by own_who (drop (length start.desk.seen) h)) ran.longer
      ∙ ap (entries_by own_who) (drop_front before ran.more (length start.desk.seen) (sym (as_long start.desk)))
      ∙ ran.own

  -- the steps of upkeep, up to a position
  upkeep_here : (most : ℕ) → length now.desk.seen ≤ most
      → steps ≤ most_upkeep config.shards (pins_of start.desk) most exchanges
  upkeep_here most le = omega (arith, ran.spent.within most le)

  is_rise : IsRise config history state.queries (rise_of state steps)
  is_rise = record {
    readings = refl;
    bounded = all_bounded config history state.queries ran.settled;
  }

  -- ---- a desk that is alone

  module _ (alone : start.desk.alone ≡ true) where
    state_is : begun_state start.desk ≡ state_of start.desk
    state_is = ap (λ b. new_session own_who (length start.desk.seen) (cond b (layouts_of start.desk)
        (replicate start.desk.config.shards (contiguous start.desk.config.bits start.desk.config.parts)))) alone

    history_is : history ≡ before ++ commits own_who config exchanges
    history_is = ran.longer ∙ ap (λ l. before ++ l) (ran.whole alone)

    now_alone : now.desk.alone ≡ true
    now_alone = ran.keeps.alone ∙ alone

    run_alone : Run (IsAlone config) config (before ++ commits own_who config exchanges) (state_of start.desk) exchanges state
    run_alone =
        subst (λ s. Run (IsAlone config) config (before ++ commits own_who config exchanges) s exchanges state) state_is
        (subst (λ h. Run (IsAlone config) config h (begun_state start.desk) exchanges state) history_is
        (run_as (IsAside start.desk.alone config) (IsAlone config) (λ s e aside. aside alone) config history
        (begun_state start.desk) exchanges state run_here))

    served_solo : IsServedSolo start.desk now.desk (told_so_far now) config exchanges (rise_of state steps)
    served_solo = record {
      served = record {
        last = state;
        solo = record {
          begins = sym (as_long start.desk);
          session = record {
            run = run_alone;
            own = ap (λ h. entries_by own_who (drop (length start.desk.seen) h)) (sym history_is) ∙ own_here;
          };
          unmoved = ran.unmoved alone;
        };
        ledger = subst (λ h. IsRise config h state.queries (rise_of state steps)) history_is is_rise;
        upkeep = upkeep_here state.position (omega (arith, ran.means.whole now_alone, as_long now.desk));
      };
      seen = history_is;
      keeps = ran.keeps;
      layouts = sym (ran.means.layouts now_alone);
      done = ran.done;
      requests = ran.requests;
      position = ran.position;
      pinned = ran.pinned.told;
    }

  -- ---- any desk

  pub is_served : IsServed start.desk now.desk (told_so_far now) config exchanges
      (rise_of state steps)
  is_served = record {
    start = begun_state start.desk;
    begins = record {
      is_new = refl;
      seen = omega arith;
      are_layouts = ran.first;
      alone = state_is;
    };
    last = state;
    session = record {
      run = run_as (IsAside start.desk.alone config) IsAmongOthers (λ s e aside. tt) config history
          (begun_state start.desk) exchanges state run_here;
      own = own_here;
    };
    more = ran.more;
    longer = ran.longer;
    each_seen = ran.each_seen;
    within = omega (arith, ran.means.within, as_long now.desk);
    ledger = is_rise;
    upkeep = upkeep_here (length now.desk.seen) (omega arith);
    keeps = ran.keeps;
    done = ran.done;
    late = ran.late;
    requests = ran.requests;
    position = ran.position;
    pinned = ran.pinned.told;
    pins = ran.pins;
    alone = served_solo;
  }

pub leaves_then : (a b c : DeskState) → LeavesDesk a b → LeavesDesk b c → LeavesDesk a c
leaves_then a b c one two = record {
  board = two.board ∙ one.board;
  who = two.who ∙ one.who;
  config = two.config ∙ one.config;
  fronts = two.fronts ∙ one.fronts;
  late = λ alone. two.late (one.alone ∙ alone) ∙ one.late alone;
  alone = two.alone ∙ one.alone;
}

-- ---- one exchange more

requests_more : (config : Config) (exchanges : List Exchange) (e : Exchange) (line : List ℕ)
    → e.line ≡ line → requests_of config (exchanges ++ e ∷ [])
    ≡ requests_of config exchanges + cond (is_answered (reading config line)) 1 0
requests_more config exchanges e line same =
    let Counts = λ (x : Exchange). cond (is_answered (reading config x.line)) 1 0 in
    let both = sum_by-append Counts exchanges (e ∷ []) in
    omega (arith, both, ap {B = ℕ} (λ l. cond (is_answered (reading config l)) 1 0) same)

counted_once : (asked : Bool) (number : ℕ)
    → (cond asked (min (min number 18446744073709551615 + 1) 18446744073709551615) (min number 18446744073709551615))
    ≡ min (number + cond asked 1 0) 18446744073709551615
counted_once true number = omega arith
counted_once false number = omega arith

-- the build after one exchange more, and its steps
build_more : (from : ℕ) (exchanges : List Exchange) (e : Exchange)
    → build_after from (exchanges ++ e ∷ []) ≡ build_at (build_after from exchanges) e.replies
build_more from [] e = refl
build_more from (first ∷ exchanges) e = build_more (build_at from first.replies) exchanges e

build_steps_more : (from : ℕ) (exchanges : List Exchange) (e : Exchange)
    → all_build_steps from (exchanges ++ e ∷ [])
    ≡ all_build_steps from exchanges + build_steps (build_after from exchanges) e.replies
build_steps_more from [] e = omega arith
build_steps_more from (first ∷ exchanges) e =
    omega (arith, build_steps_more (build_at from first.replies) exchanges e)

-- the exchanges with such replies, with one exchange more, and the count of them
replied_more : (counts : List LineReply → Bool) (exchanges : List Exchange) (e : Exchange)
    → count_by (λ x. counts x.replies) (exchanges ++ e ∷ [])
    ≡ count_by (λ x. counts x.replies) exchanges + cond (counts e.replies) 1 0
replied_more counts exchanges e =
    let Counts = λ (x : Exchange). cond (counts x.replies) 1 0 in
    let both = sum_by-append Counts exchanges (e ∷ []) in
    omega (arith, both)

equal_by_test : (mid : ℕ) → (mid == 18446744073709551615) ≡ true → mid ≡ 18446744073709551615
equal_by_test mid is = grind (arith, nat_tests)

one_more_by : (mid : ℕ) (most : Bool) → (mid == 18446744073709551615) ≡ most
    → (one_more mid ≡ mid + 1) ⊎ (one_more mid ≡ 18446744073709551615)
one_more_by mid true is =
    inr (ap (λ b. cond b mid (mid + 1)) is ∙ equal_by_test mid is)
one_more_by mid false is = inl (ap (λ b. cond b mid (mid + 1)) is)

most_stays : (mid : ℕ) → mid ≡ 18446744073709551615 → one_more mid ≡ 18446744073709551615
most_stays mid is = ap one_more is

counted_by : (old mid new number : ℕ) (counts : Bool) → RisesByCount old mid number
    → new ≡ cond counts (one_more mid) mid → RisesByCount old new (number + cond counts 1 0)
counted_by old mid new number false (inl rose) same = inl (omega (arith, rose, same))
counted_by old mid new number false (inr most) same = inr (same ∙ most)
counted_by old mid new number true (inr most) same = inr (same ∙ most_stays mid most)
counted_by old mid new number true (inl rose) same =
    counted_one (one_more_by mid (mid == 18446744073709551615) refl)
  where
    counted_one : (one_more mid ≡ mid + 1) ⊎ (one_more mid ≡ 18446744073709551615)
        → RisesByCount old new (number + 1)
    counted_one (inl one) = inl (omega (arith, rose, same, one))
    counted_one (inr most) = inr (same ∙ most)

module _ {W : ℕ} (config : Config) (start : Start) (now : Moment W) (exchanges : List Exchange)
    (state : State) (ran : HasRun config start now exchanges state) (line : List ℕ)
    (before after : Option (List ℕ)) (result : Result Turn Failed) (next : Moment W)
    (one : OneLine {A = Turn} W config (seen_history now.desk) state line before after
    result now next) where
  -- the exchanges with this one
  abbrev all : List Exchange
  all = exchanges ++ one.step.exchange ∷ []

  abbrev who : ℕ
  who = start.desk.who

  -- what the session and the others committed meanwhile
  abbrev committed : List JournalEntry
  committed = commit_of state.who config one.step.exchange

  abbrev others : List JournalEntry
  others = one.step.grows.more

  same_who : state.who ≡ who
  same_who = ran.means.who ∙ ran.keeps.who

  same_commit : committed ≡ commit_of who config one.step.exchange
  same_commit = ap (λ w. commit_of w config one.step.exchange) same_who

  past_is : one.step.past ≡ seen_history now.desk ++ (others ++ committed)
  past_is = one.step.grows.after_is ∙ append_assoc (seen_history now.desk) others committed

  grown : seen_history next.desk ≡ seen_history now.desk ++ (others ++ committed)
  grown = sym one.step.means.history_is ∙ past_is

  -- what was committed since the session began
  abbrev more_now : List JournalEntry
  more_now = ran.more ++ (others ++ committed)

  longer_now : seen_history next.desk ≡ seen_history start.desk ++ more_now
  longer_now = grown ∙ ap (λ l. l ++ (others ++ committed)) ran.longer
      ∙ append_assoc (seen_history start.desk) ran.more (others ++ committed)

  own_now : entries_by who more_now ≡ commits who config all
  own_now =
      ap (λ l. entries_by who (ran.more ++ (others ++ l))) same_commit
      ∙ own_more who config ran.more (commits who config exchanges) others one.step.exchange ran.own
      (subst (λ w. AllByRecursion (λ (entry : JournalEntry). entry.who ≢ w) others) same_who one.step.grows.others)
      ∙ sym (commits_more who config exchanges one.step.exchange)

  whole_now : start.desk.alone ≡ true → more_now ≡ commits who config all
  whole_now alone =
      ap (λ l. ran.more ++ (l ++ committed)) (one.step.grows.none (ran.keeps.alone ∙ alone))
      ∙ ap (λ l. l ++ committed) (ran.whole alone)
      ∙ ap (λ l. commits who config exchanges ++ l) same_commit
      ∙ sym (commits_more who config exchanges one.step.exchange)

  seen_now : length now.desk.seen ≤ length next.desk.seen
  seen_now = (one.step.spent (build_after 0 exchanges) ran.stands).spent.longer

  pub ran_more : HasRun config start next all one.step.state
  ran_more = record {
    first = ran.first;
    run = λ later.
        let past = seen_history now.desk in
        let this = others ++ committed in
        let At = IsAside start.desk.alone config in
        let run = subst (λ h. Run At config h (begun_state start.desk) exchanges state)
        (sym (append_assoc past this later)) (ran.run (this ++ later)) in
        let step = subst (λ h. Step config (h ++ later) state one.step.exchange one.step.state) past_is (one.step.step later) in
        subst (λ h. Run At config (h ++ later) (begun_state start.desk) all one.step.state) (sym grown)
        (run_more At config ((past ++ this) ++ later) (begun_state start.desk) exchanges
        one.step.exchange state one.step.state run (λ alone. one.step.aside (ran.keeps.alone ∙ alone)) step);
    more = more_now;
    longer = longer_now;
    own = own_now;
    whole = whole_now;
    reads = reads_then start.ledgers.reads now.ledgers.reads next.ledgers.reads [] state.queries
        one.step.state.queries ran.reads one.step.reads;
    unmoved = λ alone. each_more (λ e. was_moved e.replies ≡ false) exchanges one.step.exchange (ran.unmoved alone)
        (one.step.unmoved (ran.keeps.alone ∙ alone));
    each_seen = each_more (λ e. e.seen ≤ length next.desk.seen) exchanges one.step.exchange
        (each_seen_later exchanges (length now.desk.seen) (length next.desk.seen) seen_now ran.each_seen)
        (omega (arith, one.step.seen, ap length one.step.means.history_is, as_long next.desk));
    spent =
        let both = spends_then start.desk now.desk next.desk start.ledgers.upkeep
        (now.ledgers.upkeep + left_in now.build) (next.ledgers.upkeep + left_in next.build)
        (all_other_steps config.shards exchanges + all_build_steps 0 exchanges)
        (other_steps config.shards one.step.exchange.replies one.step.exchange.seen
        + build_steps (build_after 0 exchanges) one.step.exchange.replies)
        ran.spent (one.step.spent (build_after 0 exchanges) ran.stands).spent in
        record {
          longer = both.longer;
          within = λ most le. omega (
            arith,
            both.within most le,
            others_more config.shards exchanges one.step.exchange,
            build_steps_more 0 exchanges one.step.exchange,
          );
        };
    stands = subst (λ n. StandsFrom n next.build) (sym (build_more 0 exchanges one.step.exchange))
        (one.step.spent (build_after 0 exchanges) ran.stands).stands;
    means = subst (λ h. Means config next.desk h one.step.state) one.step.means.history_is one.step.means;
    settled = subst (λ h. AllByRecursion (IsSettled config h) one.step.state.queries) one.step.means.history_is
        one.step.settled;
    samples = one.step.samples;
    build = one.step.build;
    keeps = leaves_then start.desk now.desk next.desk ran.keeps one.step.keeps;
    done = subst (RisesByCount start.desk.done next.desk.done) (sym (replied_more (λ r. was_swapped r) exchanges one.step.exchange))
        (counted_by start.desk.done now.desk.done next.desk.done (swaps_of exchanges)
        (was_swapped one.step.exchange.replies) ran.done one.step.done);
    late = subst (RisesByCount start.desk.late next.desk.late) (sym (replied_more (λ r. was_moved r) exchanges one.step.exchange))
        (counted_by start.desk.late now.desk.late next.desk.late (moves_of exchanges)
        (was_moved one.step.exchange.replies) ran.late one.step.late);
    requests = one.requests ∙ ap (requests_with (reading config line)) ran.requests
        ∙ counted_once (is_answered (reading config line)) (requests_of config exchanges)
        ∙ ap (λ n. min n 18446744073709551615) (sym (requests_more config exchanges one.step.exchange line one.step.is_line));
    pinned = one.step.pinned;
    pins = tells_more config exchanges one.step.exchange now.desk next.desk now.pinned next.pinned one.step.keeps.config ran.pins
        (subst (λ l. LeavesPins (reading config l) one.step.exchange.replies one.step.exchange.position now.desk next.desk
        now.pinned next.pinned) (sym one.step.is_line) one.step.pins);
    position = one.step.position;
  }

-- ---- the lines so far

module _ {W : ℕ} (config : Config) (start : Start) (now : Moment W) (bytes output : List ℕ)
    (begun : Option (List ℕ)) (going : GoesOn config start now bytes output begun) where
  abbrev past : List JournalEntry
  past = seen_history now.desk

  abbrev so_far : List Exchange
  so_far = going.exchanges

  run_so_far : Run (IsAside start.desk.alone config) config past (begun_state start.desk) so_far going.state
  run_so_far = run_here config start now so_far going.state going.ran

  abbrev rise_so_far : Rise
  rise_so_far = rise_of going.state (now.ledgers.upkeep - start.ledgers.upkeep)

  pub stands_here : Stands config now past going.state
  stands_here = record {
    means = going.ran.means;
    settled = going.ran.settled;
    samples = going.ran.samples;
    build = going.ran.build;
    keep = going.keep;
    pinned = going.ran.pinned;
    position = going.ran.position;
  }

  -- the whole lines so far were answered
  pub served_so_far : HasServed config start now (ended_lines [] bytes) output
  served_so_far = record {
    rise = rise_so_far;
    rises = rises_here config start now so_far going.state going.ran;
    answered = record {
      exchanges = so_far;
      served = is_served config start now so_far going.state going.ran;
      lines_are = going.lines_are;
      bytes_are = going.output_is;
    };
  }

  -- none of them ends the session
  pub goes_on : has_quit config (ended_lines [] bytes) ≡ false
  goes_on =
      ap (has_quit config) (sym going.lines_are ∙ sym (append-nil (lines_of so_far)))
      ∙ quit_answered (IsAside start.desk.alone config) config past (begun_state start.desk) so_far going.state run_so_far []

  pub all_before_quit : before_quit config (ended_lines [] bytes) ≡ ended_lines [] bytes
  all_before_quit =
      ap (before_quit config) (sym going.lines_are ∙ sym (append-nil (lines_of so_far)))
      ∙ before_answered (IsAside start.desk.alone config) config past (begun_state start.desk) so_far going.state run_so_far []
      ∙ append-nil (lines_of so_far) ∙ going.lines_are

  -- ---- one line more

  module _ (line : List ℕ) (before after : Option (List ℕ)) (result : Result Turn Failed)
      (next : Moment W)
      (one : OneLine {A = Turn} W config past going.state line before after result now next) where
    -- the exchanges with this one
    abbrev with_one : List Exchange
    with_one = so_far ++ one.step.exchange ∷ []

    ran_with : HasRun config start next with_one one.step.state
    ran_with = ran_more config start now so_far going.state going.ran line before after result next one

    abbrev rise_with : Rise
    rise_with = rise_of one.step.state (next.ledgers.upkeep - start.ledgers.upkeep)

    -- the lines with this one
    lines_with : lines_of with_one ≡ ended_lines [] bytes ++ line ∷ []
    lines_with =
        map_push (λ (e : Exchange). e.line) so_far one.step.exchange
        ∙ ap (λ l. l ++ one.step.exchange.line ∷ []) going.lines_are
        ∙ ap (λ l. ended_lines [] bytes ++ l ∷ []) one.step.is_line

    pub refused_line : (taken : ℕ) → taken < length (text one.step.exchange.replies)
        → (of_lines : List (List ℕ)) → of_lines ≡ ended_lines [] bytes ++ line ∷ []
        → WasRefused config start next of_lines (output ++ take taken (text one.step.exchange.replies))
        (length (ended_lines [] bytes))
    refused_line taken not_all of_lines is = record {
      rise = rise_with;
      rises = rises_here config start next with_one one.step.state ran_with;
      refused = record {
        answered = so_far;
        refused = one.step.exchange;
        rest = [];
        served = is_served config start next with_one one.step.state ran_with;
        lines_are = is ∙ ap (λ l. l ++ line ∷ []) (sym going.lines_are)
            ∙ ap (λ l. lines_of so_far ++ l ∷ []) (sym one.step.is_line);
        taken = taken;
        not_all = not_all;
        output_is = ap (λ o. o ++ take taken (text one.step.exchange.replies)) going.output_is;
      };
      all_before =
          let same : length (lines_of so_far) ≡ length so_far =
          length-map so_far (λ (e : Exchange). e.line) in
          omega (arith, same, ap length going.lines_are);
    }

  -- ---- a line that was answered

  module _ (line : List ℕ) (before after : Option (List ℕ)) (next : Moment W)
      (one : OneLine {A = Turn} W config past going.state line before after (Ok Goes) now next) where
    pub goes_line : (piece : List ℕ) (begun' : Option (List ℕ))
        → ended_lines (unended [] bytes) piece ≡ line ∷ []
        → begun' ≡ held_of (unended (unended [] bytes) piece)
        → (more : List ℕ) × Appends before after more
        × GoesOn config start next (bytes ++ piece) (output ++ more) begun'
    goes_line piece begun' lines_are begun_is = (
      text one.step.exchange.replies,
      one.step.wrote,
      record {
        exchanges = so_far ++ one.step.exchange ∷ [];
        state = one.step.state;
        ran = ran_with line before after (Ok Goes) next one;
        keep = subst (λ h. AllKeep config h next.cursors (open_queries one.step.state.queries))
            one.step.means.history_is one.step.keep;
        lines_are = lines_with line before after (Ok Goes) next one
            ∙ ap (λ l. ended_lines [] bytes ++ l) (sym lines_are) ∙ sym (ended_lines-append [] bytes piece);
        output_is = ap (λ o. o ++ text one.step.exchange.replies) going.output_is
            ∙ sym (written_more so_far one.step.exchange);
        begun_is = begun_is ∙ ap held_of (sym (unended-append [] bytes piece));
      },
    )

    -- where it is the last
    pub served_last : (of_lines : List (List ℕ)) → of_lines ≡ ended_lines [] bytes ++ line ∷ []
        → (more : List ℕ) × Appends before after more
        × HasServed config start next (before_quit config of_lines) (output ++ more)
    served_last of_lines is =
        let all = so_far ++ one.step.exchange ∷ [] in
        let ran = ran_with line before after (Ok Goes) next one in
        let same : lines_of all ≡ of_lines =
        lines_with line before after (Ok Goes) next one ∙ sym is in
        let answered = before_answered (IsAside start.desk.alone config) config (seen_history next.desk)
        (begun_state start.desk) all one.step.state (run_here config start next all one.step.state ran) [] in (
          text one.step.exchange.replies,
          one.step.wrote,
          record {
            rise = rise_with line before after (Ok Goes) next one;
            rises = rises_here config start next all one.step.state ran;
            answered = record {
              exchanges = all;
              served = is_served config start next all one.step.state ran;
              lines_are = sym (ap (before_quit config) (sym same ∙ sym (append-nil (lines_of all)))
                  ∙ answered ∙ append-nil (lines_of all));
              bytes_are = ap (λ o. o ++ text one.step.exchange.replies) going.output_is
                  ∙ sym (written_more so_far one.step.exchange);
            };
          },
        )

  -- ---- the line that ends the session

  pub ended_line : (line : List ℕ) (next : Moment W) → asks_quit (reading config line) ≡ true
      → next ≡ now → (of_lines : List (List ℕ)) → of_lines ≡ ended_lines [] bytes ++ line ∷ []
      → HasEnded config start next of_lines output
  ended_line line next quits still of_lines is =
      let same : of_lines ≡ lines_of so_far ++ line ∷ [] =
      is ∙ ap (λ l. l ++ line ∷ []) (sym going.lines_are) in
      subst (λ m. HasEnded config start m of_lines output) (sym still) (record {
        quits = ap (has_quit config) same
            ∙ quit_answered (IsAside start.desk.alone config) config past (begun_state start.desk) so_far going.state run_so_far
            (line ∷ [])
            ∙ ap (λ b. cond b true false) quits;
        served = record {
          rise = rise_so_far;
          rises = rises_here config start now so_far going.state going.ran;
          answered = record {
            exchanges = so_far;
            served = is_served config start now so_far going.state going.ran;
            lines_are = sym (ap (before_quit config) same
                ∙ before_answered (IsAside start.desk.alone config) config past (begun_state start.desk) so_far going.state
                run_so_far (line ∷ [])
                ∙ ap (λ b. lines_of so_far ++ cond b [] (line ∷ [])) quits
                ∙ append-nil (lines_of so_far));
            bytes_are = going.output_is;
          };
        };
      })

  -- ---- bytes that end no line

  pub goes_bytes : (piece : List ℕ) (begun' : Option (List ℕ))
      → ended_lines (unended [] bytes) piece ≡ []
      → begun' ≡ held_of (unended (unended [] bytes) piece)
      → GoesOn config start now (bytes ++ piece) output begun'
  goes_bytes piece begun' none begun_is = record {
    exchanges = so_far;
    state = going.state;
    ran = going.ran;
    keep = going.keep;
    output_is = going.output_is;
    lines_are = going.lines_are ∙ sym (append-nil (ended_lines [] bytes))
        ∙ ap (λ l. ended_lines [] bytes ++ l) (sym none) ∙ sym (ended_lines-append [] bytes piece);
    begun_is = begun_is ∙ ap held_of (sym (unended-append [] bytes piece));
  }

-- ---- what comes behind

pub refused_more : {W : ℕ} (config : Config) (start : Start) (now : Moment W)
    (of_lines more : List (List ℕ)) (output : List ℕ) (known fewer : ℕ) → fewer ≤ known
    → WasRefused config start now of_lines output known
    → WasRefused config start now (of_lines ++ more) output fewer
refused_more config start now of_lines more output known fewer le h = record {
  rise = h.rise;
  rises = h.rises;
  refused = record {
    answered = h.refused.answered;
    refused = h.refused.refused;
    rest = h.refused.rest ++ more;
    served = h.refused.served;
    lines_are = ap (λ l. l ++ more) h.refused.lines_are
        ∙ append_assoc (lines_of h.refused.answered) (h.refused.refused.line ∷ h.refused.rest) more;
    taken = h.refused.taken;
    not_all = h.refused.not_all;
    output_is = h.refused.output_is;
  };
  all_before = omega (arith, le, h.all_before);
}

pub ended_more : {W : ℕ} (config : Config) (start : Start) (now : Moment W)
    (of_lines more : List (List ℕ)) (output : List ℕ) → HasEnded config start now of_lines output
    → HasEnded config start now (of_lines ++ more) output
ended_more config start now of_lines more output h = record {
  quits = quit_more config of_lines more h.quits;
  served = subst (λ l. HasServed config start now l output)
      (sym (before_more config of_lines more h.quits)) h.served;
}
