-- The replies to the lines of a workload hold numbers of 64 bits.
use Rattle.std.proofs.Common.{◌≡◌, ℕ, suc, ◌+◌, ◌<◌, ◌≤◌, ◌^◌, nat_le, nat_lt, Bool, true, false, cond, if◌then◌else◌, List, [], ◌∷◌, length, take, drop, Option, Some, None, Ok, refl, sym, ap, subst, arith, inl, inr, ◌⊎◌}
use Rattle.std.proofs.Math.Nat.{min-le_right}
use Rattle.std.specs.List.{AllByRecursion}
use Rattle.hamming_model.specs.History.{JournalEntry, rows_of}
use Rattle.hamming_model.specs.History as journal
use Rattle.hamming_model.specs.Scan.{Ask, answer}
use Rattle.hamming_model.specs.Scan as ask
use Rattle.hamming_model.specs.declared.hit.Hit.{Hit}
use Rattle.line_forms.specs.Forms.{is_tag}
use Rattle.part_layout.specs.declared.config.Config.{Config}
use Rattle.query_protocol.specs.Requests.{LineRequest, Add, Del, Get, Range, Near, Next, Cost, Plan, Cancel, Layout, Repart, Build, Swap, Search, Quit, bad}
use Rattle.query_protocol.specs.Replies.{LineReply}
use Rattle.query_protocol.specs.Replies as reply
use Rattle.query_protocol.specs.Written.{IsWritten}
use Rattle.session_model.specs.State.{State, Query, has_tag, query_of, replaced, open_queries}
use Rattle.session_model.specs.Entries.{Exchange, Stays, Refuses, Adds, RefusesTaken, Fills}
use Rattle.session_model.specs.Openings.{most_open, new_query, OpensUnlessMany, OpensUnlessUsed}
use Rattle.session_model.specs.QuerySteps.{hit_replies, given_more, Gives, Costs, Cancels, closed_query, IfOpen, end_reply}
use Rattle.session_model.specs.Step.{Answers, asked_by}
use Rattle.session_model.specs.Commits.{committed, commit_of, commits}
use Rattle.session_model.specs.Run.{Run, IsAlone}
use Rattle.load_model.specs.Told.{replies_of}
use Rattle.load_model.proofs.AnswerLemmas.{all_taken, all_dropped, all_joined, IsSmallHit, code_asked, all_answered, few_answered, IsSmallAddition, AreSmallAdditions, small_rows, few_rows}
use Rattle.load_model.proofs.WalkLemmas.{Asks}

-- a request of a workload: its key has 64 bits, its tag is one, and its code is short
abbrev pub IsSmallRequest : LineRequest → Type 0
IsSmallRequest (Add key code) = key < 2 ^ 64
IsSmallRequest (Range tag radius code) = (is_tag tag ≡ true) × (length code < 2 ^ 64)
IsSmallRequest (Near tag number code) = (is_tag tag ≡ true) × (length code < 2 ^ 64)
IsSmallRequest (Next tag count) = is_tag tag ≡ true
IsSmallRequest (Cost tag) = is_tag tag ≡ true
IsSmallRequest (Cancel tag) = is_tag tag ≡ true
IsSmallRequest other = ⊥

abbrev AreWritten : List LineReply → Type 0
AreWritten replies = AllByRecursion IsWritten replies

-- ---- what is committed

-- one entry at most, which adds a row
record IsSmallCommit (entries : List JournalEntry) : Type 0 where
  added : AreSmallAdditions entries
  one : length entries ≤ 1

nothing_committed : IsSmallCommit []
nothing_committed = record { added = tt; one = omega arith }

module _ (config : Config) (history : List JournalEntry) (who : ℕ) (s : State) (e : Exchange) (t : State) where
  add_commits : (key : ℕ) (code : List ℕ) → key < 2 ^ 64
      → Refuses s e t ⊎ (Adds config history key code s e t ⊎ (RefusesTaken config history key code s e t ⊎ Fills config history (journal.Add key code) s e t))
      → IsSmallCommit (committed who (Ok (Some (Add key code))) e.replies)
  add_commits key code small (inl h) =
      subst (λ said. IsSmallCommit (committed who (Ok (Some (Add key code))) said)) (sym h.said_is) nothing_committed
  add_commits key code small (inr (inl h)) =
      subst (λ said. IsSmallCommit (committed who (Ok (Some (Add key code))) said)) (sym h.said_is) (record { added = (small, tt); one = omega arith })
  add_commits key code small (inr (inr (inl h))) =
      subst (λ said. IsSmallCommit (committed who (Ok (Some (Add key code))) said)) (sym h.said_is) nothing_committed
  add_commits key code small (inr (inr (inr h))) =
      subst (λ said. IsSmallCommit (committed who (Ok (Some (Add key code))) said)) (sym h.said_is) nothing_committed

  request_commits : (request : LineRequest) → IsSmallRequest request → Answers (Ok (Some request)) config history s e t
      → IsSmallCommit (committed who (Ok (Some request)) e.replies)
  request_commits (Add key code) small h = add_commits key code small h
  request_commits (Del key) small h = absurd small
  request_commits (Get key) small h = absurd small
  request_commits (Range tag radius code) small h = nothing_committed
  request_commits (Near tag number code) small h = nothing_committed
  request_commits (Next tag count) small h = nothing_committed
  request_commits (Cost tag) small h = nothing_committed
  request_commits (Plan tag shard) small h = absurd small
  request_commits (Cancel tag) small h = nothing_committed
  request_commits (Layout shard) small h = absurd small
  request_commits (Repart shard layout) small h = absurd small
  request_commits (Build rows) small h = absurd small
  request_commits Swap small h = absurd small
  request_commits (Search shard rounds) small h = absurd small
  request_commits Quit small h = absurd small

abbrev pub AreSmallRequests : List LineRequest → Type 0
AreSmallRequests requests = AllByRecursion IsSmallRequest requests

step_commits : (config : Config) (history : List JournalEntry) (who : ℕ) (s : State) (e : Exchange) (t : State) (request : LineRequest)
    → IsSmallRequest request → asked_by config e.line ≡ Ok (Some request) → Answers (asked_by config e.line) config history s e t
    → IsSmallCommit (commit_of who config e)
step_commits config history who s e t request small asked h =
    subst (λ one. IsSmallCommit (committed who one e.replies)) (sym asked)
    (request_commits config history who s e t request small (subst (λ one. Answers one config history s e t) asked h))

-- all that a session commits
pub all_commits : (config : Config) (history : List JournalEntry) (who : ℕ) (exchanges : List Exchange) (requests : List LineRequest) (s t : State)
    → Asks config exchanges requests → AreSmallRequests requests → Run (IsAlone config) config history s exchanges t
    → AreSmallAdditions (commits who config exchanges)
all_commits config history who [] requests s t asks small run = tt
all_commits config history who (e ∷ exchanges) [] s t asks small run = absurd asks
all_commits config history who (e ∷ exchanges) (request ∷ requests) s t asks small run =
    let one = step_commits config history who s e run.0 request small.0 asks.0 run.2.answers in
    all_joined (λ (entry : JournalEntry). IsSmallAddition entry.operation) (commit_of who config e) (commits who config exchanges) one.added
    (all_commits config history who exchanges requests run.0 t asks.1 small.1 run.3)

-- ---- queries

-- a query that asks with a short code on a prefix of fewer than 2^64 entries, and has given fewer hits
pub record IsSmallQuery (query : Query) : Type 0 where
  pub code : length (code_asked query.ask) < 2 ^ 64
  pub position : query.position < 2 ^ 64
  pub given : query.given < 2 ^ 64

abbrev pub AreSmallQueries : List Query → Type 0
AreSmallQueries queries = AllByRecursion IsSmallQuery queries

go_found : (here : Bool) (first query : Query) (found : Option Query) → IsSmallQuery first → (found ≡ Some query → IsSmallQuery query)
    → cond here (Some first) found ≡ Some query → IsSmallQuery query
go_found true first query found one rest is = let same : first ≡ query = cc in subst IsSmallQuery same one
go_found false first query found one rest is = rest is

found_small : (tag : List ℕ) (queries : List Query) (query : Query) → AreSmallQueries queries → query_of tag queries ≡ Some query → IsSmallQuery query
found_small tag [] query all is = cc
found_small tag (first ∷ queries) query all is =
    go_found (has_tag tag first) first query (query_of tag queries) all.0 (found_small tag queries query all.1) is

go_replaced : (here : Bool) (this first : Query) (queries more : List Query) → IsSmallQuery this → IsSmallQuery first → AreSmallQueries queries
    → AreSmallQueries more → AreSmallQueries (cond here (this ∷ queries) (first ∷ more))
go_replaced true this first queries more one other all rest = (one, all)
go_replaced false this first queries more one other all rest = (other, rest)

replaced_small : (tag : List ℕ) (this : Query) (queries : List Query) → AreSmallQueries queries → IsSmallQuery this
    → AreSmallQueries (replaced tag this queries)
replaced_small tag this [] all one = tt
replaced_small tag this (first ∷ queries) all one =
    go_replaced (has_tag tag first) this first queries (replaced tag this queries) one all.0 all.1 (replaced_small tag this queries all.1 one)

-- ---- replies

hits_written : (tag : List ℕ) (hits : List Hit) → is_tag tag ≡ true → AllByRecursion IsSmallHit hits → AreWritten (hit_replies tag hits)
hits_written tag [] is all = tt
hits_written tag (hit ∷ hits) is all = ((is, all.0.0, all.0.1), hits_written tag hits is all.1)

end_written : (tag : List ℕ) (count : ℕ) (more : Bool) → is_tag tag ≡ true → count < 2 ^ 64
    → AreWritten ((if more then reply.More tag else reply.Done tag count) ∷ [])
end_written tag count true is small = (is, tt)
end_written tag count false is small = ((is, small), tt)

ended_written : (tag : List ℕ) (count : ℕ) (done : Bool) → is_tag tag ≡ true → count < 2 ^ 64 → AreWritten (end_reply done tag count ∷ [])
ended_written tag count true is small = ((is, small), tt)
ended_written tag count false is small = ((is, small), tt)

-- ---- a step

-- a session of which so many exchanges are left
pub record IsSmallState (left : ℕ) (s : State) : Type 0 where
  pub position : s.position + left < 2 ^ 64
  pub queries : AreSmallQueries s.queries

module _ (config : Config) (history : List JournalEntry) (adds : AreSmallAdditions history) (left : ℕ) (s : State) (e : Exchange) (t : State)
    (small : IsSmallState (suc left) s) (at : e.position + left < 2 ^ 64) where
  record IsWrittenStep : Type 0 where
    written : AreWritten e.replies
    state : IsSmallState left t

  stays_written : (said : List LineReply) → AreWritten said → Stays said s e t → IsWrittenStep
  stays_written said all h = record {
    written = subst AreWritten (sym h.said_is) all;
    state = subst (λ (u : State). IsSmallState left u) (sym h.same) (record { position = omega (arith, small.position); queries = small.queries });
  }

  moved_written : (said : LineReply) → IsWritten said → e.replies ≡ said ∷ [] → t ≡ record s { position = e.position } → IsWrittenStep
  moved_written said one is same = record {
    written = subst AreWritten (sym is) (one, tt);
    state = subst (λ (u : State). IsSmallState left u) (sym same) (record { position = at; queries = small.queries });
  }

  add_written : (key : ℕ) (code : List ℕ) → key < 2 ^ 64
      → Refuses s e t ⊎ (Adds config history key code s e t ⊎ (RefusesTaken config history key code s e t ⊎ Fills config history (journal.Add key code) s e t))
      → IsWrittenStep
  add_written key code fits (inl h) = stays_written (reply.NoMemory ∷ []) (tt, tt) h
  add_written key code fits (inr (inl h)) = moved_written (reply.Added key e.position) (fits, omega (arith, at)) h.said_is h.position
  add_written key code fits (inr (inr (inl h))) = moved_written (reply.Taken key e.position) (fits, omega (arith, at)) h.said_is h.position
  add_written key code fits (inr (inr (inr h))) = moved_written (reply.Full e.position) (omega (arith, at)) h.said_is h.position

  many_written : (many : Bool) (tag : List ℕ) (asked : Ask) → is_tag tag ≡ true → length (code_asked asked) < 2 ^ 64
      → OpensUnlessMany many history tag asked s e t → IsWrittenStep
  many_written true tag asked is short h = stays_written (reply.Bad (bad 9) ∷ []) ((omega arith, omega arith), tt) h
  many_written false tag asked is short (inl h) = stays_written (reply.NoMemory ∷ []) (tt, tt) h
  many_written false tag asked is short (inr h) =
      let here : e.position < 2 ^ 64 = omega (arith, at) in
      let one : IsSmallQuery (new_query tag asked e) = record { code = short; position = here; given = omega arith } in record {
        written = subst AreWritten (sym h.said_is) ((is, here), tt);
        state = subst (λ (u : State). IsSmallState left u) (sym h.opened) (record {
          position = at;
          queries = all_joined IsSmallQuery s.queries (new_query tag asked e ∷ []) small.queries (one, tt);
        });
      }

  opening_written : (used : Option Query) (tag : List ℕ) (asked : Ask) → is_tag tag ≡ true → length (code_asked asked) < 2 ^ 64
      → OpensUnlessUsed used history tag asked s e t → IsWrittenStep
  opening_written (Some query) tag asked is short h = stays_written (reply.Bad (bad 7) ∷ []) ((omega arith, omega arith), tt) h
  opening_written None tag asked is short h = many_written (nat_le most_open (length (open_queries s.queries))) tag asked is short h

  next_written : (found : Option Query) (tag : List ℕ) (count : ℕ) → is_tag tag ≡ true → query_of tag s.queries ≡ found
      → IfOpen found (Gives config history tag count) s e t → IsWrittenStep
  next_written None tag count is there h = stays_written (reply.Bad (bad 8) ∷ []) ((omega arith, omega arith), tt) h
  next_written (Some query) tag count is there h =
      let one = found_small tag s.queries query small.queries there in
      let rows = rows_of (take query.position history) in
      let few : length h.hits < 2 ^ 64 =
      omega (arith, ap length h.hits_are, few_answered config.bits rows query.ask, few_rows history query.position adds, one.position) in
      let all : AllByRecursion IsSmallHit h.hits = subst (λ hits. AllByRecursion IsSmallHit hits) (sym h.hits_are)
      (all_answered config.bits rows query.ask (small_rows history query.position adds) one.code) in
      let this : IsSmallQuery (given_more query count h.hits h.reads) = record {
        code = one.code;
        position = one.position;
        given = omega (arith, few, min-le_right (query.given + count) (length h.hits));
      } in record {
        written = subst AreWritten (sym h.said_is)
            (all_joined IsWritten (hit_replies tag (take count (drop query.given h.hits)))
            ((if nat_lt (query.given + count) (length h.hits) then reply.More tag else reply.Done tag (length h.hits)) ∷ [])
            (hits_written tag (take count (drop query.given h.hits)) is
            (all_taken IsSmallHit count (drop query.given h.hits) (all_dropped IsSmallHit query.given h.hits all)))
            (end_written tag (length h.hits) (nat_lt (query.given + count) (length h.hits)) is few));
        state = subst (λ (u : State). IsSmallState left u) (sym h.given) (record {
          position = omega (arith, small.position);
          queries = replaced_small tag (given_more query count h.hits h.reads) s.queries small.queries this;
        });
      }

  cost_written : (found : Option Query) (tag : List ℕ) → is_tag tag ≡ true
      → IfOpen found (Costs config history tag) s e t → IsWrittenStep
  cost_written None tag is h = stays_written (reply.Bad (bad 8) ∷ []) ((omega arith, omega arith), tt) h
  cost_written (Some query) tag is h = record {
    written = subst AreWritten (sym h.said_is) ((is, omega (arith, h.within, h.small), h.small), tt);
    state = subst (λ (u : State). IsSmallState left u) (sym h.same) (record { position = omega (arith, small.position); queries = small.queries });
  }

  cancel_written : (found : Option Query) (tag : List ℕ) → is_tag tag ≡ true → query_of tag s.queries ≡ found
      → IfOpen found (Cancels tag) s e t → IsWrittenStep
  cancel_written None tag is there h = stays_written (reply.Bad (bad 8) ∷ []) ((omega arith, omega arith), tt) h
  cancel_written (Some query) tag is there h =
      let one = found_small tag s.queries query small.queries there in record {
        written = subst AreWritten (sym h.said_is) (ended_written tag query.given query.done is one.given);
        state = subst (λ (u : State). IsSmallState left u) (sym h.closed) (record {
          position = omega (arith, small.position);
          queries = replaced_small tag (closed_query query) s.queries small.queries
              (record { code = one.code; position = one.position; given = one.given });
        });
      }

  request_written : (request : LineRequest) → IsSmallRequest request → Answers (Ok (Some request)) config history s e t → IsWrittenStep
  request_written (Add key code) fits h = add_written key code fits h
  request_written (Del key) fits h = absurd fits
  request_written (Get key) fits h = absurd fits
  request_written (Range tag radius code) fits h = opening_written (query_of tag s.queries) tag (ask.Range radius code) fits.0 fits.1 h
  request_written (Near tag number code) fits h = opening_written (query_of tag s.queries) tag (ask.Near number code) fits.0 fits.1 h
  request_written (Next tag count) fits h = next_written (query_of tag s.queries) tag count fits refl h
  request_written (Cost tag) fits h = cost_written (query_of tag s.queries) tag fits h
  request_written (Plan tag shard) fits h = absurd fits
  request_written (Cancel tag) fits h = cancel_written (query_of tag s.queries) tag fits refl h
  request_written (Layout shard) fits h = absurd fits
  request_written (Repart shard layout) fits h = absurd fits
  request_written (Build rows) fits h = absurd fits
  request_written Swap fits h = absurd fits
  request_written (Search shard rounds) fits h = absurd fits
  request_written Quit fits h = absurd fits

-- ---- a run

pub all_written : (config : Config) (history : List JournalEntry) (exchanges : List Exchange) (requests : List LineRequest) (s t : State)
    → AreSmallAdditions history → AreSmallRequests requests → Asks config exchanges requests → IsSmallState (length exchanges) s
    → Run (IsAlone config) config history s exchanges t → AllByRecursion IsWritten (replies_of exchanges)
all_written config history [] requests s t adds fits asks small run = tt
all_written config history (e ∷ exchanges) [] s t adds fits asks small run = absurd asks
all_written config history (e ∷ exchanges) (request ∷ requests) s t adds fits asks small run =
    let commit = step_commits config history s.who s e run.0 request fits.0 asks.0 run.2.answers in
    let moves = run.1.position in
    let at : e.position + length exchanges < 2 ^ 64 = omega (arith, moves, commit.one, small.position) in
    let step = request_written config history adds (length exchanges) s e run.0 small at request fits.0
    (subst (λ one. Answers one config history s e run.0) asks.0 run.2.answers) in
    all_joined IsWritten e.replies (replies_of exchanges) step.written
    (all_written config history exchanges requests run.0 t adds fits.1 asks.1 step.state run.3)

-- a session begins so
pub begins_small : (config : Config) (left : ℕ) (s : State) → s.position ≡ 0 → s.queries ≡ [] → left < 2 ^ 64 → IsSmallState left s
begins_small config left s position queries few = record {
  position = omega (arith, position, few);
  queries = subst AreSmallQueries (sym queries) tt;
}
