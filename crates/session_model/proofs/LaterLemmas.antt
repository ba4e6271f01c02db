-- Lemmas on what becomes of a session's queries as it goes on.
use Rattle.std.proofs.Common.{◌≡◌, ℕ, ◌+◌, nat_le, nat_lt, Bool, true, false, cond, refl, sym, ◌∙◌, subst}
use Rattle.std.proofs.Common.{List, [], ◌∷◌, ◌++◌, length, Option, Some, None, Result, Ok, Err, inl, inr}
use Rattle.std.proofs.Common.{arith}
use Rattle.hamming_model.specs.History.{JournalEntry}
use Rattle.hamming_model.specs.Scan.{Ask}
use Rattle.hamming_model.specs.Scan as ask
use Rattle.hamming_model.specs.declared.hit.Hit.{Hit}
use Rattle.part_layout.specs.declared.config.Config.{Config}
use Rattle.query_protocol.specs.Requests.{LineRequest, Add, Del, Get, Range, Near, Next, Cost}
use Rattle.query_protocol.specs.Requests.{Plan, Cancel, Layout, Repart, Swap, Search, Quit}
use Rattle.query_protocol.specs.Requests as request
use Rattle.query_protocol.specs.declared.bad.Bad.{Bad}
use Rattle.session_model.specs.State.{Build, Query, State, has_tag, query_of, replaced, open_queries}
use Rattle.session_model.specs.Entries.{Exchange}
use Rattle.session_model.specs.Builds.{StartsUnlessBuilding, IfBuilding, PlacesMoreRows}
use Rattle.session_model.specs.Builds.{SwapsUnlessLeft, SwapsIfPlaced}
use Rattle.session_model.specs.Openings.{OpensUnlessMany, OpensUnlessUsed, new_query, most_open}
use Rattle.session_model.specs.QuerySteps.{ReadsOn, given_more}
use Rattle.session_model.specs.QuerySteps.{IfOpen, Gives, Costs, TellsPlan, Cancels, closed_query}
use Rattle.session_model.specs.Step.{Answers, asked_by}
use Rattle.session_model.specs.Run.{Run}
use Rattle.session_model.specs.Later.{IsLater, AreLater}

-- ---- later on, step by step

is_same : (query : Query) → IsLater query query
is_same query = record {
  tag = refl;
  position = refl;
  ask = refl;
  pinned = refl;
  done = λ e. e;
  reads_on = record { number = refl; no_less = λ shard. omega arith; stays = λ e. refl };
}

are_same : (queries : List Query) → AreLater queries queries
are_same [] = tt
are_same (query ∷ queries) = (is_same query, are_same queries)

later_then : (one two three : Query) → IsLater one two → IsLater two three → IsLater one three
later_then one two three first second = record {
  tag = second.tag ∙ first.tag;
  position = second.position ∙ first.position;
  ask = second.ask ∙ first.ask;
  pinned = second.pinned ∙ first.pinned;
  done = λ e. second.done (first.done e);
  reads_on = record {
    number = second.reads_on.number ∙ first.reads_on.number;
    no_less = λ shard. omega (arith, first.reads_on.no_less shard, second.reads_on.no_less shard);
    stays = λ e. second.reads_on.stays (first.done e) ∙ first.reads_on.stays e;
  };
}

are_later_then : (one two three : List Query) → AreLater one two → AreLater two three
    → AreLater one three
are_later_then [] two three first second = tt
are_later_then (query ∷ one) [] three first second = absurd first
are_later_then (query ∷ one) (other ∷ two) [] first second = absurd second
are_later_then (query ∷ one) (other ∷ two) (last ∷ three) first second =
    (later_then query other last first.0 second.0, are_later_then one two three first.1 second.1)

-- ---- one query more, or one that has read on

with_one : (queries : List Query) (query : Query) → AreLater queries (queries ++ query ∷ [])
with_one [] query = tt
with_one (first ∷ queries) query = (is_same first, with_one queries query)

replaced_later_by : (tag : List ℕ) (query this first : Query) (queries : List Query) (here : Bool)
    → cond here (Some first) (query_of tag queries) ≡ Some query → IsLater query this
    → (query_of tag queries ≡ Some query → AreLater queries (replaced tag this queries))
    → AreLater (first ∷ queries) (cond here (this ∷ queries) (first ∷ replaced tag this queries))
replaced_later_by tag query this first queries true is later rest =
    let same : first ≡ query = cc in
    (subst (λ q. IsLater q this) (sym same) later, are_same queries)
replaced_later_by tag query this first queries false is later rest = (is_same first, rest is)

replaced_later : (tag : List ℕ) (query this : Query) (queries : List Query)
    → query_of tag queries ≡ Some query → IsLater query this
    → AreLater queries (replaced tag this queries)
replaced_later tag query this [] is later = tt
replaced_later tag query this (first ∷ queries) is later =
    replaced_later_by tag query this first queries (has_tag tag first) is later
    (λ found. replaced_later tag query this queries found later)

done_still : (more done : Bool) → done ≡ true → cond more done true ≡ true
done_still true done is = is
done_still false done is = refl

given_later : (query : Query) (count : ℕ) (hits : List Hit) (reads : List ℕ) → ReadsOn query reads
    → IsLater query (given_more query count hits reads)
given_later query count hits reads on = record {
  tag = refl;
  position = refl;
  ask = refl;
  pinned = refl;
  done = done_still (nat_lt (query.given + count) (length hits)) query.done;
  reads_on = on;
}

closed_later : (query : Query) → IsLater query (closed_query query)
closed_later query = record {
  tag = refl;
  position = refl;
  ask = refl;
  pinned = refl;
  done = λ e. e;
  reads_on = record { number = refl; no_less = λ shard. omega arith; stays = λ e. refl };
}

-- ---- each step

same_later : (s t : State) → t ≡ s → AreLater s.queries t.queries
same_later s t same = subst (λ (u : State). AreLater s.queries u.queries) (sym same) (are_same s.queries)

moved_later : (s t : State) (at : ℕ) → t ≡ record s { position = at } → AreLater s.queries t.queries
moved_later s t at same =
    subst (λ (u : State). AreLater s.queries u.queries) (sym same) (are_same s.queries)

opens_later : (many : Bool) (history : List JournalEntry) (tag : List ℕ) (asked : Ask) (s : State)
    (e : Exchange) (t : State) → OpensUnlessMany many history tag asked s e t
    → AreLater s.queries t.queries
opens_later true history tag asked s e t h = same_later s t h.same
opens_later false history tag asked s e t (inl h) = same_later s t h.same
opens_later false history tag asked s e t (inr h) =
    subst (λ (u : State). AreLater s.queries u.queries) (sym h.opened)
    (with_one s.queries (new_query tag asked e))

opens_unused_later : (used : Option Query) (history : List JournalEntry) (tag : List ℕ) (asked : Ask)
    (s : State) (e : Exchange) (t : State) → OpensUnlessUsed used history tag asked s e t
    → AreLater s.queries t.queries
opens_unused_later (Some query) history tag asked s e t h = same_later s t h.same
opens_unused_later None history tag asked s e t h =
    opens_later (nat_le most_open (length (open_queries s.queries))) history tag asked s e t h

-- ---- steps on builds leave the queries as they are

starts_later : (goes_on : Option Build) (config : Config) (history : List JournalEntry) (shard : ℕ)
    (layout : List (List ℕ)) (s : State) (e : Exchange) (t : State)
    → StartsUnlessBuilding goes_on config history shard layout s e t → AreLater s.queries t.queries
starts_later (Some build) config history shard layout s e t h = same_later s t h.same
starts_later None config history shard layout s e t (inl h) = same_later s t h.same
starts_later None config history shard layout s e t (inr h) =
    subst (λ (u : State). AreLater s.queries u.queries) (sym h.started) (are_same s.queries)

places_later : (goes_on : Option Build) (number : ℕ) (s : State) (e : Exchange) (t : State)
    → IfBuilding goes_on (PlacesMoreRows number) s e t → AreLater s.queries t.queries
places_later None number s e t h = same_later s t h.same
places_later (Some build) number s e t h =
    subst (λ (u : State). AreLater s.queries u.queries) (sym h.placed) (are_same s.queries)

swaps_placed_later : (left : Bool) (history : List JournalEntry) (build : Build) (s : State)
    (e : Exchange) (t : State) → SwapsUnlessLeft left history build s e t
    → AreLater s.queries t.queries
swaps_placed_later true history build s e t h = same_later s t h.same
swaps_placed_later false history build s e t (inl h) = same_later s t h.same
swaps_placed_later false history build s e t (inr (inl h)) =
    subst (λ (u : State). AreLater s.queries u.queries) (sym h.swapped) (are_same s.queries)
swaps_placed_later false history build s e t (inr (inr h)) = moved_later s t e.position h.stays

swaps_later : (goes_on : Option Build) (history : List JournalEntry) (s : State) (e : Exchange)
    (t : State) → IfBuilding goes_on (SwapsIfPlaced history) s e t → AreLater s.queries t.queries
swaps_later None history s e t h = same_later s t h.same
swaps_later (Some build) history s e t h =
    swaps_placed_later (nat_lt 0 build.left) history build s e t h

module _ (config : Config) (history : List JournalEntry) (s : State) (e : Exchange) (t : State) where
  gives_later : (tag : List ℕ) (count : ℕ) (found : Option Query) → query_of tag s.queries ≡ found
      → IfOpen found (Gives config history tag count) s e t → AreLater s.queries t.queries
  gives_later tag count None is h = same_later s t h.same
  gives_later tag count (Some query) is h =
      let this : Query = given_more query count h.hits h.reads in
      subst (λ (u : State). AreLater s.queries u.queries) (sym h.given)
      (replaced_later tag query this s.queries is (given_later query count h.hits h.reads h.reads_on))

  costs_later : (tag : List ℕ) (found : Option Query)
      → IfOpen found (Costs config history tag) s e t → AreLater s.queries t.queries
  costs_later tag None h = same_later s t h.same
  costs_later tag (Some query) h = same_later s t h.same

  plans_later : (tag : List ℕ) (shard : ℕ) (found : Option Query)
      → IfOpen found (TellsPlan config history tag shard) s e t → AreLater s.queries t.queries
  plans_later tag shard None h = same_later s t h.same
  plans_later tag shard (Some query) h = same_later s t h.same

  cancels_later : (tag : List ℕ) (found : Option Query) → query_of tag s.queries ≡ found
      → IfOpen found (Cancels tag) s e t → AreLater s.queries t.queries
  cancels_later tag None is h = same_later s t h.same
  cancels_later tag (Some query) is h =
      subst (λ (u : State). AreLater s.queries u.queries) (sym h.closed)
      (replaced_later tag query (closed_query query) s.queries is (closed_later query))

  answers_later : (asked : Result (Option LineRequest) Bad) → Answers asked config history s e t
      → AreLater s.queries t.queries
  answers_later (Err fault) h = same_later s t h.same
  answers_later (Ok None) h = same_later s t h.same
  answers_later (Ok (Some (Add key code))) (inl h) = same_later s t h.same
  answers_later (Ok (Some (Add key code))) (inr (inl h)) = moved_later s t e.position h.position
  answers_later (Ok (Some (Add key code))) (inr (inr (inl h))) = moved_later s t e.position h.position
  answers_later (Ok (Some (Add key code))) (inr (inr (inr h))) = moved_later s t e.position h.position
  answers_later (Ok (Some (Del key))) (inl h) = same_later s t h.same
  answers_later (Ok (Some (Del key))) (inr (inl h)) = moved_later s t e.position h.position
  answers_later (Ok (Some (Del key))) (inr (inr (inl h))) = moved_later s t e.position h.position
  answers_later (Ok (Some (Del key))) (inr (inr (inr h))) = moved_later s t e.position h.position
  answers_later (Ok (Some (Get key))) h = moved_later s t e.position h.position
  answers_later (Ok (Some (Range tag tau code))) h =
      opens_unused_later (query_of tag s.queries) history tag (ask.Range tau code) s e t h
  answers_later (Ok (Some (Near tag number code))) h =
      opens_unused_later (query_of tag s.queries) history tag (ask.Near number code) s e t h
  answers_later (Ok (Some (Next tag count))) h = gives_later tag count (query_of tag s.queries) refl h
  answers_later (Ok (Some (Cost tag))) h = costs_later tag (query_of tag s.queries) h
  answers_later (Ok (Some (Plan tag shard))) h = plans_later tag shard (query_of tag s.queries) h
  answers_later (Ok (Some (Cancel tag))) h = cancels_later tag (query_of tag s.queries) refl h
  answers_later (Ok (Some (Layout shard))) h = same_later s t h.same
  answers_later (Ok (Some (Repart shard layout))) h =
      starts_later s.build config history shard layout s e t h
  answers_later (Ok (Some (request.Build number))) h = places_later s.build number s e t h
  answers_later (Ok (Some Swap)) h = swaps_later s.build history s e t h
  answers_later (Ok (Some (Search shard rounds))) (inl h) = same_later s t h.same
  answers_later (Ok (Some (Search shard rounds))) (inr h) = moved_later s t e.position h.position
  answers_later (Ok (Some Quit)) h = absurd h

-- ---- each run

pub run_later : (At : State → Exchange → Type 0) (config : Config) (history : List JournalEntry)
    (s t : State) (exchanges : List Exchange) → Run At config history s exchanges t
    → AreLater s.queries t.queries
run_later At config history s t [] run = same_later s t run
run_later At config history s t (e ∷ exchanges) run =
    let mid : State = run.0 in
    are_later_then s.queries mid.queries t.queries
    (answers_later config history s e mid (asked_by config e.line) run.2.answers)
    (run_later At config history mid t exchanges run.3)
