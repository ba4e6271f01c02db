-- Lemmas on the requests that build nothing: what they leave of the state's build, and what they tell.
use Rattle.std.proofs.Common.{◌≡◌, ℕ, nat_le, nat_lt, ◌+◌, Bool, true, false, cond, List, [], ◌∷◌, ◌++◌, length}
use Rattle.std.proofs.Common.{Option, Some, None, Ok, Err, refl, sym, ap, subst, inl, inr}
use Rattle.hamming_model.specs.History.{JournalEntry}
use Rattle.hamming_model.specs.Scan.{Ask}
use Rattle.hamming_model.specs.Scan as ask
use Rattle.hamming_model.specs.declared.hit.Hit.{Hit}
use Rattle.part_layout.specs.declared.config.Config.{Config}
use Rattle.query_protocol.specs.Requests.{LineReading, Add, Del, Get, Range, Near, Next, Cost}
use Rattle.query_protocol.specs.Requests.{Plan, Cancel, Layout, Repart, Swap, Search, Quit}
use Rattle.query_protocol.specs.Requests as request
use Rattle.query_protocol.specs.Replies.{LineReply}
use Rattle.query_protocol.specs.Replies as reply
use Rattle.session_model.specs.State.{Query, State, open_queries, query_of}
use Rattle.session_model.specs.Builds.{was_moved, was_swapped}
use Rattle.session_model.specs.Entries.{Exchange, Stays, code_reply}
use Rattle.session_model.specs.Openings.{OpensUnlessMany, OpensUnlessUsed, most_open}
use Rattle.session_model.specs.QuerySteps.{IfOpen, Gives, Costs, TellsPlan, Cancels, end_reply, hit_replies}
use Rattle.session_model.specs.Step.{Answers}
use Rattle.session_model.specs.Upkeep.{build_at, build_steps}

-- no request on builds is asked
abbrev pub is_plain : LineReading → Bool
is_plain (Ok (Some (Repart shard layout))) = false
is_plain (Ok (Some (request.Build number))) = false
is_plain (Ok (Some Swap)) = false
is_plain asked = true

-- replies that tell of no build
pub record TellsNoBuild (replies : List LineReply) : Type 0 where
  pub steps : (told : ℕ) → build_steps told replies ≡ 0
  pub at : (told : ℕ) → build_at told replies ≡ told
  pub moved : was_moved replies ≡ false
  pub swapped : was_swapped replies ≡ false

-- and the build is as before
pub record BuildsNothing (s t : State) (replies : List LineReply) : Type 0 where
  pub build : t.build ≡ s.build
  pub tells : TellsNoBuild replies

never : false ≡ true → ⊥
never is = cc

-- ---- what is told

no_code : (key : ℕ) (found : Option (List ℕ)) (at : ℕ) → TellsNoBuild (code_reply key found at ∷ [])
no_code key None at = record { steps = λ told. refl; at = λ told. refl; moved = refl; swapped = refl }
no_code key (Some code) at = record { steps = λ told. refl; at = λ told. refl; moved = refl; swapped = refl }

no_end : (done : Bool) (tag : List ℕ) (given : ℕ) → TellsNoBuild (end_reply done tag given ∷ [])
no_end true tag given = record { steps = λ told. refl; at = λ told. refl; moved = refl; swapped = refl }
no_end false tag given = record { steps = λ told. refl; at = λ told. refl; moved = refl; swapped = refl }

no_hits : (tag : List ℕ) (hits : List Hit) (more : Bool) (number : ℕ)
    → TellsNoBuild (hit_replies tag hits ++ cond more (reply.More tag) (reply.Done tag number) ∷ [])
no_hits tag [] true number = record { steps = λ told. refl; at = λ told. refl; moved = refl; swapped = refl }
no_hits tag [] false number = record { steps = λ told. refl; at = λ told. refl; moved = refl; swapped = refl }
no_hits tag (hit ∷ hits) more number =
    record { steps = λ told. refl; at = λ told. refl; moved = refl; swapped = refl }

-- ---- by what is asked

stays_plain : (said : List LineReply) (s : State) (e : Exchange) (t : State) → Stays said s e t → TellsNoBuild said
    → BuildsNothing s t e.replies
stays_plain said s e t stays tells = record {
  build = ap (λ (u : State). u.build) stays.same;
  tells = subst TellsNoBuild (sym stays.said_is) tells;
}

moved_plain : (said : List LineReply) (s : State) (e : Exchange) (t : State) → e.replies ≡ said
    → t ≡ record s { position = e.position } → TellsNoBuild said → BuildsNothing s t e.replies
moved_plain said s e t same after tells = record {
  build = ap (λ (u : State). u.build) after;
  tells = subst TellsNoBuild (sym same) tells;
}

opens_plain : (many : Bool) (history : List JournalEntry) (tag : List ℕ) (asked : Ask) (s : State)
    (e : Exchange) (t : State) → OpensUnlessMany many history tag asked s e t → BuildsNothing s t e.replies
opens_plain true history tag asked s e t h =
    stays_plain _ s e t h (record { steps = λ told. refl; at = λ told. refl; moved = refl; swapped = refl })
opens_plain false history tag asked s e t (inl h) =
    stays_plain _ s e t h (record { steps = λ told. refl; at = λ told. refl; moved = refl; swapped = refl })
opens_plain false history tag asked s e t (inr h) = record {
  build = ap (λ (u : State). u.build) h.opened;
  tells = subst TellsNoBuild (sym h.said_is)
      (record { steps = λ told. refl; at = λ told. refl; moved = refl; swapped = refl });
}

opens_unused_plain : (used : Option Query) (history : List JournalEntry) (tag : List ℕ) (asked : Ask)
    (s : State) (e : Exchange) (t : State) → OpensUnlessUsed used history tag asked s e t
    → BuildsNothing s t e.replies
opens_unused_plain (Some query) history tag asked s e t h =
    stays_plain _ s e t h (record { steps = λ told. refl; at = λ told. refl; moved = refl; swapped = refl })
opens_unused_plain None history tag asked s e t h =
    opens_plain (nat_le most_open (length (open_queries s.queries))) history tag asked s e t h

module _ (config : Config) (history : List JournalEntry) (s : State) (e : Exchange) (t : State) where
  gives_plain : (tag : List ℕ) (count : ℕ) (found : Option Query)
      → IfOpen found (Gives config history tag count) s e t → BuildsNothing s t e.replies
  gives_plain tag count None h =
      stays_plain _ s e t h (record { steps = λ told. refl; at = λ told. refl; moved = refl; swapped = refl })
  gives_plain tag count (Some query) h = record {
    build = ap (λ (u : State). u.build) h.given;
    tells = subst TellsNoBuild (sym h.said_is)
        (no_hits tag _ (nat_lt (query.given + count) (length h.hits)) (length h.hits));
  }

  costs_plain : (tag : List ℕ) (found : Option Query)
      → IfOpen found (Costs config history tag) s e t → BuildsNothing s t e.replies
  costs_plain tag None h =
      stays_plain _ s e t h (record { steps = λ told. refl; at = λ told. refl; moved = refl; swapped = refl })
  costs_plain tag (Some query) h = record {
    build = ap (λ (u : State). u.build) h.same;
    tells = subst TellsNoBuild (sym h.said_is)
        (record { steps = λ told. refl; at = λ told. refl; moved = refl; swapped = refl });
  }

  plans_plain : (tag : List ℕ) (shard : ℕ) (found : Option Query)
      → IfOpen found (TellsPlan config history tag shard) s e t → BuildsNothing s t e.replies
  plans_plain tag shard None h =
      stays_plain _ s e t h (record { steps = λ told. refl; at = λ told. refl; moved = refl; swapped = refl })
  plans_plain tag shard (Some query) h = record {
    build = ap (λ (u : State). u.build) h.same;
    tells = subst TellsNoBuild (sym h.said_is)
        (record { steps = λ told. refl; at = λ told. refl; moved = refl; swapped = refl });
  }

  cancels_plain : (tag : List ℕ) (found : Option Query)
      → IfOpen found (Cancels tag) s e t → BuildsNothing s t e.replies
  cancels_plain tag None h =
      stays_plain _ s e t h (record { steps = λ told. refl; at = λ told. refl; moved = refl; swapped = refl })
  cancels_plain tag (Some query) h = record {
    build = ap (λ (u : State). u.build) h.closed;
    tells = subst TellsNoBuild (sym h.said_is) (no_end query.done tag query.given);
  }

  pub answers_plain : (asked : LineReading) → is_plain asked ≡ true → Answers asked config history s e t
      → BuildsNothing s t e.replies
  answers_plain (Err fault) plain h =
      stays_plain _ s e t h (record { steps = λ told. refl; at = λ told. refl; moved = refl; swapped = refl })
  answers_plain (Ok None) plain h =
      stays_plain _ s e t h (record { steps = λ told. refl; at = λ told. refl; moved = refl; swapped = refl })
  answers_plain (Ok (Some (Add key code))) plain (inl h) =
      stays_plain _ s e t h (record { steps = λ told. refl; at = λ told. refl; moved = refl; swapped = refl })
  answers_plain (Ok (Some (Add key code))) plain (inr (inl h)) = moved_plain _ s e t h.said_is h.position
      (record { steps = λ told. refl; at = λ told. refl; moved = refl; swapped = refl })
  answers_plain (Ok (Some (Add key code))) plain (inr (inr (inl h))) = moved_plain _ s e t h.said_is h.position
      (record { steps = λ told. refl; at = λ told. refl; moved = refl; swapped = refl })
  answers_plain (Ok (Some (Add key code))) plain (inr (inr (inr h))) = moved_plain _ s e t h.said_is h.position
      (record { steps = λ told. refl; at = λ told. refl; moved = refl; swapped = refl })
  answers_plain (Ok (Some (Del key))) plain (inl h) =
      stays_plain _ s e t h (record { steps = λ told. refl; at = λ told. refl; moved = refl; swapped = refl })
  answers_plain (Ok (Some (Del key))) plain (inr (inl h)) = moved_plain _ s e t h.said_is h.position
      (record { steps = λ told. refl; at = λ told. refl; moved = refl; swapped = refl })
  answers_plain (Ok (Some (Del key))) plain (inr (inr (inl h))) = moved_plain _ s e t h.said_is h.position
      (record { steps = λ told. refl; at = λ told. refl; moved = refl; swapped = refl })
  answers_plain (Ok (Some (Del key))) plain (inr (inr (inr h))) = moved_plain _ s e t h.said_is h.position
      (record { steps = λ told. refl; at = λ told. refl; moved = refl; swapped = refl })
  answers_plain (Ok (Some (Get key))) plain h = moved_plain _ s e t h.said_is h.position (no_code key _ e.position)
  answers_plain (Ok (Some (Range tag tau code))) plain h =
      opens_unused_plain (query_of tag s.queries) history tag (ask.Range tau code) s e t h
  answers_plain (Ok (Some (Near tag number code))) plain h =
      opens_unused_plain (query_of tag s.queries) history tag (ask.Near number code) s e t h
  answers_plain (Ok (Some (Next tag count))) plain h = gives_plain tag count (query_of tag s.queries) h
  answers_plain (Ok (Some (Cost tag))) plain h = costs_plain tag (query_of tag s.queries) h
  answers_plain (Ok (Some (Plan tag shard))) plain h = plans_plain tag shard (query_of tag s.queries) h
  answers_plain (Ok (Some (Cancel tag))) plain h = cancels_plain tag (query_of tag s.queries) h
  answers_plain (Ok (Some (Layout shard))) plain h =
      stays_plain _ s e t h (record { steps = λ told. refl; at = λ told. refl; moved = refl; swapped = refl })
  answers_plain (Ok (Some (Repart shard layout))) plain h = absurd (never plain)
  answers_plain (Ok (Some (request.Build number))) plain h = absurd (never plain)
  answers_plain (Ok (Some Swap)) plain h = absurd (never plain)
  answers_plain (Ok (Some (Search shard rounds))) plain (inl h) =
      stays_plain _ s e t h (record { steps = λ told. refl; at = λ told. refl; moved = refl; swapped = refl })
  answers_plain (Ok (Some (Search shard rounds))) plain (inr h) = moved_plain _ s e t h.said_is h.position
      (record { steps = λ told. refl; at = λ told. refl; moved = refl; swapped = refl })
  answers_plain (Ok (Some Quit)) plain h = absurd h
