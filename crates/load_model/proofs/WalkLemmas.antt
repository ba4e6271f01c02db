-- A session's exchanges beside what they ask, and the sums of what they are told.
use Rattle.std.proofs.Common.{◌≡◌, ℕ, ◌+◌, List, [], ◌∷◌, length, map, sum_by, Some, None, Ok, refl, sym, ap, ◌∙◌, subst, arith}
use Rattle.std.proofs.lemmas.List.Sums.{sum_by-append, sum_by-cons}
use Rattle.hamming_model.specs.History.{JournalEntry}
use Rattle.part_layout.specs.declared.config.Config.{Config}
use Rattle.query_protocol.specs.Requests.{LineRequest, LineReading}
use Rattle.query_protocol.specs.Lines.{reading}
use Rattle.query_protocol.specs.Replies.{LineReply}
use Rattle.session_model.specs.State.{State}
use Rattle.session_model.specs.Entries.{Exchange}
use Rattle.session_model.specs.Step.{Answers, asked_by}
use Rattle.session_model.specs.Commits.{committed}
use Rattle.session_model.specs.Run.{Run, IsAlone, lines_of}
use Rattle.load_sums.specs.Sums.{hits_of, told_bound, reads_of, lacks_of}
use Rattle.load_model.specs.Told.{replies_of}
use Rattle.load_model.proofs.SpellingLemmas.{asked_request}

-- ---- what exchanges ask

-- the lines of exchanges ask these, one after another
abbrev pub Asks : Config → List Exchange → List LineRequest → Type 0
Asks config [] [] = Unit {0}
Asks config [] (request ∷ requests) = ⊥
Asks config (e ∷ exchanges) [] = ⊥
Asks config (e ∷ exchanges) (request ∷ requests) = (asked_by config e.line ≡ Ok (Some request)) × Asks config exchanges requests

abbrev pub first_read : List LineReading → LineReading
first_read [] = Ok None
first_read (asked ∷ others) = asked

abbrev pub others_read : List LineReading → List LineReading
others_read [] = []
others_read (asked ∷ others) = others

pub asks_from : (config : Config) (exchanges : List Exchange) (requests : List LineRequest)
    → map (λ line. reading config line) (lines_of exchanges) ≡ map asked_request requests → Asks config exchanges requests
asks_from config [] [] is = tt
asks_from config [] (request ∷ requests) is = cc
asks_from config (e ∷ exchanges) [] is = cc
asks_from config (e ∷ exchanges) (request ∷ requests) is = (ap first_read is, asks_from config exchanges requests (ap others_read is))

-- ---- what they are told

-- the sums of what exchanges are told, by those of what the last of them are told
pub record Tells (exchanges rest : List Exchange) (hits bound reads : ℕ) : Type 0 where
  pub hits_told : sum_by hits_of (replies_of exchanges) ≡ hits + sum_by hits_of (replies_of rest)
  pub bound_told : sum_by told_bound (replies_of exchanges) ≡ bound + sum_by told_bound (replies_of rest)
  pub reads_told : sum_by reads_of (replies_of exchanges) ≡ reads + sum_by reads_of (replies_of rest)

pub tells_then : (one two three : List Exchange) (hits bound reads more further others : ℕ) → Tells one two hits bound reads
    → Tells two three more further others → Tells one three (hits + more) (bound + further) (reads + others)
tells_then one two three hits bound reads more further others first second = record {
  hits_told = omega (arith, first.hits_told, second.hits_told);
  bound_told = omega (arith, first.bound_told, second.bound_told);
  reads_told = omega (arith, first.reads_told, second.reads_told);
}

pub tells_none : (exchanges : List Exchange) → Tells exchanges exchanges 0 0 0
tells_none exchanges = record { hits_told = omega arith; bound_told = omega arith; reads_told = omega arith }

told_first : (amount : LineReply → ℕ) (e : Exchange) (rest : List Exchange)
    → sum_by amount (replies_of (e ∷ rest)) ≡ sum_by amount e.replies + sum_by amount (replies_of rest)
told_first amount e rest = sum_by-append amount e.replies (replies_of rest)

pub tells_first : (e : Exchange) (rest : List Exchange) (hits bound reads : ℕ) → sum_by hits_of e.replies ≡ hits
    → sum_by told_bound e.replies ≡ bound → sum_by reads_of e.replies ≡ reads → Tells (e ∷ rest) rest hits bound reads
tells_first e rest hits bound reads is_hits is_bound is_reads = record {
  hits_told = omega (arith, is_hits, told_first hits_of e rest);
  bound_told = omega (arith, is_bound, told_first told_bound e rest);
  reads_told = omega (arith, is_reads, told_first reads_of e rest);
}

-- the sum over one reply
pub one_told : (amount : LineReply → ℕ) (replies : List LineReply) (reply : LineReply) → replies ≡ reply ∷ []
    → sum_by amount replies ≡ amount reply
one_told amount replies reply is =
    let sum = ap (λ (said : List LineReply). sum_by amount said) is in omega (arith, sum, sum_by-cons amount reply [])

-- an exchange that is told one reply, before the others
pub tells_one : (exchanges rest : List Exchange) (e : Exchange) (reply : LineReply) → exchanges ≡ e ∷ rest → e.replies ≡ reply ∷ []
    → Tells exchanges rest (hits_of reply) (told_bound reply) (reads_of reply)
tells_one exchanges rest e reply all said =
    subst (λ them. Tells them rest (hits_of reply) (told_bound reply) (reads_of reply)) (sym all)
    (tells_first e rest (hits_of reply) (told_bound reply) (reads_of reply) (one_told hits_of e.replies reply said)
    (one_told told_bound e.replies reply said) (one_told reads_of e.replies reply said))

-- what comes after exchanges that are told no number
pub tells_after : (one two three : List Exchange) (hits bound reads : ℕ) → Tells one two 0 0 0 → Tells two three hits bound reads
    → Tells one three hits bound reads
tells_after one two three hits bound reads first second = record {
  hits_told = omega (arith, first.hits_told, second.hits_told);
  bound_told = omega (arith, first.bound_told, second.bound_told);
  reads_told = omega (arith, first.reads_told, second.reads_told);
}

-- ---- a session that goes on

-- a step of a session that is alone, by a line that asks this and isn't told that there was no memory
pub record IsStep (config : Config) (history : List JournalEntry) (request : LineRequest) (s : State) (e : Exchange) (t : State) : Type 0 where
  pub asked : asked_by config e.line ≡ Ok (Some request)
  pub alone : IsAlone config s e
  pub answers : Answers (Ok (Some request)) config history s e t
  pub none_lacks : sum_by lacks_of e.replies ≡ 0

-- what it commits, by its replies
pub commits_by : (config : Config) (history : List JournalEntry) (request : LineRequest) (s : State) (e : Exchange) (t : State) (replies : List LineReply)
    → IsStep config history request s e t → e.replies ≡ replies
    → e.position ≡ s.position + length (committed s.who (Ok (Some request)) replies)
commits_by config history request s e t replies step said =
    step.alone.position
    ∙ ap (λ asked. s.position + length (committed s.who asked e.replies)) step.asked
    ∙ ap (λ said. s.position + length (committed s.who (Ok (Some request)) said)) said

module _ (config : Config) (history : List JournalEntry) (last : State) where
  -- exchanges that a session still has, what they ask, and that none of them is told that there was no memory
  pub record IsLeft (exchanges : List Exchange) (requests : List LineRequest) (s : State) : Type 0 where
    pub run : Run (IsAlone config) config history s exchanges last
    pub asks : Asks config exchanges requests
    pub none_lacks : sum_by lacks_of (replies_of exchanges) ≡ 0

  -- the first of them
  pub record IsFirst (exchanges : List Exchange) (request : LineRequest) (requests : List LineRequest) (s : State) : Type 0 where
    pub e : Exchange
    pub rest : List Exchange
    pub t : State
    pub all : exchanges ≡ e ∷ rest
    pub step : IsStep config history request s e t
    pub left : IsLeft rest requests t

  pub first_left : (exchanges : List Exchange) (request : LineRequest) (requests : List LineRequest) (s : State)
      → IsLeft exchanges (request ∷ requests) s → IsFirst exchanges request requests s
  first_left [] request requests s is = absurd is.asks
  first_left (e ∷ rest) request requests s is =
      let sums = told_first lacks_of e rest in
      let none = is.none_lacks in record {
        e = e;
        rest = rest;
        t = is.run.0;
        all = refl;
        step = record {
          asked = is.asks.0;
          alone = is.run.1;
          answers = subst (λ asked. Answers asked config history s e is.run.0) is.asks.0 is.run.2.answers;
          none_lacks = omega (arith, sums, none);
        };
        left = record { run = is.run.3; asks = is.asks.1; none_lacks = omega (arith, sums, none) };
      }
