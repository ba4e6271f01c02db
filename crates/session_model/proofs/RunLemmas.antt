-- Lemmas on whole sessions: one more exchange at the end, what it commits, and the lines that end one.
use Rattle.std.proofs.Common.{◌≡◌, ℕ, ◌==◌, Bool, true, false, cond, refl, sym, ap, ◌∙◌, subst}
use Rattle.std.proofs.Common.{List, [], ◌∷◌, ◌++◌, map, Option, Some, None, Result, Ok, Err}
use Rattle.std.proofs.Common.{append-nil}
use Rattle.std.proofs.lemmas.Bool.{eq-eqb}
use Rattle.std.proofs.lemmas.List.Concat.{flat_map-append}
use Rattle.std.proofs.lemmas.List.Elements.{filter-append}
use Rattle.hamming_model.specs.History.{JournalEntry, Operation}
use Rattle.part_layout.specs.declared.config.Config.{Config}
use Rattle.query_protocol.specs.Requests.{LineRequest, Add, Del, Get, Range, Near, Next, Cost}
use Rattle.query_protocol.specs.Requests.{Plan, Cancel, Layout, Repart, Build, Swap, Search, Quit}
use Rattle.query_protocol.specs.Replies.{text}
use Rattle.query_protocol.specs.declared.bad.Bad.{Bad}
use Rattle.session_model.specs.State.{State}
use Rattle.session_model.specs.Entries.{Exchange}
use Rattle.session_model.specs.Step.{Step, Answers, asked_by}
use Rattle.session_model.specs.Commits.{accepted, commit_of, commits, entries_by}
use Rattle.session_model.specs.Run.{Run, written_text, lines_of}
use Rattle.session_model.specs.Run.{asks_quit, before_quit, has_quit}

-- ---- one more exchange

pub run_more : (At : State → Exchange → Type 0) (config : Config) (history : List JournalEntry)
    (s : State) (exchanges : List Exchange) (e : Exchange) (mid t : State)
    → Run At config history s exchanges mid → At mid e → Step config history mid e t
    → Run At config history s (exchanges ++ e ∷ []) t
run_more At config history s [] e mid t run at step =
    (t, subst (λ m. At m e) run at, subst (λ m. Step config history m e t) run step, refl)
run_more At config history s (first ∷ exchanges) e mid t run at step =
    (run.0, run.1, run.2, run_more At config history run.0 exchanges e mid t run.3 at step)

pub commits_more : (who : ℕ) (config : Config) (exchanges : List Exchange) (e : Exchange)
    → commits who config (exchanges ++ e ∷ []) ≡ commits who config exchanges ++ commit_of who config e
commits_more who config exchanges e =
    flat_map-append (commit_of who config) exchanges (e ∷ [])
    ∙ ap (λ l. commits who config exchanges ++ l) (append-nil (commit_of who config e))

pub written_more : (exchanges : List Exchange) (e : Exchange)
    → written_text (exchanges ++ e ∷ []) ≡ written_text exchanges ++ text e.replies
written_more exchanges e =
    flat_map-append (λ (e : Exchange). text e.replies) exchanges (e ∷ [])
    ∙ ap (λ l. written_text exchanges ++ l) (append-nil (text e.replies))

-- ---- what a session commits is its own

own_by : (who : ℕ) (operations : List Operation)
    → entries_by who (map (λ operation. record { who = who; operation = operation }) operations)
    ≡ map (λ operation. record { who = who; operation = operation }) operations
own_by who [] = refl
own_by who (operation ∷ operations) =
    let entry : JournalEntry = record { who = who; operation = operation } in
    let rest : List JournalEntry = map (λ o. record { who = who; operation = o }) operations in
    ap (λ b. cond b (entry ∷ entries_by who rest) (entries_by who rest)) (eq-eqb who who refl)
    ∙ ap (λ l. entry ∷ l) (own_by who operations)

pub own_commits : (who : ℕ) (config : Config) (exchanges : List Exchange)
    → entries_by who (commits who config exchanges) ≡ commits who config exchanges
own_commits who config [] = refl
own_commits who config (e ∷ exchanges) =
    let front = commit_of who config e in
    let rest = commits who config exchanges in
    filter-append (λ (entry : JournalEntry). entry.who == who) front rest
    ∙ ap (λ l. l ++ entries_by who rest) (own_by who (accepted (asked_by config e.line) e.replies))
    ∙ ap (λ l. front ++ l) (own_commits who config exchanges)

-- ---- the lines that end a session

-- what is answered doesn't end the session
pub not_quit : (asked : Result (Option LineRequest) Bad) (config : Config)
    (history : List JournalEntry) (s : State) (e : Exchange) (t : State)
    → Answers asked config history s e t → asks_quit asked ≡ false
not_quit (Err fault) config history s e t h = refl
not_quit (Ok None) config history s e t h = refl
not_quit (Ok (Some (Add key code))) config history s e t h = refl
not_quit (Ok (Some (Del key))) config history s e t h = refl
not_quit (Ok (Some (Get key))) config history s e t h = refl
not_quit (Ok (Some (Range tag tau code))) config history s e t h = refl
not_quit (Ok (Some (Near tag number code))) config history s e t h = refl
not_quit (Ok (Some (Next tag count))) config history s e t h = refl
not_quit (Ok (Some (Cost tag))) config history s e t h = refl
not_quit (Ok (Some (Plan tag shard))) config history s e t h = refl
not_quit (Ok (Some (Cancel tag))) config history s e t h = refl
not_quit (Ok (Some (Layout shard))) config history s e t h = refl
not_quit (Ok (Some (Repart shard layout))) config history s e t h = refl
not_quit (Ok (Some (Build number))) config history s e t h = refl
not_quit (Ok (Some Swap)) config history s e t h = refl
not_quit (Ok (Some (Search shard rounds))) config history s e t h = refl
not_quit (Ok (Some Quit)) config history s e t h = absurd h

module _ (At : State → Exchange → Type 0) (config : Config) (history : List JournalEntry) where
  pub before_answered : (s : State) (exchanges : List Exchange) (t : State)
      → Run At config history s exchanges t → (rest : List (List ℕ))
      → before_quit config (lines_of exchanges ++ rest) ≡ lines_of exchanges ++ before_quit config rest
  before_answered s [] t run rest = refl
  before_answered s (e ∷ exchanges) t run rest =
      let goes : asks_quit (asked_by config e.line) ≡ false =
      not_quit (asked_by config e.line) config history s e run.0 run.2.answers in
      ap (λ b. cond b [] (e.line ∷ before_quit config (lines_of exchanges ++ rest))) goes
      ∙ ap (λ l. e.line ∷ l) (before_answered run.0 exchanges t run.3 rest)

  pub quit_answered : (s : State) (exchanges : List Exchange) (t : State)
      → Run At config history s exchanges t → (rest : List (List ℕ))
      → has_quit config (lines_of exchanges ++ rest) ≡ has_quit config rest
  quit_answered s [] t run rest = refl
  quit_answered s (e ∷ exchanges) t run rest =
      let goes : asks_quit (asked_by config e.line) ≡ false =
      not_quit (asked_by config e.line) config history s e run.0 run.2.answers in
      ap (λ b. cond b true (has_quit config (lines_of exchanges ++ rest))) goes
      ∙ quit_answered run.0 exchanges t run.3 rest

module _ (config : Config) where
  before_more_at : (line : List ℕ) (lines more : List (List ℕ)) (quits : Bool)
      → asks_quit (asked_by config line) ≡ quits → has_quit config (line ∷ lines) ≡ true
      → (has_quit config lines ≡ true
      → before_quit config (lines ++ more) ≡ before_quit config lines)
      → before_quit config ((line ∷ lines) ++ more) ≡ before_quit config (line ∷ lines)
  before_more_at line lines more true is h go = rw is refl
  before_more_at line lines more false is h go = rw is (ap (λ l. line ∷ l) (go (rw is at h)))

  -- what stands behind the line that ends the session doesn't matter
  pub before_more : (lines more : List (List ℕ)) → has_quit config lines ≡ true
      → before_quit config (lines ++ more) ≡ before_quit config lines
  before_more [] more h = cc
  before_more (line ∷ lines) more h =
      before_more_at line lines more (asks_quit (asked_by config line)) refl h (before_more lines more)

  quit_more_at : (line : List ℕ) (lines more : List (List ℕ)) (quits : Bool)
      → asks_quit (asked_by config line) ≡ quits → has_quit config (line ∷ lines) ≡ true
      → (has_quit config lines ≡ true → has_quit config (lines ++ more) ≡ true)
      → has_quit config ((line ∷ lines) ++ more) ≡ true
  quit_more_at line lines more true is h go = rw is refl
  quit_more_at line lines more false is h go = rw is (go (rw is at h))

  pub quit_more : (lines more : List (List ℕ)) → has_quit config lines ≡ true
      → has_quit config (lines ++ more) ≡ true
  quit_more [] more h = cc
  quit_more (line ∷ lines) more h =
      quit_more_at line lines more (asks_quit (asked_by config line)) refl h (quit_more lines more)

  none_by : (lines more : List (List ℕ)) (quits : Bool) → has_quit config lines ≡ quits
      → has_quit config (lines ++ more) ≡ false → has_quit config lines ≡ false
  none_by lines more true is goes_on =
      let never : true ≡ false = sym (quit_more lines more is) ∙ goes_on in
      cc
  none_by lines more false is goes_on = is

  -- where no line ends the session, none of the front does
  pub no_quit_in_front : (lines more : List (List ℕ)) → has_quit config (lines ++ more) ≡ false
      → has_quit config lines ≡ false
  no_quit_in_front lines more goes_on = none_by lines more (has_quit config lines) refl goes_on
