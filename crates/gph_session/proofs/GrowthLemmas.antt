-- Lemmas on the history of a session among others: what it commits, and each run under a weaker side condition.
use Rattle.std.proofs.Common.{◌≡◌, ◌≢◌, ◌==◌, ◌≤◌, ℕ, cond, List, [], ◌∷◌, ◌++◌, refl, sym, ap, ◌∙◌, append-nil, arith}
use Rattle.std.specs.List.{AllByRecursion}
use Rattle.std.proofs.lemmas.Bool.{ne_eqb}
use Rattle.std.proofs.lemmas.List.Elements.{filter-append}
use Rattle.hamming_model.specs.History.{JournalEntry}
use Rattle.part_layout.specs.declared.config.Config.{Config}
use Rattle.session_model.specs.State.{State}
use Rattle.session_model.specs.Entries.{Exchange}
use Rattle.session_model.specs.Commits.{commit_of, entries_by}
use Rattle.session_model.specs.Run.{Run}
use Rattle.session_model.proofs.RunLemmas.{own_commits}

-- a run meets each side condition that follows from its own
pub run_as : (At By : State → Exchange → Type 0) → ((s : State) (e : Exchange) → At s e → By s e)
    → (config : Config) (history : List JournalEntry) (s : State) (exchanges : List Exchange) (t : State)
    → Run At config history s exchanges t → Run By config history s exchanges t
run_as At By follows config history s [] t run = run
run_as At By follows config history s (e ∷ exchanges) t run =
    (run.0, follows s e run.1, run.2, run_as At By follows config history run.0 exchanges t run.3)

-- others' entries aren't the session's
pub no_own : (who : ℕ) (entries : List JournalEntry) → AllByRecursion (λ entry. entry.who ≢ who) entries
    → entries_by who entries ≡ []
no_own who [] all = refl
no_own who (entry ∷ entries) all =
    ap (λ b. cond b (entry ∷ entries_by who entries) (entries_by who entries)) (ne_eqb entry.who who all.0)
    ∙ no_own who entries all.1

-- what one exchange commits is the session's
own_commit : (who : ℕ) (config : Config) (e : Exchange) → entries_by who (commit_of who config e) ≡ commit_of who config e
own_commit who config e =
    ap (entries_by who) (sym (append-nil (commit_of who config e))) ∙ own_commits who config (e ∷ [])
    ∙ append-nil (commit_of who config e)

-- the session's entries, with others' and what one exchange more commits behind them
pub own_more : (who : ℕ) (config : Config) (before own others : List JournalEntry) (e : Exchange)
    → entries_by who before ≡ own → AllByRecursion (λ entry. entry.who ≢ who) others
    → entries_by who (before ++ (others ++ commit_of who config e)) ≡ own ++ commit_of who config e
own_more who config before own others e is all =
    let test = λ (entry : JournalEntry). entry.who == who in
    filter-append test before (others ++ commit_of who config e)
    ∙ ap (λ l. l ++ entries_by who (others ++ commit_of who config e)) is
    ∙ ap (λ l. own ++ l) (filter-append test others (commit_of who config e)
    ∙ ap (λ l. l ++ entries_by who (commit_of who config e)) (no_own who others all) ∙ own_commit who config e)

-- what holds of each exchange holds with one more, and by what follows from it
pub each_more : (P : Exchange → Type 0) (exchanges : List Exchange) (e : Exchange) → AllByRecursion P exchanges → P e
    → AllByRecursion P (exchanges ++ e ∷ [])
each_more P [] e all last = (last, tt)
each_more P (first ∷ exchanges) e all last = (all.0, each_more P exchanges e all.1 last)

pub each_seen_later : (exchanges : List Exchange) (before after : ℕ) → before ≤ after
    → AllByRecursion (λ e. e.seen ≤ before) exchanges → AllByRecursion (λ e. e.seen ≤ after) exchanges
each_seen_later [] before after le all = tt
each_seen_later (e ∷ exchanges) before after le all =
    (omega (arith, all.0, le), each_seen_later exchanges before after le all.1)
