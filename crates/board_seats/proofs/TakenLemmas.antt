-- What a seat that has taken the journal may do at its release, call by call.
use Rattle.std.proofs.Common.{◌≡◌, ℕ, ◌+◌, ◌*◌, List, ◌∷◌, [], length, ap, ◌∙◌, sym, subst, refl, None, Some}
use Rattle.hamming_model.specs.History.{JournalEntry}
use Rattle.commit_journal.specs.declared.decided.Decided.{Decided}
use Rattle.commit_journal.specs.Fronts.{FrontState}
use Rattle.commit_journal.specs.Journals.{Commits, IsJournal, IsLive, JournalState, KeepsFronts, KnowsFront, without_front}
use Rattle.commit_journal.specs.Journals as journals
use Rattle.versioned_shard.specs.Rule.{KeepsJournalRule}
use Rattle.versioned_shard.specs.Shards.{ShardState}
use Rattle.atomic_table.specs.Table.{Allows, Me, rest}
use Rattle.board_seats.specs.declared.rule.Cell.{Cell}
use Rattle.board_seats.specs.declared.rule.View.{View}
use Rattle.board_seats.specs.Moves.{Releases}
use Rattle.board_seats.specs.Rule.{IsShown}
use Rattle.board_seats.specs.Told.{Takes, journal_in}
use Rattle.board_seats.specs.Views.{AmongFronts, IsViewOf, settled_view, with_front, with_living, with_number}
use Rattle.board_seats.specs.Visits.{IsStoredFor, Visited}
use Rattle.board_seats.proofs.ClaimLemmas.{taken_view}
use Rattle.board_seats.proofs.MoveLemmas.{as_it_was, closed, committed, drawn, opened, stored_for}
use Rattle.board_seats.proofs.ReleaseLemmas.{holder, home, lies, visited}

module _ {W : ℕ} (before me : Me (Cell W) (View W)) (n : ℕ) (t : Takes before n me) (now : Cell W)
    (others : List (ℕ × Cell W)) (value : me.1 ≡ (0, now) ∷ others) where
  abbrev v : View W
  v = holder before me n t

  pub was : now ≡ Cell.Journal t.journal
  was = lies before me n t now others value

  -- the same of what was taken as of what lies in the slot
  pub of_taken : (P : JournalState → Type 0) → P (journal_in now) → P t.journal
  of_taken P = subst P (ap journal_in was)

  known : IsViewOf t.config t.journal v
  known = taken_view t.config t.journal before.0 t.knows

  -- ---- the journal as it was
  module _ (cell : Cell W) (same : cell ≡ now) where
    pub stays : Releases t.config v t.journal t.journal (settled_view t.journal v)
    stays = as_it_was t.config v t.journal t.sound known

    pub home_as_taken : (slots id : ℕ)
        → Allows IsShown slots id (me.0, (0, cell) ∷ rest me.1) 0 (λ _. n)
        (λ _ me'. me' ≡ (settled_view (journal_in cell) me.0, []))
    home_as_taken slots id =
        home before me n t t.journal cell settled_view (same ∙ was) stays slots id n t.number

    abbrev pub visited_as_taken : (me' : Me (Cell W) (View W))
        → me' ≡ (settled_view (journal_in cell) me.0, []) → Visited settled_view before me'
    visited_as_taken me' e =
        visited before me n t t.journal cell settled_view (same ∙ was) stays me' e

  -- ---- another journal
  module _ (new : JournalState) (sound : IsJournal new)
      (fronts : KeepsFronts (journal_in now) new) where
    kept_fronts : KeepsFronts t.journal new
    kept_fronts = of_taken (λ j. KeepsFronts j new) fronts

    -- with an entry of the seat's own more, or none
    pub commits : (entry : JournalEntry) (decided : Decided)
        → ((shard : ShardState) → KeepsJournalRule t.journal shard → KeepsJournalRule new shard)
        → before.0.number ≡ Some entry.who → IsStoredFor before.0 entry.operation
        → Commits t.journal new entry decided
        → Releases t.config v t.journal new (settled_view new v)
    commits entry decided rule number stored done =
        let operation = entry.operation in
        let fits = stored_for before.0 operation t.config t.journal t.knows stored in
        committed t.config v t.journal t.sound known new sound kept_fronts rule entry number fits
        decided done

    -- with a front more
    pub opens : (who : ℕ) (front : FrontState)
        → ((shard : ShardState) → KeepsJournalRule t.journal shard → KeepsJournalRule new shard)
        → before.0.number ≡ Some who → journals.Opens t.journal new who front → IsLive new front
        → KnowsFront new front → Releases t.config v t.journal new (with_front front new v)
    opens who front rule number done live knows =
        opened t.config v t.journal t.sound known new sound kept_fronts rule who front number done
        live knows

    -- with a front less
    pub closes : (front : FrontState)
        → ((shard : ShardState) → KeepsJournalRule t.journal shard
        → KeepsJournalRule (without_front t.journal front.id) shard)
        → AmongFronts before.0.fronts front → new ≡ without_front t.journal front.id
        → Releases t.config v t.journal new (with_living new v)
    closes front rule own is =
        let rule_of : (shard : ShardState) → KeepsJournalRule t.journal shard → KeepsJournalRule new shard =
        λ shard kept. subst (λ (j : JournalState). KeepsJournalRule j shard) (sym is) (rule shard kept) in
        closed t.config v t.journal t.sound known new sound kept_fronts rule_of front own is

    -- with a number drawn
    pub draws : before.0.number ≡ None → new ≡ record t.journal { next = t.journal.next + 1 }
        → Releases t.config v t.journal new (with_number new v)
    draws free is = drawn t.config v t.journal t.sound known new sound kept_fronts free refl is

  -- the word of a journal with as many entries
  pub same_word : (new : JournalState) → new.history ≡ t.journal.history → n ≡ 2 * length new.history
  same_word new same = t.number ∙ ap (λ (h : List JournalEntry). 2 * length h) (sym same)
