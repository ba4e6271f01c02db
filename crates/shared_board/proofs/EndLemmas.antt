-- How a board ends.
use Rattle.std.proofs.Common.{◌≡◌, inl, inr, ℕ, ◌+◌, ◌*◌, ◌%◌, List, length, sym, ap, subst, ◌∙◌, arith}
use mathlib.Core.List.{IsPrefix}
use mathlib.Core.Option.{some, some-injective}
use lib.ListN.{get_elem?}
use Rattle.commit_journal.specs.Journals.{JournalState}
use Rattle.atomic_table.specs.Table.{Final, Seen}
use Rattle.board_seats.specs.declared.rule.Cell.{Cell}
use Rattle.board_seats.specs.declared.rule.View.{View}
use Rattle.board_seats.specs.Rule.{IsShown}
use Rattle.board_seats.specs.Told.{journal_in}
use Rattle.shared_board.specs.Boards.{IsBoardEnd}

module _ {W : ℕ} (id : ℕ) (v : View W) (ws : List ℕ) (xs : List (Cell W)) (word : ℕ)
    (cell : Cell W) (final : Final (Seen (λ s. IsShown s) id v) ws xs)
    (found : get_elem? ws 0 ≡ some word) (lying : get_elem? xs 0 ≡ some cell) where
  -- the journal lies in its slot where its word is even, and begins with what a seat has seen
  closes : ¬ (word % 2 ≡ 1) → (journal : JournalState) × (cell ≡ Cell.Journal journal)
      × (word ≡ 2 * length journal.history) × IsPrefix v.seen journal.history
  closes even = elim final.1.0.1.journal [
    | inl h ↦
        let board = final.1.0.0 in
        let here = final.4 0 (Cell.Journal board.journal) h.home in
        let desk = final.1.0.1.desks id v final.1.1 in
        let entries = 2 * length board.journal.history in
        let there = ap (λ l. get_elem? l 0) final.2 in
        let shown = some-injective entries word (sym h.word ∙ there ∙ found) in (
          board.journal,
          some-injective cell (Cell.Journal board.journal) (sym lying ∙ here),
          sym shown,
          (desk.seen.more, desk.seen.longer),
        )
    | inr h ↦
        let odd_is = 2 * length final.1.0.0.journal.history + 1 in
        let there = ap (λ l. get_elem? l 0) final.2 in
        let odd : odd_is ≡ word = some-injective odd_is word (sym h.word ∙ there ∙ found) in
        absurd (even (omega (arith, odd)))
  ]

  pub is_end : IsBoardEnd word cell
  is_end = record {
    lies = λ even.
        (let done = closes even in done.1 ∙ ap Cell.Journal (sym (ap journal_in done.1)));
    entries = λ even. (let done = closes even in
        done.2 ∙ ap (λ (j : JournalState). 2 * length j.history) (sym (ap journal_in done.1)));
  }

  pub begins_there : ¬ (word % 2 ≡ 1) → IsPrefix v.seen (journal_in cell).history
  begins_there even =
      let done = closes even in
      subst (λ (j : JournalState). IsPrefix v.seen j.history) (sym (ap journal_in done.1)) done.3
