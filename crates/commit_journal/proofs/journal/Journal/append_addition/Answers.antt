-- The row and the entry are added together, or the row is taken out again.
use Rattle.std.proofs.Common.{◌≡◌, ◌<◌, ◌∙◌, [], ◌∷◌, ap, sym, subst, length, None, List, ℕ}
use Rattle.std.specs.BTreeMap.{is_at}
use Rattle.std.specs.Map.{remove_entry}
use Rattle.std.specs.Ordering.{nat_cmp}
use Rattle.hamming_model.specs.History.{Add, JournalEntry, code_at, rows_of}
use Rattle.commit_journal.specs.Journals.{JournalState}
use Rattle.commit_journal.specs.Kept.{journal_of}
use Rattle.commit_journal.proofs.JournalLemmas.{kept_more, removed_inserted}
use Rattle.commit_journal.proofs.journal.Journal.append_addition.Goals as goal

pub invariant_of-self-in-Ok : goal.invariant_of-self-in-Ok
invariant_of-self-in-Ok g c =
    let state = journal_of c.self.inside.entries c.self.inside.live c.self.inside.next c.self.inside.limit in
    let entry : JournalEntry = record { who = c.args.who; operation = Add c.args.key c.args.code } in
    let absent = subst (λ (each : JournalState). code_at (rows_of each.history) c.args.key ≡ None) (sym c.self.view_is) c.requires.absent in
    let room = subst (λ (each : JournalState). length each.history < each.limit) (sym c.self.view_is) c.requires.room in
    let legal = c.legal_histories_grow.ensures.grows state.history entry c.self.invariant.sound.legal absent in
    rw c.in-Ok.ensures.added
    (kept_more state entry g.row.W c.self.inside.rows.entries c.insert.new.self.entries c.self.invariant legal room c.in_ok-insert.ensures.entries
    (c.rows_follow_the_history.ensures.appended state.history (entry ∷ [])))

pub invariant_of-self-in_default : goal.invariant_of-self-in_default
invariant_of-self-in_default g c =
    let absent = subst (λ (each : JournalState). code_at (rows_of each.history) c.args.key ≡ None) (sym c.self.view_is) c.requires.absent in
    let none = ap (λ (rows : List (ℕ × List ℕ)). code_at rows c.args.key) c.self.invariant.same_rows ∙ absent in
    let out = removed_inserted c.self.inside.rows.entries c.args.key c.args.code none in
    let back : c.remove-row.new.self.entries ≡ c.self.inside.rows.entries =
    c.remove-row.ensures.entries ∙ ap (remove_entry (is_at (nat_cmp c.args.key))) c.in_ok-insert.ensures.entries ∙ out in
    rw (back, c.in_default.ensures.unchanged) c.self.invariant
