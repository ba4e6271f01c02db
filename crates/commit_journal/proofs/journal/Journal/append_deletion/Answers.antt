-- The entry is added and the row taken out.
use Rattle.std.proofs.Common.{◌≡◌, ◌<◌, [], ◌∷◌, sym, subst, length, true}
use Rattle.std.specs.Prelude.{is_some}
use Rattle.hamming_model.specs.History.{Delete, JournalEntry, code_at, rows_of}
use Rattle.commit_journal.specs.Journals.{JournalState}
use Rattle.commit_journal.specs.Kept.{journal_of}
use Rattle.commit_journal.proofs.JournalLemmas.{kept_more}
use Rattle.commit_journal.proofs.journal.Journal.append_deletion.Goals as goal

pub invariant_of-self-2 : goal.invariant_of-self-2
invariant_of-self-2 g c =
    let state = journal_of c.self.inside.entries c.self.inside.live c.self.inside.next c.self.inside.limit in
    let entry : JournalEntry = record { who = c.args.who; operation = Delete c.args.key } in
    let present = subst (λ (each : JournalState). is_some (code_at (rows_of each.history) c.args.key) ≡ true) (sym c.self.view_is) c.requires.present in
    let room = subst (λ (each : JournalState). length each.history < each.limit) (sym c.self.view_is) c.requires.room in
    let legal = c.legal_histories_grow.ensures.grows state.history entry c.self.invariant.sound.legal present in
    rw c.in_ok-push.ensures.added
    (kept_more state entry g.row.W c.self.inside.rows.entries c.remove.new.self.entries c.self.invariant legal room c.remove.ensures.entries
    (c.rows_follow_the_history.ensures.appended state.history (entry ∷ [])))
