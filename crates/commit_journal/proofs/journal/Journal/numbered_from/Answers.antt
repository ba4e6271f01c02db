-- The journal with no entries.
use Rattle.commit_journal.proofs.JournalLemmas.{kept_empty}
use Rattle.commit_journal.proofs.journal.Journal.numbered_from.Goals as goal

pub invariant_of-result : goal.invariant_of-result
invariant_of-result g c =
    rw (c.in_ok-entries.ensures, c.new-2.ensures.empty, c.new-3.ensures.empty)
    (kept_empty g.row.W c.args.limit c.args.next c.requires.few_words c.requires.limited c.requires.numbered
    c.legal_histories_grow.ensures.begins)
