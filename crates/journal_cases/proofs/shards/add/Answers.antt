-- The entry is kept as a code of 8 bits.
use Rattle.std.proofs.Common.{subst, sym, take}
use Rattle.hamming_model.specs.Codes.{StandsFor, hex_code}
use Rattle.hamming_model.specs.History.{Add, JournalEntry}
use Rattle.hamming_model.specs.Recoded.{AreStoredEntries}
use Rattle.entry_log.specs.Decisions.{decision_of}
use Rattle.commit_journal.specs.Journals.{JournalState}
use Rattle.journal_cases.proofs.shards.add.Goals as goal

pub returns-clause-rule : goal.returns-clause-rule
returns-clause-rule c =
    let entry : JournalEntry = record { who = 0; operation = Add c.args.key c.in-Ok.code } in
    c.journals_keep_the_rule.ensures.commits c.args.journal.now c.commit.new.self entry c.in-Ok-commit.decided c.args.shard.now
    c.requires.rule c.in-Ok-commit.ensures.decided

pub returns-clause-codes : goal.returns-clause-codes
returns-clause-codes c =
    let entry : JournalEntry = record { who = 0; operation = Add c.args.key c.in-Ok.code } in
    let taken = c.stored_rows_search_alike.ensures.taken 1 8 c.in-Ok.code (hex_code c.args.text.now) c.in-Ok.ensures.code in
    let stored : StandsFor 1 8 c.in-Ok.code (take 8 c.in-Ok.code) = subst (StandsFor 1 8 c.in-Ok.code) (sym taken) c.in-Ok.ensures.code in
    subst (λ (state : JournalState). AreStoredEntries 1 8 state.history) (sym c.in-Ok-commit.ensures.decided.after)
    (c.stored_histories_grow.ensures.decided 1 8 c.args.journal.now.history entry (decision_of c.in-Ok-commit.decided.decision)
    c.requires.codes stored)
