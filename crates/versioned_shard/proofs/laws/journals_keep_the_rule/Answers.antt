-- A longer history, one live front more, one less.
use Rattle.std.proofs.Common.{◌≡◌, ⊎_elim, inl, inr, arith, length, subst, sym}
use Rattle.hamming_model.specs.History.{is_accepted}
use Rattle.entry_log.specs.Decisions.{decision_of}
use Rattle.commit_journal.specs.Fronts.{StandsAt, positions_of}
use Rattle.commit_journal.specs.Journals.{JournalState}
use Rattle.std.specs.FinMap as map
use Rattle.versioned_shard.specs.Rule.{KeepsJournalRule}
use Rattle.versioned_shard.proofs.RuleLemmas.{rule_decided, rule_fronts}
use Rattle.versioned_shard.proofs.laws.journals_keep_the_rule.Goals as goal

pub returns-clause-commits : goal.returns-clause-commits
returns-clause-commits c = λ old new entry decided shard rule commits.
    subst (λ (state : JournalState). KeepsJournalRule state shard) (sym commits.after)
    (rule_decided (positions_of old.live) old.history entry shard (is_accepted (decision_of decided.decision)) rule)

pub returns-clause-opens : goal.returns-clause-opens
returns-clause-opens c = λ old new session front shard rule opens.
    let live = map.insert old.live front.id (session, length old.history) in
    subst (λ (state : JournalState). KeepsJournalRule state shard) (sym opens.after)
    (rule_fronts (positions_of old.live) (positions_of live) old.history shard
    (λ position stands. ⊎_elim (λ (here : length old.history ≡ position). inr (omega (arith, here)))
    (λ (before : StandsAt (positions_of old.live) position). inl before)
    (c.live_fronts_come_and_go.ensures.comes old.live front.id session (length old.history) position stands)) rule)

pub returns-clause-closes : goal.returns-clause-closes
returns-clause-closes c = λ journal id shard rule.
    rule_fronts (positions_of journal.live) (positions_of (map.remove journal.live id)) journal.history shard
    (λ position stands. inl (c.live_fronts_come_and_go.ensures.goes journal.live id position stands)) rule
