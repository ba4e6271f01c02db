-- One live front less.
use Rattle.std.proofs.Common.{◌∙◌, ap, sym, subst}
use Rattle.commit_journal.specs.Journals.{JournalState, KeepsFronts, without_front}
use Rattle.commit_journal.specs.Kept.{journal_of}
use Rattle.commit_journal.proofs.JournalLemmas.{fronts_closed, kept_closed, slab_closed}
use Rattle.commit_journal.proofs.journal.Journal.close_front.Goals as goal

pub invariant_of-self : goal.invariant_of-self
invariant_of-self g c =
    let inside = c.self.inside in
    let state = journal_of inside.entries inside.live inside.next inside.limit in
    let less = slab_closed inside.entries inside.live c.try_remove.new.self inside.next inside.limit c.id.result c.try_remove.ensures.updates in
    rw less (kept_closed g.row.W state c.id.result inside.rows.entries c.self.invariant)

pub returns-clause-closed : goal.returns-clause-closed
returns-clause-closed g c =
    slab_closed c.self.inside.entries c.self.inside.live c.try_remove.new.self c.self.inside.next c.self.inside.limit c.id.result
    c.try_remove.ensures.updates
    ∙ ap (λ (state : JournalState). without_front state c.id.result) c.self.view_is ∙ ap (without_front c.args.self.now) c.id.ensures

pub returns-clause-fronts : goal.returns-clause-fronts
returns-clause-fronts g c =
    let inside = c.self.inside in
    let less = slab_closed inside.entries inside.live c.try_remove.new.self inside.next inside.limit c.id.result c.try_remove.ensures.updates
    ∙ ap (λ (state : JournalState). without_front state c.id.result) c.self.view_is in
    subst (KeepsFronts c.args.self.now) (sym less) (fronts_closed c.args.self.now c.id.result)
