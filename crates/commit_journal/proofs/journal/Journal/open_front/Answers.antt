-- One live front more.
use Rattle.std.proofs.Common.{subst}
use Rattle.commit_journal.specs.Fronts.{front_of}
use Rattle.commit_journal.specs.Journals.{JournalState, KeepsFronts, Opens}
use Rattle.commit_journal.specs.Kept.{journal_of}
use Rattle.commit_journal.proofs.JournalLemmas.{slab_keeps, slab_kept, slab_knows, slab_lives, slab_opens}
use Rattle.commit_journal.proofs.journal.Journal.open_front.Goals as goal

pub invariant_of-self-2 : goal.invariant_of-self-2
invariant_of-self-2 g c =
    slab_kept c.self.inside.entries c.in_ok-entries.entries c.self.inside.live c.insert.new.self c.self.inside.next c.self.inside.limit c.in_ok-id.id
    c.args.who
    c.len-position.result c.len-position.ensures.number
    c.in_ok-id.ensures.updates g.row.W c.self.inside.rows.entries c.self.invariant

pub returns-clause-opened : goal.returns-clause-opened
returns-clause-opened g c =
    let inside = c.self.inside in
    let after = journal_of inside.entries c.insert.new.self inside.next inside.limit in
    let front = front_of c.in_ok-id.id c.args.who c.in_ok-older.older.items c.in_ok-entries.entries in
    subst (λ (before : JournalState). Opens before after c.args.who front) c.self.view_is
    (slab_opens inside.entries c.in_ok-entries.entries inside.live c.insert.new.self inside.next inside.limit c.in_ok-id.id c.args.who
    c.len-position.result c.len-position.ensures.number
    c.in_ok-id.ensures.updates c.in_ok-older.older.items c.in_ok-entries.ensures c.in_ok-older.ensures c.in_ok-id.ensures.was_vacant)

pub returns-clause-live : goal.returns-clause-live
returns-clause-live g c =
    slab_lives c.self.inside.entries c.in_ok-entries.entries c.self.inside.live c.insert.new.self c.self.inside.next c.self.inside.limit c.in_ok-id.id
    c.args.who
    c.len-position.result c.len-position.ensures.number
    c.in_ok-id.ensures.updates c.in_ok-older.older.items c.in_ok-entries.ensures

pub returns-clause-known : goal.returns-clause-known
returns-clause-known g c =
    slab_knows c.self.inside.entries c.in_ok-entries.entries c.self.inside.live c.insert.new.self c.self.inside.next c.self.inside.limit c.in_ok-id.id
    c.args.who
    c.len-position.result c.len-position.ensures.number
    c.in_ok-id.ensures.updates c.in_ok-older.older.items c.in_ok-entries.ensures c.in_ok-older.ensures

pub returns-clause-fronts : goal.returns-clause-fronts
returns-clause-fronts g c =
    let inside = c.self.inside in
    let after = journal_of inside.entries c.insert.new.self inside.next inside.limit in
    subst (λ (before : JournalState). KeepsFronts before after) c.self.view_is
    (slab_keeps inside.entries c.in_ok-entries.entries inside.live c.insert.new.self inside.next inside.limit c.in_ok-id.id c.args.who
    c.len-position.result c.len-position.ensures.number
    c.in_ok-id.ensures.updates)
