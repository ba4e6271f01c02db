-- The journal is empty, the shards stand before the first entry, and no query was opened.
use Rattle.std.proofs.Common.{List, sym, ap, subst, ◌∙◌}
use Rattle.std.specs.Arc.{arc_value}
use Rattle.commit_journal.specs.Journals.{JournalState, empty_journal}
use Rattle.gph_world.specs.Kept.{KeepsWorld}
use Rattle.gph_world.specs.Seen.{world_seen}
use Rattle.world_parts.specs.declared.held.Held.{Held}
use Rattle.gph_world.proofs.StartLemmas.{start_keeps, starts}
use Rattle.gph_world.proofs.world.World.new.Goals as goal

pub invariant_of-result : goal.invariant_of-result
invariant_of-result g c =
    let a = c.args in
    subst (λ (journal : JournalState). KeepsWorld a.bits a.room journal c.in_ok-places.places.items c.new-2.result.items) (sym c.in_ok-journal.ensures)
    (subst (λ (queries : List (Held g.row.W)). KeepsWorld a.bits a.room (empty_journal a.limit) c.in_ok-places.places.items queries)
    (sym c.new-2.ensures.items)
    (start_keeps a.bits a.shards a.room a.limit (arc_value a.layout) c.in_ok-places.places.items c.in_ok-places.ensures
    c.requires.few_words c.requires.words c.requires.layout c.requires.some_shards c.requires.few_shards c.requires.some_room c.requires.small_room))

pub returns : goal.returns
returns g c =
    let a = c.args in
    ap (λ (journal : JournalState). world_seen a.bits a.room journal c.in_ok-places.places.items c.new-2.result.items) c.in_ok-journal.ensures
    ∙ ap (λ (queries : List (Held g.row.W)). world_seen a.bits a.room (empty_journal a.limit) c.in_ok-places.places.items queries) c.new-2.ensures.items
    ∙ starts a.bits a.shards a.room a.limit (arc_value a.layout) c.in_ok-places.places.items c.in_ok-places.ensures
