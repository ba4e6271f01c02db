use Rattle.std.proofs.Common.{rules, ◌<◌, ◌≤◌, length, sym, subst, arith}
use Rattle.std.specs.Arc.{arc_value}
use Rattle.version_draft.specs.Unfinished.{Unfinished}
use Rattle.version_draft.proofs.PartsLemmas.{draft_ascends, none_placed}
use Rattle.version_draft.proofs.draft.Draft.place_one.Goals as goal

pub place_in_each-requires : goal.place_in_each-requires
place_in_each-requires g c =
    let kept = c.self.invariant in
    let few = kept.few_words in
    let is = c.deref.ensures in
    let rows = c.as_slice.ensures.value in
    let before = subst (λ (draft : Unfinished). 1 ≤ draft.left) (sym c.self.view_is) c.requires in
    let next : c.self.inside.next < length c.self.inside.rows.items = omega (arith, before) in
    let version = c.self.inside.version.contents in
    let ascending = draft_ascends version (arc_value c.self.inside.layout) c.self.inside.rows.items c.self.inside.parts.items c.self.inside.next kept in
    let none = none_placed version (arc_value c.self.inside.layout) c.self.inside.rows.items c.self.inside.parts.items c.self.inside.next kept in
    (search rules, (search rules, (rw is kept.room, (rw (is, rows) kept.stored_codes, (few, (rw rows ascending, (rw rows next, rw (is, rows) none)))))))
