use Rattle.std.proofs.Common.{rules, ℕ, ◌≤◌, ◌*◌, ap, sym, arith, subst}
use Rattle.std.specs.Arc.{arc_value}
use Rattle.shard_version.specs.Tables.{AreStored, Tabled}
use Rattle.version_draft.specs.KeptDrafts.{IsDraft}
use Rattle.version_draft.proofs.PartsLemmas.{draft_begun, few_read, seen_begun}
use Rattle.version_draft.proofs.draft.Draft.begin.Goals as goal

pub begin_each-requires : goal.begin_each-requires
begin_each-requires g c =
    let version = c.args.version.now.contents in
    let few = c.requires.few_words in
    let bits = sym c.requires.bits in
    let is = c.deref.ensures in
    let rows = c.as_slice.ensures.value in
    let stored = subst (λ (n : ℕ). AreStored g.row.W n c.in_ok-rows.rows.items) bits c.in_ok-rows.ensures.codes in
    let room = subst (λ (n : ℕ). n ≤ 64 * g.row.W) bits c.layout-room.ensures.tables.room in
    let most = c.layout-room.ensures.version.few_rows in
    let read = few_read version (arc_value c.args.layout) c.in_ok-rows.rows.items c.layout-room.ensures.version c.in_ok-rows.ensures.rows in
    (search rules, (search rules, (few, (rw is room, (rw (is, rows) stored, rw rows (omega (arith, most, read)))))))

pub invariant_of-result : goal.invariant_of-result
invariant_of-result g c =
    subst (λ (version : Tabled). IsDraft version.contents (arc_value c.args.layout) c.in_ok-rows.rows.items c.in_ok-parts.parts.items 0)
    (sym c.in_ok-version.ensures)
    (draft_begun c.args.version.now.contents (arc_value c.args.layout) c.in_ok-rows.rows.items c.layout-room.ensures.version c.in_ok-rows.ensures.rows
    c.in_ok-parts.parts.items c.requires.bits c.requires.few_words c.layout-room.ensures.tables.room c.requires.laid c.in_ok-rows.ensures.codes
    (rw (← c.deref.ensures, ← c.as_slice.ensures.value) c.in_ok-parts.ensures))

pub returns-clause-draft : goal.returns-clause-draft
returns-clause-draft g c =
    seen_begun c.args.version.now.contents (arc_value c.args.layout) c.in_ok-rows.rows.items c.layout-room.ensures.version c.in_ok-rows.ensures.rows
    c.in_ok-version.version.contents (ap (λ (version : Tabled). version.contents) c.in_ok-version.ensures)
