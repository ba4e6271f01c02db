use Rattle.std.proofs.Common.{◌≡◌, rules, ap, ◌∙◌, subst, sym}
use Rattle.std.specs.Arc.{arc_value}
use Rattle.part_layout.specs.Laid.{IsLaid, Laid}
use Rattle.shard_version.specs.Relaid.{ArePartTables, in_layout}
use Rattle.version_draft.specs.Unfinished.{Unfinished}
use Rattle.version_draft.proofs.PartsLemmas.{tables_done}
use Rattle.version_draft.proofs.draft.Draft.version.Goals as goal

pub in_layout-requires : goal.in_layout-requires
in_layout-requires g c =
    let version = c.self.inside.version.contents in
    let same = sym c.in_ok-layout.ensures.cases in
    let made = rw c.as_slice.ensures.value at c.in_ok-tables.ensures in
    let none = ap (λ (draft : Unfinished). draft.left) c.self.view_is ∙ c.requires in
    let done = tables_done version (arc_value c.self.inside.layout) c.self.inside.rows.items c.self.inside.parts.items c.self.inside.next c.self.invariant
    c.in_ok-tables.tables.items made none in (
      search rules,
      (
        search rules,
        (
          subst (λ (layout : Laid). IsLaid layout) same c.self.invariant.sound.laid,
          (
            subst (λ (layout : Laid). layout.bits ≡ version.layout.bits) same c.self.invariant.bits,
            subst (λ (layout : Laid). ArePartTables (in_layout version layout) c.in_ok-tables.tables.items) same done,
          ),
        ),
      ),
    )
