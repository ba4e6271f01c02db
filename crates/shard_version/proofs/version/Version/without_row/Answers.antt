-- The version after a row less.
use Rattle.std.proofs.Common.{rules, ◌∙◌, ap, arith}
use Rattle.shard_version.specs.Tables.{Tabled}
use Rattle.shard_version.proofs.EntryLemmas.{asks_to_delete, kept_deleted, present_there, seen_deleted}
use Rattle.shard_version.proofs.version.Version.without_row.Goals as goal

pub remove-requires : goal.remove-requires
remove-requires g c =
    let few = c.self.invariant.few_words in
    let present = present_there _ _ _ _ c.self.inside.rows c.self.inside.tables.items c.self.invariant c.args.self.contents
    (ap (λ (version : Tabled). version.contents) c.self.view_is) c.args.key c.requires.present in
    (omega arith, (search rules, present))

pub remove_from_each-requires : goal.remove_from_each-requires
remove_from_each-requires g c =
    let few = c.self.invariant.few_words in (
      omega arith,
      (
        search rules,
        asks_to_delete _ _ _ _ c.self.inside.rows c.self.inside.tables.items c.self.invariant c.args.self.contents
            (ap (λ (version : Tabled). version.contents) c.self.view_is) c.args.key c.requires.present c.in_ok-code.code
            c.in_ok-code.ensures.code _ (c.deref-2.ensures ∙ c.layout.ensures ∙ c.deref.ensures)
            c.changes_follow_a_list.ensures.present,
      ),
    )

pub invariant_of-self : goal.invariant_of-self
invariant_of-self g c =
    kept_deleted _ _ _ _ c.self.inside.rows c.self.inside.tables.items c.self.invariant c.args.self.contents
    (ap (λ (version : Tabled). version.contents) c.self.view_is) c.args.key c.requires.present c.in_ok-code.code c.in_ok-code.ensures.code _
    (c.deref-2.ensures ∙ c.layout.ensures ∙ c.deref.ensures)
    _ c.in_ok-code.ensures.removed c.changes_follow_a_list.ensures.removed c.remove_from_each.new.tables.items c.in_ok-remove_from_each.ensures

pub returns : goal.returns
returns g c =
    seen_deleted _ _ _ _ c.self.inside.rows c.self.inside.tables.items c.self.invariant c.args.self.contents
    (ap (λ (version : Tabled). version.contents) c.self.view_is) c.args.key c.requires.present c.in_ok-code.code c.in_ok-code.ensures.code _
    (c.deref-2.ensures ∙ c.layout.ensures ∙ c.deref.ensures)
    _ c.in_ok-code.ensures.removed
