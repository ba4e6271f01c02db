-- The version after a row more.
use Rattle.std.proofs.Common.{rules, ◌∙◌, ap, arith}
use Rattle.shard_version.specs.Tables.{Tabled}
use Rattle.shard_version.proofs.EntryLemmas.{absent_there, asks_to_add, fits, kept_added, seen_added}
use Rattle.shard_version.proofs.version.Version.with_row.Goals as goal

pub insert_in_each-requires : goal.insert_in_each-requires
insert_in_each-requires g c =
    let few = c.self.invariant.few_words in (
      omega arith,
      (
        search rules,
        asks_to_add _ _ _ _ c.self.inside.rows c.self.inside.tables.items c.self.invariant c.args.self.contents
            (ap (λ (version : Tabled). version.contents) c.self.view_is) c.args.key c.requires.room c.args.code c.requires.absent c.requires.code
            c.requires.own _ (c.deref-2.ensures ∙ c.layout.ensures ∙ c.deref.ensures) c.counts_are_those_of_a_list.ensures.total,
      ),
    )

pub insert-requires : goal.insert-requires
insert-requires g c =
    let few = c.self.invariant.few_words in
    let absent = absent_there _ _ _ _ c.self.inside.rows c.self.inside.tables.items c.self.invariant c.args.self.contents
    (ap (λ (version : Tabled). version.contents) c.self.view_is) c.args.key c.requires.room c.args.code c.requires.absent c.requires.code
    c.requires.own _ (c.deref-2.ensures ∙ c.layout.ensures ∙ c.deref.ensures) in
    let room = fits _ _ _ _ c.self.inside.rows c.self.inside.tables.items c.self.invariant c.args.self.contents
    (ap (λ (version : Tabled). version.contents) c.self.view_is) c.args.key c.requires.room c.args.code c.requires.absent c.requires.code
    c.requires.own _ (c.deref-2.ensures ∙ c.layout.ensures ∙ c.deref.ensures) in
    (omega arith, (search rules, (absent, room)))

pub invariant_of-self : goal.invariant_of-self
invariant_of-self g c =
    kept_added _ _ _ _ c.self.inside.rows c.self.inside.tables.items c.self.invariant c.args.self.contents
    (ap (λ (version : Tabled). version.contents) c.self.view_is) c.args.key c.requires.room c.args.code c.requires.absent c.requires.code
    c.requires.own _ (c.deref-2.ensures ∙ c.layout.ensures ∙ c.deref.ensures) _ c.in_ok-insert.ensures.added
    c.changes_follow_a_list.ensures.added c.insert_in_each.new.tables.items c.in_ok-insert_in_each.ensures

pub returns : goal.returns
returns g c =
    seen_added _ _ _ _ c.self.inside.rows c.self.inside.tables.items c.self.invariant c.args.self.contents
    (ap (λ (version : Tabled). version.contents) c.self.view_is) c.args.key c.requires.room c.args.code c.requires.absent c.requires.code
    c.requires.own _ (c.deref-2.ensures ∙ c.layout.ensures ∙ c.deref.ensures) _ c.in_ok-insert.ensures.added
