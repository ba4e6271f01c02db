use Rattle.std.proofs.Common.{◌/◌, [], ap, sym, arith, get_or, length}
use Rattle.std.specs.Arc.{arc_value}
use Rattle.posting_table.specs.Tables.{Loses, key_at, posting_list}
use Rattle.posting_table.proofs.PostingsLemmas.{bucket_of_value, has_key-at, in_own, kept_changed, kept_same, list_lent, list_told, loses_one, only_list_changed, own_list, own_short, table_same}
use Rattle.posting_table.proofs.postings.Postings.remove.Goals as goal

pub place_of-requires : goal.place_of-requires
place_of-requires g c =
    (omega arith, omega (arith, ap length c.deref.ensures, in_own (bucket_of_value c.self.invariant c.self.view_is c.requires c.index.ensures)))

pub returns-in_default-clause-found : goal.returns-in_default-clause-found
returns-in_default-clause-found g c =
    sym (rw (list_lent (bucket_of_value c.self.invariant c.self.view_is c.requires c.index.ensures) c.deref.result.now c.deref.ensures) at c.in_default.ensures)

pub invariant_of-self : goal.invariant_of-self
invariant_of-self g c =
    kept_same (bucket_of_value c.self.invariant c.self.view_is c.requires c.index_mut.ensures.value) c.remove_from.new.bucket
    c.in_default-remove_from.ensures.unchanged

pub returns-in_default-remove_from-clause-others : goal.returns-in_default-remove_from-clause-others
returns-in_default-remove_from-clause-others g c =
    only_list_changed (bucket_of_value c.self.invariant c.self.view_is c.requires c.index_mut.ensures.value) c.remove_from.new.bucket
    (get_or (arc_value c.remove_from.new.bucket) (c.args.value / 256) []) c.remove_from.ensures.others

pub returns-in_default-remove_from-clause-unchanged : goal.returns-in_default-remove_from-clause-unchanged
returns-in_default-remove_from-clause-unchanged g c =
    table_same (bucket_of_value c.self.invariant c.self.view_is c.requires c.index_mut.ensures.value) c.remove_from.new.bucket
    c.in_default-remove_from.ensures.unchanged

pub invariant_of-self-2 : goal.invariant_of-self-2
invariant_of-self-2 g c =
    let changed = bucket_of_value c.self.invariant c.self.view_is c.requires c.index_mut.ensures.value in
    let lent = list_lent (bucket_of_value c.self.invariant c.self.view_is c.requires c.index.ensures) c.deref.result.now c.deref.ensures in
    let at : key_at (get_or (arc_value c.index_mut.result.now) (c.args.value / 256) []) c.in-Some.place c.args.key =
    rw (own_list changed, ← lent) c.in-Some.ensures in
    let fewer = loses_one c.args.key _ _ (c.in-Ok.ensures.lost.of c.args.key at) in
    kept_changed changed c.remove_from.new.bucket (get_or (arc_value c.remove_from.new.bucket) (c.args.value / 256) []) c.remove_from.ensures.others
    (omega (arith, fewer, own_short changed))

pub returns-clause-found : goal.returns-clause-found
returns-clause-found g c =
    sym
    (has_key-at (posting_list c.args.self.now c.args.value) c.in-Some.place c.args.key
    (rw (list_lent (bucket_of_value c.self.invariant c.self.view_is c.requires c.index.ensures) c.deref.result.now c.deref.ensures) at c.in-Some.ensures))

pub returns-clause-removed : goal.returns-clause-removed
returns-clause-removed g c = λ _.
    let changed = bucket_of_value c.self.invariant c.self.view_is c.requires c.index_mut.ensures.value in
    let lent = list_lent (bucket_of_value c.self.invariant c.self.view_is c.requires c.index.ensures) c.deref.result.now c.deref.ensures in
    let at : key_at (get_or (arc_value c.index_mut.result.now) (c.args.value / 256) []) c.in-Some.place c.args.key =
    rw (own_list changed, ← lent) c.in-Some.ensures in
    list_told changed c.remove_from.new.bucket (get_or (arc_value c.remove_from.new.bucket) (c.args.value / 256) []) c.remove_from.ensures.others
    (Loses c.args.key) (c.in-Ok.ensures.lost.of c.args.key at)

pub returns-clause-others : goal.returns-clause-others
returns-clause-others g c =
    only_list_changed (bucket_of_value c.self.invariant c.self.view_is c.requires c.index_mut.ensures.value) c.remove_from.new.bucket
    (get_or (arc_value c.remove_from.new.bucket) (c.args.value / 256) []) c.remove_from.ensures.others
