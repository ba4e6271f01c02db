use Rattle.std.proofs.Common.{rules, ◌∙◌, ap, sym}
use Rattle.std.specs.Prelude.{is_some}
use Rattle.shard_version.proofs.SharedLemmas.{bucket_of_key, kept_removed, kept_same, own_ascend, own_code, seen_removed}
use Rattle.shard_version.proofs.keyed_rows.KeyedRows.remove.Goals as goal

pub remove_from-requires : goal.remove_from-requires
remove_from-requires g c =
    let is = bucket_of_key c.self.invariant c.self.view_is c.index_mut.ensures.value in
    (search rules, (search rules, (own_ascend is, ap (λ found. is_some found) (own_code is) ∙ c.requires.present)))

pub invariant_of-self : goal.invariant_of-self
invariant_of-self g c =
    kept_same (bucket_of_key c.self.invariant c.self.view_is c.index_mut.ensures.value) c.remove_from.new.bucket c.in_err-code.ensures.unchanged

pub invariant_of-self-2 : goal.invariant_of-self-2
invariant_of-self-2 g c =
    kept_removed (bucket_of_key c.self.invariant c.self.view_is c.index_mut.ensures.value) c.remove_from.new.bucket c.in_ok-code.ensures.removed
    c.requires.present

pub returns-clause-code : goal.returns-clause-code
returns-clause-code g c =
    sym (own_code (bucket_of_key c.self.invariant c.self.view_is c.index_mut.ensures.value)) ∙ c.in_ok-code.ensures.code

pub returns-clause-removed : goal.returns-clause-removed
returns-clause-removed g c =
    seen_removed (bucket_of_key c.self.invariant c.self.view_is c.index_mut.ensures.value) c.remove_from.new.bucket c.in_ok-code.ensures.removed
