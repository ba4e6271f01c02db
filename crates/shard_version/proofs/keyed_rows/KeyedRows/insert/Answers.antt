use Rattle.std.proofs.Common.{rules, ◌∙◌}
use Rattle.shard_version.proofs.SharedLemmas.{bucket_of_key, kept_added, kept_same, own_ascend, own_code, seen_added}
use Rattle.shard_version.proofs.keyed_rows.KeyedRows.insert.Goals as goal

pub insert_in-requires : goal.insert_in-requires
insert_in-requires g c =
    let is = bucket_of_key c.self.invariant c.self.view_is c.index_mut.ensures.value in
    (search rules, (search rules, (own_ascend is, own_code is ∙ c.requires.absent)))

pub invariant_of-self : goal.invariant_of-self
invariant_of-self g c =
    kept_same (bucket_of_key c.self.invariant c.self.view_is c.index_mut.ensures.value) c.insert_in.new.bucket c.in_err-insert_in.ensures.unchanged

pub invariant_of-self-2 : goal.invariant_of-self-2
invariant_of-self-2 g c =
    kept_added (bucket_of_key c.self.invariant c.self.view_is c.index_mut.ensures.value) c.insert_in.new.bucket c.args.code
    c.in_ok-insert_in.ensures.added c.requires.absent

pub returns : goal.returns
returns g c =
    record {
      added = seen_added (bucket_of_key c.self.invariant c.self.view_is c.index_mut.ensures.value) c.insert_in.new.bucket
          c.args.code c.in_ok-insert_in.ensures.added;
    }
