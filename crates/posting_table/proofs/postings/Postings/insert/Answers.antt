use Rattle.std.proofs.Common.{rules}
use Rattle.std.proofs.lemmas.Result.{on_ok_weaker, on_err_weaker}
use Rattle.posting_table.proofs.PostingsLemmas.{bucket_of_value, entry_added, in_own, pushed_kept, table_same}
use Rattle.posting_table.proofs.postings.Postings.insert.Goals as goal

pub push_in-requires : goal.push_in-requires
push_in-requires g c =
    (search rules, (search rules, in_own (bucket_of_value c.self.invariant c.self.view_is c.requires.in_width c.index_mut-bucket.ensures.value)))

pub invariant_of-self : goal.invariant_of-self
invariant_of-self g c =
    pushed_kept (bucket_of_value c.self.invariant c.self.view_is c.requires.in_width c.index_mut-bucket.ensures.value)
    c.push_in.new.bucket (c.args.key, c.args.code) c.push_in.result c.requires.room c.push_in.ensures.added
    c.push_in.ensures.unchanged

pub returns-clause-added : goal.returns-clause-added
returns-clause-added g c =
    on_ok_weaker c.push_in.result
    (entry_added (bucket_of_value c.self.invariant c.self.view_is c.requires.in_width c.index_mut-bucket.ensures.value)
    c.push_in.new.bucket (c.args.key, c.args.code)) c.push_in.ensures.added

pub returns-clause-unchanged : goal.returns-clause-unchanged
returns-clause-unchanged g c =
    on_err_weaker c.push_in.result
    (table_same (bucket_of_value c.self.invariant c.self.view_is c.requires.in_width c.index_mut-bucket.ensures.value)
    c.push_in.new.bucket) c.push_in.ensures.unchanged
