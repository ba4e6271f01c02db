use Rattle.std.proofs.Common.{[]}
use Rattle.posting_table.proofs.BucketLemmas.{items_of, only_one_changed, seen_at, seen_changed}
use Rattle.posting_table.proofs.PostingsLemmas.{loses_at}
use Rattle.posting_table.proofs.bucket.Bucket.remove.Goals as goal

pub returns-clause-lost : goal.returns-clause-lost
returns-clause-lost g c =
    let all = c.self.inside.lists.items in
    let own = c.index_mut.result.now in
    let old = seen_at items_of all c.args.self.now c.args.at own c.self.view_is c.index_mut.ensures.value [] c.requires.bucket in
    let new = seen_changed items_of all c.args.self.now c.args.at own c.self.view_is c.index_mut.ensures.value c.swap_remove.new.self [] c.requires.bucket in
    rw (old, new, c.swap_remove.ensures.items) (loses_at c.args.place own.items c.swap_remove.result c.swap_remove.ensures.value)

pub returns-clause-others : goal.returns-clause-others
returns-clause-others g c =
    only_one_changed items_of c.self.inside.lists.items c.args.self.now c.args.at c.index_mut.result.now c.self.view_is c.index_mut.ensures.value
    c.swap_remove.new.self [] c.requires.bucket
