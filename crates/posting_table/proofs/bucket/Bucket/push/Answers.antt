use Rattle.std.proofs.Common.{◌++◌, ◌∷◌, []}
use Rattle.posting_table.proofs.BucketLemmas.{items_of, map_changed, map_kept}
use Rattle.posting_table.proofs.bucket.Bucket.push.Goals as goal

pub returns-in_default-clause-unchanged : goal.returns-in_default-clause-unchanged
returns-in_default-clause-unchanged g c =
    map_kept items_of c.self.inside.lists.items c.args.self.now c.args.at c.index_mut.result.now c.self.view_is c.index_mut.ensures.value
    c.push.new.self c.in_default.ensures.items

pub returns-clause-added : goal.returns-clause-added
returns-clause-added g c =
    map_changed items_of c.self.inside.lists.items c.args.self.now c.args.at c.index_mut.result.now c.self.view_is c.index_mut.ensures.value
    c.push.new.self [] (λ list. list ++ (c.args.key, c.args.code) ∷ []) c.requires c.in-Ok.ensures.items
