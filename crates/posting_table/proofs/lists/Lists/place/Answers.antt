use Rattle.posting_table.proofs.ListsLemmas.{placed_kept, placed_seen}
use Rattle.posting_table.proofs.lists.Lists.place.Goals as goal

pub invariant_of-self : goal.invariant_of-self
invariant_of-self g c =
    placed_kept c.self.inside.width c.self.inside.lists.items c.args.self.now c.args.value c.args.key c.self.invariant c.self.view_is c.requires
    c.index_mut.result.now c.push_reserved.new.self c.index_mut.ensures.value (c.args.key, c.args.code) c.push_reserved.ensures.items
    c.push_reserved.ensures.capacity

pub returns : goal.returns
returns g c =
    placed_seen c.self.inside.width c.self.inside.lists.items c.args.self.now c.args.value c.args.key c.self.invariant c.self.view_is c.requires
    c.index_mut.result.now c.push_reserved.new.self c.index_mut.ensures.value (c.args.key, c.args.code) c.push_reserved.ensures.items
    c.push_reserved.ensures.capacity
