-- The shard takes the version, or stays.
use Rattle.std.proofs.Common.{arith, refl, false, ap}
use Rattle.versioned_shard.specs.Shards.{ShardState, contents_at}
use Rattle.session_desk.proofs.SwapLemmas.{now_swapped, now_swaps, swap_needs}
use Rattle.session_desk.proofs.solo.SoloDeskDesk.swap.Goals as goal

pub swap_shard-swapped-requires : goal.swap_shard-swapped-requires
swap_shard-swapped-requires g c = (
  omega arith,
  (
    omega arith,
    (
      omega arith,
      (
        omega arith,
        swap_needs g.row.W _ c.args.self.now c.self.invariant c.self.view_is c.args.shard c.requires.shard c.index_mut.result.now c.index_mut.ensures.value
            (contents_at c.args.prepared.version) c.requires.made,
      ),
    ),
  ),
)

pub invariant_of-self : goal.invariant_of-self
invariant_of-self g c =
    now_swapped g.row.W _ c.args.self.now c.self.invariant c.self.view_is c.args.shard c.requires.shard c.index_mut.result.now c.index_mut.ensures.value
    c.swap_shard-swapped.new.shard c.swap_shard-swapped.ensures.keeps c.one_more-self-inside.result c.self.inside.late

pub returns-in-Ok-clause-swapped : goal.returns-in-Ok-clause-swapped
returns-in-Ok-clause-swapped g c =
    now_swaps g.row.W _ c.args.self.now c.self.invariant c.self.view_is c.args.shard c.requires.shard c.index_mut.result.now c.index_mut.ensures.value
    c.swap_shard-swapped.new.shard c.swap_shard-swapped.ensures.keeps false
    (contents_at c.args.prepared.version) c.one_more-self-inside.result c.self.inside.late
    (ap (λ (shard : ShardState). shard.current.layout) c.in-Ok.ensures.swapped) c.in-Ok.ensures.moved c.one_more-self-inside.ensures refl
