-- The shard comes home in the layout of a version made apart, or as it stood.
use Rattle.std.proofs.Common.{rules, ap, ◌∙◌, sym}
use Rattle.std.specs.Prelude.{is_err}
use Rattle.versioned_shard.specs.Shards.{MayStandIn, contents_at}
use Rattle.board_seats.specs.ShardCalls.{PutsLayout}
use Rattle.board_seats.specs.Told.{shard_in}
use Rattle.board_seats.proofs.ShardMoveLemmas.{at_of, made_stands_in, takes_at, takes_layout}
use Rattle.board_seats.proofs.ShardReleaseLemmas.{has_shard_slot, holder_knows, home_shard, shard_holder, visited_shard}
use Rattle.board_seats.proofs.ShardTakenLemmas.{shard_there, shard_was, taken_so, there_so}
use Rattle.board_seats.proofs.shard_seat.swap.Goals as goal

pub slot_mut-requires : goal.slot_mut-requires
slot_mut-requires g c = (
  search rules,
  has_shard_slot c.args.me.now.me c.claim_shard-word.new.me.me c.args.shard
      c.claim_shard-word.ensures.taken c.claim_shard-word.result c.claim_shard-word.ensures.word,
)

pub swap_in-swapped-requires : goal.swap_in-swapped-requires
swap_in-swapped-requires g c =
    let taken = c.claim_shard-word.ensures.taken in (
      search rules,
      (
        search rules,
        (
          search rules,
          (
            shard_there c.args.me.now.me c.claim_shard-word.new.me.me c.args.shard
                c.claim_shard-word.ensures.taken c.claim_shard-word.result c.claim_shard-word.ensures.word
                c.slot_mut.result.now _ c.slot_mut.ensures.value,
            there_so c.args.me.now.me c.claim_shard-word.new.me.me c.args.shard
                c.claim_shard-word.ensures.taken c.claim_shard-word.result c.claim_shard-word.ensures.word
                c.slot_mut.result.now _ c.slot_mut.ensures.value
                (λ s. MayStandIn s (contents_at c.args.prepared.version))
                (made_stands_in taken.config taken.journal c.args.me.now.me.0 c.args.shard
                taken.shard (contents_at c.args.prepared.version) taken.knows taken.stands
                c.requires.made),
          ),
        ),
      ),
    )

pub store-requires : goal.store-requires
store-requires g c =
    let before = c.args.me.now.me in
    let me = c.claim_shard-word.new.me.me in
    let k = c.args.shard in
    let t = c.claim_shard-word.ensures.taken in
    let at = c.claim_shard-word.ensures.word in
    let version = contents_at c.args.prepared.version in
    let new = shard_in c.swap_in-swapped.new.cell in
    let moved = is_err c.swap_in-swapped.result in
    let takes = taken_so before me k t _ at c.slot_mut.result.now _ c.slot_mut.ensures.value
    (λ s. PutsLayout s new version moved) c.swap_in-swapped.ensures.swapped in
    let moves = takes_layout t.config (shard_holder before me k t) k t.shard new version moved takes
    (made_stands_in t.config t.journal before.0 k t.shard version t.knows t.stands
    c.requires.made) c.swap_in-swapped.ensures.laid c.shards_keep_the_rule.ensures.swapped in (
      search rules,
      search rules,
      home_shard before me k t _ at new c.swap_in-swapped.new.cell c.swap_in-swapped.ensures.cell
          moves _ c.claim_shard-word.new.me.id c.requires.table.slots,
    )

pub returns-clause-swapped : goal.returns-clause-swapped
returns-clause-swapped g c =
    let before = c.args.me.now.me in
    let me = c.claim_shard-word.new.me.me in
    let k = c.args.shard in
    let t = c.claim_shard-word.ensures.taken in
    let at = c.claim_shard-word.ensures.word in
    let version = contents_at c.args.prepared.version in
    let new = shard_in c.swap_in-swapped.new.cell in
    let moved = is_err c.swap_in-swapped.result in
    let takes = taken_so before me k t _ at c.slot_mut.result.now _ c.slot_mut.ensures.value
    (λ s. PutsLayout s new version moved) c.swap_in-swapped.ensures.swapped in
    let moves = takes_layout t.config (shard_holder before me k t) k t.shard new version moved takes
    (made_stands_in t.config t.journal before.0 k t.shard version t.knows t.stands
    c.requires.made) c.swap_in-swapped.ensures.laid c.shards_keep_the_rule.ensures.swapped in
    let was = shard_was before me k t _ at c.slot_mut.result.now _ c.slot_mut.ensures.value in
    let stands = moves.stands t.journal t.sound (holder_knows before me k t) t.stands in (
      visited_shard before me k t _ at new c.swap_in-swapped.new.cell
          c.swap_in-swapped.ensures.cell moves stands c.store.new.seat.me c.store.ensures.2,
      takes,
      at_of c.swap_in-swapped.result (λ moved. moved.shard_at)
          (shard_in c.slot_mut.result.now).current.at new.current.at
          (ap (λ z. (shard_in z).current.at) was ∙ sym (takes_at t.shard new version moved takes))
          c.swap_in-swapped.ensures.at,
    )
