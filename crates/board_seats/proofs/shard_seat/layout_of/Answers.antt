-- The shard comes home as it stood.
use Rattle.std.proofs.Common.{rules, ap, ◌∙◌, refl}
use Rattle.part_layout.specs.Text.{layout_text}
use Rattle.board_seats.specs.Told.{shard_in}
use Rattle.board_seats.proofs.ShardReleaseLemmas.{has_shard_slot}
use Rattle.board_seats.proofs.ShardTakenLemmas.{home_as_stood, shard_was, visited_as_stood}
use Rattle.board_seats.proofs.shard_seat.layout_of.Goals as goal

pub slot_mut-requires : goal.slot_mut-requires
slot_mut-requires g c = (
  search rules,
  has_shard_slot c.args.me.now.me c.claim_shard-word.new.me.me c.args.shard
      c.claim_shard-word.ensures.taken c.claim_shard-word.result c.claim_shard-word.ensures.word,
)

pub store-requires : goal.store-requires
store-requires g c = (
  search rules,
  search rules,
  home_as_stood c.args.me.now.me c.claim_shard-word.new.me.me c.args.shard
      c.claim_shard-word.ensures.taken c.claim_shard-word.result c.claim_shard-word.ensures.word
      c.slot_mut.result.now _ c.slot_mut.ensures.value c.text_in-text.new.cell
      c.text_in-text.ensures.cell _ c.claim_shard-word.new.me.id c.requires.table.slots,
)

pub returns-clause-told : goal.returns-clause-told
returns-clause-told g c = (
  visited_as_stood c.args.me.now.me c.claim_shard-word.new.me.me c.args.shard
      c.claim_shard-word.ensures.taken c.claim_shard-word.result c.claim_shard-word.ensures.word
      c.slot_mut.result.now _ c.slot_mut.ensures.value c.text_in-text.new.cell
      c.text_in-text.ensures.cell c.store.new.seat.me c.store.ensures.2,
  refl,
  c.text_in-text.ensures.text ∙ ap (λ z. layout_text (shard_in z).current.layout.parts)
      (shard_was c.args.me.now.me c.claim_shard-word.new.me.me c.args.shard
      c.claim_shard-word.ensures.taken c.claim_shard-word.result c.claim_shard-word.ensures.word
      c.slot_mut.result.now _ c.slot_mut.ensures.value),
)
