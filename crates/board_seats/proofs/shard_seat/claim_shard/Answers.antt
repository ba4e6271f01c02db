use Rattle.std.proofs.Common.{◌+◌, rules, ap, ◌∙◌, arith}
use Rattle.board_seats.proofs.ShardClaimLemmas.{claims_place, shard_taken_from}
use Rattle.board_seats.proofs.shard_seat.claim_shard.Goals as goal

pub compare_exchange-found-requires : goal.compare_exchange-found-requires
compare_exchange-found-requires g c =
    let same = c.loop.invariant.4 in (
      search rules,
      search rules,
      claims_place (c.args.shard + 1) c.args.shard (omega arith) _ c.loop.me.id c.loop.me.me
          (ap (λ m. m.0.held) same ∙ c.requires.free.held) (ap (λ m. m.1) same ∙ c.requires.free.slots) c.requires.table.slots,
    )

pub returns-then-found-eq0-clause-taken : goal.returns-then-found-eq0-clause-taken
returns-then-found-eq0-clause-taken g c =
    shard_taken_from (c.args.shard + 1) c.args.shard (omega arith) c.args.me.now.me c.loop.me.me c.compare_exchange-found.new.seat.me
    c.compare_exchange-found.result c.loop.invariant.4 c.if-found-eq0.true c.compare_exchange-found.ensures.2
