use Rattle.std.proofs.Common.{rules, ap, ◌∙◌}
use Rattle.board_seats.proofs.ClaimLemmas.{claims, taken_from}
use Rattle.board_seats.proofs.SeatLemmas.{looks}
use Rattle.board_seats.proofs.journal_seat.claim.Goals as goal

pub load-word-requires : goal.load-word-requires
load-word-requires g c = (search rules, search rules, looks _ c.loop.me.id c.loop.me.me 0)

pub compare_exchange-found-requires : goal.compare_exchange-found-requires
compare_exchange-found-requires g c =
    let same = c.load-word.ensures.2 ∙ c.loop.invariant.4 in (
      search rules,
      search rules,
      claims _ c.load-word.new.seat.id c.load-word.new.seat.me c.load-word.result
          (ap (λ m. m.0.held) same ∙ c.requires.free.held) (ap (λ m. m.1) same ∙ c.requires.free.slots) c.if-word-eq0.true,
    )

pub returns-then-found-word-clause-taken : goal.returns-then-found-word-clause-taken
returns-then-found-word-clause-taken g c =
    taken_from c.args.me.now.me c.load-word.new.seat.me c.compare_exchange-found.new.seat.me c.compare_exchange-found.result
    c.load-word.result (c.load-word.ensures.2 ∙ c.loop.invariant.4) c.if-found-word.true c.compare_exchange-found.ensures.2
