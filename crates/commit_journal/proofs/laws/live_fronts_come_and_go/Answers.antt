-- The lemmas on live fronts.
use Rattle.std.proofs.Common.{ap}
use Rattle.commit_journal.proofs.LiveLemmas.{second, stands_closed, stands_opened}
use Rattle.commit_journal.proofs.laws.live_fronts_come_and_go.Goals as goal

pub returns : goal.returns
returns c = record {
  live = λ state front is. record { number = front.id; stands = ap second is };
  comes = stands_opened;
  goes = stands_closed;
}
