-- What the loop keeps: the first shards have had their turn.
use Rattle.std.proofs.Common.{◌≡◌, ◌+◌, ◌*◌, ◌≤◌, true, length}
use Rattle.session_desk.specs.Calls.{KeepsKnown}
use Rattle.session_desk.specs.Desks.{IsDesk}
use Rattle.shard_tending.specs.Outcomes.{turns_in}
use Rattle.shard_tending.specs.Tending.{IsCountRise, KeepsOwnDesk, TendsAlone}
use Rattle.shard_tending.proofs.tending.tend.Given as goal

abbrev pub invariant-loop-shard : goal.invariant-loop-shard
invariant-loop-shard g l = record {
  keeps : KeepsOwnDesk (g.D.Desk.desk l.fn.desk) (g.D.Desk.desk l.desk);
  known : KeepsKnown (g.D.Desk.desk l.desk) (g.D.Desk.knows l.fn.desk) (g.D.Desk.knows l.desk);
  few : turns_in l.tended ≤ l.shard;
  swapped : IsCountRise (g.D.Desk.desk l.fn.desk).done l.tended.swapped (g.D.Desk.desk l.desk).done;
  moved : IsCountRise (g.D.Desk.desk l.fn.desk).late l.tended.moved (g.D.Desk.desk l.desk).late;
  alone : (g.D.Desk.desk l.fn.desk).alone ≡ true → TendsAlone (g.D.Desk.desk l.fn.desk) (g.D.Desk.desk l.desk) l.tended l.shard;
  bound : l.upkeep ≤ l.fn.upkeep + l.shard * (80 + 3 * length (g.D.Desk.desk l.desk).seen);
}
