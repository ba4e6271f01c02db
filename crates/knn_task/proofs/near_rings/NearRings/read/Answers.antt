-- The new hits of the run are kept, and the ring goes on.
use Rattle.std.proofs.Common.{◌≡◌, ◌<◌, ◌+◌, ◌≤◌, length, ap, sym, ◌∙◌, arith, rules}
use Rattle.std.proofs.lemmas.Bool.{ltb-true}
use Rattle.hit_source.specs.Windows.{Window}
use Rattle.ring_walk.specs.RingWalks.{new_of}
use Rattle.knn_task.specs.Near.{with_new}
use Rattle.knn_task.proofs.KeepLemmas.{new_few}
use Rattle.knn_task.proofs.WalkedLemmas.{run_fits, walked_on}
use Rattle.knn_task.proofs.near_rings.NearRings.read.Goals as goal

pub keep-requires : goal.keep-requires
keep-requires g c =
    let own = c.args.self.now in
    let e = c.read-run.ensures in (
      search rules,
      (
        search rules,
        (
          e.place,
          (
            e.stored,
            run_fits own.plan own.walk c.read-run.new.self c.read-run.result.now (length c.args.window.now.found) c.args.window.now.capacity
                e.units e.hits c.requires.room,
          ),
        ),
      ),
    )

pub invariant_of-self : goal.invariant_of-self
invariant_of-self g c =
    let own = c.args.self.now in
    let e = c.read-run.ensures in
    record {
      kept = walked_on own.plan own.thresholds.room own.left own.walk own.kept c.read-run.new.self _
          e.place e.after e.begun (omega (arith, own.kept.left_is, e.reads, c.from.ensures));
    }

pub returns-clause-hits : goal.returns-clause-hits
returns-clause-hits g c =
    let run = c.read-run.result.now in
    record {
      kept = new_of c.args.self.now.plan c.args.self.now.walk.units run;
      few = new_few c.args.self.now.plan c.args.self.now.walk.units run;
      window = c.keep.ensures
          ∙ ap (λ units. with_new c.args.window.now (new_of c.args.self.now.plan units run)) c.read-run.ensures.units;
      hits = c.read-run.ensures.hits;
    }

pub returns-clause-some : goal.returns-clause-some
returns-clause-some g c =
    let less : c.args.self.now.walk.next < c.args.self.now.walk.size =
    ltb-true c.args.self.now.walk.next c.args.self.now.walk.size c.requires.posting in
    omega (arith, c.read-run.ensures.number, c.requires.some)
