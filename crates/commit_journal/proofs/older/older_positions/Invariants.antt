-- The positions of the fronts so far are gathered.
use Rattle.commit_journal.proofs.GatherLemmas.{Gathered}
use Rattle.commit_journal.proofs.older.older_positions.Given as goal

abbrev pub invariant-loop-id : goal.invariant-loop-id
invariant-loop-id l =
    (goal.iterator-loop-id).can_next l._id-iterator ×
    (goal.iterator-loop-id).is_finite l._id-iterator ×
    Gathered l.live l.position l.older.items l._id-iterator
