-- Each part has fewer threads.
use Rattle.gph_server.proofs.side_by_side.+served.Given as goal

abbrev pub decreases-join+arg2 : goal.decreases-join+arg2
decreases-join+arg2 g l = l.half

abbrev pub decreases-join+arg3 : goal.decreases-join+arg3
decreases-join+arg3 g l = l.rest

abbrev pub decreases-serve_side_by_side : goal.decreases-serve_side_by_side
decreases-serve_side_by_side g l = l.threads
