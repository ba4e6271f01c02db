-- The first hit that waited was given, and the source is lawful as before.
use Rattle.std.proofs.Common.{rules}
use Rattle.hit_source.specs.ListedLaw.{listed_lawful}
use Rattle.hit_source.proofs.ListedLemmas.{listed_pops}
use Rattle.hit_source.proofs.listed_hits.ListedHitsHitSource.pop.Goals as goal

pub returns-clause-pops : goal.returns-clause-pops
returns-clause-pops c =
    rw (c.pop.ensures.given, c.pop.ensures.head)
    (listed_pops c.args.self.now.window c.args.self.now.reads c.args.self.now.listed)

pub returns-clause-lawful : goal.returns-clause-lawful
returns-clause-lawful c = listed_lawful c.pop.new.self c.args.self.now.reads (search rules)
