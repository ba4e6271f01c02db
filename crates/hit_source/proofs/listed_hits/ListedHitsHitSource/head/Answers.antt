-- The source is lawful.
use Rattle.hit_source.specs.ListedLaw.{listed_lawful}
use Rattle.hit_source.proofs.listed_hits.ListedHitsHitSource.head.Goals as goal

pub returns-clause-lawful : goal.returns-clause-lawful
returns-clause-lawful c = listed_lawful c.args.self.now.window c.args.self.now.reads c.args.self.now.listed
