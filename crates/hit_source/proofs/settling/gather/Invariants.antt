-- The near ones of the hits so far stand in front, and the hits are those that were given.
use Rattle.std.proofs.Common.{nat_lt}
use Rattle.std.proofs.lemmas.List.Filters.{FiltersInPlace}
use Rattle.hamming_model.specs.declared.hit.Hit.{Hit}
use Rattle.search_model.specs.Reading.{HasSame}
use Rattle.hit_source.proofs.settling.gather.Given as goal

abbrev pub invariant-loop-at : goal.invariant-loop-at
invariant-loop-at l = FiltersInPlace (λ (hit : Hit). nat_lt hit.dist l.fn.units) l.fn.hits l.hits l.near l.at × HasSame l.hits l.fn.hits
