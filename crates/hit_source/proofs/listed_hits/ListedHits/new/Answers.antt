-- The hits in order are a list, of which nothing was read.
use Rattle.std.proofs.Common.{sym, subst}
use Rattle.hit_source.specs.Listed.{IsListed}
use Rattle.hit_source.proofs.ListedLemmas.{listed_begins}
use Rattle.hit_source.proofs.listed_hits.ListedHits.new.Goals as goal

pub invariant_of-result : goal.invariant_of-result
invariant_of-result c =
    let begun = rw c.of-window.ensures at c.sort.ensures.sorted in
    record {
      listed = subst (λ w. IsListed w 0) (sym begun)
          (listed_begins c.args.hits.items c.args.room c.requires.near c.requires.some_room);
    }
