-- Nothing was taken, so all hits are left.
use Rattle.std.proofs.Common.{sym, ap, subst, arith}
use Rattle.std.proofs.lemmas.List.{length-map}
use Rattle.hamming_model.specs.Scan.{in_order}
use Rattle.scatter_gather.specs.Gathering.{source_of}
use Rattle.scatter_gather.specs.Kept.{AreOneLength}
use Rattle.hit_source.specs.Sources.{IsFresh}
use Rattle.scatter_gather.proofs.MergeLemmas.{all_left, all_of_map}
use Rattle.scatter_gather.proofs.KeepLemmas.{asked_seen}
use Rattle.scatter_gather.proofs.gather.Gather.new.Goals as goal

pub invariant_of-result : goal.invariant_of-result
invariant_of-result g c =
    let as_seen = source_of g.H.HitSource.asked g.H.HitSource.standing in
    let count = length-map c.args.sources.items as_seen in
    record {
      some = omega (arith, count, c.requires.some);
      few = omega (arith, count, c.requires.few);
      merge = sym (ap in_order
          (all_left _ (all_of_map as_seen (λ s. IsFresh s.standing) c.args.sources.items c.requires.fresh)));
      within = omega arith;
      one_length = subst AreOneLength
          (sym (asked_seen g.H.HitSource.asked g.H.HitSource.standing c.args.sources.items)) c.requires.one_length;
      last = tt;
      later = tt;
    }
