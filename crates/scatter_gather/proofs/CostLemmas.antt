-- The hits given are no more than the reads.
use Rattle.std.proofs.Common.{◌≡◌, ℕ, ◌+◌, ◌≤◌, List, [], ◌∷◌, length, drop, refl, ap, arith}
use Rattle.std.specs.Prelude.{min, sum_by}
use Rattle.std.specs.List.{flat_map}
use Rattle.std.proofs.lemmas.List.{length-take, length-drop, length-append}
use Rattle.std.proofs.lemmas.List.Sums.{sum_by-cons}
use Rattle.hit_source.specs.Sources.{Asked, Standing, IsLawful}
use Rattle.scatter_gather.specs.Gathering.{Source, source_of, sources_of, Gathered, seen, all_asked, merged}
use Rattle.scatter_gather.specs.Gathering.{answer_of, left_hits}
use Rattle.scatter_gather.specs.Kept.{IsGathering, AreLawful}
use Rattle.scatter_gather.proofs.ReadyLemmas.{all_lawful}
use Rattle.scatter_gather.proofs.MoreLemmas.{length_in_order}

-- each hit is left, or a posting was read for it
hits_read : (sources : List Source) → AreLawful sources
    → length (flat_map (λ (a : Asked). a.hits) (all_asked sources)) ≤ length (left_hits sources)
    + sum_by (λ (s : Source). s.standing.reads) sources
hits_read [] law = omega arith
hits_read (s ∷ sources) law =
    omega (
      arith,
      length-append s.asked.hits (flat_map (λ (a : Asked). a.hits) (all_asked sources)),
      length-append (drop s.standing.given s.asked.hits) (left_hits sources),
      length-drop s.standing.given s.asked.hits,
      law.0.each_read,
      sum_by-cons (λ (s : Source). s.standing.reads) s sources,
      hits_read sources law.1,
    )

seen_reads : {S : Type 0} (asks : S → Asked) (stands : S → Standing) (hs : List S)
    → sum_by (λ (s : Source). s.standing.reads) (sources_of asks stands hs) ≡ sum_by (λ x. (stands x).reads) hs
seen_reads asks stands [] = refl
seen_reads asks stands (x ∷ hs) =
    omega (
      arith,
      sum_by-cons (λ (s : Source). s.standing.reads) (source_of asks stands x) (sources_of asks stands hs),
      sum_by-cons (λ x. (stands x).reads) x hs,
      seen_reads asks stands hs,
    )

-- where the hits given are hits of the answer, at least as many postings were read
pub given_read : {S : Type 0} (asks : S → Asked) (stands : S → Standing) (g : Gathered S)
    → ((x : S) → IsLawful (asks x) (stands x)) → IsGathering (seen asks stands g)
    → g.given ≤ length (answer_of (seen asks stands g)) → g.given ≤ sum_by (λ x. (stands x).reads) g.sources
given_read asks stands g law is within =
    let sources = sources_of asks stands g.sources in
    let all = merged (all_asked sources) in
    omega (
      arith,
      within,
      length-take g.limit all,
      length-drop g.given all,
      ap length is.merge,
      length_in_order (left_hits sources),
      length_in_order (flat_map (λ (a : Asked). a.hits) (all_asked sources)),
      hits_read sources (all_lawful asks stands law g.sources),
      seen_reads asks stands g.sources,
    )

-- a sum cut off at one number, which the other isn't above
pub not_capped : (cap low reads sum : ℕ) → low ≤ sum → low ≤ cap → reads ≡ min sum cap → low ≤ reads
not_capped cap low reads sum l m e = grind arith
