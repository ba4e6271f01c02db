-- The hits that are kept of a run of postings, one posting after the other.
use Rattle.std.proofs.Common.{◌≡◌, ℕ, ◌+◌, ◌<◌, ◌≤◌, List, [], ◌++◌, length, take, get_or, refl, sym, ap, ◌∙◌, arith, append_assoc}
use Rattle.std.specs.Prelude.{Option, Some, None}
use Rattle.std.specs.Option.{option_to_list}
use Rattle.std.proofs.lemmas.List.{append-nil, length-append, take_all}
use Rattle.hamming_model.specs.declared.hit.Hit.{Hit}
use Rattle.hamming_model.specs.Scan.{hit_of}
use Rattle.search_model.specs.Keeping.{is_kept}
use Rattle.search_model.specs.Reading.{unpadded}
use Rattle.hit_source.specs.Windows.{Window, window_at}
use Rattle.shard_probe.proofs.RunLemmas.{passed_few, passed_more, passed_room}
use Rattle.shard_walk.specs.Planned.{Planned, parts_of, planned_query, code_of_plan, kept_hit, kept_of}
use Rattle.shard_query.specs.Tasks.{with_kept}

-- a window that nothing was kept in
pub none_kept : (hits : Window) → hits ≡ with_kept hits []
none_kept hits = ap (λ found. window_at found hits.capacity hits.room hits.given hits.moved) (sym (append-nil hits.found))

-- at most all postings of a run are kept
pub kept_few : (p : Planned) (part : ℕ) (run : List (ℕ × List ℕ)) → length (kept_of p part run) ≤ length run
kept_few p part run =
    passed_few (hit_of (planned_query p)) (is_kept (parts_of p) p.thresholds (planned_query p) p.tau part)
    (unpadded p.version.contents.layout.bits) run

module _ (p : Planned) (part : ℕ) (run : List (ℕ × List ℕ)) (i : ℕ) (item : ℕ × List ℕ) (less : i < length run) (is : item ≡ get_or run i item)
    (kept : Option Hit) (of_item : kept ≡ kept_hit p part (item.0, code_of_plan p item.1))
    (old mid : Window) (before : mid ≡ with_kept old (kept_of p part (take i run))) where
  kept_more : kept_of p part (take (i + 1) run) ≡ kept_of p part (take i run) ++ option_to_list kept
  kept_more =
      passed_more (hit_of (planned_query p)) (is_kept (parts_of p) p.thresholds (planned_query p) p.tau part)
      (unpadded p.version.contents.layout.bits) run i item less is
      ∙ ap (λ one. kept_of p part (take i run) ++ option_to_list one) (sym of_item)

  -- what is kept of one posting more
  pub keeps_more : with_kept mid (option_to_list kept) ≡ with_kept old (kept_of p part (take (i + 1) run))
  keeps_more =
      ap (λ (w : Window). with_kept w (option_to_list kept)) before
      ∙ ap (λ found. window_at found old.capacity old.room old.given old.moved)
      (append_assoc old.found (kept_of p part (take i run)) (option_to_list kept)
      ∙ ap (λ hits. old.found ++ hits) (sym kept_more))

  pub passes_by : kept ≡ None → mid ≡ with_kept old (kept_of p part (take (i + 1) run))
  passes_by none = none_kept mid ∙ ap (λ one. with_kept mid (option_to_list one)) (sym none) ∙ keeps_more

  -- there is room for it
  pub room_for : (hit : Hit) → kept ≡ Some hit → length old.found + length (kept_of p part run) ≤ old.capacity
      → length mid.found < mid.capacity
  room_for hit some room =
      let found = ap (λ (w : Window). length w.found) before in
      let capacity = ap (λ (w : Window). w.capacity) before in
      let joined = length-append old.found (kept_of p part (take i run)) in
      let one = ap (λ one. length (option_to_list one)) (sym of_item ∙ some) in
      let fits = passed_room (hit_of (planned_query p)) (is_kept (parts_of p) p.thresholds (planned_query p) p.tau part)
      (unpadded p.version.contents.layout.bits) run i item less is in
      omega arith

-- all of a run
pub kept_all : (p : Planned) (part : ℕ) (run : List (ℕ × List ℕ)) (i : ℕ) → length run ≤ i → (old mid : Window)
    → mid ≡ with_kept old (kept_of p part (take i run)) → mid ≡ with_kept old (kept_of p part run)
kept_all p part run i past old mid before = before ∙ ap (λ xs. with_kept old (kept_of p part xs)) (take_all i run past)
