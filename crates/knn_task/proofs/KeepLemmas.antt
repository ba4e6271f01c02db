-- The new hits of a run of postings, one posting after the other.
use Rattle.std.proofs.Common.{◌≡◌, ℕ, ◌+◌, ◌<◌, ◌≤◌, Bool, true, false, cond, List, [], ◌++◌, length, take, get_or, refl, sym, ap, ◌∙◌, arith, append_assoc}
use Rattle.std.specs.Prelude.{Option, Some, None, not}
use Rattle.std.specs.Option.{option_to_list}
use Rattle.std.proofs.lemmas.List.{append-nil, length-append, take_all}
use Rattle.hamming_model.specs.declared.hit.Hit.{Hit}
use Rattle.hamming_model.specs.Scan.{hit_of}
use Rattle.search_model.specs.Reading.{unpadded}
use Rattle.ring_model.specs.Rings.{is_met}
use Rattle.hit_source.specs.Windows.{Window, window_at}
use Rattle.shard_probe.specs.Probed.{code_in}
use Rattle.shard_probe.proofs.RunLemmas.{passed_few, passed_more, passed_room}
use Rattle.ring_walk.specs.NearPlanned.{NearPlanned, near_bits, near_parts, near_query}
use Rattle.ring_walk.specs.RingWalks.{new_hit, new_of}
use Rattle.knn_task.specs.Near.{with_new}

-- a window that nothing new was put in
pub none_new_in : (hits : Window) → hits ≡ with_new hits []
none_new_in hits = ap (λ found. window_at found hits.capacity hits.room hits.given hits.moved) (sym (append-nil hits.found))

-- at most all postings of a run are new
pub new_few : (p : NearPlanned) (units : List ℕ) (run : List (ℕ × List ℕ)) → length (new_of p units run) ≤ length run
new_few p units run =
    passed_few (hit_of (near_query p)) (λ row. not (is_met (near_parts p) units (near_query p) row)) (unpadded (near_bits p)) run

passed_or_met : (met : Bool) (hit : Hit) → cond (not met) (Some hit) None ≡ cond met None (Some hit)
passed_or_met true hit = refl
passed_or_met false hit = refl

module _ (p : NearPlanned) (units : List ℕ) (run : List (ℕ × List ℕ)) (i : ℕ) (item : ℕ × List ℕ) (less : i < length run)
    (is : item ≡ get_or run i item) (kept : Option Hit) (of_item : kept ≡ new_hit p units (item.0, code_in p.version item.1))
    (old mid : Window) (before : mid ≡ with_new old (new_of p units (take i run))) where
  same_hit : cond (not (is_met (near_parts p) units (near_query p) (unpadded (near_bits p) item)))
      (Some (hit_of (near_query p) (unpadded (near_bits p) item))) None
      ≡ kept
  same_hit =
      passed_or_met (is_met (near_parts p) units (near_query p) (unpadded (near_bits p) item)) (hit_of (near_query p) (unpadded (near_bits p) item))
      ∙ sym of_item

  new_more : new_of p units (take (i + 1) run) ≡ new_of p units (take i run) ++ option_to_list kept
  new_more =
      passed_more (hit_of (near_query p)) (λ row. not (is_met (near_parts p) units (near_query p) row)) (unpadded (near_bits p)) run i item less is
      ∙ ap (λ one. new_of p units (take i run) ++ option_to_list one) same_hit

  -- what is new of one posting more
  pub keeps_more : with_new mid (option_to_list kept) ≡ with_new old (new_of p units (take (i + 1) run))
  keeps_more =
      ap (λ (w : Window). with_new w (option_to_list kept)) before
      ∙ ap (λ found. window_at found old.capacity old.room old.given old.moved)
      (append_assoc old.found (new_of p units (take i run)) (option_to_list kept)
      ∙ ap (λ hits. old.found ++ hits) (sym new_more))

  pub passes_by : kept ≡ None → mid ≡ with_new old (new_of p units (take (i + 1) run))
  passes_by none = none_new_in mid ∙ ap (λ one. with_new mid (option_to_list one)) (sym none) ∙ keeps_more

  -- there is room for it
  pub room_for : (hit : Hit) → kept ≡ Some hit → length old.found + length (new_of p units run) ≤ old.capacity
      → length mid.found < mid.capacity
  room_for hit some room =
      let found = ap (λ (w : Window). length w.found) before in
      let capacity = ap (λ (w : Window). w.capacity) before in
      let joined = length-append old.found (new_of p units (take i run)) in
      let one = ap (λ one. length (option_to_list one)) (same_hit ∙ some) in
      let fits = passed_room (hit_of (near_query p)) (λ row. not (is_met (near_parts p) units (near_query p) row)) (unpadded (near_bits p))
      run i item less is in
      omega arith

-- all of a run
pub new_all : (p : NearPlanned) (units : List ℕ) (run : List (ℕ × List ℕ)) (i : ℕ) → length run ≤ i → (old mid : Window)
    → mid ≡ with_new old (new_of p units (take i run)) → mid ≡ with_new old (new_of p units run)
new_all p units run i past old mid before = before ∙ ap (λ xs. with_new old (new_of p units xs)) (take_all i run past)
