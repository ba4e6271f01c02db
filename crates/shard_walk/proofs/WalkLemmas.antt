-- The steps of a walk: what is left to read, to keep and to go over.
use Rattle.std.proofs.Common.{◌≡◌, ℕ, ◌+◌, ◌-◌, ◌^◌, ◌<◌, ◌≤◌, negsuc, List, [], ◌∷◌, ◌++◌, length, map, min, take, drop, All, refl, sym, ap, subst, ◌∙◌, ⊎_elim, arith}
use Rattle.std.proofs.lemmas.Bool.{cases_lt}
use Rattle.std.specs.List.{flat_map}
use Rattle.std.proofs.lemmas.List.{drop_more, drop_all, take_all, length-take-le, length-append, length-map, append_assoc}
use Rattle.hamming_model.specs.declared.hit.Hit.{Hit}
use Rattle.hamming_model.specs.Scan.{hit_of}
use Rattle.threshold_model.specs.Finding.{threshold_at}
use Rattle.search_model.specs.Reading.{number_read, unpadded}
use Rattle.search_model.specs.Keeping.{is_kept, hits_kept, hits_of_parts}
use Rattle.shard_probe.specs.Probed.{entry_rows}
use Rattle.shard_probe.proofs.RunLemmas.{passed_joined, rest_cut, run_size}
use Rattle.shard_walk.specs.Planned.{Planned, parts_of, part_of, planned_query, list_of, kept_of}
use Rattle.shard_walk.specs.Walks.{Place, IsWalkPlace, BeginsValue, PassesPart, part_begun, value_begun, after_run, parts_walked, rest_of_list, rows_left, reads_left, hits_left, values_of, values_left}

-- what the parts after one read
abbrev later : Planned → ℕ → List (List (ℕ × List ℕ))
later p part = parts_walked (list_of p) (part + 1) (drop (part + 1) (parts_of p)) (drop (part + 1) p.thresholds) (planned_query p)

module _ (p : Planned) (w : Place) (place : IsWalkPlace p w) where
  module _ (count : ℕ) (run : List (ℕ × List ℕ)) (within : w.next + count ≤ w.size)
      (is_run : entry_rows p.version run ≡ take count (drop w.next (list_of p w.part w.value))) where
    abbrev then : List (ℕ × List ℕ)
    then = rest_of_list p (after_run w count) ++ flat_map (list_of p w.part) w.ball

    rows_cut : rows_left p w ≡ (entry_rows p.version run ++ then) ∷ later p w.part
    rows_cut =
        ap (λ rest. (rest ++ flat_map (list_of p w.part) w.ball) ∷ later p w.part)
        (rest_cut (list_of p w.part w.value) w.next w.size count within
        ∙ ap (λ rows. rows ++ rest_of_list p (after_run w count)) (sym is_run))
        ∙ ap (λ rows. rows ∷ later p w.part)
        (append_assoc (entry_rows p.version run) (rest_of_list p (after_run w count)) (flat_map (list_of p w.part) w.ball))

    pub run_hits : hits_left p w ≡ kept_of p w.part run ++ hits_left p (after_run w count)
    run_hits =
        let rest : List Hit = hits_of_parts (parts_of p) p.thresholds (planned_query p) p.tau (w.part + 1) (later p w.part) in
        ap (hits_of_parts (parts_of p) p.thresholds (planned_query p) p.tau w.part) rows_cut
        ∙ ap (λ hits. hits ++ rest) (passed_joined (hit_of (planned_query p)) (is_kept (parts_of p) p.thresholds (planned_query p) p.tau w.part)
        (entry_rows p.version run) then)
        ∙ append_assoc (kept_of p w.part run) (hits_kept (parts_of p) p.thresholds (planned_query p) p.tau w.part then) rest

    pub run_reads : reads_left p w ≡ reads_left p (after_run w count) + length run
    run_reads =
        let cut = ap number_read rows_cut in
        let joined = length-append (entry_rows p.version run) then in
        let mapped = length-map run (unpadded p.version.contents.layout.bits) in
        omega arith

  pub run_place : (count : ℕ) → w.next + count ≤ w.size → IsWalkPlace p (after_run w count)
  run_place count within = record {
    few_parts = place.few_parts;
    thresholds = place.thresholds;
    part = place.part;
    width = place.width;
    ball = place.ball;
    value = place.value;
    next = within;
    size = place.size;
  }

  module _ (done : w.next ≡ w.size) where
    rest_done : rest_of_list p w ≡ []
    rest_done =
        let size = length-take-le w.size (list_of p w.part w.value) place.size in
        drop_all w.next (take w.size (list_of p w.part w.value)) (omega arith)

    pub rows_done : rows_left p w ≡ flat_map (list_of p w.part) w.ball ∷ later p w.part
    rows_done = ap (λ rest. (rest ++ flat_map (list_of p w.part) w.ball) ∷ later p w.part) rest_done

    module _ (value : ℕ) (rest : List ℕ) (first : w.ball ≡ value ∷ rest) where
      value_rows : rows_left p (value_begun p w value rest) ≡ rows_left p w
      value_rows =
          ap (λ list. (list ++ flat_map (list_of p w.part) rest) ∷ later p w.part)
          (take_all (length (list_of p w.part value)) (list_of p w.part value) (omega arith))
          ∙ ap (λ values. flat_map (list_of p w.part) values ∷ later p w.part) (sym first)
          ∙ sym rows_done

      pub value_begins : value < 2 ^ length (part_of p w.part) → All (λ other. other < 2 ^ length (part_of p w.part)) rest
          → BeginsValue p w (value_begun p w value rest)
      value_begins below all =
          let size = ap length first in
          record {
            place = record {
              few_parts = place.few_parts;
              thresholds = place.thresholds;
              part = place.part;
              width = place.width;
              ball = all;
              value = below;
              next = omega arith;
              size = omega arith;
            };
            hits = ap (hits_of_parts (parts_of p) p.thresholds (planned_query p) p.tau w.part) value_rows;
            reads = ap number_read value_rows;
            values = omega arith;
          }

    -- the last part has nothing left
    pub end_reads : w.ball ≡ [] → length (parts_of p) ≤ w.part + 1 → reads_left p w ≡ 0
    end_reads none last =
        ap number_read (rows_done
        ∙ ap (λ values. flat_map (list_of p w.part) values ∷ later p w.part) none
        ∙ ap (λ layout. [] ∷ parts_walked (list_of p) (w.part + 1) layout (drop (w.part + 1) p.thresholds) (planned_query p))
        (drop_all (w.part + 1) (parts_of p) last))

-- a run of postings was read, so many
pub record ReadsRun (p : Planned) (old new : Place) (run : List (ℕ × List ℕ)) (count : ℕ) : Type 0 where
  pub hits : hits_left p old ≡ kept_of p old.part run ++ hits_left p new
  pub reads : reads_left p old ≡ reads_left p new + length run
  pub size : length run ≡ count

pub reads_run : (p : Planned) (own : Place) → IsWalkPlace p own → (inside : Place) → inside ≡ own
    → (count most : ℕ) → count ≡ min (inside.size - inside.next) most → (run : List (ℕ × List ℕ))
    → entry_rows p.version run ≡ take count (drop inside.next (list_of p inside.part inside.value))
    → ReadsRun p own (after_run inside count) run count
reads_run p own place inside same count most least run rows =
    let next = ap (λ (w : Place). w.next) same in
    let size = ap (λ (w : Place). w.size) same in
    let behind = place.next in
    let among = place.size in
    let within : own.next + count ≤ own.size = omega arith in
    let is_run = rows ∙ ap (λ (w : Place). take count (drop w.next (list_of p w.part w.value))) same in
    subst (λ (w : Place). ReadsRun p own (after_run w count) run count) (sym same) (record {
      hits = run_hits p own place count run within is_run;
      reads = run_reads p own place count run within is_run;
      size = run_size p.version.contents.layout.bits own.next count run (list_of p own.part own.value) (omega arith) is_run;
    })

module _ (p : Planned) (part : ℕ) (size : length p.thresholds ≡ length (parts_of p)) (less : part < length (parts_of p)) where
  parts_cut : drop part (parts_of p) ≡ part_of p part ∷ drop (part + 1) (parts_of p)
  parts_cut = drop_more (parts_of p) part [] less

  thresholds_cut : drop part p.thresholds ≡ threshold_at p.thresholds part ∷ drop (part + 1) p.thresholds
  thresholds_cut = drop_more p.thresholds part (negsuc 0) (omega arith)

  -- a part that begins has all its rows left, and so have those after it
  pub begun_rows : rows_left p (part_begun p part) ≡ parts_walked (list_of p) part (drop part (parts_of p)) (drop part p.thresholds) (planned_query p)
  begun_rows =
      sym (ap (λ layout. parts_walked (list_of p) part layout (drop part p.thresholds) (planned_query p)) parts_cut
      ∙ ap (λ ts. parts_walked (list_of p) part (part_of p part ∷ drop (part + 1) (parts_of p)) ts (planned_query p)) thresholds_cut)

  pub begun_values : values_left p (part_begun p part) ≡ values_of (drop part (parts_of p)) (drop part p.thresholds) (planned_query p)
  begun_values =
      sym (ap (λ layout. values_of layout (drop part p.thresholds) (planned_query p)) parts_cut
      ∙ ap (λ ts. values_of (part_of p part ∷ drop (part + 1) (parts_of p)) ts (planned_query p)) thresholds_cut)

module _ (p : Planned) (w : Place) (place : IsWalkPlace p w) (done : w.next ≡ w.size) (none : w.ball ≡ [])
    (size : length p.thresholds ≡ length (parts_of p)) (more : w.part + 1 < length (parts_of p)) where
  part_rows : rows_left p w ≡ [] ∷ rows_left p (part_begun p (w.part + 1))
  part_rows =
      rows_done p w place done ∙ ap (λ values. flat_map (list_of p w.part) values ∷ later p w.part) none
      ∙ ap (λ rows. [] ∷ rows) (sym (begun_rows p (w.part + 1) size more))

  pub part_hits : hits_left p (part_begun p (w.part + 1)) ≡ hits_left p w
  part_hits = sym (ap (hits_of_parts (parts_of p) p.thresholds (planned_query p) p.tau w.part) part_rows)

  pub part_reads : reads_left p (part_begun p (w.part + 1)) ≡ reads_left p w
  part_reads =
      let cut = ap number_read part_rows in
      omega arith

  pub part_values : values_left p (part_begun p (w.part + 1)) ≡ values_left p w
  part_values =
      let begun = begun_values p (w.part + 1) size more in
      let empty = ap length none in
      omega arith

module _ (p : Planned) (w : Place) (place : IsWalkPlace p w) (done : w.next ≡ w.size) (none : w.ball ≡ []) where
  -- where something is left there is another part
  pub more_parts : 0 < reads_left p w → w.part + 1 < length (parts_of p)
  more_parts some =
      ⊎_elim (λ (more : w.part + 1 < length (parts_of p)). more)
      (λ (last : length (parts_of p) ≤ w.part + 1). absurd (omega (arith, end_reads p w place done none last)))
      (cases_lt (w.part + 1) (length (parts_of p)))

  -- and it is passed on to
  pub passes : w.part + 1 < length (parts_of p) → IsWalkPlace p (part_begun p (w.part + 1)) → PassesPart p w (part_begun p (w.part + 1))
  passes more begun = record {
    place = begun;
    next_part = refl;
    at_start = refl;
    hits = part_hits p w place done none place.thresholds more;
    reads = part_reads p w place done none place.thresholds more;
    values = part_values p w place done none place.thresholds more;
  }
