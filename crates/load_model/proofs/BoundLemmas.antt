-- Questions on the rows of a workload have one bound.
use Rattle.std.proofs.Common.{◌≡◌, ℕ, ◌<◌, List, [], ◌∷◌, length, slice_index, sym, ap, ◌∙◌, arith}
use Rattle.std.proofs.lemmas.Grind.{same_number_lists}
use Rattle.hamming_model.specs.History.{shard_rows}
use Rattle.hamming_model.specs.Scan.{Ask, answer}
use Rattle.part_layout.specs.Contiguous.{contiguous}
use Rattle.part_layout.specs.declared.config.Config.{Config}
use Rattle.session_model.specs.Ledger.{sum_of}
use Rattle.threshold_model.specs.Bounds.{last_distance}
use Rattle.threshold_model.proofs.BoundLemmas.{bound_unique}
use Rattle.load_model.specs.Told.{IsBoundDrawn, AreBoundsDrawn}

module _ (config : Config) (rows : List (ℕ × List ℕ)) where
  -- the bounds of a question on each shard are one list
  drawn_unique : (asked : Ask) (one other : ℕ) → IsBoundDrawn config rows asked one → IsBoundDrawn config rows asked other → one ≡ other
  drawn_unique asked one other first second =
      let each : (shard : ℕ) → shard < length first.bounds → slice_index first.bounds shard ≡ slice_index second.bounds shard = λ shard within.
      let there : shard < config.shards = omega (arith, within, first.number) in
      bound_unique asked (shard_rows shard config.shards rows) (contiguous config.bits config.parts) (last_distance (answer config.bits rows asked))
      (slice_index first.bounds shard) (slice_index second.bounds shard) (first.each shard there) (second.each shard there) in
      first.all ∙ ap sum_of (same_number_lists first.bounds second.bounds (first.number ∙ sym second.number) each) ∙ sym second.all

  pub bounds_unique : (questions : List Ask) (one other : ℕ) → AreBoundsDrawn config rows questions one → AreBoundsDrawn config rows questions other
      → one ≡ other
  bounds_unique [] one other first second = first ∙ sym second
  bounds_unique (asked ∷ questions) one other first second =
      omega (arith, drawn_unique asked first.0 second.0 first.2 second.2, bounds_unique questions first.1 second.1 first.3 second.3, first.4, second.4)
