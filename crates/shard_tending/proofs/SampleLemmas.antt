-- The samples that are drawn from the first rows of a version.
use Rattle.std.proofs.Common.{◌≡◌, ℕ, ◌<◌, ◌≤◌, List, [], ◌∷◌, length, map, take, get_or, refl, sym, ap, subst, ◌∙◌, arith}
use Rattle.std.proofs.lemmas.List.{length-map, length-take}
use Rattle.std.specs.Prelude.{zero, suc}
use Rattle.hamming_model.specs.Codes.{StandsFor}
use Rattle.search_model.specs.Reading.{unpadded}
use Rattle.shard_version.specs.Tables.{AreStored}
use Rattle.layout_search.specs.Improves.{AreSamples, FindsImproved, IsSmallSample, plain_sample}
use Rattle.layout_search.specs.declared.sample.Sample.{Sample}
use Rattle.exchange_model.specs.Rounds.{IsSearchEnd, PlainSample, search_cost}
use Rattle.std.specs.Prelude.{nat_lt, IfOk}
use Rattle.std.specs.declared.result.Result.{Result}
use Rattle.std.specs.declared.result.Result.TheVariants.{Ok, Err}
use Rattle.std.specs.Arc.{arc_value}
use Rattle.part_layout.specs.Laid.{IsLaid, Laid}
use Rattle.shard_version.specs.Contents.{Contents}
use Rattle.layout_search.specs.declared.found.Found.{Found}
use Rattle.shard_tending.specs.Turns.{FindsTended}
use Rattle.shard_tending.specs.Searched.{row_sample, tending_samples}
use Rattle.shard_tending.specs.declared.limits.TheConstants.{TENDING_RADIUS, TENDING_ROUNDS, TENDING_ROWS}

-- two arguments that are the same
pub ap_both : {A B C : Type 0} (f : A → B → C) {one other : A} {first second : B} → one ≡ other → first ≡ second → f one first ≡ f other second
ap_both f {one} {other} {first} {second} same also = ap (λ x. f x first) same ∙ ap (f other) also

-- a row's code as a sample
abbrev pub stored_sample : {W : ℕ} → ℕ × List ℕ → Sample W
stored_sample row = record { query = row.1; tau = TENDING_RADIUS }

module _ (W bits : ℕ) where
  pub plain_all : (rows : List (ℕ × List ℕ)) → map (plain_sample {W = W} bits) (map stored_sample rows) ≡ map row_sample (map (unpadded bits) rows)
  plain_all [] = refl
  plain_all (row ∷ rows) = ap (λ (rest : List PlainSample). row_sample (unpadded bits row) ∷ rest) (plain_all rows)

  pub small_at : (rows : List (ℕ × List ℕ)) → AreStored W bits rows → (k : ℕ) (other : Sample W) → k < length (map (stored_sample {W = W}) rows)
      → IsSmallSample bits (get_or (map (stored_sample {W = W}) rows) k other)
  small_at [] stored k other low = absurd (omega arith)
  small_at (row ∷ rows) stored zero other low = record { query = stored.0; near = omega arith }
  small_at (row ∷ rows) stored (suc k) other low = small_at rows stored.1 k other (omega arith)

  pub are_samples : (rows first : List (ℕ × List ℕ)) → map (unpadded bits) rows ≡ take TENDING_ROWS first → AreStored W bits rows
      → AreSamples bits (map (stored_sample {W = W}) rows)
  are_samples rows first same stored = record {
    few = omega (arith, length-map rows (stored_sample {W = W}), length-map rows (unpadded bits), ap length same, length-take TENDING_ROWS first);
    each = small_at rows stored;
  }

-- a search over the samples of a version finds where the rounds of a turn end
pub finds_tended : {W : ℕ} (version : Contents) (samples : List (Sample W)) (found : Found)
    → map (plain_sample version.layout.bits) samples ≡ tending_samples version.rows → FindsImproved version samples TENDING_ROUNDS found
    → IsLaid (arc_value found.layout) → (arc_value found.layout).bits ≡ version.layout.bits → FindsTended version found
finds_tended version samples found plain ends laid bits = record {
  layout = ap_both (λ (n : ℕ) (parts : List (List ℕ)). the_laid n parts) bits is.layout;
  cheaper = ap_both nat_lt (is.cost_after ∙ ap (search_cost version.rows (tending_samples version.rows)) is.layout) is.cost_before;
  laid = laid;
}
  where
    the_laid : ℕ → List (List ℕ) → Laid
    the_laid n parts = record { bits = n; parts = parts }

    is : IsSearchEnd version.rows (tending_samples version.rows) TENDING_ROUNDS version.layout.parts (arc_value found.layout).parts
        found.before found.after found.swaps
    is = subst (λ (all : List PlainSample). IsSearchEnd version.rows all TENDING_ROUNDS version.layout.parts (arc_value found.layout).parts
        found.before found.after found.swaps) plain ends

pub found_all : {W : ℕ} {E : Type 0} (version : Contents) (samples slice : List (Sample W)) → slice ≡ samples
    → map (plain_sample version.layout.bits) samples ≡ tending_samples version.rows → (result : Result Found E)
    → IfOk result (FindsImproved version slice TENDING_ROUNDS) → IfOk result (λ found. IsLaid (arc_value found.layout))
    → IfOk result (λ found. (arc_value found.layout).bits ≡ version.layout.bits) → IfOk result (FindsTended version)
found_all {W} version samples slice same plain (Ok found) ends laid bits =
    finds_tended version slice found (ap (map (plain_sample {W = W} version.layout.bits)) same ∙ plain) ends laid bits
found_all version samples slice same plain (Err e) ends laid bits = tt
