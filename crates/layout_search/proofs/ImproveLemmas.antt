-- What a search finds, in a version's words.
use Rattle.std.proofs.Common.{◌≡◌, ℕ, ◌*◌, ◌≤◌, List, length, map, take, ◌∙◌, ap, arith}
use Rattle.std.proofs.lemmas.List.{length-map, length-take}
use Rattle.std.proofs.lemmas.List.Elements.{All-from_recursion}
use Rattle.hamming_model.specs.Codes.{StandsFor}
use Rattle.hamming_model.specs.declared.limits.TheConstants.{WORDS_MOST}
use Rattle.exchange_model.specs.Rounds.{layout_cost, search_cost}
use Rattle.exchange_model.specs.declared.limits.TheConstants.{SEARCH_ROWS_MOST}
use Rattle.part_layout.specs.Laid.{Laid}
use Rattle.search_model.specs.Reading.{unpadded}
use Rattle.shard_version.specs.Contents.{Contents}
use Rattle.shard_version.specs.Tables.{AreFirst, AreStored}
use Rattle.layout_search.specs.Improves.{AreSamples, plain_sample}
use Rattle.layout_search.specs.Inside.{IsSearchTask, plain_rows}
use Rattle.layout_search.specs.Ready.{SameTask, cost_with}
use Rattle.layout_search.specs.declared.sample.Sample.{Sample}
use Rattle.layout_search.specs.declared.search.Search.{Search}

-- the cost of parts for a version
abbrev pub version_cost : {W : ℕ} → Contents → List (Sample W) → List (List ℕ) → ℕ
version_cost version samples = search_cost version.rows (map (plain_sample version.layout.bits) samples)

-- the first rows of a version and the samples are a task
pub task_of : {W : ℕ} (version : Contents) (rows : List (ℕ × List ℕ)) (samples : List (Sample W)) → W ≤ WORDS_MOST → version.layout.bits ≤ 64 * W
    → AreFirst SEARCH_ROWS_MOST version rows → AreStored W version.layout.bits rows → AreSamples version.layout.bits samples
    → IsSearchTask version.layout.bits rows samples
task_of {W} version rows samples words room first stored are =
    let one = length-map rows (unpadded version.layout.bits) in
    let two = ap length first in
    let three = length-take SEARCH_ROWS_MOST version.rows in
    record {
      few_words = words;
      room = room;
      codes = All-from_recursion (λ (entry : ℕ × List ℕ). StandsFor W version.layout.bits entry.1 (take version.layout.bits entry.1)) rows stored;
      few = omega arith;
      few_samples = are.few;
      each = are.each;
    }

-- the cost over the first rows is the version's
pub cost_same : {W : ℕ} (version : Contents) (rows : List (ℕ × List ℕ)) (samples : List (Sample W)) (search : Search W) → search.layout ≡ version.layout
    → search.rows.items ≡ rows → search.samples.items ≡ samples → AreFirst SEARCH_ROWS_MOST version rows → cost_with search ≡ version_cost version samples
cost_same {W} version rows samples search layout is_rows is_samples first =
    ap (λ (l : Laid). λ (ps : List (List ℕ)). layout_cost (plain_rows l.bits search.rows.items) (map (plain_sample {W = W} l.bits) search.samples.items)
    ps) layout
    ∙ ap (λ rs. λ (ps : List (List ℕ)). layout_cost (plain_rows version.layout.bits rs)
    (map (plain_sample {W = W} version.layout.bits) search.samples.items) ps)
    is_rows
    ∙ ap (λ ss. λ (ps : List (List ℕ)). layout_cost (plain_rows version.layout.bits rows) (map (plain_sample {W = W} version.layout.bits) ss) ps) is_samples
    ∙ ap (λ rs. λ (ps : List (List ℕ)). layout_cost rs (map (plain_sample {W = W} version.layout.bits) samples) ps) first

-- the same of a search with the same task
pub cost_still : {W : ℕ} (old now : Search W) → SameTask old now → cost_with now ≡ cost_with old
cost_still {W} old now same =
    ap (λ bits. λ (ps : List (List ℕ)). layout_cost (plain_rows bits now.rows.items) (map (plain_sample {W = W} bits) now.samples.items) ps) same.bits
    ∙ ap (λ rs. λ (ps : List (List ℕ)). layout_cost (plain_rows old.layout.bits rs) (map (plain_sample {W = W} old.layout.bits) now.samples.items) ps)
    same.rows
    ∙ ap (λ ss. λ (ps : List (List ℕ)). layout_cost (plain_rows old.layout.bits old.rows.items) (map (plain_sample {W = W} old.layout.bits) ss) ps)
    same.samples
