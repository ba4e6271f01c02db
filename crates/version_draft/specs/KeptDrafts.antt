-- How a version that is being made is kept. No public clause cites this module.
use Rattle.std.specs.Prelude.{◌≡◌, ℕ, ◌+◌, ◌-◌, ◌*◌, ◌<◌, ◌≤◌, List, length, map, slice_index_or}
use Rattle.hamming_model.specs.declared.limits.TheConstants.{WORDS_MOST}
use Rattle.search_model.specs.Reading.{unpadded}
use Rattle.part_layout.specs.Laid.{Laid, part_at}
use Rattle.shard_version.specs.Contents.{Contents, IsVersion}
use Rattle.shard_version.specs.Relaid.{in_layout}
use Rattle.shard_version.specs.Tables.{AreStored}
use Rattle.version_draft.specs.PartDrafts.{IsPartDraft}
use Rattle.version_draft.specs.Unfinished.{Unfinished}
use Rattle.version_draft.specs.declared.part_draft.PartDraft.{PartDraft}

-- what callers see: the version in its new layout, and the rows from the next one on
abbrev pub unfinished_of : Contents → Laid → List (ℕ × List ℕ) → ℕ → Unfinished
unfinished_of version layout stored next =
    record { contents = in_layout version layout; left = length stored - next }

-- the rows are those of a version, and the first so many are placed in each part
pub record IsDraft {W : ℕ} (version : Contents) (layout : Laid) (stored : List (ℕ × List ℕ))
    (parts : List (PartDraft W)) (next : ℕ) : Type 0 where
  pub sound : IsVersion (in_layout version layout)
  pub few_words : W ≤ WORDS_MOST
  pub room : layout.bits ≤ 64 * W
  pub bits : layout.bits ≡ version.layout.bits
  pub rows : map (unpadded layout.bits) stored ≡ version.rows
  pub stored_codes : AreStored W layout.bits stored
  pub number : length parts ≡ length layout.parts
  pub in_rows : next ≤ length stored
  pub each : (part : ℕ) (other : PartDraft W) → part < length parts
      → IsPartDraft layout.bits (part_at layout part) stored next (slice_index_or parts part other)

-- the next row is placed in the first so many parts
pub record ArePlaced {W : ℕ} (layout : Laid) (stored : List (ℕ × List ℕ))
    (parts : List (PartDraft W)) (next count : ℕ) : Type 0 where
  pub number : length parts ≡ length layout.parts
  pub done : (part : ℕ) (other : PartDraft W) → part < count → part < length parts
      → IsPartDraft layout.bits (part_at layout part) stored (next + 1)
      (slice_index_or parts part other)
  pub left : (part : ℕ) (other : PartDraft W) → count ≤ part → part < length parts
      → IsPartDraft layout.bits (part_at layout part) stored next (slice_index_or parts part other)

-- the first so many parts have room for the rows, and none of them
pub record AreBegun {W : ℕ} (layout : Laid) (stored : List (ℕ × List ℕ))
    (parts : List (PartDraft W)) (count : ℕ) : Type 0 where
  pub number : length parts ≡ count
  pub each : (part : ℕ) (other : PartDraft W) → part < count
      → IsPartDraft layout.bits (part_at layout part) stored 0 (slice_index_or parts part other)
