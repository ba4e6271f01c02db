-- How a version is kept. No public clause cites this module.
use Rattle.std.specs.Prelude.{◌≡◌, ℕ, ◌+◌, ◌*◌, ◌<◌, ◌≤◌, List, map, length, take, drop, slice_index_or}
use Rattle.std.specs.BTreeMap.{insert_entry, is_at}
use Rattle.std.specs.List.{AllByRecursion}
use Rattle.std.specs.Map.{remove_entry}
use Rattle.std.specs.Ordering.{nat_cmp}
use Rattle.hamming_model.specs.declared.limits.TheConstants.{WORDS_MOST}
use Rattle.part_layout.specs.Laid.{Laid}
use Rattle.search_model.specs.Reading.{unpadded}
use Rattle.shard_version.specs.Contents.{Contents, IsVersion}
use Rattle.shard_version.specs.Relaid.{IsPartTable}
use Rattle.shard_version.specs.Tables.{AreStored, Tabled}
use Rattle.shard_version.specs.declared.part_table.PartTable.{PartTable}

-- the contents that callers see: the codes of the rows without their zeros
abbrev pub contents_of : ℕ → ℕ → ℕ → Laid → List (ℕ × List ℕ) → Contents
contents_of shard shards at layout stored =
    record {
      shard = shard;
      shards = shards;
      at = at;
      layout = layout;
      rows = map (unpadded layout.bits) stored;
    }

-- the version that callers see: its contents, and the posting tables of its parts
abbrev pub tabled_of : {W : ℕ} → Contents → List (PartTable W) → Tabled
tabled_of contents tables =
    record { contents = contents; tables = map (λ table. table.postings) tables }

-- a version after one more entry, with these rows
abbrev pub next_with : Contents → List (ℕ × List ℕ) → Contents
next_with version rows = record version { at = version.at + 1; rows = rows }

-- with a row more, whose code is the first so many bits of its words
abbrev pub with_added : Contents → ℕ → List ℕ → Contents
with_added version key stored =
    next_with version (insert_entry nat_cmp version.rows key (take version.layout.bits stored))

-- and with the row of a key less
abbrev pub with_deleted : Contents → ℕ → Contents
with_deleted version key = next_with version (remove_entry (is_at (nat_cmp key)) version.rows)

-- rows, posting lists and counts agree: each kept code stands for the row's,
-- and each part has tables of these rows
pub record AgreesWithRows {W : ℕ} (version : Contents) (stored : List (ℕ × List ℕ))
    (tables : List (PartTable W)) : Type 0 where
  pub sound : IsVersion version
  pub few_words : W ≤ WORDS_MOST
  pub room : version.layout.bits ≤ 64 * W
  pub stored_codes : AreStored W version.layout.bits stored
  pub number : length tables ≡ length version.layout.parts
  pub each : (part : ℕ) (other : PartTable W) → part < length tables
      → IsPartTable version part (slice_index_or tables part other)

-- the place of a key among rows: the keys before it are less, and those from it on are not
pub record IsPlace (rows : List (ℕ × List ℕ)) (key place : ℕ) : Type 0 where
  pub in_rows : place ≤ length rows
  pub before : AllByRecursion (λ row. row.0 < key) (take place rows)
  pub after : AllByRecursion (λ row. key ≤ row.0) (drop place rows)
