-- A query on a version: the words that keep its code, and what the version's layout and posting
-- lists are to it.
use Rattle.std.specs.Prelude.{ℕ, ◌≤◌, List, [], All, map, take, slice_index_or, refl}
use Rattle.std.specs.Coded.{Coded, code_by, coded×, coded_list, coded_ℕ}
use Rattle.hamming_model.specs.Codes.{StandsFor}
use Rattle.hamming_model.specs.declared.limits.TheConstants.{WORDS_MOST}
use Rattle.threshold_model.specs.Vectors.{row_counts}
use Rattle.posting_table.specs.Tables.{posting_list}
use Rattle.search_model.specs.Reading.{unpadded}
use Rattle.shard_version.specs.Contents.{IsVersion}
use Rattle.shard_version.specs.Tables.{Tabled, tabled_code, HasTables, table_at}

-- the version, and the words of the query
pub record Probed : Type 0 where
  pub version : Tabled
  pub stored : List ℕ

-- both as a pair
abbrev pub probed_code : Coded Probed
probed_code =
    code_by (Tabled × List ℕ) (coded× tabled_code (coded_list coded_ℕ)) (λ p. (p.version, p.stored))
    (λ pair. record { version = pair.0; stored = pair.1 }) (λ _. refl)

-- both, by name
abbrev pub probed_of : Tabled → List ℕ → Probed
probed_of version stored = record { version = version; stored = stored }

-- the parts of a version's layout
abbrev pub parts_in : Tabled → List (List ℕ)
parts_in version = version.contents.layout.parts

-- the positions of a part
abbrev pub part_in : Tabled → ℕ → List ℕ
part_in version part = slice_index_or (parts_in version) part []

-- the code that words keep, of as many bits as the version's
abbrev pub code_in : Tabled → List ℕ → List ℕ
code_in version stored = take version.contents.layout.bits stored

-- words that keep a code of as many bits as the version's
abbrev pub KeepsCode : ℕ → Tabled → List ℕ → Type 0
KeepsCode words version stored =
    StandsFor words version.contents.layout.bits stored (code_in version stored)

-- entries of which each has words that keep a code
abbrev pub KeepCodes : ℕ → Tabled → List (ℕ × List ℕ) → Type 0
KeepCodes words version entries = All (λ entry. KeepsCode words version entry.1) entries

-- the rows whose codes entries keep
abbrev pub entry_rows : Tabled → List (ℕ × List ℕ) → List (ℕ × List ℕ)
entry_rows version entries = map (unpadded version.contents.layout.bits) entries

-- the rows in the posting list of a part's value, in the order of the list
abbrev pub probed_list : Tabled → ℕ → ℕ → List (ℕ × List ℕ)
probed_list version part value = entry_rows version (posting_list (table_at version part) value)

-- how many of a version's rows are nearer to a query at a part than so many units
abbrev pub counts_round : Tabled → List ℕ → ℕ → ℕ → ℕ
counts_round version stored =
    row_counts version.contents.rows (parts_in version) (code_in version stored)

-- a code of so many words on a version whose codes have as many
pub record IsProbed (words : ℕ) (probe : Probed) : Type 0 where
  pub few_words : words ≤ WORDS_MOST
  pub version : IsVersion probe.version.contents
  pub tables : HasTables words probe.version
  pub query : KeepsCode words probe.version probe.stored
