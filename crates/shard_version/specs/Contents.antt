-- What a contract sees of a version: its shard, how much of the history it has taken in,
-- its layout and its rows.
use Rattle.std.specs.Prelude.{◌≡◌, ℕ, ◌+◌, ◌%◌, ◌==◌, ◌<◌, ◌≤◌, if◌then◌else◌, List, [], length, refl}
use Rattle.std.specs.Coded.{Coded, code_by, coded×, coded_list, coded_ℕ}
use Rattle.std.specs.List.{AllByRecursion}
use Rattle.std.specs.List.Sorted.{IsStrictlySortedBy}
use Rattle.std.specs.Map.{keys_of}
use Rattle.std.specs.Ordering.{nat_cmp}
use Rattle.hamming_model.specs.declared.limits.TheConstants.{ENTRIES_MOST, SHARDS_MOST}
use Rattle.hamming_model.specs.History.{Operation, JournalEntry, Add, Delete, Fits, changed}
use Rattle.hamming_model.specs.Stored.{AreCodeRows}
use Rattle.entry_log.specs.Meaning.{operation_key}
use Rattle.part_layout.specs.Laid.{Laid, IsLaid, laid_code}

-- the shard of so many, the number of entries taken in, the layout, and the rows: key and code,
-- ascending by key
pub record Contents : Type 0 where
  pub shard : ℕ
  pub shards : ℕ
  pub at : ℕ
  pub layout : Laid
  pub rows : List (ℕ × List ℕ)

-- the contents as a tuple
abbrev pub contents_code : Coded Contents
contents_code =
    code_by (ℕ × (ℕ × (ℕ × (Laid × List (ℕ × List ℕ)))))
    (coded× coded_ℕ
    (coded× coded_ℕ
    (coded× coded_ℕ (coded× laid_code (coded_list (coded× coded_ℕ (coded_list coded_ℕ)))))))
    (λ c. (c.shard, (c.shards, (c.at, (c.layout, c.rows)))))
    (λ t. record {
      shard = t.0;
      shards = t.1.0;
      at = t.1.1.0;
      layout = t.1.1.1.0;
      rows = t.1.1.1.1;
    })
    (λ _. refl)

-- no entry taken in, and no row
abbrev pub empty_of : ℕ → ℕ → Laid → Contents
empty_of shard shards layout =
    record { shard = shard; shards = shards; at = 0; layout = layout; rows = [] }

-- a shard's rows after an operation, which changes those of its own shard alone
abbrev pub changed_in : ℕ → ℕ → List (ℕ × List ℕ) → Operation → List (ℕ × List ℕ)
changed_in shard shards rows operation =
    if operation_key operation % shards == shard then changed rows operation else rows

-- a version after one more entry
abbrev pub after_entry : Contents → JournalEntry → Contents
after_entry version entry =
    record version {
      at = version.at + 1;
      rows = changed_in version.shard version.shards version.rows entry.operation;
    }

-- an operation of the version's own shard fits its rows: an added key is absent,
-- a deleted one present
abbrev pub FitsShard : Contents → Operation → Type 0
FitsShard version operation =
    operation_key operation % version.shards ≡ version.shard → Fits version.rows operation

-- there is room for the row that an operation of the version's own shard adds
abbrev pub HasRoomFor : Contents → Operation → Type 0
HasRoomFor version (Add key code) =
    key % version.shards ≡ version.shard → length version.rows < ENTRIES_MOST
HasRoomFor version (Delete key) = Unit {0}

-- what is true of every version
pub record IsVersion (version : Contents) : Type 0 where
  pub laid : IsLaid version.layout
  pub own_shard : version.shard < version.shards
  pub few_shards : version.shards ≤ SHARDS_MOST
  pub codes : AreCodeRows version.layout.bits version.rows
  pub ascending : IsStrictlySortedBy nat_cmp (keys_of version.rows)
  pub own_keys : AllByRecursion (λ row. row.0 % version.shards ≡ version.shard) version.rows
  pub few_rows : length version.rows ≤ ENTRIES_MOST
