-- What a contract sees of a board, and how its table is laid.
use Rattle.std.specs.Prelude.{◌≡◌, ℕ, zero, suc, ◌+◌, ◌*◌, ◌%◌, ◌<◌, ◌≤◌, length, Bool, true, false, slice_index_or, List, [], ◌∷◌, ◌++◌, map, replicate, Option, None, refl}
use Rattle.std.specs.Coded.{Coded, code_by, coded×, coded_ℕ}
use Rattle.hamming_model.specs.declared.limits.TheConstants.{WORDS_MOST}
use Rattle.part_layout.specs.Ranges.{IsConfig}
use Rattle.part_layout.specs.declared.config.Config.{Config}
use Rattle.commit_journal.specs.Journals.{JournalState, empty_journal}
use Rattle.versioned_shard.specs.Shards.{ShardState}
use Rattle.atomic_table.specs.Seated.{TableId}
use Rattle.session_desk.specs.Desks.{Pin}
use Rattle.session_desk.specs.Solos.{config_code, first_shard_of}
use Rattle.board_seats.specs.declared.rule.Cell.{Cell}
use Rattle.board_seats.specs.declared.rule.Opening.{Opening}
use Rattle.board_seats.specs.Told.{journal_in}

-- which board: the numbers that no other table has
abbrev pub board_number : TableId → List ℕ
board_number table = table.words ∷ table.slots ∷ table.views_name ∷ table.atom ∷ table.block
    ∷ table.offset ∷ table.slot_names

-- an opening as a tuple
abbrev pub opening_code : Coded Opening
opening_code = code_by (Config × ℕ) (coded× config_code coded_ℕ) (λ o. (o.config, o.number))
    (λ t. record { config = t.0; number = t.1 }) (λ _. refl)

-- what a board may be made for, in codes of so many words
pub record IsAskedFor (words : ℕ) (config : Config) : Type 0 where
  pub config_is : IsConfig config
  pub few_words : words ≤ WORDS_MOST
  pub room : config.bits ≤ 64 * words

-- a table with a word and a slot for the journal and for each shard
pub record HasPlaces (table : TableId) (config : Config) : Type 0 where
  pub words : table.words ≡ suc config.shards
  pub slots : table.slots ≡ suc config.shards

-- a journal with no entry, where the number of the first desk was drawn last
abbrev pub opened_journal : Opening → JournalState
opened_journal opening =
    record (empty_journal opening.config.entries) { next = opening.number + 1 }

-- the first so many shards, each before the first entry in the starting layout
abbrev pub first_shards : Config → ℕ → List ShardState
first_shards config zero = []
first_shards config (suc number) =
    first_shards config number ++ first_shard_of config number ∷ []

-- a shard as a cell
abbrev pub shard_cell : {W : ℕ} → ShardState → Cell W
shard_cell shard = Cell.Shard shard

-- the journal and the shards as cells
abbrev pub cells_of : {W : ℕ} → JournalState → List ShardState → List (Cell W)
cells_of journal shards = Cell.Journal journal ∷ map shard_cell shards

-- the words, the cells and the pins of a board with so many shards
pub record AreLaid {W : ℕ} (opening : Opening) (number : ℕ) (words : List ℕ)
    (slots : List (Cell W)) (pins : List (Option Pin)) : Type 0 where
  pub words_are : words ≡ 0 ∷ replicate number 0
  pub slots_are : slots ≡ cells_of (opened_journal opening)
      (first_shards opening.config number)
  pub pins_are : pins ≡ replicate number None

-- of so many cells those before a number were taken out, and those from it on are there
pub record AreOut (filled : List Bool) (count number : ℕ) : Type 0 where
  pub below : (k : ℕ) → k < number → slice_index_or filled k false ≡ false
  pub above : (k : ℕ) → number ≤ k → k < count → slice_index_or filled k false ≡ true

-- a word 0 that is even is twice the entries of a journal in this cell
pub record IsBoardEnd {W : ℕ} (word : ℕ) (cell : Cell W) : Type 0 where
  pub lies : ¬ (word % 2 ≡ 1) → cell ≡ Cell.Journal (journal_in cell)
  pub entries : ¬ (word % 2 ≡ 1) → word ≡ 2 * length (journal_in cell).history
