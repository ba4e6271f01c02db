-- How entries are kept in chunks. No public clause cites this module.
use Rattle.std.specs.Prelude.{◌≡◌, ℕ, ◌+◌, ◌<◌, ◌≤◌, List, ◌++◌, length, map}
use Rattle.std.specs.List.{AllByRecursion, flat_map}
use Rattle.std.specs.Arc.{arc_value}
use Rattle.std.specs.declared.sync.Arc.{Arc}
use Rattle.std.specs.declared.alloc.Global.{Global}
use Rattle.std.specs.declared.vec.Vec.{Vec}
use Rattle.hamming_model.specs.History.{JournalEntry}
use Rattle.hamming_model.specs.declared.limits.TheConstants.{ENTRIES_MOST, WORDS_MOST}
use Rattle.entry_log.specs.Entries.{kept_entry}
use Rattle.entry_log.specs.declared.entry.Entry.{Entry}
use Rattle.commit_journal.specs.declared.chunks.TheConstants.{CHUNK}

-- the entries of a chunk
abbrev pub chunk_items : {W : ℕ} → Arc (Vec (Entry W) Global) Global → List (Entry W)
chunk_items chunk = (arc_value chunk).items

-- the entries of chunks, one chunk after the other
abbrev pub joined_chunks : {W : ℕ} → List (Arc (Vec (Entry W) Global) Global) → List (Entry W)
joined_chunks chunks = flat_map chunk_items chunks

-- each chunk is whole, and all together have as few entries as a journal may have
pub record AreChunks {W : ℕ} (chunks : List (Arc (Vec (Entry W) Global) Global)) : Type 0 where
  pub few_words : W ≤ WORDS_MOST
  pub full : AllByRecursion (λ chunk. length (chunk_items chunk) ≡ CHUNK) chunks
  pub few : length (joined_chunks chunks) ≤ ENTRIES_MOST

-- chunks with the same entries
abbrev pub AreShared : {W : ℕ} → List (Arc (Vec (Entry W) Global) Global)
    → List (Arc (Vec (Entry W) Global) Global) → Type 0
AreShared shared chunks = map chunk_items shared ≡ map chunk_items chunks

-- the entries of whole chunks, and the last ones behind them
abbrev pub cut_entries : {W : ℕ} → List JournalEntry → List (Entry W) → List JournalEntry
cut_entries whole last = whole ++ map kept_entry last

-- the last entries are fewer than a chunk, and all together as few as a journal may have
pub record IsCut {W : ℕ} (whole : List JournalEntry) (last : List (Entry W)) : Type 0 where
  pub few_words : W ≤ WORDS_MOST
  pub short : length last < CHUNK
  pub few : length whole + length last ≤ ENTRIES_MOST
