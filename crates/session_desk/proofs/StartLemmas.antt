-- How a desk that is alone begins, and the codes of its rows.
use Rattle.std.proofs.Common.{◌≡◌, ◌⊎◌, inl, inr, ℕ, zero, suc, ◌+◌, ◌*◌, ◌<◌, ◌≤◌, List, [], ◌∷◌, ◌++◌, length, map, take, replicate, get_or, Option, None, refl, sym, ap, subst, ◌∙◌, arith}
use Rattle.std.specs.Prelude.{IfSome}
use Rattle.std.specs.List.{All}
use Rattle.std.specs.Map.{values_of}
use Rattle.std.proofs.lemmas.Bool.{cases_lt}
use Rattle.std.proofs.lemmas.List.{length-append}
use Rattle.std.proofs.lemmas.List.Elements.{All-from_recursion}
use Rattle.std.proofs.lemmas.Map.Views.{All-map-remove_entry, All-values-insert_entry, IfSome-lookup_from_All}
use Rattle.std.specs.BTreeMap.{is_at}
use Rattle.std.specs.Ordering.{nat_cmp}
use Rattle.hamming_model.specs.Codes.{StandsFor}
use Rattle.hamming_model.specs.History.{Add, Delete, JournalEntry, Operation, changed, code_at, rows_from, rows_of}
use Rattle.hamming_model.specs.Recoded.{AreStoredEntries, IsStoredOperation}
use Rattle.hamming_model.specs.declared.limits.TheConstants.{WORDS_MOST}
use Rattle.part_layout.specs.Laid.{IsLaid, Laid}
use Rattle.part_layout.specs.Ranges.{IsConfig}
use Rattle.part_layout.specs.declared.config.Config.{Config}
use Rattle.shard_version.specs.Contents.{empty_of}
use Rattle.commit_journal.specs.Fronts.{positions_of}
use Rattle.commit_journal.specs.Journals.{JournalState, empty_journal}
use Rattle.versioned_shard.specs.Rule.{KeepsRule}
use Rattle.versioned_shard.specs.Shards.{ShardState, shard_with}
use Rattle.session_desk.specs.Desks.{Pin, ShardPlace, new_desk, pin_position, starting_layout}
use Rattle.session_desk.specs.Solos.{AreFirstShards, IsSoloDesk, desk_of, first_shard_of, no_shard, place_of, solo_of}

-- ---- the codes of rows

module _ (words bits : ℕ) where
  IsStored : List ℕ → Type 0
  IsStored stored = StandsFor words bits stored (take bits stored)

  stored_after : (rows : List (ℕ × List ℕ)) (operation : Operation) → All IsStored (values_of rows) → IsStoredOperation words bits operation
      → All IsStored (values_of (changed rows operation))
  unfolding IsStored
  stored_after rows (Add key code) all one = All-values-insert_entry nat_cmp key code IsStored rows all one
  stored_after rows (Delete key) all one = All-map-remove_entry (is_at (nat_cmp key)) (λ (row : ℕ × List ℕ). row.1) IsStored rows all

  stored_from : (rows : List (ℕ × List ℕ)) (history : List JournalEntry) → All IsStored (values_of rows) → AreStoredEntries words bits history
      → All IsStored (values_of (rows_from rows history))
  stored_from rows [] all stored = all
  stored_from rows (entry ∷ history) all stored = stored_from (changed rows entry.operation) history (stored_after rows entry.operation all stored.0) stored.1

  -- the code of a key is kept as the entries' are
  pub stored_code : (history : List JournalEntry) (key : ℕ) → AreStoredEntries words bits history
      → IfSome (code_at (rows_of history) key) (λ code. StandsFor words bits code (take bits code))
  unfolding IsStored
  stored_code history key stored =
      IfSome-lookup_from_All IsStored (is_at (nat_cmp key)) (rows_of history) (stored_from [] history (All-from_recursion IsStored [] tt) stored)

-- ---- the first shards

last_of : {A : Type 0} (items : List A) (item none : A) → get_or (items ++ item ∷ []) (length items) none ≡ item
last_of [] item none = refl
last_of (first ∷ items) item none = last_of items item none

before_last : {A : Type 0} (items : List A) (item none : A) (i : ℕ) → i < length items → get_or (items ++ item ∷ []) i none ≡ get_or items i none
before_last [] item none i low = absurd (omega arith)
before_last (first ∷ items) item none zero low = refl
before_last (first ∷ items) item none (suc i) low = before_last items item none i (omega arith)

none_more : (pins : List (Option Pin)) → ((i : ℕ) → get_or pins i None ≡ None) → (i : ℕ) → get_or (pins ++ None ∷ []) i None ≡ None
none_more [] none zero = refl
none_more [] none (suc i) = refl
none_more (pin ∷ pins) none zero = none 0
none_more (pin ∷ pins) none (suc i) = none_more pins (λ j. none (suc j)) i

-- one shard more
pub first_more : (config : Config) (shards : List ShardState) (pins : List (Option Pin)) (number : ℕ) (new : ShardState)
    → AreFirstShards config shards pins number
    → new ≡ first_shard_of config number → AreFirstShards config (shards ++ new ∷ []) (pins ++ None ∷ []) (number + 1)
first_more config shards pins number new first is = record {
  shards_are = length-append shards (new ∷ []) ∙ omega (arith, first.shards_are);
  pins_are = length-append pins (None ∷ []) ∙ omega (arith, first.pins_are);
  each = λ i low. go i low (cases_lt i number);
  none = none_more pins first.none;
}
  where
    go : (i : ℕ) → i < number + 1 → (i < number) ⊎ (number ≤ i) → get_or (shards ++ new ∷ []) i no_shard ≡ first_shard_of config i
    go i low (inl below) = before_last shards new no_shard i (omega (arith, below, first.shards_are)) ∙ first.each i below
    go i low (inr last) =
        let here : i ≡ number = omega arith in
        ap (λ (n : ℕ). get_or (shards ++ new ∷ []) n no_shard) (here ∙ sym first.shards_are) ∙ last_of shards new no_shard ∙ is
        ∙ ap (first_shard_of config) (sym here)

all_same : {A B : Type 0} (f : A → B) (items : List A) (none : A) (value : B) → ((i : ℕ) → i < length items → f (get_or items i none) ≡ value)
    → map f items ≡ replicate (length items) value
all_same f [] none value each = refl
all_same f (item ∷ items) none value each =
    ap (λ x. x ∷ map f items) (each 0 (omega arith)) ∙ ap (λ xs. value ∷ xs) (all_same f items none value (λ i low. each (suc i) (omega arith)))

all_none : (pins : List (Option Pin)) → ((i : ℕ) → get_or pins i None ≡ None) → pins ≡ replicate (length pins) None
all_none [] none = refl
all_none (pin ∷ pins) none = ap (λ (each : Option Pin). each ∷ pins) (none 0) ∙ ap (λ (all : List (Option Pin)). None ∷ all) (all_none pins (λ i. none (suc i)))

module _ (config : Config) (journal : JournalState) (shards : List ShardState) (pins : List (Option Pin)) (number : ℕ)
    (empty : journal ≡ empty_journal config.entries) (first : AreFirstShards config shards pins number) (all : number ≡ config.shards) where
  as_many : {A : Type 0} (value : A) → replicate (length shards) value ≡ replicate config.shards value
  as_many value = ap (λ (n : ℕ). replicate n value) (first.shards_are ∙ all)

  -- a solo desk before all its calls is the new desk
  pub begins_new : desk_of (solo_of config journal 0 shards pins 0 0) ≡ new_desk config
  begins_new =
      ap (λ (j : JournalState). desk_of (solo_of config j 0 shards pins 0 0)) empty
      ∙ ap (λ (each : List (Option Pin)). desk_of (solo_of config (empty_journal config.entries) 0 shards each 0 0))
      (all_none pins first.none ∙ ap (λ (n : ℕ). replicate n None) (first.pins_are ∙ all))
      ∙ ap (λ (left : List ℕ). (record (new_desk config) { left = left; places = map place_of shards }))
      (all_same (λ (shard : ShardState). shard.current.at) shards no_shard 0
      (λ i low. ap (λ (shard : ShardState). shard.current.at) (first.each i (omega (arith, low, first.shards_are)))) ∙ as_many 0)
      ∙ ap (λ (places : List ShardPlace). (record (new_desk config) { places = places }))
      (all_same place_of shards no_shard (0, starting_layout config)
      (λ i low. ap place_of (first.each i (omega (arith, low, first.shards_are)))) ∙ as_many (0, starting_layout config))

  -- and keeps what a solo desk keeps
  pub begins_solo : (words : ℕ) → IsConfig config → words ≤ WORDS_MOST → config.bits ≤ 64 * words → IsLaid (starting_layout config)
      → ((live : ℕ → Option ℕ) (history : List JournalEntry) (shard shards : ℕ) (layout : Laid) → IsLaid layout
      → KeepsRule live history (shard_with (empty_of shard shards layout) []))
      → IsSoloDesk words (solo_of config journal 0 shards pins 0 0)
  begins_solo words is_config few room laid law = record {
    config = is_config;
    few_words = few;
    room = room;
    limit = ap (λ (j : JournalState). j.limit) empty;
    codes = subst (λ (j : JournalState). AreStoredEntries words config.bits j.history) (sym empty) tt;
    shards = first.shards_are ∙ all;
    pins = first.pins_are ∙ all;
    each = λ i low. (let here = first.each i (omega (arith, low, all)) in record {
      rule = subst (KeepsRule (positions_of journal.live) journal.history) (sym here)
          (law (positions_of journal.live) journal.history i config.shards (starting_layout config) laid);
      shard_is = ap (λ (shard : ShardState). shard.current.shard) here;
      shards_are = ap (λ (shard : ShardState). shard.current.shards) here;
      bits_are = ap (λ (shard : ShardState). shard.current.layout.bits) here;
      pinned = subst (λ (pin : Option Pin). pin_position pin ≤ (get_or shards i no_shard).current.at) (sym (first.none i)) (omega arith);
    });
  }
