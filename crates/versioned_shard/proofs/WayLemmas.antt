-- A version on its way along a history, entry by entry, and the versions that are made on the way.
use Rattle.std.proofs.Common.{◌≡◌, ◌≢◌, ◌==◌, ◌||◌, ℕ, zero, suc, ◌+◌, ◌%◌, ◌<◌, ◌≤◌, Bool, false, cond, List, [], ◌∷◌, ◌++◌, length, map, take, drop, filter, get_or, refl, sym, ap, subst, ◌∙◌, arith, append_assoc, Global}
use Rattle.std.specs.Prelude.{nat_le}
use Rattle.std.specs.List.{AllByRecursion}
use Rattle.std.specs.declared.sync.Arc.{Arc}
use Rattle.std.proofs.lemmas.Bool.{le-leb, lt-leb, ne_eqb}
use Rattle.std.proofs.lemmas.List.{append-nil, drop_more, get_or-map, length-map, length-take, map-append, take_more}
use Rattle.std.proofs.lemmas.List.Elements.{filter-append}
use Rattle.std.proofs.lemmas.List.Folds.{list_any-append}
use Rattle.hamming_model.specs.History.{Operation, JournalEntry, Add, Delete, Fits, IsLegal, rows_of, shard_rows}
use Rattle.hamming_model.specs.Recoded.{AreStoredEntries, IsStoredOperation, cut_entry, cut_history}
use Rattle.hamming_model.specs.declared.limits.TheConstants.{ENTRIES_MOST}
use Rattle.part_layout.specs.Laid.{Laid}
use Rattle.entry_log.specs.Entries.{entry_of, kept_entry, kept_operation}
use Rattle.entry_log.specs.Meaning.{MeansEntry, operation_key}
use Rattle.entry_log.specs.declared.entry.Entry.{Entry}
use Rattle.entry_log.specs.declared.op.Op.{Op}
use Rattle.entry_log.specs.declared.op.Op.TheVariants as op
use Rattle.shard_version.specs.Contents.{Contents, FitsShard, HasRoomFor, after_entry}
use Rattle.shard_version.specs.Prefixes.{prefix_of}
use Rattle.shard_version.specs.Tables.{Tabled}
use Rattle.commit_journal.specs.Fronts.{ArePositionsInOrder, FrontState, IsFront, has_position, position_of}
use Rattle.versioned_shard.specs.Along.{Follows, Reaches, version_at}
use Rattle.versioned_shard.specs.Shards.{contents_at, has_version, made, staying}
use Rattle.versioned_shard.specs.Way.{MadeSoFar}

-- ---- an entry of the program
means_operation : {W : ℕ} (bits who : ℕ) (each : Op W) → IsStoredOperation W bits (kept_operation each)
    → MeansEntry {W = W} bits (record { who = who; op = each }) (entry_of {W = W} bits (record { who = who; op = each }))
means_operation bits who (op.Add key code) stored = record { who = refl; operation = (refl, stored) }
means_operation bits who (op.Delete key) stored = record { who = refl; operation = refl }

stored_at : (words bits : ℕ) (history : List JournalEntry) (i : ℕ) (d : JournalEntry) → AreStoredEntries words bits history → i < length history
    → IsStoredOperation words bits (get_or history i d).operation
stored_at words bits [] i d stored below = absurd (omega arith)
stored_at words bits (entry ∷ history) zero d stored below = stored.0
stored_at words bits (entry ∷ history) (suc i) d stored below = stored_at words bits history i d stored.1 (omega arith)

room_for : (version : Contents) (operation : Operation) → length version.rows < ENTRIES_MOST → HasRoomFor version operation
room_for version (Add key code) few = λ own. few
room_for version (Delete key) few = tt

module _ {W : ℕ} (history : List JournalEntry) (from : Contents) (i : ℕ) (entry : Entry W) (is : get_or history i (kept_entry entry) ≡ kept_entry entry)
    (below : i < length history) (version : Contents) (reaches : Reaches history from i version) where
  abbrev bits : ℕ
  bits = from.layout.bits

  abbrev cut : JournalEntry
  cut = entry_of bits entry

  abbrev before : List JournalEntry
  before = take i (cut_history bits history)

  cut_is : get_or (cut_history bits history) i cut ≡ cut
  cut_is = get_or-map (cut_entry bits) history i (kept_entry entry) cut below ∙ ap (cut_entry bits) is

  inside : i < length (cut_history bits history)
  inside = omega (arith, below, length-map history (cut_entry bits))

  same_bits : version.layout.bits ≡ bits
  same_bits = ap (λ (each : Contents). each.layout.bits) reaches.is

  -- it means its entry
  pub means_here : AreStoredEntries W bits history → MeansEntry version.layout.bits entry (entry_of version.layout.bits entry)
  means_here stored =
      let one : IsStoredOperation W bits (kept_operation entry.op) =
      subst (λ (each : JournalEntry). IsStoredOperation W bits each.operation) is (stored_at W bits history i (kept_entry entry) stored below) in
      subst (λ (n : ℕ). MeansEntry n entry (entry_of n entry)) (sym same_bits) (means_operation bits entry.who entry.op one)

  -- it fits the shard's rows
  pub fits_here : ((shard shards : ℕ) (rows : List (ℕ × List ℕ)) (operation : Operation) → Fits rows operation → operation_key operation % shards ≡ shard
      → Fits (shard_rows shard shards rows) operation)
      → IsLegal (cut_history bits history) → FitsShard version (entry_of version.layout.bits entry).operation
  fits_here law legal =
      let all : Fits (rows_of before) cut.operation = subst (λ (each : JournalEntry). Fits (rows_of before) each.operation) cut_is (legal.each i cut inside) in
      let mine : FitsShard (version_at history from i) cut.operation = law from.shard from.shards (rows_of before) cut.operation all in
      subst (λ (n : ℕ). FitsShard version (entry_of n entry).operation) (sym same_bits)
      (subst (λ (each : Contents). FitsShard each cut.operation) (sym reaches.is) mine)

  -- there is room for its row
  pub room_here : ((shard shards : ℕ) (entries : List JournalEntry) → length (shard_rows shard shards (rows_of entries)) ≤ length entries)
      → i < ENTRIES_MOST → HasRoomFor version (entry_of version.layout.bits entry).operation
  room_here law few =
      let rows = ap (λ (each : Contents). length each.rows) reaches.is in
      room_for version (entry_of version.layout.bits entry).operation
      (omega (arith, few, rows, law from.shard from.shards before, length-take i (cut_history bits history)))

  -- one entry further
  pub reaches_more : ((shard shards : ℕ) (layout : Laid) (entries : List JournalEntry) (one : JournalEntry)
      → after_entry (prefix_of shard shards layout entries) one ≡ prefix_of shard shards layout (entries ++ one ∷ []))
      → (next : Contents) → next ≡ after_entry version (entry_of version.layout.bits entry) → Reaches history from (i + 1) next
  reaches_more law next after =
      let more : take (i + 1) (cut_history bits history) ≡ before ++ cut ∷ [] =
      take_more (cut_history bits history) i cut inside ∙ ap (λ (each : JournalEntry). before ++ each ∷ []) cut_is in
      record {
        is =
            after ∙ ap (λ (n : ℕ). after_entry version (entry_of n entry)) same_bits ∙ ap (λ (each : Contents). after_entry each cut) reaches.is
            ∙ law from.shard from.shards from.layout before cut ∙ ap (prefix_of from.shard from.shards from.layout) (sym more);
        at = ap (λ (each : Contents). each.at) after ∙ ap (λ (n : ℕ). n + 1) reaches.at;
      }

-- ---- from a version on the way on
module _ (history : List JournalEntry) (from : Contents) where
  -- the way is the same
  on_the_way : (middle last : Contents) (n position : ℕ) → Reaches history from n middle → Reaches history middle position last
      → Reaches history from position last
  on_the_way middle last n position first second = record {
    is = second.is ∙ ap (λ (each : Contents). version_at history each position) first.is;
    at = second.at;
  }

  pub follows_here : (version : Contents) → Reaches history from version.at version → Follows history version
  follows_here version reaches = record { is = reaches.is ∙ sym (ap (λ (each : Contents). version_at history each version.at) reaches.is) }

  pub stored_here : (words : ℕ) (version : Contents) (n : ℕ) → Reaches history from n version → AreStoredEntries words from.layout.bits history
      → AreStoredEntries words version.layout.bits history
  stored_here words version n reaches stored =
      subst (λ (bits : ℕ). AreStoredEntries words bits history) (sym (ap (λ (each : Contents). each.layout.bits) reaches.is)) stored

  -- ---- versions at positions
  made_append : (xs ys : List ℕ) → made history from (xs ++ ys) ≡ made history from xs ++ made history from ys
  made_append xs ys =
      ap (map (version_at history from)) (filter-append (λ position. nat_le from.at position) xs ys)
      ∙ map-append (version_at history from) (filter (λ position. nat_le from.at position) xs) (filter (λ position. nat_le from.at position) ys)

  made_here : (position : ℕ) → from.at ≤ position → made history from (position ∷ []) ≡ version_at history from position ∷ []
  made_here position le = ap (λ (keep : Bool). map (version_at history from) (cond keep (position ∷ []) [])) (le-leb from.at position le)

  made_none : (position : ℕ) → position < from.at → made history from (position ∷ []) ≡ []
  made_none position lt = ap (λ (keep : Bool). map (version_at history from) (cond keep (position ∷ []) [])) (lt-leb from.at position lt)

all_true : (P : ℕ → Type 0) (xs : List ℕ) → ((x : ℕ) → P x) → AllByRecursion P xs
all_true P [] all = tt
all_true P (x ∷ xs) all = (all x, all_true P xs all)

all_weaker : (P Q : ℕ → Type 0) (xs : List ℕ) → ((x : ℕ) → P x → Q x) → AllByRecursion P xs → AllByRecursion Q xs
all_weaker P Q [] weaker all = tt
all_weaker P Q (x ∷ xs) weaker all = (weaker x all.0, all_weaker P Q xs weaker all.1)

all_at : (P : ℕ → Type 0) (xs : List ℕ) (i d : ℕ) → AllByRecursion P xs → i < length xs → P (get_or xs i d)
all_at P [] i d all below = absurd (omega arith)
all_at P (x ∷ xs) zero d all below = all.0
all_at P (x ∷ xs) (suc i) d all below = all_at P xs i d all.1 (omega arith)

-- what comes after a place is above what stands there
above_place : (xs : List ℕ) (i d : ℕ) → ArePositionsInOrder xs → i < length xs → AllByRecursion (λ y. get_or xs i d < y) (drop (suc i) xs)
above_place [] i d up below = absurd (omega arith)
above_place (x ∷ xs) zero d up below = up.0
above_place (x ∷ xs) (suc i) d up below = above_place xs i d up.1 (omega arith)

-- ---- the versions that are made
module _ (front : FrontState) (from : Contents) (old : List (Arc Tabled Global)) where
  pub made_first : (new : List (Arc Tabled Global)) (version : Contents) → new ≡ old → version ≡ from → Follows front.entries from → from.at ≤ position_of front
      → MadeSoFar front from old new version 0
  made_first new version same is follows within =
      let at : version.at ≡ from.at = ap (λ (each : Contents). each.at) is in
      record {
        reaches = record { is = is ∙ follows.is ∙ sym (ap (version_at front.entries from) at); at = refl };
        next = all_true (λ position. from.at ≤ position → version.at ≤ position) front.older (λ position le. omega (arith, at, le));
        within = omega (arith, at, within);
        are_made = ap (map contents_at) same ∙ sym (append-nil (map contents_at old));
      }

  module _ (front_is : IsFront front) (new : List (Arc Tabled Global)) (version : Contents) (index position : ℕ) (below : index < length front.older)
      (is : position ≡ get_or front.older index position) (so_far : MadeSoFar front from old new version index) where
    abbrev passed : List Contents
    passed = made front.entries from (take index front.older)

    taken : take (index + 1) front.older ≡ take index front.older ++ position ∷ []
    taken = take_more front.older index position below ∙ ap (λ (each : ℕ). take index front.older ++ each ∷ []) (sym is)

    tail : drop index front.older ≡ position ∷ drop (index + 1) front.older
    tail = drop_more front.older index position below ∙ ap (λ (each : ℕ). each ∷ drop (index + 1) front.older) (sym is)

    -- the version at hand isn't beyond the position
    pub ahead : from.at ≤ position → version.at ≤ position
    ahead = (subst (AllByRecursion (λ each. from.at ≤ each → version.at ≤ each)) tail so_far.next).0

    pub in_front : position < position_of front
    in_front = subst (λ (each : ℕ). each < position_of front) (sym is)
        (all_at (λ each. each < position_of front) front.older index position front_is.below below)

    -- what is made up to the position is what was made, and what is made there
    made_split : made front.entries from (take (index + 1) front.older) ≡ passed ++ made front.entries from (position ∷ [])
    made_split = ap (made front.entries from) taken ∙ made_append front.entries from (take index front.older) (position ∷ [])

    -- a position before the first version
    pub made_past : position < from.at → MadeSoFar front from old new version (index + 1)
    made_past lt =
        let none = made_split ∙ ap (λ (each : List Contents). passed ++ each) (made_none front.entries from position lt) ∙ append-nil passed in
        record {
          reaches = so_far.reaches;
          next = (subst (AllByRecursion (λ each. from.at ≤ each → version.at ≤ each)) tail so_far.next).1;
          within = so_far.within;
          are_made = so_far.are_made ∙ sym (ap (λ (each : List Contents). map contents_at old ++ each) none);
        }

    -- a position from it on
    pub made_more : (after : List (Arc Tabled Global)) (shared : Arc Tabled Global) (last : Contents) → from.at ≤ position
        → Reaches front.entries version position last
        → contents_at shared ≡ last → after ≡ new ++ shared ∷ [] → MadeSoFar front from old after last (index + 1)
    made_more after shared last le reached same put =
        let whole = on_the_way front.entries from version last version.at position so_far.reaches reached in
        let at : last.at ≡ position = whole.at in
        let e : suc index ≡ index + 1 = omega arith in
        let above_there : AllByRecursion (λ each. get_or front.older index position < each) (drop (index + 1) front.older) =
        subst (λ (n : ℕ). AllByRecursion (λ each. get_or front.older index position < each) (drop n front.older)) e
        (above_place front.older index position front_is.ascending below) in
        let above : AllByRecursion (λ each. position < each) (drop (index + 1) front.older) =
        subst (λ (n : ℕ). AllByRecursion (λ each. n < each) (drop (index + 1) front.older)) (sym is) above_there in
        let here = made_split ∙ ap (λ (each : List Contents). passed ++ each) (made_here front.entries from position le) in
        let new_is = ap (map contents_at) put ∙ map-append contents_at new (shared ∷ []) in
        record {
          reaches = record { is = whole.is ∙ sym (ap (version_at front.entries from) at); at = refl };
          next = all_weaker (λ each. position < each) (λ each. from.at ≤ each → last.at ≤ each) (drop (index + 1) front.older)
              (λ each lt low. omega (arith, at, lt)) above;
          within = omega (arith, at, in_front);
          are_made =
              new_is ∙ ap (λ (each : List Contents). each ++ contents_at shared ∷ []) so_far.are_made
              ∙ append_assoc (map contents_at old) passed (contents_at shared ∷ [])
              ∙ ap (λ (each : List Contents). map contents_at old ++ each)
              (ap (λ (each : Contents). passed ++ each ∷ []) (same ∙ whole.is) ∙ sym here);
        }

-- ---- the versions that stay, and one that is looked for
module _ (versions : List (Arc Tabled Global)) (i : ℕ) (own : Arc Tabled Global) (below : i < length versions) (is : own ≡ get_or versions i own) where
  item : get_or (map contents_at versions) i (contents_at own) ≡ contents_at own
  item = get_or-map contents_at versions i own (contents_at own) below ∙ ap contents_at (sym is)

  one_more : take (i + 1) (map contents_at versions) ≡ take i (map contents_at versions) ++ contents_at own ∷ []
  one_more =
      take_more (map contents_at versions) i (contents_at own) (omega (arith, below, length-map versions contents_at))
      ∙ ap (λ (each : Contents). take i (map contents_at versions) ++ each ∷ []) item

  pub stay_more : (older : List ℕ) (stay : List (Arc Tabled Global)) → map contents_at stay ≡ staying older (take i (map contents_at versions))
      → (after : List (Arc Tabled Global)) (keep : Bool) → has_position older (contents_at own).at ≡ keep
      → map contents_at after ≡ map contents_at stay ++ cond keep (contents_at own ∷ []) []
      → map contents_at after ≡ staying older (take (i + 1) (map contents_at versions))
  stay_more older stay before after keep test put =
      put ∙ ap (λ (each : List Contents). each ++ cond keep (contents_at own ∷ []) []) before
      ∙ sym (ap (staying older) one_more ∙ filter-append (λ version. has_position older version.at) (take i (map contents_at versions)) (contents_at own ∷ [])
      ∙ ap (λ (there : Bool). staying older (take i (map contents_at versions)) ++ cond there (contents_at own ∷ []) []) test)

  pub none_more : (position : ℕ) → (contents_at own).at ≢ position → has_version (take i (map contents_at versions)) position ≡ false
      → has_version (take (i + 1) (map contents_at versions)) position ≡ false
  none_more position apart before =
      ap (λ (each : List Contents). has_version each position) one_more
      ∙ list_any-append (λ version. version.at == position) (take i (map contents_at versions)) (contents_at own ∷ [])
      ∙ or_none (has_version (take i (map contents_at versions)) position) ((contents_at own).at == position) before
      (ne_eqb (contents_at own).at position apart)
    where
      or_none : (a b : Bool) → a ≡ false → b ≡ false → (a || (b || false)) ≡ false
      or_none a b p q = rw (p, q) refl
