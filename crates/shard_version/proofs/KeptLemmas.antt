-- A version as it is kept: empty, and with one row more or less.
use Rattle.std.proofs.Common.{◌≡◌, ◌≢◌, ℕ, zero, suc, ◌+◌, ◌*◌, ◌%◌, ◌^◌, ◌<◌, ◌≤◌, nat_lt, Bool, true, false, cond, List, [], ◌∷◌, ◌++◌, length, map, get_or, replicate, take, drop, refl, sym, ap, subst, ◌∙◌, arith, eqb-true, take-append-drop, All}
use Rattle.std.specs.Prelude.{None, Some, is_some}
use Rattle.std.specs.List.{AllByRecursion, take-map}
use Rattle.std.specs.List.Sorted.{IsStrictlySortedBy}
use Rattle.std.specs.BTreeMap.{insert_entry, is_at}
use Rattle.std.specs.Map.{keys_of, remove_entry}
use Rattle.std.specs.Ordering.{nat_cmp}
use Rattle.std.proofs.lemmas.Bool.{ltb-true, ltb-false}
use Rattle.std.proofs.lemmas.List.{get_or_default, get_or-map, map-append, length-map, length-replicate, length-set}
use Rattle.hamming_model.specs.Codes.{StandsFor}
use Rattle.hamming_model.specs.History.{code_at}
use Rattle.hamming_model.specs.Layouts.{part_value}
use Rattle.hamming_model.specs.Stored.{AreCodeRows}
use Rattle.hamming_model.proofs.RowLemmas.{ascends_inserted, ascends_removed, codes_inserted, codes_removed, length_inserted, length_removed}
use Rattle.part_layout.specs.Laid.{Laid, IsLaid, part_at}
use Rattle.count_table.specs.Copies.{CopyTable, copies_at, empty_table, table_of, total_of, with_one, without_one}
use Rattle.posting_table.specs.Tables.{Table, posting_list}
use Rattle.search_model.specs.Reading.{HasSame, unpadded}
use Rattle.search_model.proofs.SameLemmas.{all_front, all_back}
use Rattle.shard_version.specs.Contents.{Contents, IsVersion, empty_of}
use Rattle.shard_version.specs.Tables.{AreStored, HasTables, counts_of, part_values}
use Rattle.shard_version.specs.Kept.{AgreesWithRows, IsPlace, contents_of, next_with, tabled_of}
use Rattle.shard_version.specs.Relaid.{IsPartTable}
use Rattle.shard_version.specs.KeptParts.{AreChanged, AreEmpty, EachHas, EachTakes, Lost, Taken, TakesRow, HasRow, no_rows}
use Rattle.shard_version.specs.declared.part_table.PartTable.{PartTable}
use Rattle.shard_version.proofs.PlaceLemmas.{above_absent, above_first, all_append, all_mapped, all_weaker, ascend_from, code_behind, cut_here, drop_here, inserted_between, removed_between, stands_here, stands_nowhere}
use Rattle.shard_version.proofs.PartLemmas.{AddsValue, CountsValue, RemovesValue, counted_row, counts_lost, counts_taken, key_absent, key_present, list_short, postings_lost, postings_taken, value_fits, values_in_width}

-- rows without their zeros have the same keys
pub keys_unpadded : (bits : ℕ) (rows : List (ℕ × List ℕ)) → keys_of (map (unpadded bits) rows) ≡ keys_of rows
keys_unpadded bits [] = refl
keys_unpadded bits (row ∷ rows) = ap (λ (keys : List ℕ). row.0 ∷ keys) (keys_unpadded bits rows)

-- and the same keys have rows
pub stands_unpadded : (bits : ℕ) (rows : List (ℕ × List ℕ)) (key : ℕ) → is_some (code_at (map (unpadded bits) rows) key) ≡ is_some (code_at rows key)
stands_unpadded bits [] key = refl
stands_unpadded bits (row ∷ rows) key = go (is_at (nat_cmp key) row.0) (stands_unpadded bits rows key)
  where
    go : (here : Bool) → is_some (code_at (map (unpadded bits) rows) key) ≡ is_some (code_at rows key)
        → is_some (cond here (Some (take bits row.1)) (code_at (map (unpadded bits) rows) key)) ≡ is_some (cond here (Some row.1) (code_at rows key))
    go true rest = refl
    go false rest = rest

-- a row more, once the zeros are left out
unpadded_with : (bits : ℕ) (front back : List (ℕ × List ℕ)) (row : ℕ × List ℕ)
    → map (unpadded bits) (front ++ row ∷ back) ≡ map (unpadded bits) front ++ unpadded bits row ∷ map (unpadded bits) back
unpadded_with bits front back row = map-append (unpadded bits) front (row ∷ back)

-- the kept rows ascend by key
pub stored_ascend : {W : ℕ} (shard shards at : ℕ) (layout : Laid) (stored : List (ℕ × List ℕ)) (tables : List (PartTable W))
    → AgreesWithRows (contents_of shard shards at layout stored) stored tables
    → IsStrictlySortedBy nat_cmp (keys_of stored)
stored_ascend shard shards at layout stored tables kept =
    subst (λ (keys : List ℕ). IsStrictlySortedBy nat_cmp keys) (keys_unpadded layout.bits stored) kept.sound.ascending

-- what the laws of count tables say of all values
abbrev pub CountsAll : Type 0
CountsAll = (width : ℕ) (items : List ℕ) → All (λ item. item < 2 ^ width) items → total_of (table_of width items) ≡ length items

-- the width of the counts of a part
counts_width : (version : Contents) (part : ℕ) → (counts_of version part).width ≡ length (part_at version.layout part)
unfolding table_of
counts_width version part = refl

-- no row is in more than one list, and no list has more rows than there are
takes_row : {W : ℕ} (version : Contents) (front back : List (ℕ × List ℕ)) (key : ℕ) (stored : List ℕ) (part : ℕ) (table : PartTable W)
    → StandsFor W version.layout.bits stored (take version.layout.bits stored) → version.rows ≡ front ++ back
    → AllByRecursion (λ row. row.0 ≢ key) (front ++ back)
    → IsVersion version → length version.rows < 1048576 → CountsAll → IsPartTable version part table
    → TakesRow table (part_value (take version.layout.bits stored) (part_at version.layout part)) key
takes_row version front back key stored part table stands rows_are apart sound room all own =
    let fits = value_fits version front back key stored part stands in
    let wide : 2 ^ table.postings.width ≡ 2 ^ length (part_at version.layout part) = ap (λ n. 2 ^ n) own.postings.width in
    let counted : 2 ^ table.counts.width ≡ 2 ^ length (part_at version.layout part) =
    ap (λ n. 2 ^ n) (ap (λ (counts : CopyTable). counts.width) own.counts ∙ counts_width version part) in
    let short = list_short version front back key stored part stands table.postings rows_are own.postings own.size in
    let total = all (length (part_at version.layout part)) (part_values version.rows (part_at version.layout part))
    (values_in_width version.layout.bits version.rows (part_at version.layout part) sound.codes) in
    let same : total_of table.counts ≡ total_of (counts_of version part) = ap (λ (counts : CopyTable). total_of counts) own.counts in
    let long = length-map version.rows (λ (row : ℕ × List ℕ). part_value row.1 (part_at version.layout part)) in
    record {
      in_width = omega arith;
      counted = omega arith;
      absent = key_absent version front back key stored part stands table.postings rows_are own.postings own.size apart;
      room = omega arith;
      few = omega arith;
    }

-- a row stands in the tables of each part
has_row : {W : ℕ} (version : Contents) (front back : List (ℕ × List ℕ)) (key : ℕ) (stored : List ℕ) (part : ℕ) (table : PartTable W)
    → StandsFor W version.layout.bits stored (take version.layout.bits stored) → version.rows ≡ front ++ (key, take version.layout.bits stored) ∷ back
    → CountsValue → IsPartTable version part table → HasRow table (part_value (take version.layout.bits stored) (part_at version.layout part)) key
has_row version front back key stored part table stands rows_are present own =
    let fits = value_fits version front back key stored part stands in
    let wide : 2 ^ table.postings.width ≡ 2 ^ length (part_at version.layout part) = ap (λ n. 2 ^ n) own.postings.width in
    let value = part_value (take version.layout.bits stored) (part_at version.layout part) in
    record {
      in_width = omega arith;
      present = key_present version front back key stored part stands table.postings rows_are own.postings own.size;
      counted = subst (λ (counts : CopyTable). 0 < copies_at counts value) (sym own.counts)
          (counted_row version front back key stored part stands present rows_are);
    }

-- the tables of a part with one row more
part_with_row : {W : ℕ} (version : Contents) (front back : List (ℕ × List ℕ)) (key : ℕ) (stored : List ℕ) (part : ℕ) (table new : PartTable W)
    → StandsFor W version.layout.bits stored (take version.layout.bits stored) → version.rows ≡ front ++ back → AddsValue → IsPartTable version part table
    → Taken version.layout key stored (take version.layout.bits stored) part table new
    → IsPartTable (next_with version (front ++ (key, take version.layout.bits stored) ∷ back)) part new
part_with_row version front back key stored part table new stands rows_are added own taken =
    let value = part_value (take version.layout.bits stored) (part_at version.layout part) in
    subst (λ (tables : PartTable _). IsPartTable (next_with version (front ++ (key, take version.layout.bits stored) ∷ back)) part tables) (sym taken) (record {
      postings = postings_taken version front back key stored part stands table.postings rows_are own.postings own.size;
      size = length-set table.postings.lists value (posting_list table.postings value ++ (key, stored) ∷ []) ∙ own.size;
      counts = ap (λ (counts : CopyTable). with_one counts value) own.counts ∙ counts_taken version front back key stored part stands added rows_are;
    })

-- and with one row less
part_without_row : {W : ℕ} (version : Contents) (front back : List (ℕ × List ℕ)) (key : ℕ) (stored : List ℕ) (part : ℕ) (table new : PartTable W)
    → StandsFor W version.layout.bits stored (take version.layout.bits stored)
    → version.rows ≡ front ++ (key, take version.layout.bits stored) ∷ back → AllByRecursion (λ row. row.0 ≢ key) (front ++ back)
    → RemovesValue → IsPartTable version part table → Lost version.layout key (take version.layout.bits stored) part table new
    → IsPartTable (next_with version (front ++ back)) part new
part_without_row version front back key stored part table new stands rows_are apart removed own lost =
    let value = part_value (take version.layout.bits stored) (part_at version.layout part) in
    let wide : new.postings.width ≡ table.postings.width = ap (λ (t : Table). t.width) lost.others in
    record {
      postings = postings_lost version front back key stored part stands table.postings rows_are own.postings own.size new.postings
          apart lost.entry lost.others;
      size = ap (λ (t : Table). length t.lists) lost.others ∙ length-set table.postings.lists value
          (posting_list new.postings value) ∙ own.size ∙ sym (ap (λ n. 2 ^ n) wide);
      counts = lost.counts ∙ ap (λ (counts : CopyTable). without_one counts value) own.counts
          ∙ counts_lost version front back key stored part stands removed rows_are;
    }

module _ {W : ℕ} (shard shards at : ℕ) (layout : Laid) (stored : List (ℕ × List ℕ)) (tables : List (PartTable W))
    (kept : AgreesWithRows (contents_of shard shards at layout stored) stored tables) (key place : ℕ) where
  abbrev seen : Contents
  seen = contents_of shard shards at layout stored

  module _ (placed : IsPlace stored key place) where
    abbrev front : List (ℕ × List ℕ)
    front = map (unpadded layout.bits) (take place stored)

    abbrev back : List (ℕ × List ℕ)
    back = map (unpadded layout.bits) (drop place stored)

    abbrev past : List (ℕ × List ℕ)
    past = map (unpadded layout.bits) (drop (suc place) stored)

    front_below : AllByRecursion (λ row. row.0 < key) front
    front_below = all_mapped (λ row. row.0 < key) (unpadded layout.bits) (take place stored) placed.before

    -- the rows are those before the place and those from it on
    rows_cut : map (unpadded layout.bits) stored ≡ front ++ back
    rows_cut = ap (map (unpadded layout.bits)) (sym (take-append-drop place stored)) ∙ map-append (unpadded layout.bits) (take place stored) (drop place stored)

    module _ (stored_code : List ℕ) (absent : code_at (map (unpadded layout.bits) stored) key ≡ None)
        (stands : StandsFor W layout.bits stored_code (take layout.bits stored_code)) where
      abbrev code : List ℕ
      code = take layout.bits stored_code

      back_above : AllByRecursion (λ row. key < row.0) back
      back_above = above_absent back key
          (sym (code_behind front back key front_below) ∙ ap (λ (rows : List (ℕ × List ℕ)). code_at rows key) (sym rows_cut) ∙ absent)
          (all_mapped (λ row. key ≤ row.0) (unpadded layout.bits) (drop place stored) placed.after)

      -- the row goes to its place
      pub rows_with_row : map (unpadded layout.bits) (take place stored ++ (key, stored_code) ∷ drop place stored)
          ≡ insert_entry nat_cmp (map (unpadded layout.bits) stored) key (take layout.bits stored_code)
      rows_with_row =
          unpadded_with layout.bits (take place stored) (drop place stored) (key, stored_code)
          ∙ sym (ap (λ (rows : List (ℕ × List ℕ)). insert_entry nat_cmp rows key code) rows_cut ∙ inserted_between front back key code front_below back_above)

      apart : AllByRecursion (λ row. row.0 ≢ key) (front ++ back)
      apart = all_append (λ row. row.0 ≢ key) front back (all_weaker (λ row. row.0 < key) (λ row. row.0 ≢ key) (λ row h e. omega arith) front front_below)
          (all_weaker (λ row. key < row.0) (λ row. row.0 ≢ key) (λ row h e. omega arith) back back_above)

      few : length stored < 1048576 → length (map (unpadded layout.bits) stored) < 1048576
      few room = omega (arith, length-map stored (unpadded layout.bits), room)

      -- each part takes the row
      pub each_takes : length stored < 1048576 → CountsAll → EachTakes layout tables key (take layout.bits stored_code)
      each_takes room all = record {
        each = λ part other below.
            takes_row seen front back key stored_code part (get_or tables part other) stands rows_cut apart kept.sound
            (few room) all (kept.each part other below);
      }

      new_sound : length stored < 1048576 → key % shards ≡ shard → IsVersion (next_with seen (front ++ (key, code) ∷ back))
      new_sound room own =
          let rows = map (unpadded layout.bits) stored in
          let there : insert_entry nat_cmp rows key code
          ≡ front ++ (key, code) ∷ back = ap (λ (others : List (ℕ × List ℕ)). insert_entry nat_cmp others key code) rows_cut
          ∙ inserted_between front back key code front_below back_above in
          let long = ap (λ (others : List (ℕ × List ℕ)). length others) there in
          let more = length_inserted rows key code absent in
          let short = few room in
          let all_own : AllByRecursion (λ row. row.0 % shards ≡ shard) (front ++ back) = subst
          (λ (others : List (ℕ × List ℕ)). AllByRecursion (λ row. row.0 % shards ≡ shard) others) rows_cut
          kept.sound.own_keys in
          record {
            laid = kept.sound.laid;
            own_shard = kept.sound.own_shard;
            few_shards = kept.sound.few_shards;
            codes = subst (λ (others : List (ℕ × List ℕ)). AreCodeRows layout.bits others) there
                (codes_inserted layout.bits rows key code kept.sound.codes stands.is_code);
            ascending = subst (λ (others : List (ℕ × List ℕ)). IsStrictlySortedBy nat_cmp (keys_of others)) there
                (ascends_inserted rows key code kept.sound.ascending);
            own_keys = all_append (λ row. row.0 % shards ≡ shard) front ((key, code) ∷ back)
                (all_front (λ row. row.0 % shards ≡ shard) front back all_own)
                (own, all_back (λ row. row.0 % shards ≡ shard) front back all_own);
            few_rows = omega arith;
          }

      -- a version with the row in its tables and at its place is kept
      pub kept_with_row : (new : List (PartTable W)) → length stored < 1048576 → key % shards ≡ shard → AddsValue
          → AreChanged (Taken layout key stored_code (take layout.bits stored_code)) tables new (length tables)
          → AgreesWithRows (contents_of shard shards (at + 1) layout (take place stored ++ (key, stored_code) ∷ drop place stored))
          (take place stored ++ (key, stored_code) ∷ drop place stored) new
      kept_with_row new room own added changed =
          let after : next_with seen (front ++ (key, code) ∷ back)
          ≡ contents_of shard shards (at + 1) layout (take place stored ++ (key, stored_code) ∷ drop place stored) =
          ap (next_with seen) (sym (unpadded_with layout.bits (take place stored) (drop place stored) (key, stored_code))) in
          let all : AreStored W layout.bits (take place stored ++ drop place stored) = subst
          (λ (others : List (ℕ × List ℕ)). AreStored W layout.bits others)
          (sym (take-append-drop place stored)) kept.stored_codes in
          let stand : ℕ × List ℕ → Type 0 = λ row. StandsFor W layout.bits row.1 (take layout.bits row.1) in
          let number = changed.number in
          subst (λ (version : Contents). AgreesWithRows version (take place stored ++ (key, stored_code) ∷ drop place stored) new) after (record {
            sound = new_sound room own;
            few_words = kept.few_words;
            room = kept.room;
            stored_codes = all_append stand (take place stored) ((key, stored_code) ∷ drop place stored)
                (all_front stand (take place stored) (drop place stored) all)
                (stands, all_back stand (take place stored) (drop place stored) all);
            number = changed.number ∙ kept.number;
            each = λ part other below. (
                let old : part < length tables = omega (arith, number) in
                part_with_row seen front back key stored_code part (get_or tables part other)
                (get_or new part other) stands rows_cut added (kept.each part other old) (changed.done part other old old));
          })

    module _ (present : is_some (code_at (map (unpadded layout.bits) stored) key) ≡ true) where
      -- a key that is there stands at its place
      pub place_inside : place < length stored
      place_inside = go (nat_lt place (length stored)) refl
        where
          go : (inside : Bool) → nat_lt place (length stored) ≡ inside → place < length stored
          go true e = ltb-true place (length stored) e
          go false e = absurd (
              let none = stands_nowhere stored key place placed (ltb-false place (length stored) e) in
              let found = stands_unpadded layout.bits stored key in
              cc)

      -- the row there has the key
      pub place_has : (other : ℕ × List ℕ) → (get_or stored place other).0 ≡ key
      place_has other = eqb-true (get_or stored place other).0 key
          (stands_here stored key place other (stored_ascend shard shards at layout stored tables kept) placed place_inside
          ∙ sym (stands_unpadded layout.bits stored key) ∙ present)

      -- the row there is the key's
      pub row_there : (row : ℕ × List ℕ) → row ≡ get_or stored place row → (key, row.1) ≡ get_or stored place (key, row.1)
      row_there row is =
          let own : row.0 ≡ key = ap (λ (one : ℕ × List ℕ). one.0) is ∙ place_has row in
          ap (λ (first : ℕ). (first, row.1)) (sym own) ∙ is ∙ get_or_default stored place row (key, row.1) place_inside

      module _ (stored_code : List ℕ) (is : (key, stored_code) ≡ get_or stored place (key, stored_code)) where
        abbrev own_code : List ℕ
        own_code = take layout.bits stored_code

        stored_cut : take place stored ++ (key, stored_code) ∷ drop (suc place) stored ≡ stored
        stored_cut = ap (λ (row : ℕ × List ℕ). take place stored ++ row ∷ drop (suc place) stored) is ∙ cut_here place stored (key, stored_code) place_inside

        full_cut : map (unpadded layout.bits) stored ≡ front ++ (key, own_code) ∷ past
        full_cut = ap (map (unpadded layout.bits)) (sym stored_cut) ∙ unpadded_with layout.bits (take place stored) (drop (suc place) stored) (key, stored_code)

        left_cut : map (unpadded layout.bits) (take place stored ++ drop (suc place) stored) ≡ front ++ past
        left_cut = map-append (unpadded layout.bits) (take place stored) (drop (suc place) stored)

        past_above : AllByRecursion (λ row. key < row.0) past
        past_above =
            let from : IsStrictlySortedBy nat_cmp (keys_of ((key, stored_code) ∷ drop (suc place) stored)) =
            subst (λ (rows : List (ℕ × List ℕ)). IsStrictlySortedBy nat_cmp (keys_of rows))
            (drop_here place stored (key, stored_code) place_inside ∙ ap (λ (row : ℕ × List ℕ). row ∷ drop (suc place) stored)
            (sym is)) (ascend_from place stored (stored_ascend shard shards at layout stored tables kept)) in
            all_mapped (λ row. key < row.0) (unpadded layout.bits) (drop (suc place) stored) (above_first (key, stored_code) (drop (suc place) stored) from)

        apart_left : AllByRecursion (λ row. row.0 ≢ key) (front ++ past)
        apart_left = all_append (λ row. row.0 ≢ key) front past
            (all_weaker (λ row. row.0 < key) (λ row. row.0 ≢ key) (λ row h e. omega arith) front front_below)
            (all_weaker (λ row. key < row.0) (λ row. row.0 ≢ key) (λ row h e. omega arith) past past_above)

        all_stored : AreStored W layout.bits (take place stored ++ (key, stored_code) ∷ drop (suc place) stored)
        all_stored = subst (λ (rows : List (ℕ × List ℕ)). AreStored W layout.bits rows) (sym stored_cut) kept.stored_codes

        -- the code of the row stands for its first bits
        pub stands_own : StandsFor W layout.bits stored_code (take layout.bits stored_code)
        stands_own = (all_back (λ row. StandsFor W layout.bits row.1 (take layout.bits row.1)) (take place stored)
            ((key, stored_code) ∷ drop (suc place) stored) all_stored).0

        -- the row is taken out from its place
        pub rows_without_row : map (unpadded layout.bits) (take place stored ++ drop (suc place) stored)
            ≡ remove_entry (is_at (nat_cmp key)) (map (unpadded layout.bits) stored)
        rows_without_row = left_cut
            ∙ sym (ap (λ (rows : List (ℕ × List ℕ)). remove_entry (is_at (nat_cmp key)) rows) full_cut
            ∙ removed_between front past key own_code front_below)

        -- each part has the row
        pub each_has : CountsValue → EachHas layout tables key (take layout.bits stored_code)
        each_has present = record {
          each = λ part other below.
              has_row seen front past key stored_code part (get_or tables part other) stands_own full_cut present (kept.each part other below);
        }

        left_sound : IsVersion (next_with seen (front ++ past))
        left_sound =
            let rows = map (unpadded layout.bits) stored in
            let there : remove_entry (is_at (nat_cmp key)) rows ≡ front ++ past = sym rows_without_row ∙ left_cut in
            let long = ap (λ (others : List (ℕ × List ℕ)). length others) there in
            let fewer = length_removed rows key present in
            let short = kept.sound.few_rows in
            let all_own : AllByRecursion (λ row. row.0 % shards ≡ shard) (front ++ (key, own_code) ∷ past) = subst
            (λ (others : List (ℕ × List ℕ)). AllByRecursion (λ row. row.0 % shards ≡ shard) others) full_cut
            kept.sound.own_keys in
            record {
              laid = kept.sound.laid;
              own_shard = kept.sound.own_shard;
              few_shards = kept.sound.few_shards;
              codes = subst (λ (others : List (ℕ × List ℕ)). AreCodeRows layout.bits others) there (codes_removed layout.bits rows key kept.sound.codes);
              ascending = subst (λ (others : List (ℕ × List ℕ)). IsStrictlySortedBy nat_cmp (keys_of others)) there
                  (ascends_removed rows key kept.sound.ascending);
              own_keys = all_append (λ row. row.0 % shards ≡ shard) front past
                  (all_front (λ row. row.0 % shards ≡ shard) front ((key, own_code) ∷ past) all_own)
                  (all_back (λ row. row.0 % shards ≡ shard) front ((key, own_code) ∷ past) all_own).1;
              few_rows = omega arith;
            }

        -- a version with the row out of its tables and its place is kept
        pub kept_without_row : (new : List (PartTable W)) → RemovesValue
            → AreChanged (Lost layout key (take layout.bits stored_code)) tables new (length tables)
            → AgreesWithRows (contents_of shard shards (at + 1) layout (take place stored ++ drop (suc place) stored))
            (take place stored ++ drop (suc place) stored) new
        kept_without_row new removed changed =
            let after : next_with seen (front ++ past)
            ≡ contents_of shard shards (at + 1) layout (take place stored ++ drop (suc place) stored) =
            ap (next_with seen) (sym left_cut) in
            let stand : ℕ × List ℕ → Type 0 = λ row. StandsFor W layout.bits row.1 (take layout.bits row.1) in
            let number = changed.number in
            subst (λ (version : Contents). AgreesWithRows version (take place stored ++ drop (suc place) stored) new) after (record {
              sound = left_sound;
              few_words = kept.few_words;
              room = kept.room;
              stored_codes = all_append stand (take place stored) (drop (suc place) stored)
                  (all_front stand (take place stored) ((key, stored_code) ∷ drop (suc place) stored) all_stored)
                  (all_back stand (take place stored) ((key, stored_code) ∷ drop (suc place) stored) all_stored).1;
              number = changed.number ∙ kept.number;
              each = λ part other below. (
                  let old : part < length tables = omega (arith, number) in
                  part_without_row seen front past key stored_code part (get_or tables part other)
                  (get_or new part other) stands_own full_cut apart_left removed (kept.each part other old)
                  (changed.done part other old old));
            })

-- what the laws of count tables say of no values
abbrev pub CountsNone : Type 0
CountsNone = (width : ℕ) → table_of width [] ≡ empty_table width

-- no list of no entries has one
none_listed : (number value : ℕ) → get_or (replicate {A = List (ℕ × List ℕ)} number []) value [] ≡ []
none_listed zero value = refl
none_listed (suc number) zero = refl
none_listed (suc number) (suc value) = none_listed number value

-- the tables of no rows
empty_part : {W : ℕ} (shard shards : ℕ) (layout : Laid) (part : ℕ) → CountsNone
    → IsPartTable {W = W} (empty_of shard shards layout) part (no_rows (length (part_at layout part)))
empty_part {W} shard shards layout part counts =
    let width = length (part_at layout part) in
    record {
      postings = record {
        width = refl;
        lists = record {
          each = λ value below. subst (λ (list : List (ℕ × List ℕ)). HasSame (map (unpadded layout.bits) list) [])
              (sym (none_listed (2 ^ width) value)) (record { sums = λ f. refl });
        };
        codes = λ value. subst (λ (list : List (ℕ × List ℕ)). AreStored W layout.bits list) (sym (none_listed (2 ^ width) value)) tt;
      };
      size = length-replicate (2 ^ width) [];
      counts = sym (counts width);
    }

-- a version with no rows is kept
pub kept_empty : {W : ℕ} (shard shards : ℕ) (layout : Laid) (tables : List (PartTable W)) → IsLaid layout → shard < shards
    → shards ≤ 16 → W ≤ 8 → layout.bits ≤ 64 * W → CountsNone
    → AreEmpty layout tables (length layout.parts) → AgreesWithRows (empty_of shard shards layout) [] tables
unfolding IsStrictlySortedBy
kept_empty shard shards layout tables laid own few words room counts empty = record {
  sound = record {
    laid = laid;
    own_shard = own;
    few_shards = few;
    codes = tt;
    ascending = tt;
    own_keys = tt;
    few_rows = omega arith;
  };
  few_words = words;
  room = room;
  stored_codes = tt;
  number = empty.number;
  each = λ part other below. (
      let number = empty.number in
      subst (λ (table : PartTable _). IsPartTable (empty_of shard shards layout) part table)
      (sym (empty.each part other (omega arith))) (empty_part shard shards layout part counts));
}

-- the first rows, once the zeros are left out
pub first_taken : (bits n : ℕ) (rows first : List (ℕ × List ℕ)) → first ≡ take n rows → map (unpadded bits) first ≡ take n (map (unpadded bits) rows)
first_taken bits n rows first is = ap (map (unpadded bits)) is ∙ sym (take-map (unpadded bits) n rows)

-- the codes of the first rows are kept as those of all
pub first_stored : (words bits number : ℕ) (rows first : List (ℕ × List ℕ)) → first ≡ take number rows → AreStored words bits rows → AreStored words bits first
first_stored words bits number rows first is all =
    let stand : ℕ × List ℕ → Type 0 = λ row. StandsFor words bits row.1 (take bits row.1) in
    let split : AreStored words bits (take number rows ++ drop number rows) =
    subst (λ (others : List (ℕ × List ℕ)). AreStored words bits others) (sym (take-append-drop number rows)) all in
    subst (λ (others : List (ℕ × List ℕ)). AreStored words bits others) (sym is) (all_front stand (take number rows) (drop number rows) split)

-- the posting tables that callers see have the rows
pub kept_tables : {W : ℕ} (contents : Contents) (stored : List (ℕ × List ℕ)) (tables : List (PartTable W))
    → AgreesWithRows contents stored tables → HasTables W (tabled_of contents tables)
kept_tables {W} contents stored tables kept = record {
  room = kept.room;
  each = λ part inside.
      let number = kept.number in
      let short : part < length tables = omega arith in
      let same = get_or-map (λ (table : PartTable W). table.postings) tables part (no_rows 0) (record { width = 0; lists = [] }) short in
      rw same (kept.each part (no_rows 0) short).postings;
}
