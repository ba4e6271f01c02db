-- An entry of the shard: what the calls ask on its way, and that the version which they leave is kept, in the words of the version before.
use Rattle.std.proofs.Common.{◌≡◌, ℕ, ◌+◌, ◌*◌, ◌%◌, ◌<◌, ◌≤◌, true, false, List, Option, ◌∷◌, ◌++◌, get_or, length, map, take, drop, suc, refl, sym, ap, subst, ◌∙◌, arith}
use Rattle.std.specs.Prelude.{None, Some, is_some}
use Rattle.std.specs.BTreeMap.{insert_entry, is_at}
use Rattle.std.specs.List.Sorted.{IsStrictlySortedBy}
use Rattle.std.specs.Map.{keys_of, remove_entry}
use Rattle.std.specs.Ordering.{nat_cmp}
use Rattle.std.proofs.lemmas.List.{get_or_default, length-map}
use Rattle.hamming_model.specs.Codes.{StandsFor}
use Rattle.hamming_model.specs.History.{code_at}
use Rattle.part_layout.specs.Laid.{Laid}
use Rattle.search_model.specs.Reading.{unpadded}
use Rattle.shard_version.specs.Contents.{Contents}
use Rattle.shard_version.specs.Kept.{AgreesWithRows, IsPlace, contents_of, next_with, with_added, with_deleted}
use Rattle.shard_version.specs.KeptParts.{AreChanged, EachHas, EachTakes, Lost, Taken}
use Rattle.shard_version.specs.declared.part_table.PartTable.{PartTable}
use Rattle.shard_version.proofs.PartLemmas.{AddsValue, CountsValue, RemovesValue}
use Rattle.shard_version.proofs.KeptLemmas.{CountsAll, each_has, each_takes, kept_with_row, kept_without_row, place_has, place_inside, rows_with_row, rows_without_row, stands_own, stands_unpadded, stored_ascend}
use Rattle.shard_version.proofs.PlaceLemmas.{place_in, place_there}
use Rattle.shard_version.proofs.BucketLemmas.{placed_added, placed_code, placed_removed}

none_of : {X : Type 0} (found : Option X) → is_some found ≡ false → found ≡ None
none_of None e = refl
none_of (Some x) e = cc

module _ {W : ℕ} (shard shards at : ℕ) (layout : Laid) (stored : List (ℕ × List ℕ)) (tables : List (PartTable W))
    (kept : AgreesWithRows (contents_of shard shards at layout stored) stored tables)
    (self : Contents) (seen : contents_of shard shards at layout stored ≡ self) (key : ℕ) where
  abbrev place : ℕ
  place = place_in stored key

  placed : IsPlace stored key (place_in stored key)
  placed = place_there stored key (stored_ascend shard shards at layout stored tables kept)

  -- the kept rows have the key where those that callers see have it
  pub same_stands : is_some (code_at stored key) ≡ is_some (code_at self.rows key)
  same_stands = sym (stands_unpadded layout.bits stored key) ∙ ap (λ (contents : Contents). is_some (code_at contents.rows key)) seen

  module _ (room : length self.rows < 1048576) (code : List ℕ) (absent : code_at self.rows key ≡ None)
      (stands : StandsFor W self.layout.bits code (take self.layout.bits code)) (own : key % self.shards ≡ self.shard)
      (lent : Laid) (is : lent ≡ layout) where
    none : code_at (map (unpadded layout.bits) stored) key ≡ None
    none = ap (λ (contents : Contents). code_at contents.rows key) seen ∙ absent

    -- nor have the kept ones
    pub absent_there : code_at stored key ≡ None
    absent_there = none_of (code_at stored key) (same_stands ∙ ap (λ found. is_some found) absent)

    -- there is room among them
    pub fits : length stored < 1048576
    fits =
        let few = subst (λ (contents : Contents). length contents.rows < 1048576) (sym seen) room in
        omega (arith, length-map stored (unpadded layout.bits), few)

    stand : StandsFor W layout.bits code (take layout.bits code)
    stand = subst (λ (contents : Contents). StandsFor W contents.layout.bits code (take contents.layout.bits code)) (sym seen) stands

    -- what adding a row to each part asks
    pub asks_to_add : CountsAll
        → (lent.bits ≤ 64 * W)
        × ((length tables ≡ length lent.parts)
        × (StandsFor W lent.bits code (take lent.bits code) × EachTakes lent tables key (take lent.bits code)))
    asks_to_add all = subst
        (λ (laid : Laid). (laid.bits ≤ 64 * W)
        × ((length tables ≡ length laid.parts)
        × (StandsFor W laid.bits code (take laid.bits code) × EachTakes laid tables key (take laid.bits code))))
        (sym is) (kept.room, (kept.number, (stand, each_takes shard shards at layout stored tables kept key place placed code none stand fits all)))

    module _ (left : List (ℕ × List ℕ)) (added : left ≡ insert_entry nat_cmp stored key code) where
      put : left ≡ take place stored ++ (key, code) ∷ drop place stored
      put = added ∙ sym (placed_added stored key place placed code absent_there)

      -- the version with the row is kept
      pub kept_added : AddsValue → (new : List (PartTable W))
          → AreChanged (Taken lent key code (take lent.bits code)) tables new (length tables)
          → AgreesWithRows (contents_of shard shards (at + 1) layout left) left new
      kept_added adds new changed =
          let mine = subst (λ (contents : Contents). key % contents.shards ≡ contents.shard) (sym seen) own in
          subst (λ (others : List (ℕ × List ℕ)). AgreesWithRows (contents_of shard shards (at + 1) layout others) others new) (sym put)
          (kept_with_row shard shards at layout stored tables kept key place placed code none stand new fits mine adds
          (subst (λ (laid : Laid). AreChanged (Taken laid key code (take laid.bits code)) tables new (length tables)) is changed))

      -- and is seen as the version before with the row
      pub seen_added : contents_of shard shards (at + 1) layout left ≡ with_added self key code
      seen_added =
          ap (next_with (contents_of shard shards at layout stored))
          (ap (map (unpadded layout.bits)) put ∙ rows_with_row shard shards at layout stored tables kept key place placed
          code none stand)
          ∙ ap (λ (contents : Contents). with_added contents key code) seen

  module _ (present : is_some (code_at self.rows key) ≡ true) where
    some : is_some (code_at (map (unpadded layout.bits) stored) key) ≡ true
    some = ap (λ (contents : Contents). is_some (code_at contents.rows key)) seen ∙ present

    -- the kept rows have the key too
    pub present_there : is_some (code_at stored key) ≡ true
    present_there = same_stands ∙ present

    up : IsStrictlySortedBy nat_cmp (keys_of stored)
    up = stored_ascend shard shards at layout stored tables kept

    inside : place < length stored
    inside = place_inside shard shards at layout stored tables kept key place placed some

    module _ (code : List ℕ) (own : code_at stored key ≡ Some code) (lent : Laid) (is : lent ≡ layout) where
      abbrev row : ℕ × List ℕ
      row = (key, code)

      -- the row of the key stands at its place
      stood : (key, code) ≡ get_or stored place (key, code)
      stood =
          let there = get_or stored place (key, code) in
          let same : there ≡ get_or stored place there = get_or_default stored place (key, code) there inside in
          let found = placed_code stored key place placed up present_there there same in
          let codes : code ≡ there.1 = cc in
          let keys : there.0 ≡ key = place_has shard shards at layout stored tables kept key place placed some (key, code) in
          ap (λ (c : List ℕ). (key, c)) codes ∙ ap (λ (k : ℕ). (k, there.1)) (sym keys)

      -- what taking a row out of each part asks
      pub asks_to_delete : CountsValue
          → (lent.bits ≤ 64 * W)
          × ((length tables ≡ length lent.parts)
          × (StandsFor W lent.bits code (take lent.bits code) × EachHas lent tables key (take lent.bits code)))
      asks_to_delete counted = subst
          (λ (laid : Laid). (laid.bits ≤ 64 * W)
          × ((length tables ≡ length laid.parts)
          × (StandsFor W laid.bits code (take laid.bits code) × EachHas laid tables key (take laid.bits code))))
          (sym is) (
            kept.room,
            (
              kept.number,
              (
                stands_own shard shards at layout stored tables kept key place placed some code stood,
                each_has shard shards at layout stored tables kept key place placed some code stood counted,
              ),
            ),
          )

      module _ (left : List (ℕ × List ℕ)) (lost : left ≡ remove_entry (is_at (nat_cmp key)) stored) where
        cut : left ≡ take place stored ++ drop (suc place) stored
        cut = lost ∙ sym (placed_removed stored key place placed up present_there (key, code) stood)

        -- the version without the row is kept
        pub kept_deleted : RemovesValue → (new : List (PartTable W))
            → AreChanged (Lost lent key (take lent.bits code)) tables new (length tables)
            → AgreesWithRows (contents_of shard shards (at + 1) layout left) left new
        kept_deleted removed new changed =
            subst (λ (others : List (ℕ × List ℕ)). AgreesWithRows (contents_of shard shards (at + 1) layout others) others new) (sym cut)
            (kept_without_row shard shards at layout stored tables kept key place placed some code stood new removed
            (subst (λ (laid : Laid). AreChanged (Lost laid key (take laid.bits code)) tables new (length tables)) is changed))

        -- and is seen as the version before without the row
        pub seen_deleted : contents_of shard shards (at + 1) layout left ≡ with_deleted self key
        seen_deleted =
            ap (next_with (contents_of shard shards at layout stored))
            (ap (map (unpadded layout.bits)) cut ∙ rows_without_row shard shards at layout stored tables kept key place placed
            some code stood)
            ∙ ap (λ (contents : Contents). with_deleted contents key) seen
