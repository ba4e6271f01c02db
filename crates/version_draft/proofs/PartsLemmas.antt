-- All parts of a version that is made: room taken, rows placed, and the tables at the end.
use Rattle.std.proofs.Common.{◌≡◌, ℕ, ◌+◌, ◌-◌, ◌*◌, ◌<◌, ◌≤◌, List, [], ◌∷◌, ◌++◌, length, map, take, get_or, set, refl, sym, ◌∙◌, ap}
use Rattle.std.proofs.Common.{arith, subst, inl, inr}
use Rattle.std.specs.List.Sorted.{IsStrictlySortedBy}
use Rattle.std.specs.Map.{keys_of}
use Rattle.std.specs.Ordering.{nat_cmp}
use Rattle.std.proofs.lemmas.Bool.{cases_eq}
use Rattle.std.proofs.lemmas.List.{get_or-map, get_or-set_other, get_or-set_same, get_or_append_left, get_or_push, length_push}
use Rattle.std.proofs.lemmas.List.{length-set, length-map, take_all, take_more}
use Rattle.hamming_model.specs.Stored.{AreCodeRows}
use Rattle.search_model.specs.Reading.{unpadded}
use Rattle.part_layout.specs.Laid.{Laid, IsLaid, part_at}
use Rattle.shard_version.specs.Contents.{Contents, IsVersion}
use Rattle.shard_version.specs.Relaid.{ArePartTables, IsPartTable, in_layout}
use Rattle.shard_version.specs.Tables.{AreFirst, AreStored}
use Rattle.shard_version.specs.declared.part_table.PartTable.{PartTable}
use Rattle.version_draft.specs.KeptDrafts.{AreBegun, ArePlaced, IsDraft, unfinished_of}
use Rattle.version_draft.specs.PartDrafts.{IsPartDraft, tables_of}
use Rattle.version_draft.specs.Unfinished.{Unfinished, begun}
use Rattle.version_draft.specs.declared.part_draft.PartDraft.{PartDraft}
use Rattle.version_draft.proofs.PartDraftLemmas.{part_done}

-- the next row is placed in one part more
pub placed_more : {W : ℕ} (layout : Laid) (stored : List (ℕ × List ℕ)) (parts : List (PartDraft W)) (next k : ℕ) (own : PartDraft W) → k < length parts
    → ArePlaced layout stored parts next k → IsPartDraft layout.bits (part_at layout k) stored (next + 1) own
    → ArePlaced layout stored (set parts k own) next (k + 1)
placed_more {W} layout stored parts next k own below before placed =
    let long = length-set parts k own in
    record {
      number = long ∙ before.number;
      done = λ part other less short.
          elim (cases_eq part k) [
            | inl same ↦ subst (λ p. IsPartDraft layout.bits (part_at layout p) stored (next + 1) (get_or (set parts k own) p other)) (sym same)
                (subst (IsPartDraft layout.bits (part_at layout k) stored (next + 1)) (sym (get_or-set_same parts k own other below)) placed)
            | inr differs ↦ subst (IsPartDraft layout.bits (part_at layout part) stored (next + 1)) (sym (get_or-set_other parts k part own other differs))
                (before.done part other (omega (arith, less, differs)) (omega arith))
          ];
      left = λ part other beyond short.
          subst (IsPartDraft layout.bits (part_at layout part) stored next) (sym (get_or-set_other parts k part own other (λ (same : part ≡ k). omega
          (arith, beyond, same))))
          (before.left part other (omega arith) (omega arith));
    }

-- one part more has room
pub begun_more : {W : ℕ} (layout : Laid) (stored : List (ℕ × List ℕ)) (old new : List (PartDraft W)) (k : ℕ) (own : PartDraft W) → new ≡ old ++ own ∷ []
    → AreBegun layout stored old k → IsPartDraft layout.bits (part_at layout k) stored 0 own → AreBegun layout stored new (k + 1)
begun_more {W} layout stored old new k own same before here =
    let long = ap length same ∙ length_push old own in
    let number = before.number in
    record {
      number = omega arith;
      each = λ part other less.
          elim (cases_eq part k) [
            | inl at ↦ subst (λ p. IsPartDraft layout.bits (part_at layout p) stored 0 (get_or new p other)) (sym at)
                (subst (IsPartDraft layout.bits (part_at layout k) stored 0) (sym (ap (λ ds. get_or ds k other) same
                ∙ get_or_push old own other k before.number)) here)
            | inr differs ↦ subst (IsPartDraft layout.bits (part_at layout part) stored 0)
                (sym (ap (λ ds. get_or ds part other) same
                ∙ get_or_append_left old (own ∷ []) other part (omega (arith, less, differs)))) (before.each part other (omega (arith, less, differs)))
          ];
    }

-- the keys of rows, with and without the zeros after their codes
plain_keys : (bits : ℕ) (rows : List (ℕ × List ℕ)) → keys_of (map (unpadded bits) rows) ≡ keys_of rows
plain_keys bits [] = refl
plain_keys bits (row ∷ rows) = ap (λ ks. row.0 ∷ ks) (plain_keys bits rows)

-- the tables of one part more
pub tables_more : {W : ℕ} (parts : List (PartDraft W)) (done : List (PartTable W)) (k : ℕ) (own : PartDraft W) (table : PartTable W) → k < length parts
    → own ≡ get_or parts k own → table ≡ tables_of own → done ≡ take k (map tables_of parts) → done ++ table ∷ [] ≡ take (k + 1) (map tables_of parts)
tables_more {W} parts done k own table below is made before =
    let long = length-map parts tables_of in
    let item : get_or (map tables_of parts) k (tables_of own) ≡ table = get_or-map tables_of parts k own (tables_of own) below
    ∙ ap tables_of (sym is) ∙ sym made in
    ap (λ (front : List (PartTable W)). front ++ table ∷ []) before
    ∙ ap (λ (one : PartTable W). take k (map tables_of parts) ++ one ∷ []) (sym item)
    ∙ sym (take_more (map tables_of parts) k (tables_of own) (omega arith))

-- ---- a draft

module _ {W : ℕ} (version : Contents) (layout : Laid) (stored : List (ℕ
    × List ℕ)) (parts : List (PartDraft W)) (next : ℕ) (is : IsDraft version layout stored parts next) where
  -- its rows ascend
  pub draft_ascends : IsStrictlySortedBy nat_cmp (keys_of stored)
  draft_ascends =
      subst (λ (keys : List ℕ). IsStrictlySortedBy nat_cmp keys) (ap keys_of (sym is.rows) ∙ plain_keys layout.bits stored) is.sound.ascending

  -- no part has the next row yet, and in the end all have
  pub none_placed : ArePlaced layout stored parts next 0
  none_placed =
      record {
        number = is.number;
        done = λ part other less short. absurd (omega
            (arith, less));
        left = λ part other beyond short. is.each part other short;
      }

  pub all_placed : (new : List (PartDraft W)) → next < length stored → ArePlaced layout stored new next (length layout.parts)
      → IsDraft version layout stored new (next + 1)
  all_placed new below placed =
      let number = placed.number in
      record {
        sound = is.sound;
        few_words = is.few_words;
        room = is.room;
        bits = is.bits;
        rows = is.rows;
        stored_codes = is.stored_codes;
        number = placed.number;
        in_rows = omega arith;
        each = λ part other short. placed.done part other (omega arith) short;
      }

  -- once all rows are placed, the tables are those of the rows
  pub tables_done : (tables : List (PartTable W)) → tables ≡ map tables_of parts → length stored - next ≡ 0
      → ArePartTables (in_layout version layout) tables
  tables_done tables made none =
      let end : next ≡ length stored = omega (arith, is.in_rows, none) in
      let long : length tables ≡ length parts = ap length made ∙ length-map parts tables_of in
      record {
        number = long ∙ is.number;
        each = λ part other short.
            let draft : PartDraft W = record { lists = record { table = other.postings; room = [] }; counts = other.counts } in
            let below : part < length parts = omega (arith, short, long) in
            let own : get_or tables part other ≡ tables_of (get_or parts part draft) =
            ap (λ (all : List (PartTable W)). get_or all part other) made ∙ get_or-map tables_of parts part draft other below in
            subst (λ (table : PartTable W). IsPartTable (in_layout version layout) part table) (sym own)
            (part_done (in_layout version layout) part stored (get_or parts part draft) is.rows is.stored_codes
            (subst (λ (n : ℕ). IsPartDraft layout.bits (part_at layout part) stored n (get_or parts part draft)) end (is.each part draft below)));
      }

-- ---- a draft that begins

module _ (version : Contents) (layout : Laid) (rows : List (ℕ × List ℕ)) (sound : IsVersion version) (first : AreFirst 1048576 version rows) where
  -- all rows were read
  pub all_read : map (unpadded version.layout.bits) rows ≡ version.rows
  all_read =
      let few = sound.few_rows in
      first ∙ take_all 1048576 version.rows (omega arith)

  pub few_read : length rows ≡ length version.rows
  few_read = sym (length-map rows (unpadded version.layout.bits)) ∙ ap length all_read

  -- and are left to place
  pub seen_begun : (copy : Contents) → copy ≡ version → unfinished_of copy layout rows 0 ≡ begun version layout
  seen_begun copy same =
      ap (λ (contents : Contents). unfinished_of contents layout rows 0) same
      ∙ ap (λ (number : ℕ). let u : Unfinished = record { contents = in_layout version layout; left = number } in u) (omega (arith, few_read))

  module _ {W : ℕ} (parts : List (PartDraft W)) (bits : layout.bits ≡ version.layout.bits) where
    pub draft_begun : W ≤ 8 → version.layout.bits ≤ 64 * W → IsLaid layout → AreStored W version.layout.bits rows
        → AreBegun layout rows parts (length layout.parts) → IsDraft version layout rows parts 0
    draft_begun few_words room laid stored begun_each = record {
      sound = record {
        laid = laid;
        own_shard = sound.own_shard;
        few_shards = sound.few_shards;
        codes = subst (λ (n : ℕ). AreCodeRows n version.rows) (sym bits) sound.codes;
        ascending = sound.ascending;
        own_keys = sound.own_keys;
        few_rows = sound.few_rows;
      };
      few_words = few_words;
      room = subst (λ (n : ℕ). n ≤ 64 * W) (sym bits) room;
      bits = bits;
      rows = ap (λ (n : ℕ). map (unpadded n) rows) bits ∙ all_read;
      stored_codes = subst (λ (n : ℕ). AreStored W n rows) (sym bits) stored;
      number = begun_each.number;
      in_rows = omega arith;
      each = λ part other short. begun_each.each part other (omega (arith, short, begun_each.number));
    }
