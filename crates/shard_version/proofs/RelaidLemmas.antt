-- A version's rows in another layout of the same bits.
use Rattle.std.proofs.Common.{◌≡◌, ℕ, ◌*◌, ◌≤◌, List, sym, ap, subst, ◌∙◌, map}
use Rattle.hamming_model.specs.Stored.{AreCodeRows}
use Rattle.search_model.specs.Reading.{unpadded}
use Rattle.part_layout.specs.Laid.{Laid, IsLaid}
use Rattle.shard_version.specs.Contents.{Contents, IsVersion}
use Rattle.shard_version.specs.Kept.{AgreesWithRows, contents_of, tabled_of}
use Rattle.shard_version.specs.Relaid.{ArePartTables, in_layout}
use Rattle.shard_version.specs.Tables.{AreStored, Tabled}
use Rattle.shard_version.specs.declared.part_table.PartTable.{PartTable}

-- a version in another layout of its bits is one
version_relaid : (version : Contents) (new : Laid) → new.bits ≡ version.layout.bits → IsLaid new → IsVersion version → IsVersion (in_layout version new)
version_relaid version new same laid sound = record {
  laid = laid;
  own_shard = sound.own_shard;
  few_shards = sound.few_shards;
  codes = subst (λ (bits : ℕ). AreCodeRows bits version.rows) (sym same) sound.codes;
  ascending = sound.ascending;
  own_keys = sound.own_keys;
  few_rows = sound.few_rows;
}

module _ {W : ℕ} (shard shards at : ℕ) (old new : Laid) (rows : List (ℕ × List ℕ)) (tables relaid : List (PartTable W)) (version : Tabled)
    (kept : AgreesWithRows (contents_of shard shards at old rows) rows tables) (seen : tabled_of (contents_of shard shards at old rows) tables ≡ version)
    (bits : new.bits ≡ version.contents.layout.bits) where
  same_bits : new.bits ≡ old.bits
  same_bits = bits ∙ ap (λ (v : Tabled). v.contents.layout.bits) (sym seen)

  -- it has the same rows
  rows_kept : contents_of shard shards at new rows ≡ in_layout (contents_of shard shards at old rows) new
  rows_kept =
      ap (λ (n : ℕ). let c : Contents = record { shard = shard; shards = shards; at = at; layout = new; rows = map (unpadded n) rows } in c) same_bits

  pub seen_relaid : contents_of shard shards at new rows ≡ in_layout version.contents new
  seen_relaid = rows_kept ∙ ap (λ (v : Tabled). in_layout v.contents new) seen

  -- and agrees with the tables
  pub kept_relaid : IsLaid new → ArePartTables (in_layout version.contents new) relaid → AgreesWithRows (contents_of shard shards at new rows) rows relaid
  kept_relaid laid are =
      let own : ArePartTables (contents_of shard shards at new rows) relaid =
      subst (λ (contents : Contents). ArePartTables contents relaid) (sym seen_relaid) are in
      record {
        sound = subst (λ (contents : Contents). IsVersion contents) (sym rows_kept)
            (version_relaid (contents_of shard shards at old rows) new same_bits laid kept.sound);
        few_words = kept.few_words;
        room = subst (λ (n : ℕ). n ≤ 64 * W) (sym same_bits) kept.room;
        stored_codes = subst (λ (n : ℕ). AreStored W n rows) (sym same_bits) kept.stored_codes;
        number = own.number;
        each = own.each;
      }
