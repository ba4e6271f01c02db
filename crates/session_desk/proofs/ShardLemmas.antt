-- A shard that comes to a front, and the version that it gives there.
use Rattle.std.proofs.Common.{◌≡◌, ◌≢◌, ◌↔◌, inl, inr, ℕ, zero, suc, nat_lt, max, Bool, true, false, cond, List, [], ◌∷◌, take, refl, sym, ap, subst, ◌∙◌, arith}
use Rattle.std.specs.Prelude.{IsErr, OnErr, OnOk}
use Rattle.std.specs.declared.result.Result.{Result}
use Rattle.std.specs.declared.result.Result.TheVariants.{Ok, Err}
use Rattle.std.specs.List.{AllByRecursion, IsAmong}
use Rattle.std.proofs.lemmas.Bool.{cases_eq, ltb-true, ltb-false}
use Rattle.std.proofs.lemmas.List.{length-map, length-take}
use Rattle.hamming_model.specs.History.{rows_of, shard_rows}
use Rattle.hamming_model.proofs.RecodedLemmas.{stored_first}
use Rattle.hamming_model.specs.Recoded.{AreStoredEntries, cut_entry, cut_history}
use Rattle.shard_version.specs.Contents.{Contents, IsVersion}
use Rattle.commit_journal.specs.Fronts.{FrontState, position_of}
use Rattle.commit_journal.specs.Journals.{JournalState, KnowsFront}
use Rattle.versioned_shard.specs.Along.{Follows, version_at}
use Rattle.versioned_shard.specs.Rule.{IsKeptVersion, KeepsJournalRule}
use Rattle.versioned_shard.specs.Shards.{IsOneOf, MayStandIn, ShardState, advanced, further, with_layout}
use Rattle.session_desk.specs.Solos.{ComesTo, GivesVersion, IsSwapped}

-- the codes of a front that is known are kept as those of the journal
pub stored_front : (words bits : ℕ) (journal : JournalState) (front : FrontState) → KnowsFront journal front → AreStoredEntries words bits journal.history
    → AreStoredEntries words bits front.entries
stored_front words bits journal front known all =
    subst (AreStoredEntries words bits) (sym known.begins) (stored_first words bits (position_of front) journal.history all)

all_among : (P : Contents → Type 0) (versions : List Contents) (version : Contents) → AllByRecursion P versions → IsAmong versions version → P version
all_among P [] version all among = absurd (let low = among.1.0 in omega arith)
all_among P (first ∷ versions) version all (zero, (low, is)) = subst P (sym is) all.0
all_among P (first ∷ versions) version all (suc i, (low, is)) = all_among P versions version all.1 (i, (omega arith, is))

module _ (front : FrontState) (shard : ShardState) where
  reached_position : (version_at front.entries shard.current (position_of front)).at ≡ position_of front
  reached_position =
      let long = length-map front.entries (cut_entry shard.current.layout.bits) in
      let cut = length-take (position_of front) (cut_history shard.current.layout.bits front.entries) in
      omega arith

  -- a shard that advanced stands at the greater of both positions
  pub advanced_at : (advanced front shard).current.at ≡ max shard.current.at (position_of front)
  advanced_at = go (nat_lt shard.current.at (position_of front)) refl
    where
      go : (behind : Bool) → nat_lt shard.current.at (position_of front) ≡ behind
          → (cond behind (further front shard) shard).current.at ≡ max shard.current.at (position_of front)
      go true e = let low = ltb-true shard.current.at (position_of front) e in reached_position ∙ omega arith
      go false e = let high = ltb-false shard.current.at (position_of front) e in omega arith

  advanced_shard : (advanced front shard).current.shard ≡ shard.current.shard
  advanced_shard = go (nat_lt shard.current.at (position_of front))
    where
      go : (behind : Bool) → (cond behind (further front shard) shard).current.shard ≡ shard.current.shard
      go true = refl
      go false = refl

  advanced_shards : (advanced front shard).current.shards ≡ shard.current.shards
  advanced_shards = go (nat_lt shard.current.at (position_of front))
    where
      go : (behind : Bool) → (cond behind (further front shard) shard).current.shards ≡ shard.current.shards
      go true = refl
      go false = refl

  advanced_layout : (advanced front shard).current.layout ≡ shard.current.layout
  advanced_layout = go (nat_lt shard.current.at (position_of front))
    where
      go : (behind : Bool) → (cond behind (further front shard) shard).current.layout ≡ shard.current.layout
      go true = refl
      go false = refl

  -- and it came to the front
  pub advanced_comes : (journal : JournalState) → KeepsJournalRule journal (advanced front shard)
      → ComesTo journal (position_of front) shard (advanced front shard)
  advanced_comes journal rule = record {
    rule = rule;
    shard_is = advanced_shard;
    shards_are = advanced_shards;
    layout_is = advanced_layout;
    never_back = omega (arith, advanced_at);
  }

-- a shard that stays comes nowhere
pub stays_there : (journal : JournalState) (position : ℕ) (shard : ShardState) → KeepsJournalRule journal shard → ComesTo journal position shard shard
stays_there journal position shard rule = record { rule = rule; shard_is = refl; shards_are = refl; layout_is = refl; never_back = omega arith }

-- the version that a shard gives has its shard and bits, and at the end of the history its layout
pub one_given : (journal : JournalState) (shard : ShardState) (position : ℕ) (version : Contents) → KeepsJournalRule journal shard
    → IsOneOf shard position version
    → version ≡ version_at journal.history version position → IsVersion version → GivesVersion journal.history position shard version
one_given journal shard position version rule one rows sound = elim one.among [
  | inl same ↦ record {
    sound = sound;
    shard_is = ap (λ (each : Contents). each.shard) same;
    shards_are = ap (λ (each : Contents). each.shards) same;
    bits_are = ap (λ (each : Contents). each.layout.bits) same;
    at = one.at;
    rows = rows;
    layout_is = λ whole. ap (λ (each : Contents). each.layout) same;
  }
  | inr among ↦
      let kept : IsKeptVersion journal.history shard.current version = all_among
      (IsKeptVersion journal.history shard.current) shard.kept version rule.kept among in
      record {
        sound = sound;
        shard_is = kept.shard_is;
        shards_are = kept.shards_is;
        bits_are = kept.bits_are;
        at = one.at;
        rows = rows;
        layout_is = λ whole. absurd (omega (arith, whole, kept.below, rule.within, one.at));
      }
]

-- the rows of a version that follows a history
abbrev followed_rows : JournalState → ℕ → ℕ → ℕ → ℕ → List (ℕ × List ℕ)
followed_rows journal shard shards bits at = shard_rows shard shards (rows_of (take at (cut_history bits journal.history)))

-- a version that follows the history as the shard does may stand in its place
pub may_stand_in : (journal : JournalState) (shard : ShardState) (version : Contents) → KeepsJournalRule journal shard → Follows journal.history version
    → version.shard ≡ shard.current.shard → version.shards ≡ shard.current.shards → version.layout.bits ≡ shard.current.layout.bits → MayStandIn shard version
may_stand_in journal shard version rule follows shard_is shards_are bits_are = record {
  shard_is = shard_is;
  shards_is = shards_are;
  bits_are = bits_are;
  rows_are = λ same.
      ap (λ (each : Contents). each.rows) follows.is
      ∙ ap (λ (n : ℕ). followed_rows journal n version.shards version.layout.bits version.at) shard_is
      ∙ ap (λ (n : ℕ). followed_rows journal shard.current.shard n version.layout.bits version.at) shards_are
      ∙ ap (λ (n : ℕ). followed_rows journal shard.current.shard shard.current.shards n version.at) bits_are
      ∙ ap (λ (n : ℕ). followed_rows journal shard.current.shard shard.current.shards shard.current.layout.bits n) same
      ∙ sym (ap (λ (each : Contents). each.rows) rule.current.is);
}

-- what a swap leaves
pub swap_leaves : {A B : Type 0} (journal : JournalState) (old new : ShardState) (version : Contents) (result : Result A B) → KeepsJournalRule journal old
    → MayStandIn old version → (version.at ≡ old.current.at → KeepsJournalRule journal (with_layout old version.layout))
    → IsErr result ↔ (version.at ≢ old.current.at) → OnOk result (new ≡ with_layout old version.layout) → OnErr result (new ≡ old) → IsSwapped journal old new
swap_leaves journal old new version (Err fault) rule may law moved swapped same = record {
  rule = subst (KeepsJournalRule journal) (sym same) rule;
  shard_is = ap (λ (each : ShardState). each.current.shard) same;
  shards_are = ap (λ (each : ShardState). each.current.shards) same;
  bits_are = ap (λ (each : ShardState). each.current.layout.bits) same;
  at_is = ap (λ (each : ShardState). each.current.at) same;
}
swap_leaves journal old new version (Ok done) rule may law moved swapped same = elim (cases_eq version.at old.current.at) [
  | inl one ↦ record {
    rule = subst (KeepsJournalRule journal) (sym swapped) (law one);
    shard_is = ap (λ (each : ShardState). each.current.shard) swapped;
    shards_are = ap (λ (each : ShardState). each.current.shards) swapped;
    bits_are = ap (λ (each : ShardState). each.current.layout.bits) swapped ∙ may.bits_are;
    at_is = ap (λ (each : ShardState). each.current.at) swapped;
  }
  | inr apart ↦ (let none = moved.1 apart in cc)
]

-- what holds in any case holds where the answer is an error
pub on_err : {A B P : Type 0} (result : Result A B) → P → OnErr result P
on_err (Ok done) p = tt
on_err (Err fault) p = p
