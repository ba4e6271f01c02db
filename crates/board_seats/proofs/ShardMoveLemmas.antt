-- What each call makes of a shard may be released.
use Rattle.std.proofs.Common.{◌≡◌, inl, inr, ℕ, zero, suc, nat_lt, max, Bool, true, false, cond, List, [], ◌∷◌, take, refl, sym, ap, subst, ◌∙◌, arith, Option}
use Rattle.std.specs.Prelude.{IfErr, IfOk, OnOk, option_map}
use Rattle.std.specs.declared.result.Result.{Result}
use Rattle.std.specs.declared.result.Result.TheVariants.{Ok, Err}
use Rattle.std.specs.List.{AllByRecursion, IsAmong}
use Rattle.std.proofs.lemmas.Bool.{cases_eq, ltb-true, ltb-false}
use Rattle.std.proofs.lemmas.List.{length-map, length-take}
use Rattle.hamming_model.specs.History.{JournalEntry, rows_of, shard_rows}
use Rattle.hamming_model.specs.Recoded.{AreStoredEntries, cut_entry, cut_history}
use Rattle.hamming_model.proofs.RecodedLemmas.{stored_first}
use Rattle.part_layout.specs.declared.config.Config.{Config}
use Rattle.part_layout.specs.Laid.{IsLaid}
use Rattle.shard_version.specs.Contents.{Contents, IsVersion}
use Rattle.commit_journal.specs.Fronts.{FrontState, IsFront, StandsAt, position_of, positions_of}
use Rattle.commit_journal.specs.Journals.{IsKnown, IsLive, JournalState, KnowsFront}
use Rattle.versioned_shard.specs.Along.{Follows, version_at}
use Rattle.versioned_shard.specs.Rule.{IsKeptVersion, KeepsJournalRule, KeepsRule}
use Rattle.versioned_shard.specs.Shards.{IsOneOf, MayStandIn, ShardState, advanced, further, with_layout}
use Rattle.versioned_shard.proofs.AlongLemmas.{follows_longer}
use Rattle.board_seats.specs.declared.rule.View.{View}
use Rattle.board_seats.specs.Moves.{ReleasesShard}
use Rattle.board_seats.specs.Rule.{IsBoardShard}
use Rattle.board_seats.specs.ShardCalls.{CameTo, IsGivenAt, IsMadeApart, PutsLayout}
use Rattle.board_seats.specs.Views.{AmongFronts, IsViewOf}

-- ---- the shard as it stood
pub as_it_stood : {W : ℕ} (config : Config) (view : View W) (k : ℕ) (shard : ShardState) → ReleasesShard config view k shard shard
as_it_stood {W} config view k shard = record { rises = omega arith; stands = λ journal sound knows stood. stood }

-- ---- the shard at a front
module _ (front : FrontState) (shard : ShardState) where
  reached_position : (version_at front.entries shard.current (position_of front)).at ≡ position_of front
  reached_position =
      let long = length-map front.entries (cut_entry shard.current.layout.bits) in
      let cut = length-take (position_of front) (cut_history shard.current.layout.bits front.entries) in
      omega arith

  -- it stands at the greater of both positions
  pub advanced_at : (advanced front shard).current.at ≡ max shard.current.at (position_of front)
  advanced_at = go (nat_lt shard.current.at (position_of front)) refl
    where
      go : (behind : Bool) → nat_lt shard.current.at (position_of front) ≡ behind
          → (cond behind (further front shard) shard).current.at ≡ max shard.current.at (position_of front)
      go true e = let low = ltb-true shard.current.at (position_of front) e in reached_position ∙ omega arith
      go false e = let high = ltb-false shard.current.at (position_of front) e in omega arith

  -- and has its number and its layout
  advanced_stands : (config : Config) (journal : JournalState) (k : ℕ) → IsBoardShard config journal k shard
      → KeepsJournalRule journal (advanced front shard) → IsBoardShard config journal k (advanced front shard)
  advanced_stands config journal k stood rule = go (nat_lt shard.current.at (position_of front)) rule
    where
      go : (behind : Bool) → KeepsJournalRule journal (cond behind (further front shard) shard)
          → IsBoardShard config journal k (cond behind (further front shard) shard)
      go true rule' = record { rule = rule'; shard_is = stood.shard_is; shards_are = stood.shards_are; bits_are = stood.bits_are }
      go false rule' = stood

  pub advances : {W : ℕ} (config : Config) (view : View W) (k : ℕ) → AmongFronts view.fronts front → IsFront front
      → ((live : ℕ → Option ℕ) (history : List JournalEntry) (each : ShardState) (other : FrontState) → KeepsRule live history each
      → IsKnown live history other → IsFront other → KeepsRule live history (advanced other each))
      → ReleasesShard config view k shard (advanced front shard)
  advances {W} config view k own is_front law = record {
    rises = omega (arith, advanced_at);
    stands = λ journal sound knows stood. advanced_stands config journal k stood
        (law (positions_of journal.live) journal.history shard front stood.rule (knows.fronts front own).knows is_front);
  }

  -- it came there, or stayed
  pub comes : {W : ℕ} (config : Config) (view : View W) (k : ℕ) (new : ShardState) → CameTo front shard new
      → ReleasesShard config view k shard (advanced front shard) → ReleasesShard config view k shard new
  comes {W} config view k new came moves = elim came [
    | inl same ↦ subst (ReleasesShard config view k shard) (sym same) (as_it_stood config view k shard)
    | inr far ↦ subst (ReleasesShard config view k shard) (sym far) moves
  ]

-- the codes of a front that is known are kept as those of the journal
pub stored_front_codes : (words bits : ℕ) (journal : JournalState) (front : FrontState) → KnowsFront journal front → AreStoredEntries words bits journal.history
    → AreStoredEntries words bits front.entries
stored_front_codes words bits journal front known all =
    subst (AreStoredEntries words bits) (sym known.begins) (stored_first words bits (position_of front) journal.history all)

-- ---- the version that it gives
each_among : (P : Contents → Type 0) (versions : List Contents) (version : Contents) → AllByRecursion P versions → IsAmong versions version → P version
each_among P [] version all among = absurd (let low = among.1.0 in omega arith)
each_among P (first ∷ versions) version all (zero, (low, is)) = subst P (sym is) all.0
each_among P (first ∷ versions) version all (suc i, (low, is)) = each_among P versions version all.1 (i, (omega arith, is))

pub gives_at : (config : Config) (journal : JournalState) (k position : ℕ) (shard : ShardState) (version : Contents) → IsBoardShard config journal k shard
    → IsOneOf shard position version → version ≡ version_at journal.history version position → IsVersion version
    → IsGivenAt config journal k position version
gives_at config journal k position shard version stands one rows sound = elim one.among [
  | inl same ↦ record {
    sound = sound;
    shard_is = ap (λ (each : Contents). each.shard) same ∙ stands.shard_is;
    shards_are = ap (λ (each : Contents). each.shards) same ∙ stands.shards_are;
    bits_are = ap (λ (each : Contents). each.layout.bits) same ∙ stands.bits_are;
    at = one.at;
    rows = rows;
  }
  | inr among ↦
      let kept : IsKeptVersion journal.history shard.current version =
      each_among (IsKeptVersion journal.history shard.current) shard.kept version stands.rule.kept among in
      record {
        sound = sound;
        shard_is = kept.shard_is ∙ stands.shard_is;
        shards_are = kept.shards_is ∙ stands.shards_are;
        bits_are = kept.bits_are ∙ stands.bits_are;
        at = one.at;
        rows = rows;
      }
]

-- ---- another layout
-- the rows of a version that follows a history
abbrev rows_along : JournalState → ℕ → ℕ → ℕ → ℕ → List (ℕ × List ℕ)
rows_along journal shard shards bits at = shard_rows shard shards (rows_of (take at (cut_history bits journal.history)))

-- a version that was made apart may stand in for the shard
pub made_stands_in : {W : ℕ} (config : Config) (journal : JournalState) (view : View W) (k : ℕ) (shard : ShardState) (version : Contents)
    → IsViewOf config journal view → IsBoardShard config journal k shard → IsMadeApart view k version → MayStandIn shard version
made_stands_in {W} config journal view k shard version knows stands made = record {
  shard_is = shard_is;
  shards_is = shards_are;
  bits_are = bits_are;
  rows_are = λ same.
      ap (λ (each : Contents). each.rows) follows.is
      ∙ ap (λ (n : ℕ). rows_along journal n version.shards version.layout.bits version.at) shard_is
      ∙ ap (λ (n : ℕ). rows_along journal shard.current.shard n version.layout.bits version.at) shards_are
      ∙ ap (λ (n : ℕ). rows_along journal shard.current.shard shard.current.shards n version.at) bits_are
      ∙ ap (λ (n : ℕ). rows_along journal shard.current.shard shard.current.shards shard.current.layout.bits n) same
      ∙ sym (ap (λ (each : Contents). each.rows) stands.rule.current.is);
}
  where
    same_config : made.config ≡ config
    same_config = knows.config_is made.config made.config_is

    follows : Follows journal.history version
    follows = subst (λ (history : List JournalEntry). Follows history version) knows.seen.longer
        (follows_longer view.seen knows.seen.more version made.within made.follows)

    shard_is : version.shard ≡ shard.current.shard
    shard_is = made.shard_is ∙ sym stands.shard_is

    shards_are : version.shards ≡ shard.current.shards
    shards_are = made.shards_are ∙ ap (λ (c : Config). c.shards) same_config ∙ sym stands.shards_are

    bits_are : version.layout.bits ≡ shard.current.layout.bits
    bits_are = made.bits_are ∙ ap (λ (c : Config). c.bits) same_config ∙ sym stands.bits_are

-- the shard in the layout of such a version, or as it stood
pub takes_layout : {W : ℕ} (config : Config) (view : View W) (k : ℕ) (old new : ShardState) (version : Contents) (moved : Bool)
    → PutsLayout old new version moved → MayStandIn old version → IsLaid version.layout
    → ((live : ℕ → Option ℕ) (history : List JournalEntry) (each : ShardState) (other : Contents) → KeepsRule live history each → IsLaid other.layout
    → MayStandIn each other → other.at ≡ each.current.at → KeepsRule live history (with_layout each other.layout))
    → ReleasesShard config view k old new
takes_layout {W} config view k old new version true takes may laid law =
    subst (ReleasesShard config view k old) (sym (takes.stays refl)) (as_it_stood config view k old)
takes_layout {W} config view k old new version false takes may laid law = elim (cases_eq version.at old.current.at) [
  | inl one ↦ subst (ReleasesShard config view k old) (sym (takes.swapped refl)) (record {
    rises = omega arith;
    stands = λ journal sound knows stood. record {
      rule = law (positions_of journal.live) journal.history old version stood.rule laid may one;
      shard_is = stood.shard_is;
      shards_are = stood.shards_are;
      bits_are = may.bits_are ∙ stood.bits_are;
    };
  })
  | inr apart ↦ absurd (let never = takes.moved_is.1 apart in cc)
]

-- where it stands then is where it stood
pub takes_at : (old new : ShardState) (version : Contents) (moved : Bool) → PutsLayout old new version moved → new.current.at ≡ old.current.at
takes_at old new version true takes = ap (λ (each : ShardState). each.current.at) (takes.stays refl)
takes_at old new version false takes = ap (λ (each : ShardState). each.current.at) (takes.swapped refl)

-- ---- answers
pub both_ok : {A B : Type 0} (result : Result A B) (P Q R : A → Type 0) (C : Type 0) → IfOk result P → IfOk result Q → OnOk result C
    → ((a : A) → P a → Q a → C → R a) → IfOk result R
both_ok {A} {B} (Ok a) P Q R C one two three f = f a one two three
both_ok {A} {B} (Err b) P Q R C one two three f = tt

pub at_of : {A B : Type 0} (result : Result A B) (F : B → ℕ) (m n : ℕ) → m ≡ n → IfErr result (λ b. F b ≡ m) → IfErr result (λ b. F b ≡ n)
at_of {A} {B} (Ok a) F m n same told = tt
at_of {A} {B} (Err b) F m n same told = told ∙ same

-- a live front's position is a live one
pub stands_at_live : (journal : JournalState) (front : FrontState) → IsLive journal front → StandsAt (positions_of journal.live) (position_of front)
stands_at_live journal front live = record { number = front.id; stands = ap (option_map (λ (pair : ℕ × ℕ). pair.1)) live }
