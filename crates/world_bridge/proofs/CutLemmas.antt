-- Histories, versions, shards and fronts in their codes alone.
use Rattle.std.proofs.Common.{◌≡◌, ℕ, zero, suc, ◌<◌, Bool, true, false, cond, List, [], ◌∷◌, ◌++◌, length, map, filter, take, Option, refl, sym, ap, subst, ◌∙◌, arith}
use Rattle.std.specs.Prelude.{◌↔◌, nat_le, nat_lt}
use Rattle.std.specs.List.{AllByRecursion}
use Rattle.std.proofs.lemmas.List.{length-map, map-append}
use Rattle.hamming_model.specs.History.{Decision, JournalEntry, Operation, Add, Delete, after_decision, is_accepted}
use Rattle.hamming_model.specs.Recoded.{IsStoredOperation, cut_entry, cut_history, cut_operation}
use Rattle.hamming_model.specs.Stored.{AddsCode}
use Rattle.hamming_model.proofs.RecodedLemmas.{first_recoded, legal_recoded}
use Rattle.shard_version.specs.Contents.{Contents}
use Rattle.shard_version.specs.Prefixes.{prefix_of}
use Rattle.commit_journal.specs.Fronts.{FrontState, IsFront, position_of}
use Rattle.commit_journal.specs.Journals.{IsKnown}
use Rattle.versioned_shard.specs.Along.{Follows, version_at}
use Rattle.versioned_shard.specs.Rule.{IsKeptVersion, KeepsRule}
use Rattle.versioned_shard.specs.Shards.{ShardState, advanced, shard_with, staying}
use Rattle.world_bridge.specs.Cuts.{cut_front}

-- ---- histories
taken_twice : (n : ℕ) (bits : List ℕ) → take n (take n bits) ≡ take n bits
taken_twice zero bits = refl
taken_twice (suc n) [] = refl
taken_twice (suc n) (bit ∷ bits) = ap (λ (rest : List ℕ). bit ∷ rest) (taken_twice n bits)

operation_twice : (bits : ℕ) (operation : Operation) → cut_operation bits (cut_operation bits operation) ≡ cut_operation bits operation
operation_twice bits (Add key code) = ap (Add key) (taken_twice bits code)
operation_twice bits (Delete key) = refl

pub cut_twice : (bits : ℕ) (history : List JournalEntry) → cut_history bits (cut_history bits history) ≡ cut_history bits history
cut_twice bits [] = refl
cut_twice bits (entry ∷ history) =
    ap (λ (operation : Operation). let one : JournalEntry = record { who = entry.who; operation = operation } in
    one ∷ cut_history bits (cut_history bits history)) (operation_twice bits entry.operation)
    ∙ ap (λ (rest : List JournalEntry). cut_entry bits entry ∷ rest) (cut_twice bits history)

pub cut_appended : (bits : ℕ) (history : List JournalEntry) (entry : JournalEntry) (decision : Decision)
    → cut_history bits (after_decision history entry decision) ≡ after_decision (cut_history bits history) (cut_entry bits entry) decision
cut_appended bits history entry decision = go (is_accepted decision)
  where
    go : (accepted : Bool) → cut_history bits (cond accepted (history ++ entry ∷ []) history)
        ≡ cond accepted (cut_history bits history ++ cut_entry bits entry ∷ []) (cut_history bits history)
    go true = map-append (cut_entry bits) history (entry ∷ [])
    go false = refl

pub stored_adds : (words bits : ℕ) (operation : Operation) → IsStoredOperation words bits operation → AddsCode bits (cut_operation bits operation)
stored_adds words bits (Add key code) stored = stored.is_code
stored_adds words bits (Delete key) stored = tt

-- ---- versions
version_cut : (bits : ℕ) (history : List JournalEntry) (from : Contents) (position : ℕ) → from.layout.bits ≡ bits
    → version_at (cut_history bits history) from position ≡ version_at history from position
version_cut bits history from position same =
    subst (λ (cut : ℕ). version_at (cut_history cut history) from position ≡ version_at history from position) same
    (ap (λ (entries : List JournalEntry). prefix_of from.shard from.shards from.layout (take position entries)) (cut_twice from.layout.bits history))

pub follows_cut : (bits : ℕ) (history : List JournalEntry) (version : Contents) → version.layout.bits ≡ bits
    → Follows history version ↔ Follows (cut_history bits history) version
follows_cut bits history version same = (
  λ follows. record { is = follows.is ∙ sym (version_cut bits history version version.at same) },
  λ follows. record { is = follows.is ∙ version_cut bits history version version.at same },
)

-- ---- the rule of a shard
kept_moved : (from to : List JournalEntry) (current : Contents) (versions : List Contents)
    → ((version : Contents) → version.layout.bits ≡ current.layout.bits → Follows from version → Follows to version)
    → AllByRecursion (IsKeptVersion from current) versions → AllByRecursion (IsKeptVersion to current) versions
kept_moved from to current [] moves all = tt
kept_moved from to current (version ∷ versions) moves all = (
  record {
    follows = moves version all.0.bits_are all.0.follows;
    below = all.0.below;
    laid = all.0.laid;
    shard_is = all.0.shard_is;
    shards_is = all.0.shards_is;
    bits_are = all.0.bits_are;
  },
  kept_moved from to current versions moves all.1,
)

rule_moved : (live : ℕ → Option ℕ) (from to : List JournalEntry) (shard : ShardState) → length from ≡ length to
    → ((version : Contents) → version.layout.bits ≡ shard.current.layout.bits → Follows from version → Follows to version)
    → KeepsRule live from shard → KeepsRule live to shard
rule_moved live from to shard long moves rule = record {
  within = omega (arith, rule.within, long);
  current = moves shard.current refl rule.current;
  laid = rule.laid;
  kept = kept_moved from to shard.current shard.kept moves rule.kept;
  fronts = rule.fronts;
}

pub rule_cut : (live : ℕ → Option ℕ) (history : List JournalEntry) (shard : ShardState)
    → KeepsRule live history shard ↔ KeepsRule live (cut_history shard.current.layout.bits history) shard
rule_cut live history shard =
    let bits = shard.current.layout.bits in
    let long : length (cut_history bits history) ≡ length history = length-map history (cut_entry bits) in (
      rule_moved live history (cut_history bits history) shard (sym long) (λ version same. (follows_cut bits history version same).0),
      rule_moved live (cut_history bits history) history shard long (λ version same. (follows_cut bits history version same).1),
    )

-- ---- fronts
module _ (front : FrontState) (shard : ShardState) where
  -- the version of a shard along entries in codes of its bits
  abbrev along : List JournalEntry → ℕ → Contents
  along entries position = prefix_of shard.current.shard shard.current.shards shard.current.layout (take position entries)

  -- the shard at a front, by the entries of that in codes of its bits
  abbrev brought : List JournalEntry → ℕ → ShardState
  brought entries position =
      cond (nat_lt shard.current.at position)
      (shard_with (along entries position)
      (staying front.older shard.kept ++ map (along entries) (filter (λ (each : ℕ). nat_le shard.current.at each) front.older)))
      shard

  pub comes_cut : advanced front shard ≡ advanced (cut_front shard.current.layout.bits front) shard
  comes_cut =
      let bits = shard.current.layout.bits in
      ap (λ (entries : List JournalEntry). brought entries (length front.entries)) (sym (cut_twice bits front.entries))
      ∙ ap (brought (cut_history bits (cut_history bits front.entries))) (sym (length-map front.entries (cut_entry bits)))

module _ (bits : ℕ) (front : FrontState) where
  same_position : position_of (cut_front bits front) ≡ position_of front
  same_position = length-map front.entries (cut_entry bits)

  pub known_cut : (live : ℕ → Option ℕ) (history : List JournalEntry) → IsKnown live history front
      → IsKnown live (cut_history bits history) (cut_front bits front)
  known_cut live history known = record {
    begins = ap (cut_history bits) known.begins
        ∙ first_recoded (take bits) (position_of front) history
        ∙ ap (λ (n : ℕ). take n (cut_history bits history)) (sym same_position);
    within = omega (arith, known.within, same_position, length-map history (cut_entry bits));
    older = λ position stands below. known.older position stands (omega (arith, below, same_position));
  }

  pub front_cut : IsFront front → IsFront (cut_front bits front)
  front_cut is = record {
    ascending = is.ascending;
    below = subst (λ (n : ℕ). AllByRecursion (λ position. position < n) front.older) (sym same_position) is.below;
    legal = (legal_recoded (take bits) front.entries).1 is.legal;
  }
