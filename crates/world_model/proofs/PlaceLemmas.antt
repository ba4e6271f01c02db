-- A shard keeps its rule where it advances, where its build goes on, and where it takes the build's layout.
use Rattle.std.proofs.Common.{◌≡◌, ℕ, ◌-◌, ◌≤◌, List, [], ◌∷◌, length, take, refl, sym, ap, ◌∙◌, subst, ⊎_elim, arith}
use Rattle.std.specs.Prelude.{nat_lt, Some, None}
use Rattle.std.specs.List.{IsAmong}
use Rattle.std.proofs.lemmas.Bool.{cond_both}
use Rattle.std.proofs.Math.Seq.{take-length}
use Rattle.std.proofs.lemmas.List.{length-take-le}
use Rattle.std.proofs.lemmas.List.Elements.{All-from_recursion}
use Rattle.hamming_model.specs.History.{JournalEntry, Operation, Add, Delete}
use Rattle.hamming_model.specs.Recoded.{cut_history, cut_operation}
use Rattle.hamming_model.specs.Stored.{AddsCode, AreCodes}
use Rattle.part_layout.specs.Laid.{Laid}
use Rattle.shard_version.specs.Contents.{Contents, empty_of}
use Rattle.shard_version.specs.Prefixes.{prefix_of}
use Rattle.commit_journal.specs.Fronts.{FrontState, StandsAt, position_of}
use Rattle.versioned_shard.specs.Along.{version_at}
use Rattle.versioned_shard.specs.Rule.{IsKeptVersion}
use Rattle.versioned_shard.specs.Shards.{HasVersion, IsOneOf, advanced, further, shard_with, with_layout}
use Rattle.versioned_shard.proofs.AlongLemmas.{follows_relaid, position_is, version_follows}
use Rattle.versioned_shard.proofs.RuleLemmas.{advances, given_is, has_there, rule_begins, rule_swapped}
use Rattle.world_model.specs.Events.{Setting, IsLayoutFor}
use Rattle.world_model.specs.WorldState.{ShardWithBuild, WorldQuery, Rebuild, front_on, live_fronts, pinned_version}
use Rattle.world_model.specs.Sound.{IsBuild, IsShardVersion, KeepsShard, KeepsOlder}

-- codes of so many bits stay as they are where they are cut to these
cut_same : (bits : ℕ) (operation : Operation) → AddsCode bits operation → cut_operation bits operation ≡ operation
cut_same bits (Add key code) adds = ap (Add key) (ap (λ n. take n code) (sym adds.size) ∙ take-length code)
cut_same bits (Delete key) adds = refl

pub cut_is_same : (bits : ℕ) (history : List JournalEntry) → AreCodes bits history → cut_history bits history ≡ history
cut_is_same bits [] codes = refl
cut_is_same bits (entry ∷ history) codes =
    ap (λ (operation : Operation). let one : JournalEntry = record { who = entry.who; operation = operation } in one ∷ cut_history bits history)
    (cut_same bits entry.operation codes.0)
    ∙ ap (λ (more : List JournalEntry). entry ∷ more) (cut_is_same bits history codes.1)

-- the place at the beginning
pub empty_is_place : (z : Setting) (layout : Laid) (shard : ℕ) → IsLayoutFor z.bits layout
    → KeepsShard z [] [] shard (record { shard = shard_with (empty_of shard z.shards layout) []; build = None })
empty_is_place z layout shard laid = record {
  rule = rule_begins (live_fronts []) [] shard z.shards layout laid.laid;
  of_shard = record { shard_is = refl; shards_is = refl; layout = laid };
  build = tt;
}

module _ (z : Setting) (history : List JournalEntry) (queries : List WorldQuery) (shard : ℕ) (place : ShardWithBuild)
    (is : KeepsShard z history queries shard place) where
  -- ---- advances
  module _ (query : WorldQuery) (older : List ℕ) (keeps : KeepsOlder history queries query older) where
    abbrev front : FrontState
    front = front_on history query older

    still_of_shard : IsShardVersion z shard (advanced front place.shard).current
    still_of_shard = cond_both (nat_lt place.shard.current.at (position_of front)) (further front place.shard) place.shard
        (λ after. IsShardVersion z shard after.current)
        (λ behind. record { shard_is = is.of_shard.shard_is; shards_is = is.of_shard.shards_is; layout = is.of_shard.layout })
        (λ there. is.of_shard)

    -- the shard that was brought to a front
    pub place_advances : KeepsShard z history queries shard (record place { shard = advanced front place.shard })
    place_advances = record {
      rule = advances (live_fronts queries) history place.shard front is.rule keeps.known keeps.front.below;
      of_shard = still_of_shard;
      build = is.build;
    }

    -- it has a version there, where the front is live
    pub version_there : query.position ≤ length history → StandsAt (live_fronts queries) query.position
        → HasVersion (advanced front place.shard) query.position
    version_there within live =
        let same : position_of front ≡ query.position = length-take-le query.position history within in
        subst (HasVersion (advanced front place.shard)) same
        (has_there (live_fronts queries) history place.shard front is.rule (subst (StandsAt (live_fronts queries)) (sym same) live))

  -- ---- versions

  -- each version of the shard is in a layout of the world's bits
  pub one_is_laid : (position : ℕ) (version : Contents) → IsOneOf place.shard position version → IsShardVersion z shard version
  one_is_laid position version one =
      ⊎_elim (λ (current : version ≡ place.shard.current). subst (IsShardVersion z shard) (sym current) is.of_shard)
      (λ (among : IsAmong place.shard.kept version). of_kept (among_kept among)) one.among
    where
      among_kept : IsAmong place.shard.kept version → IsKeptVersion history place.shard.current version
      among_kept among = subst (IsKeptVersion history place.shard.current) (sym among.1.1)
          (All-from_recursion (IsKeptVersion history place.shard.current) place.shard.kept is.rule.kept among.0 version among.1.0)

      of_kept : IsKeptVersion history place.shard.current version → IsShardVersion z shard version
      of_kept kept = record {
        shard_is = kept.shard_is ∙ is.of_shard.shard_is;
        shards_is = kept.shards_is ∙ is.of_shard.shards_is;
        layout = record { laid = kept.laid; bits_are = kept.bits_are ∙ is.of_shard.layout.bits_are };
      }

  -- and has the rows of its prefix
  pub one_is_pinned : (query : WorldQuery) (version : Contents) → AreCodes z.bits history → IsOneOf place.shard query.position version
      → version ≡ pinned_version z history query shard version.layout
  one_is_pinned query version codes one =
      let own = one_is_laid query.position version one in
      given_is (live_fronts queries) history place.shard query.position version is.rule one
      ∙ ap (λ bits. prefix_of version.shard version.shards version.layout (take query.position (cut_history bits history))) own.layout.bits_are
      ∙ ap (λ entries. prefix_of version.shard version.shards version.layout (take query.position entries)) (cut_is_same z.bits history codes)
      ∙ ap (λ number. prefix_of number version.shards version.layout (take query.position history)) own.shard_is
      ∙ ap (λ number. prefix_of shard number version.layout (take query.position history)) own.shards_is

  -- ---- builds

  -- the place with another build
  pub place_with_build : (build : Rebuild) → IsBuild z history shard build → KeepsShard z history queries shard (record place { build = Some build })
  place_with_build build built = record { rule = is.rule; of_shard = is.of_shard; build = built }

  -- a build that begins on the current version
  pub build_begins : (layout : Laid) → IsLayoutFor z.bits layout
      → IsBuild z history shard (record { version = record place.shard.current { layout = layout }; left = length place.shard.current.rows })
  build_begins layout laid = record {
    of_shard = record { shard_is = is.of_shard.shard_is; shards_is = is.of_shard.shards_is; layout = laid };
    within = is.rule.within;
    follows = follows_relaid history place.shard.current layout (laid.bits_are ∙ sym is.of_shard.layout.bits_are) is.rule.current;
    few = omega arith;
  }

  -- the shard in the layout of a build
  pub place_relaid : (layout : Laid) → IsLayoutFor z.bits layout
      → KeepsShard z history queries shard (record { shard = with_layout place.shard layout; build = None })
  place_relaid layout laid = record {
    rule = rule_swapped (live_fronts queries) history place.shard (record place.shard.current { layout = layout }) is.rule laid.laid
        (record {
          shard_is = refl;
          shards_is = refl;
          bits_are = laid.bits_are ∙ sym is.of_shard.layout.bits_are;
          rows_are = λ same. refl;
        })
        refl;
    of_shard = record { shard_is = is.of_shard.shard_is; shards_is = is.of_shard.shards_is; layout = laid };
    build = tt;
  }

module _ (z : Setting) (history : List JournalEntry) (shard : ℕ) (build : Rebuild) (is : IsBuild z history shard build) where
  -- a build that placed some rows
  pub build_placed : (rows : ℕ) → IsBuild z history shard (record { version = build.version; left = build.left - rows })
  build_placed rows = record { of_shard = is.of_shard; within = is.within; follows = is.follows; few = omega (arith, is.few) }

  -- a build that followed the history to its end
  pub build_followed : IsBuild z history shard (record { version = version_at history build.version (length history); left = 0 })
  build_followed = record {
    of_shard = record { shard_is = is.of_shard.shard_is; shards_is = is.of_shard.shards_is; layout = is.of_shard.layout };
    within = omega (arith, position_is build.version history (length history) (omega arith));
    follows = version_follows build.version history (length history) (omega arith);
    few = omega arith;
  }
