-- A build that follows to a front at which its shard is pinned.
use Rattle.std.proofs.Common.{◌≡◌, ℕ, ◌<◌, List, length, ap, subst, sym, ◌∙◌, arith}
use Rattle.hamming_model.specs.History.{JournalEntry}
use Rattle.hamming_model.specs.Recoded.{AreStoredEntries}
use Rattle.shard_version.specs.Contents.{Contents, IsVersion}
use Rattle.version_draft.specs.Unfinished.{Unfinished}
use Rattle.commit_journal.specs.Fronts.{FrontState, position_of}
use Rattle.versioned_shard.specs.Along.{Follows}
use Rattle.repartitioner.specs.Builds.{followed}
use Rattle.session_desk.specs.Calls.{PinsVersion}
use Rattle.session_desk.specs.Desks.{DeskState, IsDesk}
use Rattle.query_opening.specs.Pinning.{ComesOn}
use Rattle.shard_rebuild.specs.Fronting.{MeetsAt}
use Rattle.shard_rebuild.specs.ShardBuilds.{IsBuildOf, KeepsOtherPins}
use Rattle.shard_rebuild.specs.Swapping.{BuildGoesOn}
use Rattle.shard_rebuild.proofs.BuildLemmas.{build_follows, followed_at, goes_on_followed, low_shard}
use Rattle.shard_rebuild.proofs.FrontLemmas.{came_pinned, meets_there, pinned_goes_on, pinned_others}

module _ (old : DeskState) (front : FrontState) (shard : ℕ) (before : Unfinished) (entries : front.entries ≡ old.seen)
    (made : IsBuildOf old shard before) where
  -- the front has what the build follows
  pub front_follows : Follows front.entries before.contents
  front_follows = subst (λ (seen : List JournalEntry). Follows seen before.contents) (sym entries) (build_follows old shard before made)

  pub front_codes : (words : ℕ) → IsDesk words old → AreStoredEntries words before.contents.layout.bits front.entries
  front_codes words desk = subst (AreStoredEntries words before.contents.layout.bits) (sym entries)
      (subst (λ (bits : ℕ). AreStoredEntries words bits old.seen) (sym made.version_is.bits_are) desk.codes)

  -- the shard is pinned there
  module _ (new : DeskState) (version : Contents) (pins : PinsVersion old new front shard version) (words : ℕ) (desk : IsDesk words old) where
    low : shard < old.config.shards
    low = low_shard old shard before made

    low_pins : shard < length old.pins
    low_pins = omega (arith, low, desk.pins)

    pub follow_meets : (build : Unfinished) → build ≡ followed front before → MeetsAt new (position_of front) shard build
    follow_meets build is = meets_there old new front shard version pins (ap length entries) low_pins words build desk low
        (ap (λ (each : Unfinished). each.contents.at) is ∙ followed_at old shard front before entries)

    pub follow_goes_on : (build : Unfinished) → IsVersion build.contents → build ≡ followed front before → BuildGoesOn new shard before build
    follow_goes_on build sound is = pinned_goes_on old new front shard version pins (ap length entries) low_pins before build
        (goes_on_followed old shard front before build entries sound made is)

    pub follow_comes : ComesOn old new
    follow_comes = came_pinned old new front shard version pins (ap length entries) low_pins

    pub follow_others : KeepsOtherPins old new shard
    follow_others = pinned_others old new front shard version pins (ap length entries) low_pins
