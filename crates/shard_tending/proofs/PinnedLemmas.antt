-- A desk that opened a front, pinned one shard at it, and closed it.
use Rattle.std.proofs.Common.{◌≡◌, ℕ, ◌≤◌, length, get_or, None, sym, ap, subst, ◌∙◌, arith}
use Rattle.shard_version.specs.Contents.{Contents}
use Rattle.commit_journal.specs.Fronts.{FrontState, position_of}
use Rattle.session_desk.specs.Calls.{ClosesFront, OpensFront}
use Rattle.session_desk.specs.Desks.{DeskState, pinned_at, place_at}
use Rattle.query_opening.specs.Pinning.{ComesOn, IsPinnedShard}
use Rattle.shard_rebuild.proofs.BuildLemmas.{version_lasts}
use Rattle.shard_rebuild.proofs.FrontLemmas.{closed_more, front_after, front_seen, front_within}
use Rattle.shard_tending.specs.Turns.{PinsShard}

module _ (old start mid new : DeskState) (front : FrontState) (opens : OpensFront old start front) (comes : ComesOn start mid)
    (closes : ClosesFront mid new front) (shard : ℕ) (version : Contents) where
  through : IsPinnedShard start mid (position_of front) shard version → IsPinnedShard old new (position_of front) shard version
  through is = record {
    version_is = version_lasts mid new (closed_more old start mid new front opens comes closes) shard (position_of front) version
        (front_within old start mid new front opens comes closes) is.version_is;
    pin = ap (λ (d : DeskState). get_or d.pins shard None) closes.after ∙ is.pin;
    layout = λ alone.
        is.layout (ap (λ (d : DeskState). d.alone) opens.after ∙ alone) ∙ ap (λ (d : DeskState). (place_at d shard).1) opens.after;
  }

  pub pins_shard : IsPinnedShard start mid (position_of front) shard version → PinsShard old new shard version
  pins_shard is = record {
    pinned = subst (λ (n : ℕ). IsPinnedShard old new n shard version) (sym is.version_is.at) (through is);
    after = omega (arith, is.version_is.at, front_after old start mid new front opens comes closes);
    within = omega (arith, is.version_is.at, front_seen old start mid new front opens comes closes);
  }
