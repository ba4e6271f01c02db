-- What the calls of a desk that is alone do with the shard that they find at its place.
use Rattle.std.proofs.Common.{◌≡◌, ℕ, ◌<◌, max, List, get_or, set, Some, None, sym, ap, subst, ◌∙◌, arith}
use Rattle.hamming_model.specs.Recoded.{AreStoredEntries}
use Rattle.part_layout.specs.Text.{layout_text}
use Rattle.shard_version.specs.Contents.{Contents}
use Rattle.commit_journal.specs.Fronts.{FrontState, position_of}
use Rattle.commit_journal.specs.Journals.{IsLive, KnowsFront}
use Rattle.versioned_shard.specs.Rule.{KeepsJournalRule}
use Rattle.versioned_shard.specs.Shards.{ShardState}
use Rattle.session_desk.specs.Calls.{Comes, PinsVersion, TellsLayout}
use Rattle.session_desk.specs.Desks.{IsOwnFront, Pin}
use Rattle.session_desk.specs.Solos.{ComesTo, GivesVersion, IsShardOf, IsSoloDesk, SoloState, desk_of, solo_of}
use Rattle.session_desk.proofs.SoloLemmas.{came, shard_found, shard_of, solo_came, solo_pinned, solo_pins, solo_tells}

module _ (words : ℕ) (s now : SoloState) (solo : IsSoloDesk words s) (is : s ≡ now) (number : ℕ) (low : number < now.config.shards)
    (found : ShardState) (at : found ≡ get_or s.shards number found) where
  low_here : number < s.config.shards
  low_here = subst (λ (t : SoloState). number < t.config.shards) (sym is) low

  here : found ≡ shard_of s number
  here = shard_found words s number found found solo low_here at

  pub found_own : IsShardOf s.config s.journal number found (get_or s.pins number None)
  found_own = subst (λ (shard : ShardState). IsShardOf s.config s.journal number shard (get_or s.pins number None)) (sym here) (solo.each number low_here)

  -- what pinning it needs
  pub pin_needs : (front : FrontState) → IsOwnFront (desk_of now) front → KnowsFront now.journal front
      → KeepsJournalRule s.journal found × (AreStoredEntries words found.current.layout.bits s.journal.history
      × (IsLive s.journal front × KnowsFront s.journal front))
  pin_needs front own known = (
    found_own.rule,
    (
      subst (λ (bits : ℕ). AreStoredEntries words bits s.journal.history) (sym found_own.bits_are) solo.codes,
      (subst (λ (t : SoloState). IsOwnFront (desk_of t) front) (sym is) own, subst (λ (t : SoloState). KnowsFront t.journal front) (sym is) known),
    ),
  )

  module _ (new : ShardState) (position : ℕ) (comes : ComesTo s.journal position found new) where
    comes_here : ComesTo s.journal position (shard_of s number) new
    comes_here = subst (λ (shard : ShardState). ComesTo s.journal position shard new) here comes

    -- it came, without a version
    pub now_came : IsSoloDesk words (solo_of s.config s.journal s.last (set s.shards number new) s.pins s.done s.late)
    now_came = solo_came words s solo number low_here new position comes_here

    pub now_comes : Comes (desk_of now) (desk_of (solo_of s.config s.journal s.last (set s.shards number new) s.pins s.done s.late)) number now.pins
    now_comes = subst (λ (t : SoloState). Comes (desk_of t)
        (desk_of (solo_of s.config s.journal s.last (set s.shards number new) s.pins s.done s.late)) number t.pins) is
        (came words s solo number low_here new position comes_here s.pins)

    -- and with one
    module _ (at_reached : new.current.at ≡ max found.current.at position) where
      reached_here : new.current.at ≡ max (shard_of s number).current.at position
      reached_here = at_reached ∙ ap (λ (shard : ShardState). max shard.current.at position) here

      pub now_pinned : (pin : Pin) → pin.0 ≡ position
          → IsSoloDesk words (solo_of s.config s.journal s.last (set s.shards number new) (set s.pins number (Some pin)) s.done s.late)
      now_pinned pin stands = solo_pinned words s solo number low_here new position comes_here pin (omega (arith, reached_here, stands))

      pub now_pins : (version : Contents) → GivesVersion s.journal.history position new version → (front : FrontState) (pin : Pin) → position_of front
          ≡ position
          → pin ≡ (position_of front, layout_text version.layout.parts)
          → PinsVersion (desk_of now) (desk_of (solo_of s.config s.journal s.last (set s.shards number new)
          (set s.pins number (Some pin)) s.done s.late)) front number version
      now_pins version gives front pin stands pin_is =
          subst (λ (t : SoloState). PinsVersion (desk_of t)
          (desk_of (solo_of s.config s.journal s.last (set s.shards number new) (set s.pins number (Some pin)) s.done s.late)) front number version) is
          (solo_pins words s solo number low_here new position comes_here version gives front pin stands pin_is reached_here)

  -- the text of its layout
  pub now_tells : (text : List ℕ) → text ≡ layout_text found.current.layout.parts → TellsLayout (desk_of now) (desk_of now) number text
  now_tells text is_text = subst (λ (t : SoloState). TellsLayout (desk_of t) (desk_of t) number text) is
      (solo_tells words s solo number low_here text (is_text ∙ ap (λ (shard : ShardState). layout_text shard.current.layout.parts) here))
