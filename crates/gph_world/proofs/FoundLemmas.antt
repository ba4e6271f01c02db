-- A query that a call looks up twice: to judge of it, and then to change it.
use Rattle.std.proofs.Common.{◌≡◌, ℕ, ◌<◌, ◌≤◌, false, List, length, get_or, Some, sym, ap, subst, ◌∙◌}
use Rattle.std.specs.Prelude.{Ok, slice_set}
use Rattle.commit_journal.specs.Journals.{IsJournal, JournalState}
use Rattle.scatter_gather.specs.Gathering.{Gathered}
use Rattle.world_model.specs.declared.told.Told.{Told}
use Rattle.world_model.specs.Events.{Give, Poll}
use Rattle.world_model.specs.WorldStep.{WorldStep}
use Rattle.world_parts.specs.Gathers.{GivesHeld, HasSources, PollsHeld}
use Rattle.world_parts.specs.Sources.{QuerySource}
use Rattle.world_parts.specs.declared.held.Held.{Held}
use Rattle.world_parts.specs.declared.place.Place.{Place}
use Rattle.world_parts.proofs.ListLemmas.{found_there, two_found}
use Rattle.gph_world.specs.Kept.{KeepsWorld}
use Rattle.gph_world.specs.Rising.{RiseByReads}
use Rattle.gph_world.specs.Seen.{setting_seen, state_seen}
use Rattle.gph_world.proofs.GatherLemmas.{HaveFewRows, has_sources}
use Rattle.gph_world.proofs.GiveLemmas.{give_keeps, give_step}
use Rattle.gph_world.proofs.PollLemmas.{poll_keeps, poll_rises, poll_step}

module _ {W : ℕ} (bits room : ℕ) (journal : JournalState) (places : List (Place W)) (queries : List (Held W))
    (keeps : KeepsWorld bits room journal places queries) (number : ℕ) (first held : Held W) (low : number < length queries)
    (found : first ≡ get_or queries number first) (again : held ≡ get_or queries number held) where
  same : held ≡ first
  same = sym (two_found queries number first held low found again)

  still : first.cancelled ≡ false → held.cancelled ≡ false
  still goes_on = ap (λ (each : Held W). each.cancelled) same ∙ goes_on

  -- it has the sources that were seen
  pub found_sources : first.cancelled ≡ false → (g : Gathered (QuerySource W)) → first.gather ≡ Some g → (shards : ℕ) → length places ≡ shards
      → HasSources held shards
  found_sources goes_on g is shards count =
      let there = found_there queries number held low again in
      subst (HasSources held) count (has_sources bits room journal places queries keeps number held there g
      (sym ((keeps.held number held there).whole (still goes_on)).gather ∙ ap (λ (each : Held W). each.gather) same ∙ is) (still goes_on))

  module _ (goes_on : first.cancelled ≡ false) (whole : IsJournal journal) (few : HaveFewRows) (new : Held W) (said : Told) where
    -- it gives its next hit
    pub found_gives_keeps : GivesHeld held new said → KeepsWorld bits room journal places (slice_set queries number new)
    found_gives_keeps gives = give_keeps bits room journal places queries keeps number held (found_there queries number held low again) whole few new
        said gives (still goes_on)

    pub found_gives_step : GivesHeld held new said → WorldStep (setting_seen bits room journal places) (state_seen bits journal places queries)
        (Give number) (Ok said) (state_seen bits journal places (slice_set queries number new))
    found_gives_step gives = give_step bits room journal places queries keeps number held (found_there queries number held low again) whole few new
        said gives (still goes_on)

    -- one of its sources is polled
    module _ (shard budget : ℕ) (below : shard < length places) (some : 1 ≤ budget) (from to : List ℕ)
        (polls : PollsHeld budget shard held new from to said) where
      pub found_polls_keeps : KeepsWorld bits room journal places (slice_set queries number new)
      found_polls_keeps = poll_keeps bits room journal places queries keeps number held (found_there queries number held low again) whole few shard
          budget below some new from to said polls (still goes_on)

      pub found_polls_step : WorldStep (setting_seen bits room journal places) (state_seen bits journal places queries)
          (Poll number shard budget) (Ok said) (state_seen bits journal places (slice_set queries number new))
      found_polls_step = poll_step bits room journal places queries keeps number held (found_there queries number held low again) whole few shard
          budget below some new from to said polls (still goes_on)

      pub found_polls_rise : RiseByReads (state_seen bits journal places queries) (state_seen bits journal places (slice_set queries number new)) from
          to
      found_polls_rise = poll_rises bits room journal places queries keeps number held (found_there queries number held low again) whole few shard
          budget below some new from to said polls (still goes_on)
