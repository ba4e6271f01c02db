-- Lemmas on what a request on builds keeps: what the desk is, and that the build in memory is of one of its shards.
use Rattle.std.proofs.Common.{◌≡◌, ◌<◌, ℕ, sym, ap, subst, inl, inr, arith}
use Rattle.part_layout.specs.Laid.{Laid}
use Rattle.part_layout.specs.declared.config.Config.{Config}
use Rattle.query_protocol.specs.Replies.{LineReply}
use Rattle.query_opening.specs.Pinning.{ComesOn}
use Rattle.session_desk.specs.Desks.{DeskState}
use Rattle.open_session.specs.KeptBuild.{IsBuildOfDesk}
use Rattle.open_session.specs.Moments.{Moment}
use Rattle.build_requests.specs.Rebuilding.{PlacesAs, StartsAs}
use Rattle.build_requests.specs.SwappingIn.{SwapsInAs}
use Rattle.open_session.proofs.DeskLemmas.{IsHere, here_same}

came_here : (config : Config) (old new : DeskState) → ComesOn old new → old.config ≡ config → IsHere config new
came_here config old new comes = here_same config old new comes.config

same_here : {W : ℕ} (config : Config) (old new : Moment W) → new ≡ old → old.desk.config ≡ config
    → IsHere config new.desk
same_here {W} config old new same = here_same config old.desk new.desk
    (ap (λ (m : Moment W). m.desk.config) same)

same_build : {W : ℕ} (old new : Moment W) → new ≡ old → IsBuildOfDesk old.desk old.build → IsBuildOfDesk new.desk new.build
same_build old new same has = subst (λ m. IsBuildOfDesk m.desk m.build) (sym same) has

module _ {W : ℕ} (old new : Moment W) (shard : ℕ) (layout : Laid) (this : LineReply) where
  pub starts_here : StartsAs W old new shard layout this → (config : Config) → old.desk.config ≡ config
      → IsHere config new.desk
  starts_here (inl other) config = same_here config old new other.2.same
  starts_here (inr (inl had)) config = came_here config old.desk new.desk had.comes
  starts_here (inr (inr has)) config = came_here config old.desk new.desk has.comes

  pub starts_build : StartsAs W old new shard layout this → shard < old.desk.config.shards
      → IsBuildOfDesk old.desk old.build → IsBuildOfDesk new.desk new.build
  starts_build (inl other) lt has = same_build old new other.2.same has
  starts_build (inr (inl had)) lt has = subst (IsBuildOfDesk new.desk) (sym had.build) tt
  starts_build (inr (inr started)) lt has = subst (IsBuildOfDesk new.desk) (sym started.kept) (record {
    inside = omega (arith, lt, ap (λ (c : Config). c.shards) started.comes.config);
    of_shard = started.of_shard;
  })

module _ {W : ℕ} (old new : Moment W) (number : ℕ) (this : LineReply) where
  pub places_build : PlacesAs W old new number this → IsBuildOfDesk old.desk old.build → IsBuildOfDesk new.desk new.build
  places_build (inl none) has = same_build old new none.1.same has
  places_build (inr placed) has =
      let was = subst (IsBuildOfDesk old.desk) placed.was has in
      subst (λ m. IsBuildOfDesk m.desk m.build) (sym placed.after)
      (record { inside = was.inside; of_shard = was.of_shard })

module _ {W : ℕ} (old new : Moment W) (this : LineReply) where
  pub swaps_here : SwapsInAs W old new this → (config : Config) → old.desk.config ≡ config
      → IsHere config new.desk
  swaps_here (inl none) config = same_here config old new none.1.same
  swaps_here (inr (inl had)) config = same_here config old new had.same
  swaps_here (inr (inr (inl has))) config = came_here config old.desk new.desk has.lacks.comes
  swaps_here (inr (inr (inr (inl has)))) config = here_same config old.desk new.desk has.finds.comes.comes.config
  swaps_here (inr (inr (inr (inr has)))) config = here_same config old.desk new.desk has.swaps.comes.comes.config

  pub swaps_build : SwapsInAs W old new this → IsBuildOfDesk old.desk old.build → IsBuildOfDesk new.desk new.build
  swaps_build (inl none) has = same_build old new none.1.same has
  swaps_build (inr (inl had)) has = same_build old new had.same has
  swaps_build (inr (inr (inl lacked))) has =
      let was = subst (IsBuildOfDesk old.desk) lacked.had.was has in
      subst (IsBuildOfDesk new.desk) (sym lacked.kept) (record {
        inside = omega (arith, was.inside, ap (λ (c : Config). c.shards) lacked.lacks.comes.config);
        of_shard = lacked.lacks.goes_on.of_shard;
      })
  swaps_build (inr (inr (inr (inl moved)))) has =
      let was = subst (IsBuildOfDesk old.desk) moved.had.was has in
      subst (IsBuildOfDesk new.desk) (sym moved.kept) (record {
        inside = omega (arith, was.inside, ap (λ (c : Config). c.shards) moved.finds.comes.comes.config);
        of_shard = moved.finds.goes_on.of_shard;
      })
  swaps_build (inr (inr (inr (inr swapped)))) has = subst (IsBuildOfDesk new.desk) (sym swapped.gone) tt
