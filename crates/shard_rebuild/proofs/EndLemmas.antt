-- A desk whose front was closed, to which a build came or not, and that may then have swapped it in.
use Rattle.std.proofs.Common.{◌≡◌, ℕ, sym, ap, ◌∙◌}
use Rattle.version_draft.specs.Unfinished.{Unfinished}
use Rattle.commit_journal.specs.Fronts.{FrontState, Live, live_at, position_of}
use Rattle.session_desk.specs.Calls.{ClosesFront, KeepsKnown, OpensFront}
use Rattle.session_desk.specs.Desks.{DeskState, IsDesk}
use Rattle.query_opening.specs.Pinning.{ComesOn}
use Rattle.query_opening.proofs.CloseLemmas.{known_through}
use Rattle.shard_rebuild.specs.Fronting.{MeetsAt, SwapsAs}
use Rattle.shard_rebuild.specs.ShardBuilds.{IsBuildOf, KeepsOtherPins}
use Rattle.shard_rebuild.specs.Swapping.{BuildGoesOn, ComesByFront, FindsMoved, LacksMemory, SwapsIn, IfMoved, IfNoMemory, IfSwapped}
use Rattle.shard_rebuild.specs.declared.answer.SwapAnswer.{SwapAnswer}
use Rattle.shard_rebuild.specs.declared.answer.SwapAnswer.TheVariants.{Swapped, Moved, NoMemory}
use Rattle.shard_rebuild.proofs.BuildLemmas.{low_shard}
use Rattle.shard_rebuild.proofs.FrontLemmas.{closed, closed_at, closed_comes, closed_goes_on, closed_others}
use Rattle.shard_rebuild.proofs.SwapLemmas.{answer_memory, answer_moved, answer_others, answer_swapped}

-- a swap leaves the live fronts as they are
pub swap_fronts : {W : ℕ} (mid new : DeskState) (shard position : ℕ) (build : Unfinished) (answer : SwapAnswer W)
    → SwapsAs mid new shard build position answer → new.fronts ≡ mid.fronts
swap_fronts mid new shard position build (Swapped at) is = ap (λ (d : DeskState). d.fronts) is.1.after
swap_fronts mid new shard position build (Moved front shard_at back) is = ap (λ (d : DeskState). d.fronts) is.1.1.1.after
swap_fronts mid new shard position build (NoMemory back) is = ap (λ (d : DeskState). d.fronts) is.0

module _ (old start mid shut : DeskState) (front : FrontState) (opens : OpensFront old start front) (comes : ComesOn start mid)
    (closes : ClosesFront mid shut front) (shard : ℕ) (before build : Unfinished) (goes_on : BuildGoesOn mid shard before build) where
  -- there was no memory
  pub end_without : LacksMemory old shut shard before build
  end_without = record {
    comes = closed old start mid shut front opens comes closes;
    goes_on = closed_goes_on old start mid shut front opens comes closes shard before build goes_on;
  }

  -- the build came to the front
  module _ {W : ℕ} (new : DeskState) (position : ℕ) (here : position ≡ position_of front) (meets : MeetsAt mid (position_of front) shard build)
      (same : mid.last ≡ start.last) (answer : SwapAnswer W) (is : SwapsAs shut new shard build position answer) where
    end_comes : ComesByFront old shut shard position
    end_comes = closed_comes old start mid shut front opens comes closes shard position build here meets same

    end_at : build.contents.at ≡ position
    end_at = closed_at old start mid shut front opens comes closes shard position build here meets

    end_goes_on : BuildGoesOn shut shard before build
    end_goes_on = closed_goes_on old start mid shut front opens comes closes shard before build goes_on

    pub end_swapped : (words : ℕ) → IsDesk words old → IsDesk words shut → IsBuildOf old shard before
        → IfSwapped answer (λ at. SwapsIn old new shard before at)
    end_swapped words desk_old desk_shut made =
        answer_swapped words old shut new shard position before build end_comes end_at end_goes_on desk_old desk_shut
        (low_shard old shard before made) answer is

    pub end_moved : (words : ℕ) → IfMoved answer (λ front shard_at back. FindsMoved old new shard before front shard_at back)
    end_moved words = answer_moved words old shut new shard position before build end_comes end_at end_goes_on answer is

    pub end_memory : (words : ℕ) → IfNoMemory answer (λ back. LacksMemory old new shard before back)
    end_memory words = answer_memory words old shut new shard position before build end_comes end_at end_goes_on answer is

    pub end_others : (words : ℕ) → KeepsOtherPins start mid shard → KeepsOtherPins old new shard
    end_others words others =
        answer_others words old shut new shard position before build end_comes end_at end_goes_on
        (closed_others old start mid shut front opens comes closes shard others) answer is

    pub end_known : (first opened came last after : FrontState → Type 0) → KeepsKnown start first opened → KeepsKnown mid opened came
        → KeepsKnown shut came last → KeepsKnown new last after → KeepsKnown new first after
    end_known first opened came last after at_start at_mid at_shut at_new = λ other own known.
        at_new other own (known_through old start mid shut front opens comes closes first opened came last at_start at_mid at_shut other
        (ap (λ (live : Live). live_at live other.id) (sym (swap_fronts shut new shard position build answer is)) ∙ own) known)
