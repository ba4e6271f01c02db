-- Lemmas on what a commit keeps: what the desk is, and the builds that are of it.
use Rattle.std.proofs.Common.{◌≡◌, ℕ, ap, inl, inr}
use Rattle.hamming_model.specs.History.{Operation}
use Rattle.part_layout.specs.declared.config.Config.{Config}
use Rattle.query_protocol.specs.Replies.{LineReply}
use Rattle.session_desk.specs.Desks.{DeskState}
use Rattle.desk_requests.specs.Commits.{CommitsAs}
use Rattle.open_session.specs.KeptBuild.{KeepsBuilds}
use Rattle.shard_rebuild.proofs.BuildLemmas.{build_lasts, commits_more}
use Rattle.open_session.proofs.DeskLemmas.{IsHere, here_same, here_learns, builds_learn}

pub here_commits : (config : Config) (old new : DeskState) (before position key : ℕ) (operation : Operation)
    (this : LineReply) → CommitsAs old new before position key operation this → old.config ≡ config
    → IsHere config new
here_commits config old new before position key operation this (inl decides) = here_same config old new
    (ap (λ (d : DeskState). d.config) decides.commits.after)
here_commits config old new before position key operation this (inr no_memory) =
    here_learns config old new no_memory.learns

pub builds_commit : (old new : DeskState) (before position key : ℕ) (operation : Operation) (this : LineReply)
    → CommitsAs old new before position key operation this → KeepsBuilds old new
builds_commit old new before position key operation this (inl decides) =
    build_lasts old new (commits_more old new operation decides.decided decides.commits)
builds_commit old new before position key operation this (inr no_memory) = builds_learn old new no_memory.learns
