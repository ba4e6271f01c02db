-- The commit is a step of a session.
use Rattle.std.proofs.Common.{refl, rules}
use Rattle.query_protocol.specs.Replies.{line_of}
use Rattle.open_session.specs.Moments.{moment_of}
use Rattle.open_session.proofs.Here.{here_of}
use Rattle.desk_requests.proofs.CommitLemmas.{delete_step}
use Rattle.hamming_model.specs.History as journal
use Rattle.desk_requests.proofs.CommitFrames.{here_commits, builds_commit}
use Rattle.desk_requests.proofs.commits.delete.Goals as goal

pub commit-reply-requires : goal.commit-reply-requires
commit-reply-requires g c = (search rules, (search rules, tt))

pub returns-clause-answers : goal.returns-clause-answers
returns-clause-answers g c = λ reads upkeep line asked history s stands.
    let held = g.K.Sink.held in
    let p = here_of c.args.config.now (moment_of (g.D.Desk.desk c.args.desk.now) c.args.session.now reads upkeep)
    (held c.args.sink.now) line history s stands in
    delete_step p (held c.say.new.sink) c.say.result _ c.args.key (line_of c.commit-reply.result)
    c.commit-reply.ensures.queries c.commit-reply.ensures.pinned refl c.commit-reply.ensures.samples c.say.ensures.written asked c.commit-reply.ensures.commits

pub returns-clause-config : goal.returns-clause-config
returns-clause-config g c = here_commits c.args.config.now (g.D.Desk.desk c.args.desk.now) (g.D.Desk.desk c.commit-reply.new.desk)
    c.args.session.now.position c.commit-reply.new.session.position c.args.key (journal.Delete c.args.key) (line_of c.commit-reply.result)
    c.commit-reply.ensures.commits c.requires.config

pub returns-clause-builds : goal.returns-clause-builds
returns-clause-builds g c = builds_commit (g.D.Desk.desk c.args.desk.now) (g.D.Desk.desk c.commit-reply.new.desk)
    c.args.session.now.position c.commit-reply.new.session.position c.args.key (journal.Delete c.args.key) (line_of c.commit-reply.result)
    c.commit-reply.ensures.commits
