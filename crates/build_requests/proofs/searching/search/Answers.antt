-- The call is a step of a session.
use Rattle.std.proofs.Common.{[], ap, ◌∙◌, subst}
use Rattle.part_layout.specs.Laid.{Laid}
use Rattle.part_layout.specs.Text.{layout_text}
use Rattle.query_protocol.specs.Replies.{reply_line}
use Rattle.query_protocol.specs.Replies as reply
use Rattle.open_queries.specs.Writing.{Writes}
use Rattle.open_session.specs.Moments.{moment_of}
use Rattle.open_session.proofs.Here.{here_of}
use Rattle.build_requests.proofs.SearchLemmas.{found_step, lacks_step, searched_builds, searched_here}
use Rattle.build_requests.proofs.searching.search.Goals as goal

pub returns-in_default-clause-answers : goal.returns-in_default-clause-answers
returns-in_default-clause-answers g c = λ reads line asked history s stands.
    let held = g.K.Sink.held in
    let p = here_of c.args.config.now
    (moment_of (g.D.Desk.desk c.args.desk.now) c.args.session.now reads c.args.upkeep.now) (held c.args.sink.now) line
    history s stands in
    lacks_step p (held c.say.new.sink) c.say.result _ c.args.shard c.args.rounds asked (c.in_default.ensures.none reads)
    c.say.ensures.written

pub returns-in_default-clause-config : goal.returns-in_default-clause-config
returns-in_default-clause-config g c = searched_here _ _ c.args.shard (c.in_default.ensures.none []).over c.args.config.now
    c.requires.config

pub returns-in_default-clause-builds : goal.returns-in_default-clause-builds
returns-in_default-clause-builds g c = searched_builds _ _ c.args.shard (c.in_default.ensures.none []).over

pub returns-clause-answers : goal.returns-clause-answers
returns-clause-answers g c = λ reads line asked history s stands.
    let held = g.K.Sink.held in
    let found = c.in-Ok.found in
    let p = here_of c.args.config.now
    (moment_of (g.D.Desk.desk c.args.desk.now) c.args.session.now reads c.args.upkeep.now) (held c.args.sink.now) line
    history s stands in
    found_step p (held c.send.new.sink) c.send.result _ c.args.shard c.args.rounds asked found c.in-Ok.at
    (c.in-Ok.ensures.found reads) c.requires.shard
    (subst (Writes (held c.args.sink.now) (held c.send.new.sink) c.send.result)
    (c.write_searched.ensures
    ∙ ap (λ t. reply_line (reply.Searched c.args.shard found.before found.after found.swaps c.in-Ok.at t))
    (c.text-text.ensures ∙ ap (λ (l : Laid). layout_text l.parts) c.deref.ensures))
    c.send.ensures.written)

pub returns-clause-config : goal.returns-clause-config
returns-clause-config g c = searched_here _ _ c.args.shard (c.in-Ok.ensures.found []).over c.args.config.now
    c.requires.config

pub returns-clause-builds : goal.returns-clause-builds
returns-clause-builds g c = searched_builds _ _ c.args.shard (c.in-Ok.ensures.found []).over
