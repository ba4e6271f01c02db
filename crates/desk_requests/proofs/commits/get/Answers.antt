-- The call is a step of a session.
use Rattle.std.proofs.Common.{◌≡◌, refl, ap, ◌∙◌, subst, rules, take, IfSome}
use Rattle.open_queries.specs.Writing.{Writes}
use Rattle.open_session.specs.Moments.{moment_of}
use Rattle.open_session.proofs.Here.{here_of}
use Rattle.hamming_model.specs.Codes.{StandsFor}
use Rattle.part_layout.specs.declared.config.Config.{Config}
use Rattle.session_desk.specs.Desks.{DeskState}
use Rattle.open_session.proofs.DeskLemmas.{builds_learn}
use Rattle.desk_requests.proofs.LookLemmas.{get_step}
use Rattle.desk_requests.proofs.commits.get.Goals as goal

pub write_found-requires : goal.write_found-requires
write_found-requires g c =
    let found = c.code_of-code in
    let same : (g.D.Desk.desk found.new.self).config ≡ c.args.config.now =
    ap (λ (d : DeskState). d.config) found.ensures.learns.after ∙ c.requires.config in (
      search rules,
      (
        c.requires.few_words,
        (
          c.requires.allowed,
          (
            subst (λ (config : Config). IfSome found.result.0
                (λ code. StandsFor g.row.W config.bits code (take config.bits code))) same found.ensures.stands,
            c.clear.ensures,
          ),
        ),
      ),
    )

pub returns-clause-answers : goal.returns-clause-answers
returns-clause-answers g c = λ reads upkeep line asked history s stands.
    let held = g.K.Sink.held in
    let found = c.code_of-code in
    let p = here_of c.args.config.now (moment_of (g.D.Desk.desk c.args.desk.now) c.args.session.now reads upkeep)
    (held c.args.sink.now) line history s stands in
    get_step p (held c.send.new.sink) c.send.result _ refl refl refl refl c.args.key asked found.ensures.learns
    found.ensures.length found.result.0 found.ensures.code
    (subst (Writes (held c.args.sink.now) (held c.send.new.sink) c.send.result) c.write_found.ensures
    c.send.ensures.written)

pub returns-clause-builds : goal.returns-clause-builds
returns-clause-builds g c =
    builds_learn (g.D.Desk.desk c.args.desk.now) (g.D.Desk.desk c.code_of-code.new.self) c.code_of-code.ensures.learns
