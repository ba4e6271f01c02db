-- A session begins with nothing answered, and ends as it was served.
use Rattle.std.proofs.Common.{◌≡◌, sym, ap, ◌∙◌, map, subst, rules}
use Rattle.session_desk.specs.Desks.{DeskState, IsDesk}
use Rattle.gph_session.specs.declared.report.Status.TheVariants as status
use Rattle.layout_search.specs.Improves.{AreSamples}
use Rattle.open_session.specs.KeptBuild.{IsBuildOfDesk}
use Rattle.open_session.specs.Meaning.{HaveShards}
use Rattle.open_session.specs.Moments.{moment_of}
use Rattle.open_session.specs.Pinned.{told_layout}
use Rattle.gph_session.proofs.BegunLemmas.{begun_session, ended_as, is_ready, new_of, no_samples}
use Rattle.gph_session.proofs.session_call.session.Goals as goal

pub serve-status-requires-after_bounds : goal.serve-status-requires-after_bounds
serve-status-requires-after_bounds g c κs within =
    let desk = g.D.Desk.desk in
    let now = desk c.length-position.new.self in
    let session = c.in-Ok-Ok.session in
    let is : IsDesk g.row.W now = c.who-who.ensures.desk in
    let config : now.config ≡ c.args.config.now =
    ap (λ (d : DeskState). d.config) c.length-position.ensures.learns.after ∙ c.requires.config in
    let made = c.new_session-begun.ensures in
    let new = new_of c.length-position.result c.in-Ok-Ok.is-0 made.queries made.opened made.told made.samples made.build
    made.cutter made.requests made.position in (
      search rules,
      (
        c.requires.sync,
        (
          is_ready g.row.W c.args.config.now now is config,
          (
            config,
            (
              subst (HaveShards {W = g.row.W} c.args.config.now.shards) (sym new.queries) tt,
              (
                subst (AreSamples c.args.config.now.bits) (sym new.samples) (no_samples g.row.W c.args.config.now.bits),
                (
                  subst (IsBuildOfDesk now) (sym new.build) tt,
                  (
                    search rules,
                    begun_session g.row.W c.args.config.now (moment_of now session c.args.meters.now c.args.upkeep.now) session.cutter.held is
                        config new.queries new.opened (ap (map told_layout) new.told) new.samples new.build new.requests
                        (new.position ∙ c.length-position.ensures.length) new.cutter,
                  ),
                ),
              ),
            ),
          ),
        ),
      ),
    )

pub returns-clause-done : goal.returns-clause-done
returns-clause-done g c = λ is.
    ended_as c.args.config.now (g.D.Desk.desk c.args.desk.now) _ _ _ c.length-position.ensures.learns c.serve-status.result
    status.Done is _ c.serve-status.ensures

pub returns-clause-read_fault : goal.returns-clause-read_fault
returns-clause-read_fault g c = λ is.
    ended_as c.args.config.now (g.D.Desk.desk c.args.desk.now) _ _ _ c.length-position.ensures.learns c.serve-status.result
    status.ReadFault is _ c.serve-status.ensures

pub returns-clause-write_fault : goal.returns-clause-write_fault
returns-clause-write_fault g c = λ is.
    ended_as c.args.config.now (g.D.Desk.desk c.args.desk.now) _ _ _ c.length-position.ensures.learns c.serve-status.result
    status.WriteFault is _ c.serve-status.ensures

pub returns-clause-input_limit : goal.returns-clause-input_limit
returns-clause-input_limit g c = λ is.
    ended_as c.args.config.now (g.D.Desk.desk c.args.desk.now) _ _ _ c.length-position.ensures.learns c.serve-status.result
    status.InputLimit is _ c.serve-status.ensures
