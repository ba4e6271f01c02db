-- What opening a source for each shard leaves of the desk.
use Rattle.std.proofs.Common.{◌≡◌, ap, ◌∙◌, subst, take, map, List, None}
use Rattle.std.specs.declared.alloc.Global.{Global}
use Rattle.std.specs.declared.sync.Arc.{Arc}
use Rattle.std.specs.List.{AllByRecursion}
use Rattle.hit_source.specs.Sources.{Asked}
use Rattle.scatter_gather.specs.Gathering.{gathered}
use Rattle.shard_version.specs.Tables.{Tabled}
use Rattle.query_opening.specs.Opening.{is_nearest}
use Rattle.query_opening.specs.Pinning.{contents_of_all}
use Rattle.open_session.specs.Questions.{ask_of}
use Rattle.open_session.specs.Cursors.{asks, stands}
use Rattle.open_session.specs.Pinned.{PinsMore, layouts_in, pinned_in}
use Rattle.query_requests.proofs.OpeningLemmas.{is_gathered, none_opened, on_err, opens_asked}
use Rattle.query_requests.proofs.opening.open_all.Goals as goal

pub returns-in_default-clause-none : goal.returns-in_default-clause-none
returns-in_default-clause-none g c = none_opened c.who-who.ensures.desk c.open_query.ensures.desk
    c.open_query.ensures.comes c.open_query.ensures.upkeep

pub returns-in_default-new-clause-none : goal.returns-in_default-new-clause-none
returns-in_default-new-clause-none g c = none_opened c.who-who.ensures.desk c.open_query.ensures.desk
    c.open_query.ensures.comes c.open_query.ensures.upkeep

pub returns-in_err-add-clause-none : goal.returns-in_err-add-clause-none
returns-in_err-add-clause-none g c = on_err c.from_residual.result _ (none_opened c.who-who.ensures.desk
    c.open_query.ensures.desk c.open_query.ensures.comes c.open_query.ensures.upkeep)

pub returns-clause-opened : goal.returns-clause-opened
returns-clause-opened g c =
    let call = c.open_query in
    let old = g.D.Desk.desk c.args.desk.now in
    let new = g.D.Desk.desk call.new.desk in
    let made = c.in-Ok.opened in
    let sources = made.sources.items in
    let versions = contents_of_all made.versions.items in
    let code = take old.config.bits c.args.code in
    let opens = opens_asked g.row.W old new c.who-who.ensures.desk call.ensures.desk call.ensures.comes made.position versions
    c.in-Ok.ensures.versions (asks {W = g.row.W}) (stands {W = g.row.W}) sources made.rows c.args.question c.args.code
    c.wanted-wanted.result (c.wanted-wanted.ensures code) c.args.room c.args.upkeep.now call.new.steps c.in-Ok.ensures.on
    c.in-Ok.ensures.opened.rows_are c.in-Ok.ensures.spent in
    record {
      layouts = layouts_in versions;
      gathered = is_gathered g.row.W old new sources (layouts_in versions) made.position made.rows (ask_of c.args.question code)
          c.args.room c.args.upkeep.now call.new.steps c.who-who.ensures.desk opens c.in-Ok-new.gather
          (c.in-Ok-new.ensures ∙ ap (λ n. gathered sources n 0 None) (c.limit.ensures code))
          c.in-Ok.ensures.fresh c.in-Ok.ensures.one_length
          (subst (λ w. AllByRecursion (λ (a : Asked). a.near ≡ is_nearest w) (map (asks {W = g.row.W}) sources))
          (c.wanted-wanted.ensures code)
          c.in-Ok.ensures.one_kind);
      pinned = subst (PinsMore (pinned_in c.args.pinned.now) (pinned_in c.add.new.self))
          (ap (λ (versions : List (Arc Tabled Global)). layouts_in (contents_of_all versions)) c.deref.ensures.value)
          c.in_ok-add.ensures.added;
    }
