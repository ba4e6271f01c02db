-- The sources on the versions of all shards, of either kind.
use Rattle.std.proofs.Common.{◌≡◌, ap, sum, List, subst, arith, rules}
use Rattle.std.specs.declared.alloc.Global.{Global}
use Rattle.std.specs.declared.sync.Arc.{Arc}
use Rattle.shard_version.specs.Tables.{Tabled}
use Rattle.query_opening.specs.Pinning.{contents_of_all}
use Rattle.query_opening.specs.Sources.{source_asked, source_standing}
use Rattle.query_opening.proofs.OpenLemmas.{all_fresh, gathers_one_kind, gathers_one_length}
use Rattle.query_opening.proofs.OpenLemmas.{lent_asked, opens_all, row_numbers, sources_of}
use Rattle.query_opening.proofs.opening.open_query.Goals as goal

pub open_each-requires : goal.open_each-requires
open_each-requires g c =
    let each = lent_asked g.row.W (g.D.Desk.desk c.args.desk.now) (g.D.Desk.desk c.pin_all.new.desk) c.in_ok-pinned.pinned.versions.items
    c.in_ok-pinned.pinned.position c.in_ok-pinned.ensures.pinned c.args.wanted c.args.query c.deref-2.result.now
    c.deref-2.ensures.value c.requires.code c.requires.near in
    (omega arith, (search rules, (search rules, (search rules, (search rules, (each, (c.requires.some_room, c.requires.small_room)))))))

pub returns-clause-opened : goal.returns-clause-opened
returns-clause-opened g c =
    let are = sources_of source_asked source_standing c.deref-2.result.now c.in_ok-pinned.pinned.versions.items c.args.wanted c.args.query c.args.room
    c.in_ok-sources.sources.items
    c.deref-2.ensures.value c.in_ok-sources.ensures in
    opens_all source_asked source_standing g.row.W (g.D.Desk.desk c.args.desk.now) (g.D.Desk.desk c.pin_all.new.desk)
    (contents_of_all c.in_ok-pinned.pinned.versions.items) c.in_ok-pinned.pinned.position c.in_ok-pinned.ensures.pinned c.args.wanted c.args.query
    c.args.room
    c.in_ok-sources.sources.items c.row_count-rows.result
    (omega (arith, c.in_ok-pinned.ensures.desk.config.some_shards, ap (λ config. config.shards) c.in_ok-pinned.ensures.pinned.comes.config)) are
    (subst (λ (versions : List (Arc Tabled Global)). c.row_count-rows.result
    ≡ sum (row_numbers (contents_of_all versions))) c.deref.ensures.value c.row_count-rows.ensures)
    (c.shards_together_answer.ensures.number (g.D.Desk.desk c.args.desk.now).config.shards _ (row_numbers
    (contents_of_all c.in_ok-pinned.pinned.versions.items)))

pub returns-clause-fresh : goal.returns-clause-fresh
returns-clause-fresh g c =
    all_fresh source_asked source_standing (contents_of_all c.deref-2.result.now) c.args.wanted c.args.query c.args.room c.in_ok-sources.sources.items _
    c.in_ok-sources.ensures

pub returns-clause-one_length : goal.returns-clause-one_length
returns-clause-one_length g c =
    let are = sources_of source_asked source_standing c.deref-2.result.now c.in_ok-pinned.pinned.versions.items c.args.wanted c.args.query c.args.room
    c.in_ok-sources.sources.items
    c.deref-2.ensures.value c.in_ok-sources.ensures in
    gathers_one_length source_asked source_standing g.row.W (g.D.Desk.desk c.args.desk.now) (g.D.Desk.desk c.pin_all.new.desk)
    (contents_of_all c.in_ok-pinned.pinned.versions.items) c.in_ok-pinned.pinned.position c.in_ok-pinned.ensures.pinned
    c.args.wanted c.args.query c.args.room c.in_ok-sources.sources.items are

pub returns-clause-one_kind : goal.returns-clause-one_kind
returns-clause-one_kind g c =
    let are = sources_of source_asked source_standing c.deref-2.result.now c.in_ok-pinned.pinned.versions.items c.args.wanted c.args.query c.args.room
    c.in_ok-sources.sources.items
    c.deref-2.ensures.value c.in_ok-sources.ensures in
    gathers_one_kind source_asked source_standing g.row.W (g.D.Desk.desk c.args.desk.now) (g.D.Desk.desk c.pin_all.new.desk)
    (contents_of_all c.in_ok-pinned.pinned.versions.items) c.in_ok-pinned.pinned.position c.in_ok-pinned.ensures.pinned
    c.args.wanted c.args.query c.args.room c.in_ok-sources.sources.items are

pub returns-clause-some : goal.returns-clause-some
returns-clause-some g c =
    let are = sources_of source_asked source_standing c.deref-2.result.now c.in_ok-pinned.pinned.versions.items c.args.wanted c.args.query c.args.room
    c.in_ok-sources.sources.items
    c.deref-2.ensures.value c.in_ok-sources.ensures in
    omega (
      arith,
      are.number_is,
      c.in_ok-pinned.ensures.pinned.number,
      c.in_ok-pinned.ensures.desk.config.some_shards,
      ap
          (λ config. config.shards) c.in_ok-pinned.ensures.pinned.comes.config,
    )

pub returns-clause-few : goal.returns-clause-few
returns-clause-few g c =
    let are = sources_of source_asked source_standing c.deref-2.result.now c.in_ok-pinned.pinned.versions.items c.args.wanted c.args.query c.args.room
    c.in_ok-sources.sources.items
    c.deref-2.ensures.value c.in_ok-sources.ensures in
    omega (
      arith,
      are.number_is,
      c.in_ok-pinned.ensures.pinned.number,
      c.in_ok-pinned.ensures.desk.config.few_shards,
      ap
          (λ config. config.shards) c.in_ok-pinned.ensures.pinned.comes.config,
    )

pub returns-clause-on : goal.returns-clause-on
returns-clause-on g c =
    sources_of source_asked source_standing c.deref-2.result.now c.in_ok-pinned.pinned.versions.items c.args.wanted c.args.query c.args.room
    c.in_ok-sources.sources.items
    c.deref-2.ensures.value c.in_ok-sources.ensures
