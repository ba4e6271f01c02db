-- The turn of one shard, by how far it came.
use Rattle.std.proofs.Common.{◌≡◌, true, false, sym, ap, subst, ◌∙◌, arith, refl}
use Rattle.std.specs.Arc.{arc_value}
use Rattle.std.proofs.lemmas.Bool.{le-ltb, lt-ltb}
use Rattle.versioned_shard.specs.Shards.{contents_at}
use Rattle.shard_version.specs.Tables.{Tabled}
use Rattle.shard_tending.specs.Turns.{FindsTended, TurnsShard}
use Rattle.shard_tending.proofs.TurnLemmas.{turn_memory, turn_stays, turned_there, version_improved}
use Rattle.shard_tending.proofs.turning.tend_shard.Goals as goal

pub returns-in_default-clause-turns : goal.returns-in_default-clause-turns
returns-in_default-clause-turns g c =
    turn_memory (g.D.Desk.desk c.args.desk.now) (g.D.Desk.desk c.pin_shard.new.desk) c.args.shard c.pin_shard.ensures.comes

pub returns-then-found-clause-turns : goal.returns-then-found-clause-turns
returns-then-found-clause-turns g c =
    let old = g.D.Desk.desk c.args.desk.now in
    let mid = g.D.Desk.desk c.pin_shard.new.desk in
    let found = c.in-Ok-search_shard.found in
    let finds = subst (λ (version : Tabled). FindsTended version.contents found) c.deref.ensures c.in-Ok-search_shard.ensures.found in
    turn_stays old mid c.args.shard c.pin_shard.ensures.comes
    (λ alone. sym (version_improved old mid c.args.shard c.pin_shard.ensures.comes (contents_at c.in-Ok.version) c.in-Ok.ensures.pinned alone)
    ∙ sym finds.cheaper ∙ le-ltb found.after found.before (omega (arith, c.if-found.true)))

pub returns-clause-turns : goal.returns-clause-turns
returns-clause-turns g c =
    let old = g.D.Desk.desk c.args.desk.now in
    let mid = g.D.Desk.desk c.pin_shard.new.desk in
    let new = g.D.Desk.desk c.swap_build.new.desk in
    let found = c.in-Ok-search_shard.found in
    let finds = subst (λ (version : Tabled). FindsTended version.contents found) c.deref.ensures c.in-Ok-search_shard.ensures.found in
    subst (TurnsShard old new c.args.shard) (sym c.outcome_of.ensures)
    (turned_there old mid new c.args.shard c.pin_shard.ensures.comes (contents_at c.in-Ok.version) c.in-Ok.ensures.pinned (arc_value found.layout)
    c.in-Ok-build_in.build finds.layout (ap (λ each. each.contents.layout) c.in-Ok-build_in.ensures.build)
    (sym finds.cheaper ∙ lt-ltb found.after found.before (omega (arith, c.if-found.false)))
    g.row.W c.pin_shard.ensures.desk c.requires.shard
    c.swap_build.result c.swap_build.ensures.swapped c.swap_build.ensures.moved c.swap_build.ensures.no_memory c.swap_build.ensures.alone)
