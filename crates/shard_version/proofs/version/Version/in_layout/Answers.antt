-- The version in another layout.
use Rattle.std.specs.Arc.{arc_value}
use Rattle.shard_version.proofs.RelaidLemmas.{kept_relaid, seen_relaid}
use Rattle.shard_version.proofs.version.Version.in_layout.Goals as goal

pub invariant_of-result : goal.invariant_of-result
invariant_of-result g c =
    rw (c.in_ok-same_rows.ensures, c.in_ok-masked.ensures)
    (kept_relaid c.self.inside.shard c.self.inside.shards c.self.inside.at (arc_value c.self.inside.layout) (arc_value c.args.layout) c.self.inside.rows
    c.self.inside.tables.items c.args.tables.items c.args.self.now c.self.invariant c.self.view_is c.requires.bits c.requires.laid c.requires.tables)

pub returns : goal.returns
returns g c =
    rw (c.in_ok-same_rows.ensures, c.in_ok-masked.ensures)
    (seen_relaid c.self.inside.shard c.self.inside.shards c.self.inside.at (arc_value c.self.inside.layout) (arc_value c.args.layout) c.self.inside.rows
    c.self.inside.tables.items c.args.tables.items c.args.self.now c.self.invariant c.self.view_is c.requires.bits)
