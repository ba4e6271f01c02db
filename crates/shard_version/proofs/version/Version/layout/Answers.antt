-- The posting tables of the parts.
use Rattle.std.proofs.Common.{subst}
use Rattle.shard_version.specs.Tables.{HasTables, Tabled}
use Rattle.shard_version.proofs.KeptLemmas.{kept_tables}
use Rattle.shard_version.proofs.version.Version.layout.Goals as goal

pub returns-clause-tables : goal.returns-clause-tables
returns-clause-tables g c =
    subst (λ (version : Tabled). HasTables g.row.W version) c.self.view_is (kept_tables _ c.self.inside.rows c.self.inside.tables.items c.self.invariant)
