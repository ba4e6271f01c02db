-- The first rows.
use Rattle.std.proofs.Common.{◌≡◌, map, take, ap, subst}
use Rattle.std.specs.Arc.{arc_value}
use Rattle.std.proofs.lemmas.Result.{IfOk-weaker}
use Rattle.search_model.specs.Reading.{unpadded}
use Rattle.shard_version.specs.Contents.{Contents}
use Rattle.shard_version.specs.Tables.{AreFirst, AreStored, Tabled}
use Rattle.shard_version.proofs.KeptLemmas.{first_stored, first_taken}
use Rattle.shard_version.proofs.version.Version.first_rows.Goals as goal

pub returns-clause-rows : goal.returns-clause-rows
returns-clause-rows g c =
    let stored = c.self.inside.rows in
    IfOk-weaker c.first.result (λ first. first.items ≡ take c.args.n stored) (λ rows. AreFirst c.args.n c.args.self.now.contents rows.items)
    (λ first is. subst (λ (contents : Contents). map (unpadded contents.layout.bits) first.items ≡ take c.args.n contents.rows)
    (ap (λ (version : Tabled). version.contents) c.self.view_is) (first_taken (arc_value c.self.inside.layout).bits c.args.n stored first.items is))
    c.first.ensures.rows

pub returns-clause-codes : goal.returns-clause-codes
returns-clause-codes g c =
    let stored = c.self.inside.rows in
    IfOk-weaker c.first.result (λ first. first.items ≡ take c.args.n stored) (λ rows. AreStored g.row.W c.args.self.now.contents.layout.bits rows.items)
    (λ first is. subst (λ (contents : Contents). AreStored g.row.W contents.layout.bits first.items)
    (ap (λ (version : Tabled). version.contents) c.self.view_is)
    (first_stored g.row.W (arc_value c.self.inside.layout).bits c.args.n stored first.items is c.self.invariant.stored_codes))
    c.first.ensures.rows
