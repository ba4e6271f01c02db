use Rattle.std.proofs.Common.{ap, ◌∙◌, subst}
use Rattle.posting_table.specs.Tables.{posting_list}
use Rattle.shard_version.specs.Tables.{Tabled, AreStored, table_at}
use Rattle.shard_probe.proofs.RunLemmas.{run_cut, run_kept}
use Rattle.shard_probe.proofs.probe.Probe.block.Goals as goal

pub returns-clause-rows : goal.returns-clause-rows
returns-clause-rows g c =
    let version = c.args.self.now.version in
    let same = c.deref.ensures ∙ ap (λ p. p.version) c.self.view_is in
    let table = c.postings.ensures.table ∙ ap (λ v. table_at v c.args.part) same in
    run_cut version.contents.layout.bits c.args.from c.args.count (posting_list (table_at version c.args.part) c.args.value) c.block.result.now
    (posting_list c.postings.result.now c.args.value) (ap (λ t. posting_list t c.args.value) table) c.block.ensures.entries

pub returns-clause-stored : goal.returns-clause-stored
returns-clause-stored g c =
    let same = c.deref.ensures ∙ ap (λ p. p.version) c.self.view_is in
    let all = posting_list c.postings.result.now c.args.value in
    run_kept g.row.W c.args.self.now.version.contents.layout.bits c.args.from c.args.count c.block.result.now all
    (subst (λ (v : Tabled). AreStored g.row.W v.contents.layout.bits all) same (c.postings.ensures.postings.codes c.args.value))
    c.block.ensures.entries
