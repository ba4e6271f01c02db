use Rattle.std.proofs.Common.{◌∙◌, ap, arith, length}
use Rattle.posting_table.proofs.PostingsLemmas.{bucket_of_value, in_own, list_lent, own_list, own_short}
use Rattle.posting_table.proofs.postings.Postings.entries.Goals as goal

pub list-requires : goal.list-requires
list-requires g c =
    (omega arith, omega (arith, ap length c.deref.ensures, in_own (bucket_of_value c.self.invariant c.self.view_is c.requires c.index.ensures)))

pub returns-clause-entries : goal.returns-clause-entries
returns-clause-entries g c =
    c.list.ensures ∙ list_lent (bucket_of_value c.self.invariant c.self.view_is c.requires c.index.ensures) c.deref.result.now c.deref.ensures

pub returns-clause-short : goal.returns-clause-short
returns-clause-short g c =
    let is = bucket_of_value c.self.invariant c.self.view_is c.requires c.index.ensures in
    omega (arith, ap length c.list.ensures, ap length (list_lent is c.deref.result.now c.deref.ensures), own_short is, ap length (own_list is))
