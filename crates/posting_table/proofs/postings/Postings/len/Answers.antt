use Rattle.std.proofs.Common.{◌∙◌, ap, arith, length}
use Rattle.posting_table.proofs.PostingsLemmas.{bucket_of_value, in_own, list_lent, own_list, own_short}
use Rattle.posting_table.proofs.postings.Postings.len.Goals as goal

pub len-requires : goal.len-requires
len-requires g c =
    (omega arith, omega (arith, ap length c.deref.ensures, in_own (bucket_of_value c.self.invariant c.self.view_is c.requires c.index.ensures)))

pub overflow_cast-result : goal.overflow_cast-result
overflow_cast-result g c =
    let is = bucket_of_value c.self.invariant c.self.view_is c.requires c.index.ensures in
    record { fits = omega (arith, c.len.ensures, ap length (list_lent is c.deref.result.now c.deref.ensures), own_short is, ap length (own_list is)) }

pub returns-clause-number : goal.returns-clause-number
returns-clause-number g c =
    c.len.ensures ∙ ap length (list_lent (bucket_of_value c.self.invariant c.self.view_is c.requires c.index.ensures) c.deref.result.now c.deref.ensures)

pub returns-clause-bound : goal.returns-clause-bound
returns-clause-bound g c =
    let is = bucket_of_value c.self.invariant c.self.view_is c.requires c.index.ensures in
    omega (arith, c.len.ensures, ap length (list_lent is c.deref.result.now c.deref.ensures), own_short is, ap length (own_list is))
