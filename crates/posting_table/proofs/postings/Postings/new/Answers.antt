use Rattle.std.proofs.Common.{arith}
use Rattle.std.proofs.lemmas.Nat.{one_shl}
use Rattle.posting_table.proofs.PostingsLemmas.{kept_none, none_of}
use Rattle.posting_table.proofs.postings.Postings.new.Goals as goal

pub invariant_of-result : goal.invariant_of-result
invariant_of-result g c =
    let all = one_shl c.args.width 64 (omega arith) in
    kept_none c.args.width c.loop-i._i _ all (omega arith) c.loop-i.buckets.items c.loop-i.invariant c.requires.some c.requires.narrow

pub returns : goal.returns
returns g c =
    let all = one_shl c.args.width 64 (omega arith) in
    none_of c.args.width c.loop-i._i _ all (omega arith) c.loop-i.buckets.items c.loop-i.invariant
