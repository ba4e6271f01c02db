use Rattle.std.proofs.Common.{◌≡◌, ◌+◌, ◌-◌, ◌/◌, rules, arith, length, min}
use Rattle.posting_table.specs.KeptLists.{held_by}
use Rattle.posting_table.proofs.ListsLemmas.{bucket_dealt, kept_made, round_there, table_made}
use Rattle.posting_table.proofs.postings.Postings.of_lists.Goals as goal

pub of_rest-requires : goal.of_rest-requires
of_rest-requires g c = (search rules, (search rules, λ round. round_there c.args.width c.args.lists.now c.requires c.loop-rest.rest round (omega arith)))

pub loop-rest-preserved : goal.loop-rest-preserved
loop-rest-preserved g c =
    rw c.in_ok-push.ensures.items
    (bucket_dealt (held_by c.args.lists.now) c.loop-rest.buckets.items c.loop-rest.rest ((length c.args.lists.now + 256 - 1) / 256)
    c.in_ok-bucket.bucket c.in_ok-shared.shared c.in_ok-shared.ensures.ok c.in_ok-bucket.ensures c.loop-rest.invariant)

pub invariant_of-result : goal.invariant_of-result
invariant_of-result g c =
    let end : c.loop-rest.rest ≡ min (length c.args.lists.now) 256 = omega arith in
    kept_made c.args.width c.args.lists.now c.requires c.loop-rest.buckets.items c.loop-rest.rest c.loop-rest.invariant end

pub returns : goal.returns
returns g c =
    let end : c.loop-rest.rest ≡ min (length c.args.lists.now) 256 = omega arith in
    table_made c.args.width c.args.lists.now c.requires c.loop-rest.buckets.items c.loop-rest.rest c.loop-rest.invariant end
