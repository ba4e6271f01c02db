use Rattle.std.proofs.Common.{rules, nat_lt}
use Rattle.std.proofs.lemmas.List.Sorted.{IsPartitionedBy-ltb, IsPartitionPoint-from_clause}
use Rattle.shard_version.proofs.PlaceLemmas.{keys_rise, place_found}
use Rattle.shard_version.proofs.places.place_of.Goals as goal

pub returns : goal.returns
returns g c =
    let key = c.args.key in
    place_found c.args.rows.now key c.partition_point.result c.partition_point.ensures.bound
    (IsPartitionPoint-from_clause (λ row. nat_lt row.0 key) c.args.rows.now c.partition_point.result c.partition_point.ensures.partitioned
    (IsPartitionedBy-ltb (λ row. row.0) c.args.rows.now key (keys_rise c.args.rows.now c.requires))
    (λ a r f called. search rules))
