use Rattle.std.proofs.Common.{◌∙◌}
use Rattle.shard_version.proofs.BucketLemmas.{added_in_place}
use Rattle.shard_version.proofs.row_bucket.RowBucket.insert.Goals as goal

pub returns-clause-added : goal.returns-clause-added
returns-clause-added g c =
    c.in_ok-insert.ensures.items
    ∙ added_in_place c.self.inside.rows.items c.args.self.now c.self.view_is c.args.key c.place_of-place.result _ c.deref.ensures.value c.place_of-place.ensures
    c.args.code c.requires.absent
