use Rattle.std.proofs.Common.{rules}
use Rattle.shard_version.proofs.row_bucket.RowBucket.has_key.Goals as goal

pub place_of-requires : goal.place_of-requires
place_of-requires g c =
    let few = c.requires.few_words in
    (search rules, rw (c.deref-2.ensures.value, c.self.view_is) c.requires.ascending)

pub stands_at-requires : goal.stands_at-requires
stands_at-requires g c =
    let few = c.requires.few_words in
    (search rules, (rw (c.deref.ensures.value, c.self.view_is) c.requires.ascending, rw (c.deref.ensures.value, ← c.deref-2.ensures.value) c.place_of.ensures))
