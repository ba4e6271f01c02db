use Rattle.std.proofs.Common.{rules, ◌∙◌}
use Rattle.shard_version.proofs.BucketLemmas.{code_in_place, inside_in_place, removed_in_place}
use Rattle.shard_version.proofs.row_bucket.RowBucket.remove.Goals as goal

pub remove-requires : goal.remove-requires
remove-requires g c =
    let inside = inside_in_place c.self.inside.rows.items c.args.self.now c.self.view_is c.args.key c.place_of-place.result
    _ c.deref.ensures.value c.place_of-place.ensures
    c.requires.ascending c.requires.present in
    search rules

pub returns-clause-code : goal.returns-clause-code
returns-clause-code g c =
    code_in_place c.self.inside.rows.items c.args.self.now c.self.view_is c.args.key c.place_of-place.result _ c.deref.ensures.value c.place_of-place.ensures
    c.requires.ascending c.requires.present
    c.remove.result c.remove.ensures.value

pub returns-clause-removed : goal.returns-clause-removed
returns-clause-removed g c =
    c.remove.ensures.items ∙ removed_in_place c.self.inside.rows.items c.args.self.now c.self.view_is c.args.key
    c.place_of-place.result _ c.deref.ensures.value c.place_of-place.ensures
    c.requires.ascending c.requires.present
    c.remove.result c.remove.ensures.value
