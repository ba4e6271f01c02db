-- The counts of a part within a radius.
use Rattle.std.proofs.Common.{◌∙◌, length}
use Rattle.hamming_model.specs.Layouts.{part_value}
use Rattle.part_layout.specs.Laid.{part_at}
use Rattle.shard_version.specs.Tables.{part_values}
use Rattle.shard_version.proofs.PartLemmas.{near_counted, values_in_width}
use Rattle.shard_version.proofs.laws.counts_are_of_the_rows.Goals as goal

pub returns : goal.returns
returns c = λ version part units query sound is_query.
    let positions = part_at version.layout part in
    let bits = version.layout.bits in
    c.counts_are_those_of_a_list.ensures.near (length positions) (part_value query positions) units (part_values version.rows positions)
    (values_in_width bits version.rows positions sound.codes) ∙ near_counted bits units version.rows positions query sound.codes is_query
